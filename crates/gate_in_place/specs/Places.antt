-- An outcome whose ledger is in the lent tables.
use Rattle.std.specs.Prelude.{ℕ, List}
use Rattle.rules.specs.Gate.{Answer, Outcome}
use Rattle.gate_decision.specs.Standings.{ledger_of_tables}

-- an answer, and the ledger made of the tables and times that were left
abbrev pub outcome_in : Answer → List ℕ → List ℕ → ℕ → ℕ → Outcome
outcome_in a counts counters loaded last = record { answer = a; ledger = ledger_of_tables counts counters loaded last }
