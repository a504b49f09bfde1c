-- The answer of a call on lent tables, in numbers.
use Rattle.std.specs.Prelude.{ℕ, List}
use Rattle.gate_decision.specs.Standings.{ledger_of_tables}
use Rattle.c_answers.specs.declared.HostReply.{HostReply}
use Rattle.c_answers.specs.Surface.{OutcomeInNumbers, host_reply_as}

-- the reply, and the ledger made of the tables and times that are left
abbrev pub host_outcome_on : HostReply → List ℕ → List ℕ → ℕ → ℕ → OutcomeInNumbers
host_outcome_on r counts counters loaded last = record { ledger = ledger_of_tables counts counters loaded last; reply = host_reply_as r }
