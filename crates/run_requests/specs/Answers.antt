-- What the code's answer says of the outcome of a request.
use Rattle.std.specs.Prelude.{ℕ, List, ◌≡◌}
use Rattle.rules.specs.Gate.{Outcome}
use Rattle.rules.specs.Runs.{answer_with, bytes_of_answer}
use Rattle.gate_decision.specs.Standings.{ledger_of_tables}

-- the tables, the last time, the number and the group are those of an outcome
pub record IsOutcome (o : Outcome) (counts counters : List ℕ) (loaded number place last : ℕ) : Type 0 where
  pub ledger : ledger_of_tables counts counters loaded last ≡ o.ledger
  pub answer : answer_with number place ≡ bytes_of_answer o.answer
