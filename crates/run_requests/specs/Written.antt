-- A run as a loop: the tables, the last time and the buffer after some of its requests.
use Rattle.std.specs.Prelude.{ℕ, ◌+◌, List, [], ◌∷◌, ◌++◌, ◌≡◌, length, take, drop}
use Rattle.rules.specs.Sizes.{answer_bytes}
use Rattle.rules.specs.Basics.{Bytes}
use Rattle.rules.specs.Ledger.{Ledger}
use Rattle.rules.specs.Gate.{Outcome}
use Rattle.rules.specs.Runs.{bytes_of_answer}
use Rattle.gate_decision.specs.Standings.{ledger_of_tables}

-- what a loop passes on: the ledger, and the answer buffer so far
pub record Running : Type 0 where
  pub ledger : Ledger
  pub buffer : Bytes

-- new bytes over those from a place on
unfoldable pub over_at : ℕ → Bytes → Bytes → Bytes
over_at at new old = take at old ++ (new ++ drop (at + length new) old)

-- the requests that are left, each answered over the next eight bytes
unfoldable pub writing : (Ledger → Bytes → Outcome) → Ledger → Bytes → ℕ → List Bytes → Running
writing ask l buffer at [] = record { ledger = l; buffer = buffer }
writing ask l buffer at (r ∷ rs) = writing ask (ask l r).ledger (over_at at (bytes_of_answer (ask l r).answer) buffer) (at + answer_bytes) rs

-- the tables, the last time and the buffer are those
abbrev pub Wrote : List ℕ → List ℕ → ℕ → ℕ → Bytes → Running → Type 0
Wrote counts counters loaded last buffer w = record { ledger = ledger_of_tables counts counters loaded last; buffer = buffer } ≡ w
