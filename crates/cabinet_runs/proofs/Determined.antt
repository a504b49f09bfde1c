-- The reading of the outcome of a run in a slot loses nothing: what reads the same is the same, so that the promises of both runs determine reply, cabinet and
-- every byte of the answer buffer.
use mathlib.Core.Path.{◌≡◌, ap, ap₂}
use Prim.Native.Nat.{ℕ}
use Rattle.std.specs.Prelude.{Result}
use Rattle.rules.specs.Basics.{Bytes}
use Rattle.rules.specs.Ledger.{fresh_ledger}
use Rattle.rules.specs.Runs as rules
use Rattle.rules.specs.CabinetRuns as defined
use Rattle.gate.proofs.Determined.{ledger_back}
use Rattle.cabinet.specs.declared.Cabinet.{Cabinet}
use Rattle.cabinet.proofs.Determined.{cabinet_determined}
use Rattle.refusals.specs.declared.Refusal.{Refusal}
use Rattle.runs.specs.declared.RunOutcome.{RunOutcome}
use Rattle.runs.specs.Judged.{run_reply_as}
use Rattle.runs.proofs.Determined.{run_determined}
use Rattle.cabinet_runs.specs.declared.CabinetRan.{CabinetRan}
use Rattle.cabinet_runs.specs.Handed.{cabinet_ran_as}

-- a reply as the outcome of a run, with any ledger
abbrev outcome_with : Result ℕ Refusal → RunOutcome
outcome_with r = record { reply = r; ledger = ledger_back fresh_ledger }

reply_determined : (r s : Result ℕ Refusal) (b : Bytes) → run_reply_as r ≡ run_reply_as s → r ≡ s
reply_determined r s b e =
    ap (λ (o : RunOutcome). o.reply)
    (run_determined (outcome_with r) (outcome_with s) b b (ap (λ (x : rules.RunReply). record { reply = x; ledger = fresh_ledger; buffer = b }) e)).0

pub ran_determined : (r s : CabinetRan) (b c : Bytes) → cabinet_ran_as r b ≡ cabinet_ran_as s c → (r ≡ s) × (b ≡ c)
ran_determined r s b c e = (
  ap₂ (λ (x : Cabinet) (y : Result ℕ Refusal). let z : CabinetRan = record { cabinet = x; reply = y } in z)
      (cabinet_determined r.cabinet s.cabinet (ap (λ (x : defined.CabinetRan). x.cabinet) e))
      (reply_determined r.reply s.reply b (ap (λ (x : defined.CabinetRan). x.reply) e)),
  ap (λ (x : defined.CabinetRan). x.buffer) e,
)
