-- The reading of a run's answer loses nothing: outcomes that read the same are the same, and so are the buffers.
use mathlib.Core.Path.{◌≡◌, refl, sym, ◌∙◌, ap}
use Prim.Native.Nat.{ℕ}
use Rattle.std.specs.Prelude.{Result, Ok, Err}
use Rattle.rules.specs.Basics.{Bytes}
use Rattle.rules.specs.Runs as rules
use Rattle.refusals.specs.declared.Refusal.{Refusal}
use Rattle.refusals.proofs.Determined.{refusal_back, refusal_back_lem}
use Rattle.gate.proofs.Determined.{ledger_back}
use Rattle.runs.specs.declared.RunOutcome.{RunOutcome}
use Rattle.runs.specs.Judged.{run_reply_as, run_outcome_as}

abbrev reply_back : rules.RunReply → Result ℕ Refusal
reply_back (rules.ran n) = Ok n
reply_back (rules.refused_whole n) = Err (refusal_back n)

reply_back_lem : (r : Result ℕ Refusal) → reply_back (run_reply_as r) ≡ r
reply_back_lem (Ok n) = refl
reply_back_lem (Err r) = ap Err (refusal_back_lem r)

abbrev outcome_back : rules.RunOutcome → RunOutcome
outcome_back o = record { reply = reply_back o.reply; ledger = ledger_back o.ledger }

outcome_back_lem : (o : RunOutcome) (buffer : Bytes) → outcome_back (run_outcome_as o buffer) ≡ o
outcome_back_lem o buffer = ap (λ (r : Result ℕ Refusal). record { reply = r; ledger = o.ledger }) (reply_back_lem o.reply)

pub run_determined : (o p : RunOutcome) (b c : Bytes) → run_outcome_as o b ≡ run_outcome_as p c → (o ≡ p) × (b ≡ c)
run_determined o p b c e = (sym (outcome_back_lem o b) ∙ ap outcome_back e ∙ outcome_back_lem p c, ap (λ (x : rules.RunOutcome). x.buffer) e)
