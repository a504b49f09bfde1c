-- The reading of the writer's answers loses nothing: answers that read the same are the same, so that the writer's promise determines its answer.
use Prim.Native.Nat.{ℕ}
use mathlib.Core.Path.{◌≡◌, refl, sym, ◌∙◌, ap}
use Rattle.std.specs.Prelude.{Result, Ok, Err}
use Rattle.rules.specs.Subject.{SubjectReply, written, unwritten}
use Rattle.refusals.proofs.Determined.{refusal_back, refusal_back_lem}
use Rattle.refusals.specs.declared.Refusal.{Refusal}
use Rattle.subject.specs.Writing.{subject_reply_as}

abbrev written_back : SubjectReply → Result ℕ Refusal
written_back (written n) = Ok n
written_back (unwritten n) = Err (refusal_back n)

written_back_lem : (w : Result ℕ Refusal) → written_back (subject_reply_as w) ≡ w
written_back_lem (Ok n) = refl
written_back_lem (Err r) = ap Err (refusal_back_lem r)

pub written_determined : (w v : Result ℕ Refusal) → subject_reply_as w ≡ subject_reply_as v → w ≡ v
written_determined w v e = sym (written_back_lem w) ∙ ap written_back e ∙ written_back_lem v
