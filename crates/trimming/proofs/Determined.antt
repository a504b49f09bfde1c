-- The reading of the tool's answers loses nothing: answers that read the same are the same, so that the tool's promise determines its answer.
use mathlib.Core.Path.{◌≡◌, refl, sym, ◌∙◌, ap}
use Rattle.rules.specs.Trim as rules
use Rattle.refusals.specs.declared.Refusal.{Refusal}
use Rattle.refusals.proofs.Determined.{refusal_back, refusal_back_lem}
use Rattle.desk_steps.specs.declared.Step.{Step}
use Rattle.desk.proofs.Determined.{step_back, step_back_lem}
use Rattle.std.specs.Prelude.{Result, Ok, Err}
use Rattle.trimming.specs.declared.Lengths.{Lengths}
use Rattle.trimming.specs.declared.Untrimmed.{Untrimmed}
use Rattle.trimming.specs.declared.Untrimmed.TheVariants.{Failed, Refused}
use Rattle.trimming.specs.Trimming.{trim_reply_as}

-- the reply of each answer
abbrev reply_back : rules.TrimReply → Result Lengths Untrimmed
reply_back (rules.trimmed m n) = Ok (record { acl = m; hints = n })
reply_back (rules.untrimmed s) = Err (Failed (step_back s))
reply_back (rules.unread n) = Err (Refused (refusal_back n))

-- the reply of a reply's answer is that reply
reply_back_lem : (r : Result Lengths Untrimmed) → reply_back (trim_reply_as r) ≡ r
reply_back_lem (Ok n) = refl
reply_back_lem (Err (Failed s)) = ap (λ (z : Step). Err (Failed z)) (step_back_lem s)
reply_back_lem (Err (Refused r)) = ap (λ (z : Refusal). Err (Refused z)) (refusal_back_lem r)

pub determined : (r s : Result Lengths Untrimmed) → trim_reply_as r ≡ trim_reply_as s → r ≡ s
determined r s e = sym (reply_back_lem r) ∙ ap reply_back e ∙ reply_back_lem s
