-- The reading of the desk's answers loses nothing: answers that read the same are the same, so that the desk's promise determines its answer.
use Prim.Native.Nat.{ℕ}
use mathlib.Core.Path.{◌≡◌, refl, sym, ◌∙◌, ap}
use lib.Dec.{eqb}
use Rattle.std.specs.Prelude.{if◌then◌else◌}
use Rattle.rules.specs.Desk as rules
use Rattle.refusals.proofs.Determined.{refusal_back, refusal_back_lem}
use Rattle.desk_steps.specs.declared.Step.{Step}
use Rattle.desk_steps.specs.declared.Step.TheVariants.{WV1, MSCV1, MSCV2, MSCV3, MSCV4, MSCV5, WBCV1, WBCV2, WBCV3, KGCV1, KGCV2, ACLV3, WB1, WB2, WB3, WB6, RB1, RB2, RB3, KV3, CSRL1}
use Rattle.desk_steps.specs.Steps.{step_as}
use Rattle.desk.specs.declared.Protection.{Protection}
use Rattle.desk.specs.declared.Protection.TheVariants.{NotJudged, Module, Softcard, Cardset, NotKept}
use Rattle.desk.specs.declared.Verdict.{Verdict}
use Rattle.desk.specs.declared.Verdict.TheVariants.{Accepted, Failed, Refused}
use Rattle.desk.specs.Replies.{Named, DeskReply, accepting, failing, refusing, protection_number, verdict_as, verdict_for}

-- what each number and name stands for
abbrev pub step_back : rules.Step → Step
step_back rules.WV1 = WV1
step_back rules.MSCV1 = MSCV1
step_back rules.MSCV2 = MSCV2
step_back rules.MSCV3 = MSCV3
step_back rules.MSCV4 = MSCV4
step_back rules.MSCV5 = MSCV5
step_back rules.WBCV1 = WBCV1
step_back rules.WBCV2 = WBCV2
step_back rules.WBCV3 = WBCV3
step_back rules.KGCV1 = KGCV1
step_back rules.KGCV2 = KGCV2
step_back rules.ACLV3 = ACLV3
step_back rules.WB1 = WB1
step_back rules.WB2 = WB2
step_back rules.WB3 = WB3
step_back rules.WB6 = WB6
step_back rules.RB1 = RB1
step_back rules.RB2 = RB2
step_back rules.RB3 = RB3
step_back rules.KV3 = KV3
step_back rules.CSRL1 = CSRL1

abbrev protection_back : ℕ → Protection
protection_back n =
    if eqb n 1 then Module
    else if eqb n 2 then Softcard
    else if eqb n 3 then Cardset
    else if eqb n 4 then NotKept
    else NotJudged

abbrev verdict_back : DeskReply → Verdict
verdict_back (accepting n) = Accepted (record { approach = n.approach; protection = protection_back n.protection; recoverable = n.recoverable })
verdict_back (failing s) = Failed (step_back s)
verdict_back (refusing n) = Refused (refusal_back n)

-- the verdict of a verdict's numbers is that verdict
pub step_back_lem : (s : Step) → step_back (step_as s) ≡ s
step_back_lem WV1 = refl
step_back_lem MSCV1 = refl
step_back_lem MSCV2 = refl
step_back_lem MSCV3 = refl
step_back_lem MSCV4 = refl
step_back_lem MSCV5 = refl
step_back_lem WBCV1 = refl
step_back_lem WBCV2 = refl
step_back_lem WBCV3 = refl
step_back_lem KGCV1 = refl
step_back_lem KGCV2 = refl
step_back_lem ACLV3 = refl
step_back_lem WB1 = refl
step_back_lem WB2 = refl
step_back_lem WB3 = refl
step_back_lem WB6 = refl
step_back_lem RB1 = refl
step_back_lem RB2 = refl
step_back_lem RB3 = refl
step_back_lem KV3 = refl
step_back_lem CSRL1 = refl

protection_back_lem : (p : Protection) → protection_back (protection_number p) ≡ p
protection_back_lem NotJudged = refl
protection_back_lem Module = refl
protection_back_lem Softcard = refl
protection_back_lem Cardset = refl
protection_back_lem NotKept = refl

verdict_back_lem : (v : Verdict) → verdict_back (verdict_as v) ≡ v
verdict_back_lem (Accepted a) =
    ap (λ (p : Protection). Accepted (record { approach = a.approach; protection = p; recoverable = a.recoverable })) (protection_back_lem a.protection)
verdict_back_lem (Failed s) = ap Failed (step_back_lem s)
verdict_back_lem (Refused r) = ap Refused (refusal_back_lem r)

pub determined : (v w : Verdict) → verdict_as v ≡ verdict_as w → v ≡ w
determined v w e = sym (verdict_back_lem v) ∙ ap verdict_back e ∙ verdict_back_lem w

-- And the other way: verdicts of the definitions that read the same are the same, so that an acceptance by the code is one by the definition `desk`.
abbrev acceptance_told : Named → rules.Acceptance
acceptance_told n = if eqb n.approach 2 then rules.approach2 (record { protection = n.protection; recoverable = n.recoverable }) else rules.approach1

abbrev verdict_told : DeskReply → rules.Verdict
verdict_told (accepting n) = rules.accepted (acceptance_told n)
verdict_told (failing s) = rules.failed s
verdict_told (refusing n) = rules.faulty n

told_back : (v : rules.Verdict) → verdict_told (verdict_for v) ≡ v
told_back (rules.accepted rules.approach1) = refl
told_back (rules.accepted (rules.approach2 g)) = refl
told_back (rules.failed s) = refl
told_back (rules.faulty n) = refl

pub verdict_told_lem : (v w : rules.Verdict) → verdict_for v ≡ verdict_for w → v ≡ w
verdict_told_lem v w e = sym (told_back v) ∙ ap verdict_told e ∙ told_back w
