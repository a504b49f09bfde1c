use mathlib.Core.Path.{◌≡◌, ◌∙◌, ap, sym, refl}
use Rattle.rules.specs.Basics.{Bytes, ascii}
use Rattle.desk_steps.specs.declared.Step.{Step}
use Rattle.desk_steps.specs.declared.Step.TheVariants.{WV1, MSCV1, MSCV2, MSCV3, MSCV4, MSCV5, WBCV1, WBCV2, WBCV3, KGCV1, KGCV2, ACLV3, WB1, WB2, WB3, WB6, RB1, RB2, RB3, KV3, CSRL1}
use Rattle.desk_steps.specs.Steps.{step_as}
use Rattle.cli_messages.specs.Words.{step_words}
use Rattle.cli_messages.proofs.step_words.Goals as goal

of : {t : Bytes} {s : Step} (k : Step) → s ≡ k → t ≡ step_words (step_as k) → t ≡ step_words (step_as s)
of k e f = f ∙ sym (ap (λ (x : Step). step_words (step_as x)) e)

pub returns-in-WV1-clause-words : goal.returns-in-WV1-clause-words
unfolding ascii step_words
returns-in-WV1-clause-words c = of WV1 c.in-WV1.is refl

pub returns-in-MSCV1-clause-words : goal.returns-in-MSCV1-clause-words
unfolding ascii step_words
returns-in-MSCV1-clause-words c = of MSCV1 c.in-MSCV1.is refl

pub returns-in-MSCV2-clause-words : goal.returns-in-MSCV2-clause-words
unfolding ascii step_words
returns-in-MSCV2-clause-words c = of MSCV2 c.in-MSCV2.is refl

pub returns-in-MSCV3-clause-words : goal.returns-in-MSCV3-clause-words
unfolding ascii step_words
returns-in-MSCV3-clause-words c = of MSCV3 c.in-MSCV3.is refl

pub returns-in-MSCV4-clause-words : goal.returns-in-MSCV4-clause-words
unfolding ascii step_words
returns-in-MSCV4-clause-words c = of MSCV4 c.in-MSCV4.is refl

pub returns-in-MSCV5-clause-words : goal.returns-in-MSCV5-clause-words
unfolding ascii step_words
returns-in-MSCV5-clause-words c = of MSCV5 c.in-MSCV5.is refl

pub returns-in-WBCV1-clause-words : goal.returns-in-WBCV1-clause-words
unfolding ascii step_words
returns-in-WBCV1-clause-words c = of WBCV1 c.in-WBCV1.is refl

pub returns-in-WBCV2-clause-words : goal.returns-in-WBCV2-clause-words
unfolding ascii step_words
returns-in-WBCV2-clause-words c = of WBCV2 c.in-WBCV2.is refl

pub returns-in-WBCV3-clause-words : goal.returns-in-WBCV3-clause-words
unfolding ascii step_words
returns-in-WBCV3-clause-words c = of WBCV3 c.in-WBCV3.is refl

pub returns-in-KGCV1-clause-words : goal.returns-in-KGCV1-clause-words
unfolding ascii step_words
returns-in-KGCV1-clause-words c = of KGCV1 c.in-KGCV1.is refl

pub returns-in-KGCV2-clause-words : goal.returns-in-KGCV2-clause-words
unfolding ascii step_words
returns-in-KGCV2-clause-words c = of KGCV2 c.in-KGCV2.is refl

pub returns-in-ACLV3-clause-words : goal.returns-in-ACLV3-clause-words
unfolding ascii step_words
returns-in-ACLV3-clause-words c = of ACLV3 c.in-ACLV3.is refl

pub returns-in-WB1-clause-words : goal.returns-in-WB1-clause-words
unfolding ascii step_words
returns-in-WB1-clause-words c = of WB1 c.in-WB1.is refl

pub returns-in-WB2-clause-words : goal.returns-in-WB2-clause-words
unfolding ascii step_words
returns-in-WB2-clause-words c = of WB2 c.in-WB2.is refl

pub returns-in-WB3-clause-words : goal.returns-in-WB3-clause-words
unfolding ascii step_words
returns-in-WB3-clause-words c = of WB3 c.in-WB3.is refl

pub returns-in-WB6-clause-words : goal.returns-in-WB6-clause-words
unfolding ascii step_words
returns-in-WB6-clause-words c = of WB6 c.in-WB6.is refl

pub returns-in-RB1-clause-words : goal.returns-in-RB1-clause-words
unfolding ascii step_words
returns-in-RB1-clause-words c = of RB1 c.in-RB1.is refl

pub returns-in-RB2-clause-words : goal.returns-in-RB2-clause-words
unfolding ascii step_words
returns-in-RB2-clause-words c = of RB2 c.in-RB2.is refl

pub returns-in-RB3-clause-words : goal.returns-in-RB3-clause-words
unfolding ascii step_words
returns-in-RB3-clause-words c = of RB3 c.in-RB3.is refl

pub returns-in-KV3-clause-words : goal.returns-in-KV3-clause-words
unfolding ascii step_words
returns-in-KV3-clause-words c = of KV3 c.in-KV3.is refl

pub returns-in-CSRL1-clause-words : goal.returns-in-CSRL1-clause-words
unfolding ascii step_words
returns-in-CSRL1-clause-words c = of CSRL1 c.in-CSRL1.is refl
