use mathlib.Core.Path.{refl}
use mathlib.Core.Bool.{false}
use Rattle.rules.specs.Desk.{approach1}
use Rattle.desk.specs.declared.Protection.TheVariants.{NotJudged}
use Rattle.desk.proofs.Laws.{judged_failed, judged_passed}
use borrow.Author.Rules.{rules}
use Rattle.desk.proofs.judge_generation.Goals as goal

pub returns-in_err-basic_steps : goal.returns-in_err-basic_steps
returns-in_err-basic_steps c = judged_failed _ _ approach1 _ (search rules) c.in_err-basic_steps.ensures

pub returns : goal.returns
returns c = judged_passed (record { approach = 1; protection = NotJudged; recoverable = false }) approach1 _ c.in_ok-basic_steps.ensures refl
