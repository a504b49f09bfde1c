use mathlib.Core.Path.{◌∙◌}
use Rattle.desk_steps.proofs.Laws.{run_failed, run_passed, approach_1}
use borrow.Author.Rules.{rules}
use Rattle.desk_steps.proofs.basic_steps.Goals as goal

pub returns-in_err-warrant_steps : goal.returns-in_err-warrant_steps
returns-in_err-warrant_steps c = search (rules, run_failed) ∙ approach_1 _

pub returns-in_err-key_steps : goal.returns-in_err-key_steps
returns-in_err-key_steps c = search (rules, run_failed, run_passed) ∙ approach_1 _

pub returns : goal.returns
returns c = search (rules, run_passed) ∙ approach_1 _
