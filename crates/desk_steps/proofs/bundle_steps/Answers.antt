use mathlib.Core.Path.{◌∙◌}
use Rattle.desk_steps.proofs.Laws.{run_failed, run_passed, approach_2}
use borrow.Author.Rules.{rules}
use Rattle.desk_steps.proofs.bundle_steps.Goals as goal

pub returns-in_err-module_steps : goal.returns-in_err-module_steps
returns-in_err-module_steps c = search (rules, run_failed) ∙ approach_2 _

pub returns-in_err-world_steps : goal.returns-in_err-world_steps
returns-in_err-world_steps c = search (rules, run_failed, run_passed) ∙ approach_2 _

pub returns : goal.returns
returns c = search (rules, run_passed) ∙ approach_2 _
