use Rattle.reason_steps.specs.Defects.{step_tests}
use Rattle.reason_steps.proofs.Laws.{tests}
use borrow.Author.Rules.{rules}
use Rattle.reason_steps.proofs.state_defect.Goals as goal

pub returns-in_err-field_defect : goal.returns-in_err-field_defect
unfolding step_tests
returns-in_err-field_defect c = search (rules, tests)

pub returns : goal.returns
unfolding step_tests
returns c = search (rules, tests)
