use Rattle.reason_steps.specs.Defects.{signature_test}
use Rattle.reason_steps.proofs.Laws.{tests}
use borrow.Author.Rules.{rules}
use Rattle.reason_steps.proofs.signature_defect.Goals as goal

pub returns-in_err-unless : goal.returns-in_err-unless
unfolding signature_test
returns-in_err-unless c = search (rules, tests)

pub returns : goal.returns
unfolding signature_test
returns c = search (rules, tests)
