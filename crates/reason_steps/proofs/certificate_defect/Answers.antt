use Rattle.reason_steps.proofs.Laws.{tests}
use borrow.Author.Rules.{rules}
use Rattle.reason_steps.proofs.certificate_defect.Goals as goal

pub returns-in_err-signature_defect : goal.returns-in_err-signature_defect
returns-in_err-signature_defect c = search (rules, tests)

pub returns-in_err-field_defect : goal.returns-in_err-field_defect
returns-in_err-field_defect c = search (rules, tests)

pub returns-in_err-field_defect-2 : goal.returns-in_err-field_defect-2
returns-in_err-field_defect-2 c = search (rules, tests)

pub returns : goal.returns
returns c = search (rules, tests)
