use mathlib.Core.Path.{◌∙◌}
use Rattle.desk_steps.proofs.Laws.{run_failed, run_passed}
use Rattle.reason_steps.proofs.Laws.{fips_tests}
use borrow.Author.Rules.{rules}
use Rattle.reason_steps.proofs.fips_defect.Goals as goal

pub returns-in_err-certificate_defect : goal.returns-in_err-certificate_defect
returns-in_err-certificate_defect c = search (rules, run_failed) ∙ fips_tests _

pub returns : goal.returns
returns c = search (rules, run_passed) ∙ fips_tests _
