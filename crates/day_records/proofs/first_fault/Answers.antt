use mathlib.Core.Bool.{not}
use mathlib.Core.Path.{sym, ◌∙◌, ap}
use Rattle.rules.specs.Day.{day_fault}
use Rattle.rules.proofs.Faults.{fault_here, fault_later, fault_last, fault_found, fault_passed}
use Rattle.files.proofs.Passed as passed
use borrow.Author.Rules.{rules}
use Rattle.day_records.proofs.first_fault.Goals as goal

pub returns-then-not-lengths_fit : goal.returns-then-not-lengths_fit
unfolding day_fault
returns-then-not-lengths_fit c = search (rules, fault_here)

pub returns-in_err-acl_records : goal.returns-in_err-acl_records
unfolding day_fault
returns-in_err-acl_records c =
    let p = passed.fault_passed _ _ c.from_residual.ensures in
    fault_later _ _ _ _ _ c.lengths_fit.ensures (ap not c.if-not-lengths_fit.false) (fault_found _ _ _ _ (p ∙ c.in_err-acl_records.ensures) p)

pub returns : goal.returns
unfolding day_fault
returns c = fault_later _ _ _ _ _ c.lengths_fit.ensures (ap not c.if-not-lengths_fit.false) (fault_passed _ _ _ (sym c.in_ok-acl_records.ensures) (fault_last _ _ c.each_request.ensures))
