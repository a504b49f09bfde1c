use mathlib.Core.Bool.{not}
use mathlib.Core.Path.{refl, sym, ap}
use Rattle.rules.proofs.Faults.{fault_here, fault_later, fault_passed, fault_last}
use Rattle.gate_files.proofs.Laws.{both_are, handed_on}
use Rattle.gate_files.proofs.expand_files.Goals as goal

pub returns-then-not-fit : goal.returns-then-not-fit
returns-then-not-fit c = fault_here _ _ _ _ _ (both_are _ _ _ _ c.lengths_fit.ensures c.whole.ensures) (ap not c.if-not-fit.true) refl

pub returns-in_err-acl_records : goal.returns-in_err-acl_records
returns-in_err-acl_records c =
    fault_later _ _ _ _ _ (both_are _ _ _ _ c.lengths_fit.ensures c.whole.ensures) (ap not c.if-not-fit.false)
    (handed_on _ _ _ _ c.from_residual.ensures c.in_err-acl_records.ensures)

pub returns-in_err-use_records : goal.returns-in_err-use_records
returns-in_err-use_records c =
    fault_later _ _ _ _ _ (both_are _ _ _ _ c.lengths_fit.ensures c.whole.ensures) (ap not c.if-not-fit.false)
    (fault_passed _ _ _ (sym c.in_ok-acl_records.ensures)
    (handed_on _ _ _ _ c.from_residual-in_err-use_records.ensures c.in_err-use_records.ensures))

pub returns : goal.returns
returns c =
    fault_later _ _ _ _ _ (both_are _ _ _ _ c.lengths_fit.ensures c.whole.ensures) (ap not c.if-not-fit.false)
    (fault_passed _ _ _ (sym c.in_ok-acl_records.ensures)
    (fault_passed _ _ _ (sym c.in_ok-use_records.ensures)
    (fault_last _ _ c.acl_records-2.ensures)))
