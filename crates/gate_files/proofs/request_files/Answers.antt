use mathlib.Core.Bool.{not}
use mathlib.Core.Path.{sym, ap}
use Rattle.rules.proofs.Faults.{fault_here, fault_later, fault_passed, fault_last}
use Rattle.gate_files.proofs.Laws.{handed_on}
use borrow.Author.Rules.{rules}
use Rattle.gate_files.proofs.request_files.Goals as goal

pub returns-then-not-lengths_fit : goal.returns-then-not-lengths_fit
returns-then-not-lengths_fit c = search (rules, fault_here)

pub returns-in_err-acl_records : goal.returns-in_err-acl_records
returns-in_err-acl_records c = fault_later _ _ _ _ _ c.lengths_fit.ensures (ap not c.if-not-lengths_fit.false) (handed_on _ _ _ _ c.from_residual.ensures c.in_err-acl_records.ensures)

pub returns : goal.returns
returns c = fault_later _ _ _ _ _ c.lengths_fit.ensures (ap not c.if-not-lengths_fit.false) (fault_passed _ _ _ (sym c.in_ok-acl_records.ensures) (fault_last _ _ c.request_records.ensures))
