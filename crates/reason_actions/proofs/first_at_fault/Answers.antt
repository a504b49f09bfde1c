use native.Mathlib.Omega.{arith}
use Rattle.reason_actions.proofs.Laws.{counted, left_begun, left_group, left_past, left_next, left_found, left_somewhere, left_done, left_nowhere}
use borrow.Author.Rules.{rules}
use Rattle.reason_actions.proofs.first_at_fault.Goals as goal

pub loop-rec-init : goal.loop-rec-init
loop-rec-init c = (search rules, (search rules, left_begun _ _ _ _ c.records-rec-items.ensures))

pub overflow_add-next : goal.overflow_add-next
overflow_add-next c = let k = counted _ _ _ _ c.records-rec-items.ensures c.loop-rec-test.true c.loop-rec.invariant.0 c.requires in omega arith

pub loop-rec-preserved-then-rec-eq-GROUP : goal.loop-rec-preserved-then-rec-eq-GROUP
loop-rec-preserved-then-rec-eq-GROUP c =
    (search rules, (search rules, left_group _ _ _ _ _ _ _ _ _ c.loop-rec.invariant.1.1 _ c.loop-rec-test.true c.if-rec-eq-GROUP.true c.names_officer-checked.ensures))

pub loop-rec-preserved-then-checked-is_passed_over : goal.loop-rec-preserved-then-checked-is_passed_over
loop-rec-preserved-then-checked-is_passed_over c =
    (search rules, (search rules, left_past _ _ _ _ _ _ _ _ _ c.loop-rec.invariant.1.1 _ c.loop-rec-test.true c.if-rec-eq-GROUP.false c.is_passed_over.ensures c.if-checked-is_passed_over.true))

pub returns-then-at_fault : goal.returns-then-at_fault
returns-then-at_fault c = record {
  spot = left_found _ _ _ _ _ _ _ _ _ c.loop-rec.invariant.1.1 _ c.loop-rec-test.true c.if-rec-eq-GROUP.false c.is_passed_over.ensures c.if-checked-is_passed_over.false _ c.at_fault.ensures c.if-at_fault.true _ c.permission_of-permission.result c.permission_of-permission.ensures;
  found = left_somewhere _ _ _ _ _ _ _ _ _ c.loop-rec.invariant.1.1 _ c.loop-rec-test.true c.if-rec-eq-GROUP.false c.is_passed_over.ensures c.if-checked-is_passed_over.false _ c.at_fault.ensures c.if-at_fault.true;
}

pub overflow_add-action : goal.overflow_add-action
overflow_add-action c = let k = counted _ _ _ _ c.records-rec-items.ensures c.loop-rec-test.true c.loop-rec.invariant.1.0 c.requires in omega arith

pub loop-rec-preserved : goal.loop-rec-preserved
loop-rec-preserved c =
    (search rules, (search rules, left_next _ _ _ _ _ _ _ _ _ c.loop-rec.invariant.1.1 _ c.loop-rec-test.true c.if-rec-eq-GROUP.false c.is_passed_over.ensures c.if-checked-is_passed_over.false _ c.at_fault.ensures c.if-at_fault.false))

pub returns : goal.returns
returns c = record {
  spot = left_done _ _ _ _ _ _ _ _ _ c.loop-rec.invariant.1.1 c.loop-rec-test.false _;
  found = left_nowhere _ _ _ _ _ _ _ _ _ c.loop-rec.invariant.1.1 c.loop-rec-test.false;
}
