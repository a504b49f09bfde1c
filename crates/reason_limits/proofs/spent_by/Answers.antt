use mathlib.Core.Path.{refl, ap}
use Rattle.reason_limits.specs.Limits.{spent_limit, spent_with}
use Rattle.reason_limits.proofs.Laws.{failing_stop, failing_here, failing_next, failing_done}
use Rattle.reason_limits.proofs.spent_by.Goals as goal

pub loop-i-init : goal.loop-i-init
loop-i-init c = rw c.records-rec-items.ensures refl

pub returns-then-rec-ne-LIMIT : goal.returns-then-rec-ne-LIMIT
unfolding spent_with
returns-then-rec-ne-LIMIT c = ap spent_limit (failing_stop _ _ _ _ c.loop-i.invariant c.loop-i-test.true c.if-rec-ne-LIMIT.true)

pub returns-then-not-is_left : goal.returns-then-not-is_left
unfolding spent_with
returns-then-not-is_left c = ap spent_limit (failing_here _ _ _ _ c.loop-i.invariant c.loop-i-test.true _ c.if-rec-ne-LIMIT.false c.is_left.ensures c.if-not-is_left.true)

pub loop-i-preserved : goal.loop-i-preserved
loop-i-preserved c = failing_next _ _ _ _ c.loop-i.invariant c.loop-i-test.true _ c.if-rec-ne-LIMIT.false c.is_left.ensures c.if-not-is_left.false

pub returns : goal.returns
unfolding spent_with
returns c = ap spent_limit (failing_done _ _ _ _ c.loop-i.invariant c.loop-i-test.false)
