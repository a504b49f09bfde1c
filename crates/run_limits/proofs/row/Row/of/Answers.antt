use Rattle.run_limits.proofs.Filling.{reading_start, reading_done, reading_room, reading_next, limits_none, limits_step, limits_stop}
use Rattle.run_limits.proofs.row.Row.of.Goals as goal

pub loop-rec-init : goal.loop-rec-init
loop-rec-init c = reading_start _ _ c.unlimited-row.ensures (rw c.records-rec-items.ensures c.requires)

pub returns-then-rec-ne2 : goal.returns-then-rec-ne2
returns-then-rec-ne2 c = rw (← c.records-rec-items.ensures) (reading_done _ _ _ c.loop-rec.invariant (limits_stop _ _ c.loop-rec-test.true c.if-rec-ne2.true))

pub with_limit-row-requires : goal.with_limit-row-requires
with_limit-row-requires c = reading_room _ _ _ _ _ c.loop-rec.invariant (limits_step _ _ c.loop-rec-test.true c.if-rec-ne2.false)

pub loop-rec-preserved : goal.loop-rec-preserved
loop-rec-preserved c = reading_next _ _ _ _ _ c.loop-rec.invariant (limits_step _ _ c.loop-rec-test.true c.if-rec-ne2.false) _ c.with_limit-row.ensures

pub returns : goal.returns
returns c = rw (← c.records-rec-items.ensures) (reading_done _ _ _ c.loop-rec.invariant (limits_none _ _ c.loop-rec-test.false))
