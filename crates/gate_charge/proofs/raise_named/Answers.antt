use Rattle.gate_charge.proofs.Laws.{raising_done, raising_stop, raising_room, raising_next}
use Rattle.gate_charge.proofs.raise_named.Goals as goal

pub returns-then-rec-ne-LIMIT : goal.returns-then-rec-ne-LIMIT
returns-then-rec-ne-LIMIT c = rw (← c.records-rec-items.ensures) (raising_stop _ _ _ _ c.loop-rec.invariant c.loop-rec-test.true c.if-rec-ne-LIMIT.true)

pub raise_one-requires : goal.raise_one-requires
raise_one-requires c = raising_room _ _ _ _ c.loop-rec.invariant c.loop-rec-test.true c.if-rec-ne-LIMIT.false

pub loop-rec-preserved : goal.loop-rec-preserved
loop-rec-preserved c = raising_next _ _ _ _ c.loop-rec.invariant c.loop-rec-test.true c.if-rec-ne-LIMIT.false _ c.raise_one.ensures

pub returns : goal.returns
returns c = rw (← c.records-rec-items.ensures) (raising_done _ _ _ _ c.loop-rec.invariant c.loop-rec-test.false)
