use Rattle.desk_actions.proofs.Laws.{no_permissions, below_none, below_next, below_whole}
use Rattle.desk_actions.proofs.bits_admitted.Goals as goal

pub returns-then-bits-eq0 : goal.returns-then-bits-eq0
returns-then-bits-eq0 c = no_permissions _ _ c.if-bits-eq0.true

pub loop-b-init : goal.loop-b-init
loop-b-init c = below_none _

pub loop-b-preserved : goal.loop-b-preserved
loop-b-preserved c = below_next _ _ _ _ c.bit_admitted-admitted.ensures c.loop-b.invariant

pub returns : goal.returns
returns c = below_whole _ _ _ c.loop-b.auto.b-end c.loop-b-test.false c.loop-b.invariant
