use mathlib.Core.Path.{refl}
use Rattle.record_fields.proofs.Laws.{zero_next, zero_done}
use Rattle.record_fields.proofs.zero_few.Goals as goal

pub loop-byte-init : goal.loop-byte-init
loop-byte-init c = refl

pub loop-byte-preserved : goal.loop-byte-preserved
loop-byte-preserved c = zero_next _ _ _ c.loop-byte.invariant c.loop-byte-test.true

pub returns : goal.returns
returns c = zero_done _ _ _ c.loop-byte.invariant c.loop-byte-test.false
