use Rattle.run_certificates.specs.Rows.{serving}
use Rattle.run_certificates.proofs.Laws.{any_next, any_done}
use Rattle.run_certificates.proofs.presented.Goals as goal
use Rattle.std.proofs.Common.{refl}

pub loop-c-init : goal.loop-c-init
loop-c-init c = refl

pub loop-c-preserved : goal.loop-c-preserved
loop-c-preserved c = rw c.serves_group-found.ensures (any_next (serving c.args.group.now) _ _ _ _ c.loop-c-test.true c.loop-c.invariant)

pub returns : goal.returns
returns c = any_done (serving c.args.group.now) _ _ _ _ c.loop-c-test.false c.loop-c.invariant
