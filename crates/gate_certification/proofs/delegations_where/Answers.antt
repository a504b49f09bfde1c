use Rattle.std.proofs.Common.{length, arith}
use Rattle.gate_certification.proofs.Sets.{set_none, set_fits_none, byte_small, set_fits, set_fits_still, set_skip, set_more}
use Rattle.gate_certification.proofs.delegations_where.Goals as goal

pub loop-i-init : goal.loop-i-init
loop-i-init g c = (set_fits_none (length c.args.recs.now), λ t h. set_none t c.args.recs.now)

pub loop-i-preserved-then-recs-i-eq-DELEGATION : goal.loop-i-preserved-then-recs-i-eq-DELEGATION
loop-i-preserved-then-recs-i-eq-DELEGATION g c = (
  set_fits _ _ _ _ c.loop-i-test.true c.loop-i.auto.i c.loop-i.invariant.0 (byte_small _ _ c.from.ensures),
  λ t h. set_more t _ _ _ c.loop-i-test.true c.loop-i.auto.i (c.loop-i.invariant.1 t h) c.test.result _ c.if-recs-i-eq-DELEGATION.true (h _ _ (omega arith) c.test.ensures) c.from.ensures,
)

pub loop-i-preserved : goal.loop-i-preserved
loop-i-preserved g c = (
  set_fits_still _ _ _ c.loop-i-test.true c.loop-i.auto.i c.loop-i.invariant.0,
  λ t h. set_skip t _ _ _ c.loop-i-test.true c.loop-i.auto.i (c.loop-i.invariant.1 t h) c.if-recs-i-eq-DELEGATION.false,
)
