use Rattle.rules.specs.Runs.{mechanism_named}
use Rattle.run_certificates.proofs.Laws.{all_next, all_done, all_decoded}
use Rattle.run_certificates.proofs.all_named.Goals as goal
use Rattle.std.proofs.Common.{refl, arith, below_more, below_none}

pub loop-c-init : goal.loop-c-init
loop-c-init c = (refl, below_none _)

pub loop-c-preserved : goal.loop-c-preserved
loop-c-preserved c = (
  rw c.is_named-named.ensures.named (all_next mechanism_named _ _ _ _ c.loop-c-test.true c.loop-c.invariant.0),
  below_more _ _ c.loop-c.invariant.1 c.is_named-named.ensures.decoded,
)

pub returns : goal.returns
returns c = record { named = all_done mechanism_named _ _ _ _ c.loop-c-test.false c.loop-c.invariant.0; decoded = all_decoded _ (λ k h. c.loop-c.invariant.1 k (omega arith)) }
