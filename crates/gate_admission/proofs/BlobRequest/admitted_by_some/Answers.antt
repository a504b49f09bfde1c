use mathlib.Core.Path.{refl}
use Rattle.gate_admission.proofs.Laws.{acts_found, acts_next, acts_none}
use Rattle.gate_admission.proofs.BlobRequest.admitted_by_some.Goals as goal

pub loop-act-init : goal.loop-act-init
loop-act-init c = rw c.into_iter-act-iterator.ensures.into_iter_gives refl

pub returns-then-admitted : goal.returns-then-admitted
returns-then-admitted c = acts_found _ _ _ c.loop-act.invariant _ _ c.in-Some.ensures.steps _ c.admitted.ensures c.if-admitted.true

pub loop-act-preserved : goal.loop-act-preserved
loop-act-preserved c = acts_next _ _ _ c.loop-act.invariant _ _ c.in-Some.ensures.steps _ c.admitted.ensures c.if-admitted.false

pub returns : goal.returns
returns c = acts_none _ _ _ c.loop-act.invariant c.in-None.ensures.steps.0
