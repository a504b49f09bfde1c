use mathlib.Core.Path.{refl}
use Rattle.gate_admission.proofs.Laws.{uses_stop, uses_found, uses_next, uses_none}
use Rattle.gate_admission.proofs.admits_some_use.Goals as goal

pub loop-act-init : goal.loop-act-init
loop-act-init c = rw c.records-act-items.ensures refl

pub returns-then-act-eq-GROUP : goal.returns-then-act-eq-GROUP
returns-then-act-eq-GROUP c = uses_stop _ _ _ _ c.loop-act.invariant c.loop-act-test.true c.if-act-eq-GROUP.true

pub returns-then-admits_use : goal.returns-then-admits_use
returns-then-admits_use c = uses_found _ _ _ _ c.loop-act.invariant c.loop-act-test.true _ c.if-act-eq-GROUP.false c.admits_use.ensures c.if-admits_use.true

pub loop-act-preserved : goal.loop-act-preserved
loop-act-preserved c = uses_next _ _ _ _ c.loop-act.invariant c.loop-act-test.true _ c.if-act-eq-GROUP.false c.admits_use.ensures c.if-admits_use.false

pub returns : goal.returns
returns c = uses_none _ _ _ _ c.loop-act.invariant c.loop-act-test.false
