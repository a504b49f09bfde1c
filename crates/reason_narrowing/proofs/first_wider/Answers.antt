use native.Mathlib.Omega.{arith}
use Rattle.reason_narrowing.proofs.Laws.{wider_none, wider_short, wider_here, wider_more}
use Rattle.reason_narrowing.proofs.first_wider.Goals as goal

pub returns-in_default : goal.returns-in_default
returns-in_default c = wider_short _ _ _ _ _ c.loop-act.invariant.1 _ _ c.in-Some.ensures.steps c.in_default.ensures.cases

pub returns-then-not-no_wider_than : goal.returns-then-not-no_wider_than
returns-then-not-no_wider_than c =
    wider_here _ _ _ _ _ c.loop-act.invariant.1 _ _ c.in-Some.ensures.steps _ _ c.in-Some-split_first.ensures.cases.0 _ c.no_wider_than.ensures c.if-not-no_wider_than.true

pub loop-act-preserved : goal.loop-act-preserved
loop-act-preserved c =
    let l = c.in-Some-split_first.ensures.cases.1 in
    let m = c.loop-act.invariant.0 in (
      omega arith,
      wider_more _ _ _ _ _ c.loop-act.invariant.1 _ _ c.in-Some.ensures.steps _ _ c.in-Some-split_first.ensures.cases.0 _ c.no_wider_than.ensures c.if-not-no_wider_than.false _ (omega arith),
    )

pub returns : goal.returns
returns c = wider_none _ _ _ _ _ c.loop-act.invariant.1 c.in-None.ensures.steps.0
