use Rattle.reason_narrowing.proofs.Laws.{named_over, named_short, named_past, named_within}
use Rattle.reason_narrowing.proofs.actions_named.Goals as goal

pub returns-in_default : goal.returns-in_default
returns-in_default c = named_short _ _ _ _ c.loop.invariant _ _ c.in-Some.ensures.steps c.in_default.ensures.cases

pub returns-then-count-hint : goal.returns-then-count-hint
returns-then-count-hint c = named_past _ _ _ _ c.loop.invariant _ _ c.in-Some.ensures.steps _ _ c.in-Some-split_first.ensures.cases.0 _ c.action_count-count.ensures c.if-count-hint.true

pub loop-preserved : goal.loop-preserved
loop-preserved c = named_within _ _ _ _ c.loop.invariant _ _ c.in-Some.ensures.steps _ _ c.in-Some-split_first.ensures.cases.0 _ c.action_count-count.ensures c.if-count-hint.false

pub returns : goal.returns
returns c = named_over _ _ _ _ c.loop.invariant _ c.in-None.ensures.steps.0 c.all_zero.ensures
