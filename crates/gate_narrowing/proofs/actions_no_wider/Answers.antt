use Rattle.gate_narrowing.proofs.Laws.{hints_over, hints_short, action_missing, action_wider, action_kept}
use Rattle.gate_narrowing.proofs.actions_no_wider.Goals as goal

pub returns-in_default : goal.returns-in_default
returns-in_default c = hints_short _ _ _ _ c.loop-act.invariant.1 _ _ c.in-Some.ensures.steps c.in_default.ensures.cases

pub returns-in_default-find : goal.returns-in_default-find
returns-in_default-find c =
    action_missing _ _ _ _ c.loop-act.invariant.1 _ _ c.in-Some.ensures.steps _ _ c.in-Some-split_first.ensures.cases.0 c.in_default-find.ensures.found

pub returns-then-not-action_no_wider : goal.returns-then-not-action_no_wider
returns-then-not-action_no_wider c =
    action_wider _ _ _ _ c.loop-act.invariant.1 _ _ c.in-Some.ensures.steps _ _ c.in-Some-split_first.ensures.cases.0 _ c.in-Some-find.ensures.found _ c.action_no_wider.ensures
    c.if-not-action_no_wider.true

pub loop-act-preserved : goal.loop-act-preserved
loop-act-preserved c = (
  c.in-Some-find.ensures.left,
  action_kept _ _ _ _ c.loop-act.invariant.1 _ _ c.in-Some.ensures.steps _ _ c.in-Some-split_first.ensures.cases.0 _ c.in-Some-find.ensures.found _ c.action_no_wider.ensures
      c.if-not-action_no_wider.false,
)

pub returns : goal.returns
returns c = hints_over _ _ _ _ c.loop-act.invariant.1 _ c.in-None.ensures.steps.0 c.all_zero.ensures
