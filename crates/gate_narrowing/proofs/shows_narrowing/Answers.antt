use Rattle.std.specs.Prelude as option
use Rattle.rules.specs.Basics.{byte, records}
use Rattle.rules.specs.Acl.{groups_of}
use Rattle.gate_narrowing.proofs.Laws.{drop_on, nth_found, nth_past, group_seen, groups_seen}
use Rattle.gate_narrowing.proofs.Sources.{hints_over, hint_lacking, source_falls, source_missing, source_wider, source_kept}
use Rattle.gate_narrowing.proofs.shows_narrowing.Goals as goal

pub returns-in_default : goal.returns-in_default
returns-in_default c = hint_lacking _ _ _ _ _ c.loop-first.invariant.1 _ _ c.in-Some.ensures.steps c.in_default.ensures.cases

pub returns-then-source-low : goal.returns-then-source-low
returns-then-source-low c = source_falls _ _ _ _ _ c.loop-first.invariant.1 _ _ c.in-Some.ensures.steps _ _ c.in-Some-split_first.ensures.cases.0 c.if-source-low.true

pub returns-in_default-nth : goal.returns-in_default-nth
returns-in_default-nth c =
    let e = drop_on _ _ _ _ c.loop-first.invariant.0 c.if-source-low.false in
    source_missing _ _ _ _ _ c.loop-first.invariant.1 _ _ c.in-Some.ensures.steps _ _ c.in-Some-split_first.ensures.cases.0 c.if-source-low.false (nth_found group_seen groups_seen (groups_of (records c.args.old.now)) (byte 4 c.in-Some-split_first.hint.now) _ _ c.nth.new.self e option.None c.in_default-nth.ensures.ran)

pub returns-then-not-group_narrows : goal.returns-then-not-group_narrows
returns-then-not-group_narrows c =
    let e = drop_on _ _ _ _ c.loop-first.invariant.0 c.if-source-low.false in
    source_wider _ _ _ _ _ c.loop-first.invariant.1 _ _ c.in-Some.ensures.steps _ _ c.in-Some-split_first.ensures.cases.0 c.if-source-low.false _ (nth_found group_seen groups_seen (groups_of (records c.args.old.now)) (byte 4 c.in-Some-split_first.hint.now) _ _ c.nth.new.self e (option.Some (c.in-Some-nth.old_first, c.in-Some-nth.old_body)) c.in-Some-nth.ensures.ran) _ c.group_narrows.ensures
    c.if-not-group_narrows.true

pub loop-first-preserved : goal.loop-first-preserved
loop-first-preserved c =
    let e = drop_on _ _ _ _ c.loop-first.invariant.0 c.if-source-low.false in (
      nth_past group_seen groups_seen (groups_of (records c.args.old.now)) (byte 4 c.in-Some-split_first.hint.now) _ _ c.nth.new.self e (option.Some (c.in-Some-nth.old_first, c.in-Some-nth.old_body)) c.in-Some-nth.ensures.ran,
      source_kept _ _ _ _ _ c.loop-first.invariant.1 _ _ c.in-Some.ensures.steps _ _ c.in-Some-split_first.ensures.cases.0 c.if-source-low.false _ (nth_found group_seen groups_seen (groups_of (records c.args.old.now)) (byte 4 c.in-Some-split_first.hint.now) _ _ c.nth.new.self e (option.Some (c.in-Some-nth.old_first, c.in-Some-nth.old_body)) c.in-Some-nth.ensures.ran) _ c.group_narrows.ensures
          c.if-not-group_narrows.false,
    )

pub returns : goal.returns
returns c = hints_over _ _ _ _ _ c.loop-first.invariant.1 _ c.in-None.ensures.steps.0 c.is_empty.ensures
