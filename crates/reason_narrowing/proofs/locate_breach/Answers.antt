use native.Mathlib.Omega.{arith}
use mathlib.Core.Path.{refl}
use Rattle.std.specs.Prelude as option
use Rattle.rules.specs.Basics.{byte, records}
use Rattle.rules.specs.Acl.{groups_of}
use Rattle.gate_narrowing.proofs.Laws.{drop_on, nth_found, nth_past, group_seen, groups_seen}
use Rattle.reason_narrowing.proofs.Sources.{hints_left, hints_done, hint_lacking, source_falls, source_missing, source_breaks, source_kept}
use Rattle.reason_narrowing.proofs.locate_breach.Goals as goal

pub returns-in_default : goal.returns-in_default
returns-in_default c = hint_lacking _ _ _ _ _ _ c.loop-first.invariant.1.1 _ _ c.in-Some.ensures.steps c.in_default.ensures.cases

pub returns-then-source-low : goal.returns-then-source-low
returns-then-source-low c = source_falls _ _ _ _ _ _ c.loop-first.invariant.1.1 _ _ c.in-Some.ensures.steps _ _ c.in-Some-split_first.ensures.cases.0 c.if-source-low.true

pub returns-in_default-nth : goal.returns-in_default-nth
returns-in_default-nth c =
    let e = drop_on _ _ _ _ c.loop-first.invariant.1.0 c.if-source-low.false in
    source_missing _ _ _ _ _ _ c.loop-first.invariant.1.1 _ _ c.in-Some.ensures.steps _ _ c.in-Some-split_first.ensures.cases.0 c.if-source-low.false (nth_found group_seen groups_seen (groups_of (records c.args.old.now)) (byte 4 c.in-Some-split_first.hint.now) _ _ c.nth.new.self e option.None c.in_default-nth.ensures.ran)

pub returns-in-Err : goal.returns-in-Err
returns-in-Err c =
    let e = drop_on _ _ _ _ c.loop-first.invariant.1.0 c.if-source-low.false in
    source_breaks _ _ _ _ _ _ c.loop-first.invariant.1.1 _ _ c.in-Some.ensures.steps _ _ c.in-Some-split_first.ensures.cases.0 c.if-source-low.false _ (nth_found group_seen groups_seen (groups_of (records c.args.old.now)) (byte 4 c.in-Some-split_first.hint.now) _ _ c.nth.new.self e (option.Some (c.in-Some-nth.old_first, c.in-Some-nth.old_body)) c.in-Some-nth.ensures.ran) _ c.in-Err.ensures.breach c.in-Err.ensures.some

pub loop-first-preserved : goal.loop-first-preserved
loop-first-preserved c =
    let l = c.in-Some-split_first.ensures.cases.1 in
    let m = c.loop-first.invariant.0 in
    let e = drop_on _ _ _ _ c.loop-first.invariant.1.0 c.if-source-low.false in (
      omega arith,
      (
        nth_past group_seen groups_seen (groups_of (records c.args.old.now)) (byte 4 c.in-Some-split_first.hint.now) _ _ c.nth.new.self e (option.Some (c.in-Some-nth.old_first, c.in-Some-nth.old_body)) c.in-Some-nth.ensures.ran,
        source_kept _ _ _ _ _ _ c.loop-first.invariant.1.1 _ _ c.in-Some.ensures.steps _ _ c.in-Some-split_first.ensures.cases.0 c.if-source-low.false _ (nth_found group_seen groups_seen (groups_of (records c.args.old.now)) (byte 4 c.in-Some-split_first.hint.now) _ _ c.nth.new.self e (option.Some (c.in-Some-nth.old_first, c.in-Some-nth.old_body)) c.in-Some-nth.ensures.ran) _ c.in_default-group_breach.ensures.breach refl _ (omega arith),
      ),
    )

pub returns-then-not-is_empty : goal.returns-then-not-is_empty
returns-then-not-is_empty c = hints_left _ _ _ _ _ _ c.loop-first.invariant.1.1 c.in-None.ensures.steps.0 _ c.is_empty.ensures c.if-not-is_empty.true

pub returns : goal.returns
returns c = hints_done _ _ _ _ _ _ c.loop-first.invariant.1.1 c.in-None.ensures.steps.0 _ c.is_empty.ensures c.if-not-is_empty.false
