use native.Mathlib.Omega.{arith}
use mathlib.Core.Path.{ap}
use mathlib.Core.Bool.{not}
use Rattle.run_decision.proofs.Laws.{lowest_group_lem, walk_less, walk_within, rest_less, keeping_start, keeping_skip, keeping_next, keeping_done}
use Rattle.run_decision.proofs.members.Goals as goal

pub loop-left-init : goal.loop-left-init
loop-left-init g c = (c.requires.groups, omega arith, λ p a. keeping_start p _ c.requires.groups)

pub test-requires : goal.test-requires
test-requires g c = c.requires.callable _ (lowest_group_lem _ _ c.loop-left-test.true c.loop-left.invariant.0 c.lowest-k.ensures)

pub with_member-kept-requires : goal.with_member-kept-requires
with_member-kept-requires g c = let i = c.loop-left.invariant.1 in let s = c.requires.groups in let l = rest_less c.loop-left.left in (l, omega arith)

pub loop-left-smaller-then-test : goal.loop-left-smaller-then-test
loop-left-smaller-then-test g c = walk_less _ c.loop-left-test.true c.loop-left.invariant.0

pub loop-left-preserved-then-test : goal.loop-left-preserved-then-test
loop-left-preserved-then-test g c =
    let i = c.loop-left.invariant in
    let k = c.lowest-k.ensures in
    let b = lowest_group_lem _ _ c.loop-left-test.true i.0 k in
    let s = i.1 in
    let l = rest_less c.loop-left.left in
    let n = c.with_member-kept.ensures in (
      walk_within _ c.loop-left-test.true i.0,
      omega arith,
      λ p a. keeping_next p _ _ _ (i.2 p a) _ _ k (a _ _ b c.test.ensures) c.loop-left-test.true i.0 _ (ap not c.if-test.true) n,
    )

pub loop-left-smaller : goal.loop-left-smaller
loop-left-smaller g c = walk_less _ c.loop-left-test.true c.loop-left.invariant.0

pub loop-left-preserved : goal.loop-left-preserved
loop-left-preserved g c =
    let i = c.loop-left.invariant in
    let k = c.lowest-k.ensures in
    let b = lowest_group_lem _ _ c.loop-left-test.true i.0 k in
    let s = i.1 in
    let l = rest_less c.loop-left.left in (
      walk_within _ c.loop-left-test.true i.0,
      omega arith,
      λ p a. keeping_skip p _ _ _ (i.2 p a) _ _ k (a _ _ b c.test.ensures) c.loop-left-test.true i.0 (ap not c.if-test.false),
    )

pub returns : goal.returns
returns g c = λ p a. keeping_done p _ _ _ (c.loop-left.invariant.2 p a) c.loop-left-test.false
