use mathlib.Core.Path.{refl}
use Rattle.run_decision.proofs.Laws.{lowest_group_lem, walk_stop, walk_next, walk_done, walk_less, walk_within, rest_less}
use borrow.Author.Rules.{rules}
use Rattle.run_decision.proofs.Opening.{closes_start, closes_next, open_word}
use Rattle.run_decision.proofs.plan.Plan.first_unspent.Goals as goal

pub loop-left-init : goal.loop-left-init
loop-left-init c = (search rules, (search rules, (refl, search (rules, closes_start))))

pub is_left-requires : goal.is_left-requires
is_left-requires c = search (rules, lowest_group_lem)

pub returns-then-is_left : goal.returns-then-is_left
returns-then-is_left c =
    (walk_stop _ _ _ c.loop-left.invariant.1.1.0 _ c.lowest-k.ensures _ c.is_left.ensures c.loop-left-test.true c.loop-left.invariant.0 c.if-is_left.true, c.loop-left.invariant.1.1.1)

pub without-still-requires : goal.without-still-requires
without-still-requires c = search (rules, rest_less)

pub loop-left-smaller : goal.loop-left-smaller
loop-left-smaller c = search (rules, walk_less)

pub loop-left-preserved : goal.loop-left-preserved
loop-left-preserved c = (search (rules, walk_within), (search (rules, open_word), (search (rules, walk_next), search (rules, closes_next))))

pub returns : goal.returns
returns c = (search (rules, walk_done), search rules)
