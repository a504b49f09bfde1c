use Rattle.acl_groups.proofs.Laws.{place_skip, place_next, place_here, place_none, group_found}
use borrow.Author.Rules.{rules}
use Rattle.acl_groups.proofs.group_at.Goals as goal

pub loop-i-preserved-then-rec-ne-GROUP : goal.loop-i-preserved-then-rec-ne-GROUP
loop-i-preserved-then-rec-ne-GROUP c = search (rules, place_skip)

pub returns-then-left-eq0 : goal.returns-then-left-eq0
returns-then-left-eq0 c =
    group_found _ _ _ _ _ c.requires c.records-rec-items.ensures (place_here _ _ _ _ _ _ c.loop-i.invariant c.loop-i-test.true c.if-rec-ne-GROUP.false c.if-left-eq0.true)

pub loop-i-preserved : goal.loop-i-preserved
loop-i-preserved c = search (rules, place_next)

pub returns : goal.returns
returns c = group_found _ _ _ _ _ c.requires c.records-rec-items.ensures (place_none _ _ _ _ _ _ c.loop-i.invariant c.loop-i-test.false)
