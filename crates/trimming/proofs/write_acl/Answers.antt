use Rattle.trim_hints.proofs.Written.{writing_kept, writing_inside}
use Rattle.trimming.proofs.Laws.{acl_first, acl_room, acl_next, acl_done}
use borrow.Author.Rules.{rules}
use Rattle.trimming.proofs.write_acl.Goals as goal

pub loop-rec-init : goal.loop-rec-init
loop-rec-init c = (search rules, (search rules, (search rules, acl_first _ _ _ _ c.records-rec-items.ensures)))

pub put-requires : goal.put-requires
put-requires c =
    let i = c.loop-rec.invariant.1 in
    acl_room _ _ _ _ _ _ _ _ _ i.1.1 c.requires c.records-rec-items.ensures c.loop-rec-test.true _ c.on_record-fate.ensures i.0

pub loop-rec-preserved : goal.loop-rec-preserved
loop-rec-preserved c =
    let i = c.loop-rec.invariant.1 in
    let w = acl_next _ _ _ _ _ _ _ _ _ i.1.1 c.requires c.records-rec-items.ensures c.loop-rec-test.true _ c.on_record-fate.ensures _ _ _ _ c.size_of-to.ensures.0 c.put.ensures c.after-standing.ensures.1 c.after-standing.ensures.0 in
    (search rules, (writing_kept _ _ _ _ _ w c.requires, (writing_inside _ _ _ _ _ w c.requires, w)))

pub returns : goal.returns
returns c = acl_done _ _ _ _ _ _ _ _ _ c.loop-rec.invariant.1.1.1 c.requires c.loop-rec-test.false
