use Rattle.trimming.proofs.Laws.{measure_start, measure_next, measure_acl, measure_hints}
use borrow.Author.Rules.{rules}
use Rattle.trimming.proofs.measure.Goals as goal

pub loop-rec-init : goal.loop-rec-init
loop-rec-init c = (search rules, (search rules, measure_start _ _ _ c.records-rec-items.ensures))

pub loop-rec-preserved : goal.loop-rec-preserved
loop-rec-preserved c =
    (search rules, (search rules, measure_next _ _ _ _ _ _ _ _ c.loop-rec.invariant.1.1 c.records-rec-items.ensures _ _ _ _ _ c.loop-rec-test.true c.on_record-fate.ensures c.size_of-n.ensures.0 c.hint_size-m.ensures.0 c.after-standing.ensures.1 c.after-standing.ensures.0))

pub returns : goal.returns
returns c =
    let i = c.loop-rec.invariant.1.1 in
    (measure_acl _ _ _ _ _ _ _ _ i c.loop-rec-test.false, measure_hints _ _ _ _ _ _ _ _ i c.loop-rec-test.false)
