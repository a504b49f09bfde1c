use borrow.Author.Rules.{rules}
use Rattle.run_certificates.proofs.Marks.{mark_start, mark_group, mark_over, mark_done}
use Rattle.run_certificates.proofs.certified_groups.Goals as goal

pub loop-rec-init : goal.loop-rec-init
loop-rec-init c = mark_start _ _ _ (search rules)

pub loop-rec-preserved-then-rec-eq1 : goal.loop-rec-preserved-then-rec-eq1
loop-rec-preserved-then-rec-eq1 c = mark_group _ _ _ _ c.loop-rec.invariant _ _ c.in-Some.ensures.steps _ _ c.if-rec-eq1.true c.is_certified.ensures c.with_group-set.ensures

pub loop-rec-preserved : goal.loop-rec-preserved
loop-rec-preserved c = mark_over _ _ _ _ c.loop-rec.invariant _ _ c.in-Some.ensures.steps c.if-rec-eq1.false

pub returns : goal.returns
returns c = mark_done _ _ _ _ c.loop-rec.invariant c.in-None.ensures.steps.0
