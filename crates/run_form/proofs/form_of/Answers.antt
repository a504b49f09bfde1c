use Rattle.run_form.proofs.Making.{passing_start, passing_below, passing_working, passing_recovery, passing_group, passing_over, passing_permissions, passing_blob, passing_archive, passing_done}
use borrow.Author.Rules.{rules}
use Rattle.run_form.proofs.form_of.Goals as goal

pub loop-rec-init : goal.loop-rec-init
loop-rec-init c = passing_start _ _ c.requires (search rules)

pub double_uses-requires : goal.double_uses-requires
double_uses-requires c = passing_below _ _ _ _ _ _ _ _ c.loop-rec.invariant _ _ c.in-Some.ensures.steps c.if-kind-eq1.true

pub with_digit-working-requires : goal.with_digit-working-requires
with_digit-working-requires c = passing_working _ _ _ _ _ _ _ _ c.loop-rec.invariant _ _ c.in-Some.ensures.steps c.if-kind-eq1.true

pub with_digit-recovery-requires : goal.with_digit-recovery-requires
with_digit-recovery-requires c = passing_recovery _ _ _ _ _ _ _ _ c.loop-rec.invariant _ _ c.in-Some.ensures.steps c.if-kind-eq1.true

pub loop-rec-preserved-then-kind-eq1 : goal.loop-rec-preserved-then-kind-eq1
loop-rec-preserved-then-kind-eq1 c =
    passing_group _ _ _ _ _ _ _ _ c.loop-rec.invariant _ _ c.in-Some.ensures.steps c.if-kind-eq1.true _ _ _ c.double_uses.ensures c.with_digit-working.ensures c.with_digit-recovery.ensures

pub loop-rec-preserved-then-is_passed_over : goal.loop-rec-preserved-then-is_passed_over
loop-rec-preserved-then-is_passed_over c =
    passing_over _ _ _ _ _ _ _ _ c.loop-rec.invariant _ _ c.in-Some.ensures.steps c.if-kind-eq1.false _ c.is_passed_over.ensures c.if-is_passed_over.true

pub loop-rec-preserved-then-kind-eq3 : goal.loop-rec-preserved-then-kind-eq3
loop-rec-preserved-then-kind-eq3 c =
    passing_permissions _ _ _ _ _ _ _ _ c.loop-rec.invariant _ _ c.in-Some.ensures.steps c.if-kind-eq1.false _ c.is_passed_over.ensures c.if-is_passed_over.false _ c.if-kind-eq3.true c.be16.ensures

pub loop-rec-preserved-then-kind-eq4 : goal.loop-rec-preserved-then-kind-eq4
loop-rec-preserved-then-kind-eq4 c =
    passing_blob _ _ _ _ _ _ _ _ c.loop-rec.invariant _ _ c.in-Some.ensures.steps c.if-kind-eq1.false _ c.is_passed_over.ensures c.if-is_passed_over.false c.if-kind-eq3.false c.if-kind-eq4.true

pub loop-rec-preserved : goal.loop-rec-preserved
loop-rec-preserved c =
    passing_archive _ _ _ _ _ _ _ _ c.loop-rec.invariant _ _ c.in-Some.ensures.steps c.if-kind-eq1.false _ c.is_passed_over.ensures c.if-is_passed_over.false c.if-kind-eq3.false c.if-kind-eq4.false

pub returns : goal.returns
returns c = passing_done _ _ _ _ _ _ _ _ c.loop-rec.invariant c.in-None.ensures.steps.0
