use native.Mathlib.Omega.{arith}
use mathlib.Core.Path.{refl, ◌∙◌, ap}
use borrow.Author.Tests.{eq-eqb, ne_eqb}
use Rattle.rules.specs.Bundle.{bundle_fault}
use Rattle.record_fields.proofs.Walks.{scan_stop, scan_next, scan_done}
use Rattle.bundle_reader.proofs.Laws.{bundle_bad, bundle_full, bundle_sound, bundle_next, listed_is, end_bad, end_sound}
use Rattle.bundle_reader.proofs.bundle_records.Goals as goal

pub loop-rec-init : goal.loop-rec-init
unfolding bundle_fault
loop-rec-init c = record { few = omega arith; left = refl }

pub returns-then-not-in_place : goal.returns-then-not-in_place
returns-then-not-in_place c =
    scan_stop _ _ _ _ _ _ _ c.loop-rec.invariant.left _ c.loop-rec-test.true (bundle_bad _ _ _ c.in_place.ensures c.if-not-in_place.true) ∙ ap bundle_fault c.records-rec-items.ensures

pub returns-then-listed-gt-LISTED : goal.returns-then-listed-gt-LISTED
returns-then-listed-gt-LISTED c =
    let f = bundle_full _ _ _ c.record_order-here.ensures c.repeats-again.ensures _ _ _ c.in_place.ensures c.loop-rec.invariant.few c.if-not-in_place.false c.if-listed-gt-LISTED.true in
    scan_stop _ _ _ _ _ _ _ c.loop-rec.invariant.left _ c.loop-rec-test.true f ∙ ap bundle_fault c.records-rec-items.ensures

pub loop-rec-preserved : goal.loop-rec-preserved
loop-rec-preserved c =
    let i = c.loop-rec.invariant in
    let o = c.record_order-here.ensures in
    let a = c.repeats-again.ensures in
    let s = bundle_sound _ _ _ o a _ _ _ c.in_place.ensures i.few c.if-not-in_place.false c.if-listed-gt-LISTED.false in
    let n = bundle_next (record { last = c.loop-rec.last; listed_count = c.loop-rec.listed }) _ _ _ o (listed_is _ _ _ o a _) in
    record { few = c.if-listed-gt-LISTED.false; left = scan_next _ _ _ _ _ _ _ i.left _ c.loop-rec-test.true s n }

pub returns-then-not-last : goal.returns-then-not-last
returns-then-not-last c =
    scan_done _ _ _ _ _ _ _ c.loop-rec.invariant.left _ c.loop-rec-test.false (end_bad _ (ne_eqb _ _ c.if-not-last.true)) ∙ ap bundle_fault c.records-rec-items.ensures

pub returns : goal.returns
returns c =
    scan_done _ _ _ _ _ _ _ c.loop-rec.invariant.left _ c.loop-rec-test.false (end_sound _ (eq-eqb _ _ c.if-not-last.false)) ∙ ap bundle_fault c.records-rec-items.ensures
