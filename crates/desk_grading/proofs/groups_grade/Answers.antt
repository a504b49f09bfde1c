use mathlib.Core.Path.{sym, ◌∙◌}
use Rattle.desk_grading.proofs.Laws.{join_most, first_most, left_start, left_group, left_unchecked, left_passed, left_action, left_done}
use borrow.Author.Rules.{rules}
use Rattle.desk_grading.proofs.groups_grade.Goals.{then-not-checked-via-then-not-checked, then-not-checked-via-else-not-checked+then-is_passed_over}
use Rattle.desk_grading.proofs.groups_grade.Goals as goal

pub loop-rec-init : goal.loop-rec-init
loop-rec-init c = (search (rules, first_most), left_start _ _ _ _ c.records-rec-items.ensures c.no_actions-found.ensures)

pub loop-rec-preserved-then-rec-eq-GROUP : goal.loop-rec-preserved-then-rec-eq-GROUP
loop-rec-preserved-then-rec-eq-GROUP c =
    let i = c.loop-rec.invariant in
    let e = c.joined-found.ensures in
    (join_most _ _ _ e i.0, left_group _ _ _ _ _ _ i.1 _ _ _ c.loop-rec-test.true c.if-rec-eq-GROUP.true c.names_officer-officers.ensures c.no_actions.ensures e)

pub loop-rec-preserved-then-not-checked : goal.loop-rec-preserved-then-not-checked
loop-rec-preserved-then-not-checked c =
    let i = c.loop-rec.invariant in (
      i.0,
      elim c.then-not-checked.branch [
        | then-not-checked-via-then-not-checked w ↦ left_unchecked _ _ _ _ _ _ i.1 c.loop-rec-test.true c.if-rec-eq-GROUP.false w.if-not-checked.true
        | then-not-checked-via-else-not-checked+then-is_passed_over w ↦
            left_passed _ _ _ _ _ _ i.1 c.loop-rec-test.true c.if-rec-eq-GROUP.false (sym w.is_passed_over.ensures ∙ w.if-is_passed_over.true)
      ],
    )

pub loop-rec-preserved : goal.loop-rec-preserved
loop-rec-preserved c =
    let i = c.loop-rec.invariant in
    let e = c.joined-found-in-loop-rec.ensures in
    let o = sym c.is_passed_over.ensures ∙ c.if-is_passed_over.false in
    (join_most _ _ _ e i.0, left_action _ _ _ _ _ _ i.1 _ _ c.loop-rec-test.true c.if-rec-eq-GROUP.false c.if-not-checked.false o c.action_grade.ensures e)

pub returns : goal.returns
returns c = let i = c.loop-rec.invariant in left_done _ _ _ _ _ _ i.1 i.0 c.loop-rec-test.false
