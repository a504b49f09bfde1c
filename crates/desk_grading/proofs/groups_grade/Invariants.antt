use Prim.Native.Nat.{◌≤◌}
use mathlib.Core.Path.{◌≡◌}
use lib.ListN.{drop}
use Rattle.rules.specs.Acl.{acl_of}
use Rattle.desk_grading.specs.Grades.{graded_as, graded_together, groups_by}
use Rattle.desk_grading.proofs.Laws.{left}
use Rattle.desk_grading.proofs.groups_grade.Given as goal

abbrev pub invariant-loop-rec : goal.invariant-loop-rec
invariant-loop-rec l =
    (l.found.protection ≤ 4)
    × (graded_together (graded_as l.found) (left l.terms l.checked (drop l.rec-index l.rec-items)) ≡ groups_by l.terms (acl_of l.acl))
