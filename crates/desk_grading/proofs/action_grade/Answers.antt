use Rattle.desk_grading.proofs.Laws.{graded_permissions, graded_blob, graded_archive}
use Rattle.desk_grading.proofs.action_grade.Goals as goal

pub returns-then-kind-eq-OP_PERMISSIONS : goal.returns-then-kind-eq-OP_PERMISSIONS
returns-then-kind-eq-OP_PERMISSIONS c = λ f. graded_permissions _ _ _ _ f _ c.if-kind-eq-OP_PERMISSIONS.true c.permission_step.ensures

pub returns-then-kind-eq-MAKE_BLOB : goal.returns-then-kind-eq-MAKE_BLOB
returns-then-kind-eq-MAKE_BLOB c = λ f. graded_blob _ _ _ _ f _ _ c.if-kind-eq-MAKE_BLOB.true c.blob_steps.ensures c.blob_protection.ensures

pub returns : goal.returns
returns c = λ f. graded_archive _ _ _ _ f _ c.if-kind-eq-OP_PERMISSIONS.false c.if-kind-eq-MAKE_BLOB.false c.archive_steps.ensures
