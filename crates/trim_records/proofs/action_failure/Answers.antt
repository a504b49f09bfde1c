use Rattle.trim_records.proofs.Laws.{permission_found, blob_found, archive_found}
use Rattle.trim_records.proofs.action_failure.Goals as goal

pub returns-then-kind-eq-OP_PERMISSIONS : goal.returns-then-kind-eq-OP_PERMISSIONS
returns-then-kind-eq-OP_PERMISSIONS c = permission_found _ _ _ _ c.if-kind-eq-OP_PERMISSIONS.true c.policy.ensures c.permission_step.ensures

pub returns-then-kind-eq-MAKE_BLOB : goal.returns-then-kind-eq-MAKE_BLOB
returns-then-kind-eq-MAKE_BLOB c = blob_found _ _ _ _ c.if-kind-eq-MAKE_BLOB.true c.module_key.ensures c.blob_steps.ensures

pub returns : goal.returns
returns c = archive_found _ _ _ _ _ c.if-kind-eq-OP_PERMISSIONS.false c.if-kind-eq-MAKE_BLOB.false c.policy-2.ensures c.recovery_key.ensures c.archive_steps.ensures
