use Rattle.rules.specs.Narrow.{no_wider}
use Rattle.gate_restrictions.proofs.Laws.{by_kinds, not_permissions, not_blob, not_archive}
use Rattle.gate_restrictions.proofs.action_no_wider.Goals as goal

pub returns-in-Permissions-Permissions : goal.returns-in-Permissions-Permissions
unfolding no_wider
returns-in-Permissions-Permissions c = let a = c.in-Permissions-Permissions in by_kinds _ _ _ _ _ (a.ensures _) (a.ensures' _) cc

pub returns-in-Blob-Blob : goal.returns-in-Blob-Blob
unfolding no_wider
returns-in-Blob-Blob c = let a = c.in-Blob-Blob in by_kinds _ _ _ _ _ (a.ensures _) (a.ensures' _) cc

pub returns-in-Archive-Archive : goal.returns-in-Archive-Archive
unfolding no_wider
returns-in-Archive-Archive c = let a = c.in-Archive-Archive in by_kinds _ _ _ _ _ (a.ensures _) (a.ensures' _) cc

pub returns-in_default : goal.returns-in_default
returns-in_default c = not_permissions _ _ _ _ _ (c.kind_of-2.ensures _) (c.in_default.ensures _) c.in_default.not-Permissions-1

pub returns-in_default-2 : goal.returns-in_default-2
returns-in_default-2 c = not_blob _ _ _ _ _ (c.kind_of-2.ensures _) (c.in_default.ensures _) c.in_default.not-Blob-1

pub returns-in_default-3 : goal.returns-in_default-3
returns-in_default-3 c = not_archive _ _ _ _ _ (c.kind_of-2.ensures _) (c.in_default.ensures _) c.in_default.not-Archive-1
