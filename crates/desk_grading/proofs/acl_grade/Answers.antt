use Rattle.desk_grading.proofs.Laws.{acl_from_lem}
use Rattle.desk_grading.proofs.acl_grade.Goals as goal

pub returns : goal.returns
returns c = let t = c.of.ensures in acl_from_lem _ _ _ _ _ _ _ t.officer t.policy t.hkm t.hkre c.groups_grade.ensures
