use Rattle.acl_groups.proofs.Laws.{from_place}
use Rattle.acl_groups.proofs.from_group.Goals as goal

pub returns : goal.returns
returns c = from_place _ _ _ c.group_at-at.ensures
