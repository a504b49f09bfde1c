use Rattle.acl_groups.proofs.Laws.{first_limits_read}
use Rattle.acl_groups.proofs.limits.Goals as goal

pub returns : goal.returns
returns c = rw (c.limit_count.ensures, c.records-all.ensures) (first_limits_read _)
