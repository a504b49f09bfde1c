-- The state of the ACL reader after a line, if the line is good.
use Rattle.std.specs.Prelude as std
use Rattle.std.proofs.Math.Option.{Option, none, some}
use Rattle.rules.specs.Acl.{AclState}
use Rattle.acl_reader.specs.declared.state.State.{State}
use Rattle.acl_reader.specs.Places.{acl_state_as}

abbrev pub place_as : std.Option State → Option AclState
place_as std.None = none
place_as (std.Some p) = some (acl_state_as p)
