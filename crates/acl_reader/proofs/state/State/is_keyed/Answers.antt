use Rattle.rules.specs.Acl.{keyed}
use Rattle.acl_reader.proofs.state.State.is_keyed.Goals as goal

pub returns : goal.returns
unfolding keyed
returns c = rw c.flag_of.ensures
