use Rattle.acl_reader.specs.Places.{keys_of}
use borrow.Author.Rules.{rules}
use Rattle.acl_reader.proofs.state.State.after_group.Goals as goal

pub returns : goal.returns
unfolding keys_of
returns c = search rules
