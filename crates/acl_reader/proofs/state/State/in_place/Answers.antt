use Rattle.rules.specs.Acl.{in_place_under}
use Rattle.rules.proofs.Choices.{picks}
use borrow.Author.Rules.{rules}
use Rattle.acl_reader.proofs.state.State.in_place.Goals as goal

pub returns-then-self : goal.returns-then-self
unfolding in_place_under
returns-then-self c = search (rules, picks)

pub returns : goal.returns
unfolding in_place_under
returns c = search (rules, picks)
