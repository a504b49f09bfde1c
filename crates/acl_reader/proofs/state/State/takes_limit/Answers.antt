use Rattle.rules.specs.Acl.{limit_in_place}
use Rattle.acl_reader.proofs.Laws.{not_is}
use Rattle.record_layout.proofs.Chain.{chain}
use borrow.Author.Rules.{rules}
use Rattle.acl_reader.proofs.state.State.takes_limit.Goals as goal

pub returns-then-not-self : goal.returns-then-not-self
unfolding limit_in_place
returns-then-not-self c = search (rules, chain)

pub returns-then-not-self-2 : goal.returns-then-not-self-2
unfolding limit_in_place
returns-then-not-self-2 c = search (rules, chain)

pub returns : goal.returns
unfolding limit_in_place
returns c = search (rules, chain, not_is)
