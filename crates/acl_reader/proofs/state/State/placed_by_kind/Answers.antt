use Rattle.rules.specs.Acl.{placed_under}
use Rattle.acl_reader.proofs.Laws.{limit_placed, action_placed}
use Rattle.rules.proofs.Choices.{picks}
use Rattle.record_layout.proofs.Chain.{chain}
use borrow.Author.Rules.{rules}
use Rattle.acl_reader.proofs.state.State.placed_by_kind.Goals as goal

pub returns-then-kind-eq-GROUP : goal.returns-then-kind-eq-GROUP
unfolding placed_under
returns-then-kind-eq-GROUP c = search (rules, picks)

pub returns-then-not-limit : goal.returns-then-not-limit
unfolding placed_under
returns-then-not-limit c = search (rules, picks, chain)

pub returns-then-kind-eq-LIMIT : goal.returns-then-kind-eq-LIMIT
unfolding placed_under
returns-then-kind-eq-LIMIT c = search (rules, picks, chain, limit_placed)

pub returns-then-not-action : goal.returns-then-not-action
unfolding placed_under
returns-then-not-action c = search (rules, picks, chain)

pub returns : goal.returns
unfolding placed_under
returns c = search (rules, picks, action_placed)
