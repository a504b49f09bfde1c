use Rattle.rules.specs.Bundle.{order_of}
use Rattle.rules.proofs.Choices.{picks}
use borrow.Author.Rules.{rules}
use Rattle.bundle_reader.proofs.record_order.Goals as goal

pub returns-then-kind-eq-POLICY : goal.returns-then-kind-eq-POLICY
unfolding order_of
returns-then-kind-eq-POLICY c = search (rules, picks)

pub returns : goal.returns
unfolding order_of
returns c = search (rules, picks)
