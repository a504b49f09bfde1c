use Rattle.bundle_facts.specs.Places.{entry_of}
use Rattle.rules.proofs.Choices.{picks}
use borrow.Author.Rules.{rules}
use Rattle.bundle_facts.proofs.entry.Goals as goal

pub returns-then-kind-number : goal.returns-then-kind-number
unfolding entry_of
returns-then-kind-number c = search (rules, picks)

pub returns-then-kind-number-2 : goal.returns-then-kind-number-2
unfolding entry_of
returns-then-kind-number-2 c = search (rules, picks)

pub returns-then-kind-eq-POLICY : goal.returns-then-kind-eq-POLICY
unfolding entry_of
returns-then-kind-eq-POLICY c = search (rules, picks)

pub returns : goal.returns
unfolding entry_of
returns c = search (rules, picks)
