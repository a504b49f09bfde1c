use Rattle.rules.proofs.Choices.{vias, and_is}
use Rattle.rules.specs.Layout.{certifier_mechanism}
use borrow.Author.Rules.{rules}
use Rattle.record_layout.proofs.certifier_mechanism.Goals as goal

pub returns-then-flag_of : goal.returns-then-flag_of
unfolding certifier_mechanism
returns-then-flag_of c = search (rules, vias, and_is)

pub returns : goal.returns
unfolding certifier_mechanism
returns c = search (rules, vias)
