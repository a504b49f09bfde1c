use Rattle.rules.proofs.Choices.{picks}
use borrow.Author.Rules.{rules}
use Rattle.bundle_reader.proofs.repeats.Goals as goal

pub returns-then-here-eq-LISTED_ORDER : goal.returns-then-here-eq-LISTED_ORDER
returns-then-here-eq-LISTED_ORDER c = search (rules, picks)

pub returns : goal.returns
returns c = search (rules, picks)
