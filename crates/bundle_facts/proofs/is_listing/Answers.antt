use Rattle.bundle_facts.proofs.Laws.{lists_not, lists_if}
use borrow.Author.Rules.{rules}
use Rattle.bundle_facts.proofs.is_listing.Goals as goal

pub returns-then-not-rec : goal.returns-then-not-rec
returns-then-not-rec c = search (rules, lists_not)

pub returns : goal.returns
returns c = search (rules, lists_if)
