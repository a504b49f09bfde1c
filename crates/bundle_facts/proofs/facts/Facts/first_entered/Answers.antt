use Rattle.bundle_facts.proofs.Places.{entered_none, entered_some}
use borrow.Author.Rules.{rules}
use Rattle.bundle_facts.proofs.facts.Facts.first_entered.Goals as goal

pub returns-then-end-eq0 : goal.returns-then-end-eq0
returns-then-end-eq0 c = search (rules, entered_none)

pub returns : goal.returns
returns c = search (rules, entered_some)
