use Rattle.bundle_facts.proofs.Laws.{outcome_none, outcome_some}
use borrow.Author.Rules.{rules}
use Rattle.bundle_facts.proofs.facts.Facts.outcome.Goals as goal

pub returns-in_err-rec : goal.returns-in_err-rec
returns-in_err-rec c = search (rules, outcome_none)

pub returns : goal.returns
returns c = search (rules, outcome_some)
