use Rattle.bundle_facts.proofs.Laws.{policy_none, policy_some}
use borrow.Author.Rules.{rules}
use Rattle.bundle_facts.proofs.facts.Facts.policy.Goals as goal

pub returns-in-None : goal.returns-in-None
returns-in-None c = search (rules, policy_none)

pub returns-in-Some : goal.returns-in-Some
returns-in-Some c = search (rules, policy_some)
