use Rattle.record_layout.proofs.Tests.{policy_is}
use borrow.Author.Rules.{rules}
use Rattle.record_layout.proofs.policy.Goals as goal

pub returns : goal.returns
returns c = search (rules, policy_is)
