use Rattle.record_layout.proofs.Tests.{fact_is}
use borrow.Author.Rules.{rules}
use Rattle.record_layout.proofs.fact.Goals as goal

pub returns : goal.returns
returns c = search (rules, fact_is)
