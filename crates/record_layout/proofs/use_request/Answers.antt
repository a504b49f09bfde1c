use Rattle.record_layout.proofs.Tests.{use_is}
use borrow.Author.Rules.{rules}
use Rattle.record_layout.proofs.use_request.Goals as goal

pub returns : goal.returns
returns c = search (rules, use_is)
