use Rattle.record_layout.proofs.Tests.{signature_is}
use borrow.Author.Rules.{rules}
use Rattle.record_layout.proofs.signature.Goals as goal

pub returns : goal.returns
returns c = search (rules, signature_is)
