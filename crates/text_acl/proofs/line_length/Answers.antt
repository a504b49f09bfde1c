use Rattle.text_acl.proofs.Writing.{line_long}
use borrow.Author.Rules.{rules}
use Rattle.text_acl.proofs.line_length.Goals as goal

pub returns : goal.returns
returns c = search (rules, line_long)
