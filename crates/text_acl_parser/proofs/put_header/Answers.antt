use Rattle.text_acl_parser.proofs.Laws.{head_put}
use borrow.Author.Rules.{rules}
use Rattle.text_acl_parser.proofs.put_header.Goals as goal

pub returns : goal.returns
returns c = search (rules, head_put)
