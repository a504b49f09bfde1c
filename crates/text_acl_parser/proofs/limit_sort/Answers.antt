use Rattle.text_acl_parser.proofs.Laws.{sort_odd, sort_even}
use borrow.Author.Rules.{rules}
use Rattle.text_acl_parser.proofs.limit_sort.Goals as goal

pub returns-then-flags-eq1 : goal.returns-then-flags-eq1
returns-then-flags-eq1 c = search (rules, sort_odd)

pub returns : goal.returns
returns c = search (rules, sort_even)
