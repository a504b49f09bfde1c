use Rattle.rules.specs.Basics.{ascii}
use Rattle.text_bytes.proofs.Permissions.{row_fits}
use Rattle.text_acl_parser.proofs.Laws.{permissions_put}
use borrow.Author.Rules.{rules}
use Rattle.text_acl_parser.proofs.permissions_from.Goals as goal

pub names_from-bits-requires : goal.names_from-bits-requires
unfolding ascii
names_from-bits-requires c = (search rules, row_fits, search rules)

pub returns : goal.returns
unfolding ascii
returns c = permissions_put _ _ _ _ _ _ _ _ _ _ c.names_from-bits.ensures c.put_header-headed.ensures c.put_number-named.ensures c.append.ensures
