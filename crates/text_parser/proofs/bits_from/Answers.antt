use Rattle.rules.specs.Basics.{ascii}
use Rattle.text_bytes.proofs.Permissions.{row_fits}
use Rattle.text_parser.proofs.Laws.{bits_put}
use borrow.Author.Rules.{rules}
use Rattle.text_parser.proofs.bits_from.Goals as goal

pub names_from-bits-requires : goal.names_from-bits-requires
unfolding ascii
names_from-bits-requires c = (search rules, row_fits, search rules)

pub returns : goal.returns
unfolding ascii
returns c = bits_put _ _ _ _ _ _ _ _ c.names_from-bits.ensures c.put_number-last.ensures c.append.ensures
