use Rattle.text_acl.proofs.Writing.{line_lent, line_inside, line_copied}
use borrow.Author.Rules.{rules}
use Rattle.text_acl.proofs.put_line.Goals as goal

pub slice_bounds-append-end : goal.slice_bounds-append-end
slice_bounds-append-end c = search (rules, line_lent)

pub append-requires : goal.append-requires
append-requires c = search (rules, line_inside)

pub returns : goal.returns
returns c = search (rules, line_copied)
