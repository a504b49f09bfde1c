use Rattle.text_acl.proofs.Writing.{line_lent}
use Rattle.text_acl.proofs.Reading.{line_same}
use borrow.Author.Rules.{rules}
use Rattle.text_files.proofs.is_line.Goals as goal

pub slice_bounds-same_bytes-end : goal.slice_bounds-same_bytes-end
slice_bounds-same_bytes-end c = search (rules, line_lent)

pub returns : goal.returns
returns c = search (rules, line_same)
