use Rattle.rules.specs.Basics.{ascii}
use Rattle.text_lines.proofs.Laws.{row_count, use_held}
use borrow.Author.Rules.{rules}
use Rattle.text_lines.proofs.use_line.Goals as goal

pub put_name-named-requires : goal.put_name-named-requires
unfolding ascii
put_name-named-requires c = (row_count, search rules)

pub returns : goal.returns
unfolding ascii
returns c = search (rules, use_held)
