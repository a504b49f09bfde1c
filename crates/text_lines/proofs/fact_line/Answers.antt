use Rattle.rules.specs.Basics.{ascii}
use Rattle.text_lines.proofs.Laws.{field_count, fact_held}
use borrow.Author.Rules.{rules}
use Rattle.text_lines.proofs.fact_line.Goals as goal

pub put_name-named-requires : goal.put_name-named-requires
unfolding ascii
put_name-named-requires c = (field_count, search rules)

pub returns : goal.returns
unfolding ascii
returns c = search (rules, fact_held)
