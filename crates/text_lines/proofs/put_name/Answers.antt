use Rattle.text_lines.proofs.Laws.{name_counted, name_room, name_held, name_none}
use borrow.Author.Rules.{rules}
use Rattle.text_lines.proofs.put_name.Goals as goal

pub append_name-requires : goal.append_name-requires
append_name-requires c = (search (rules, name_counted), search (rules, name_room))

pub returns-then-i-count : goal.returns-then-i-count
returns-then-i-count c = search (rules, name_held)

pub returns : goal.returns
returns c = search (rules, name_none)
