use Rattle.rules.specs.Basics.{ascii}
use Rattle.text_acl_lines.proofs.Laws.{line_1, line_2, line_3, line_4, line_5, line_other}
use borrow.Author.Rules.{rules}
use Rattle.text_acl_lines.proofs.line_of.Goals as goal

pub returns-in-1 : goal.returns-in-1
unfolding ascii
returns-in-1 c = search (rules, line_1)

pub returns-in-2 : goal.returns-in-2
returns-in-2 c = search (rules, line_2)

pub returns-in-3 : goal.returns-in-3
returns-in-3 c = search (rules, line_3)

pub returns-in-4 : goal.returns-in-4
returns-in-4 c = search (rules, line_4)

pub returns-in-5 : goal.returns-in-5
unfolding ascii
returns-in-5 c = search (rules, line_5)

pub returns-in_default : goal.returns-in_default
returns-in_default c = search (rules, line_other)
