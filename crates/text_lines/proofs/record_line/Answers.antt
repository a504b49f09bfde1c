use Rattle.text_lines.proofs.Laws.{record_6, record_7, record_8, record_9, record_10, record_11, record_12, record_13, record_14, record_other}
use borrow.Author.Rules.{rules}
use Rattle.text_lines.proofs.record_line.Goals as goal

pub returns-in-6 : goal.returns-in-6
returns-in-6 c = search (rules, record_6)

pub returns-in-7 : goal.returns-in-7
returns-in-7 c = search (rules, record_7)

pub returns-in-8 : goal.returns-in-8
returns-in-8 c = search (rules, record_8)

pub returns-in-9 : goal.returns-in-9
returns-in-9 c = search (rules, record_9)

pub returns-in-10 : goal.returns-in-10
returns-in-10 c = search (rules, record_10)

pub returns-in-11 : goal.returns-in-11
returns-in-11 c = search (rules, record_11)

pub returns-in-12 : goal.returns-in-12
returns-in-12 c = search (rules, record_12)

pub returns-in-13 : goal.returns-in-13
returns-in-13 c = search (rules, record_13)

pub returns-in-14 : goal.returns-in-14
returns-in-14 c = search (rules, record_14)

pub returns-in_default : goal.returns-in_default
returns-in_default c = search (rules, record_other)
