use Rattle.text_lexer.proofs.Laws.{value_below, value_decimal, value_between, value_letter, value_above}
use Rattle.std.proofs.Common.{rules}
use Rattle.text_lexer.proofs.hex_value.Goals as goal

pub returns-in-48-to-57 : goal.returns-in-48-to-57
returns-in-48-to-57 c = search (rules, value_decimal)

pub returns-in-97-to-102 : goal.returns-in-97-to-102
returns-in-97-to-102 c = search (rules, value_letter)

pub returns-in_default : goal.returns-in_default
returns-in_default c = search (rules, value_below)

pub returns-in_default-2 : goal.returns-in_default-2
returns-in_default-2 c = search (rules, value_between)

pub returns-in_default-3 : goal.returns-in_default-3
returns-in_default-3 c = search (rules, value_above)
