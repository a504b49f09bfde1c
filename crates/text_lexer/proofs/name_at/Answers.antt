use Rattle.std.proofs.Common.{rules}
use Rattle.text_lexer.proofs.Laws.{searched_none, searched_here, searched_next, searched_all}
use Rattle.text_lexer.proofs.name_at.Goals as goal

pub loop-i-init : goal.loop-i-init
loop-i-init c = (search rules, search rules, search (rules, searched_none))

pub returns-then-word_stands : goal.returns-then-word_stands
returns-then-word_stands c = search (rules, searched_here)

pub loop-i-preserved : goal.loop-i-preserved
loop-i-preserved c = (search rules, search rules, search (rules, searched_next))

pub returns : goal.returns
returns c = search (rules, searched_all)
