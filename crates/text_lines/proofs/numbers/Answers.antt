use Rattle.text_lines.proofs.Laws.{numbers_none, numbers_more, numbers_all}
use borrow.Author.Rules.{rules}
use Rattle.text_lines.proofs.numbers.Goals as goal

pub loop-b-init : goal.loop-b-init
loop-b-init c = (search rules, search rules, search (rules, numbers_none))

pub loop-b-preserved : goal.loop-b-preserved
loop-b-preserved c = (search rules, search rules, search (rules, numbers_more))

pub returns : goal.returns
returns c = search (rules, numbers_all)
