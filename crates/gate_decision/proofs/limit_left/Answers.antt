use Rattle.gate_decision.proofs.Laws.{sort_1, sort_2, sort_3}
use borrow.Author.Rules.{rules}
use Rattle.gate_decision.proofs.limit_left.Goals as goal

pub returns-in-1 : goal.returns-in-1
returns-in-1 c = search (rules, sort_1)

pub returns-in-2 : goal.returns-in-2
returns-in-2 c = search (rules, sort_2)

pub returns-in_default : goal.returns-in_default
returns-in_default c = search (rules, sort_3)
