use Rattle.gate_restrictions.proofs.Laws.{action_3, action_4, action_5}
use borrow.Author.Rules.{rules}
use Rattle.gate_restrictions.proofs.kind_of.Goals as goal

pub returns-in-3 : goal.returns-in-3
returns-in-3 c = λ file. action_3 _ file c.in-3.is

pub returns-in-4 : goal.returns-in-4
returns-in-4 c = λ file. action_4 _ file c.in-4.is

pub returns-in_default : goal.returns-in_default
returns-in_default c = λ file. search (rules, action_5)
