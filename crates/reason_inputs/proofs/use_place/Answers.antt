use Rattle.reason_inputs.proofs.Laws.{use_other, use_same}
use borrow.Author.Rules.{rules}
use Rattle.reason_inputs.proofs.use_place.Goals as goal

pub returns-then-whole-asks_other : goal.returns-then-whole-asks_other
returns-then-whole-asks_other c = search (rules, use_other)

pub returns : goal.returns
returns c = search (rules, use_same)
