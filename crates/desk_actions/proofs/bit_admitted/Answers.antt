use Rattle.desk_actions.proofs.Laws.{bit_unset, bit_set}
use borrow.Author.Rules.{rules}
use Rattle.desk_actions.proofs.bit_admitted.Goals as goal

pub returns-then-not-bit_of : goal.returns-then-not-bit_of
returns-then-not-bit_of c = search (rules, bit_unset)

pub returns : goal.returns
returns c = search (rules, bit_set)
