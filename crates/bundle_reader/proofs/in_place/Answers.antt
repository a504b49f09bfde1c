use Rattle.bundle_reader.proofs.Laws.{order_fits, placed}
use borrow.Author.Rules.{rules}
use Rattle.bundle_reader.proofs.in_place.Goals as goal

pub overflow_add-result : goal.overflow_add-result
overflow_add-result c = search (rules, order_fits)

pub returns : goal.returns
returns c = search (rules, placed)
