use lib.ListN.{length-set}
use Rattle.run_requests.proofs.Writing.{stored_four}
use borrow.Author.Rules.{rules}
use Rattle.run_requests.proofs.put32.Goals as goal

pub bounds-buf-at-2 : goal.bounds-buf-at-2
bounds-buf-at-2 c = simp length-set (search rules)

pub bounds-buf-at-3 : goal.bounds-buf-at-3
bounds-buf-at-3 c = simp length-set (search rules)

pub bounds-buf-at-4 : goal.bounds-buf-at-4
bounds-buf-at-4 c = simp length-set (search rules)

pub returns : goal.returns
returns c = stored_four _ _ _ (search rules)
