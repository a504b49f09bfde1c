use Rattle.gate_counts.proofs.Laws.{counts_kept, counts_replaced}
use borrow.Author.Rules.{rules}
use Rattle.gate_counts.proofs.carry_counts.Goals as goal

pub returns-then-permits : goal.returns-then-permits
returns-then-permits c = counts_replaced _ _ _ _ c.permits.ensures c.if-permits.true _ (rw (c.carry_all.ensures, c.replace-from.ensures.value, c.replace-from.ensures.after))

pub returns-else-permits : goal.returns-else-permits
returns-else-permits c = search (rules, counts_kept)
