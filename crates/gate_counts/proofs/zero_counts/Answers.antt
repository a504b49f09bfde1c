use Rattle.gate_counts.proofs.Laws.{counts_kept, counts_replaced}
use borrow.Author.Rules.{rules}
use Rattle.gate_counts.proofs.zero_counts.Goals as goal

pub returns-then-permits : goal.returns-then-permits
returns-then-permits c = search (rules, counts_replaced)

pub returns-else-permits : goal.returns-else-permits
returns-else-permits c = search (rules, counts_kept)
