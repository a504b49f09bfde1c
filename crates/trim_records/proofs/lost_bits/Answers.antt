use Rattle.trim_records.proofs.Laws.{kept_most}
use borrow.Author.Rules.{rules}
use Rattle.trim_records.proofs.lost_bits.Goals as goal

pub overflow_sub-result : goal.overflow_sub-result
overflow_sub-result c = search (rules, kept_most)
