use Rattle.record_fields.proofs.Laws.{blank_lent}
use borrow.Author.Rules.{rules}
use Rattle.record_fields.proofs.zero_part.Goals as goal

pub returns : goal.returns
returns c = search (rules, blank_lent)
