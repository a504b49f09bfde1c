use Rattle.record_fields.proofs.Laws.{same_length}
use borrow.Author.Rules.{rules}
use Rattle.record_fields.proofs.same_bytes.Goals as goal

pub returns-then-a-b : goal.returns-then-a-b
returns-then-a-b c = search (rules, same_length)
