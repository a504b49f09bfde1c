use Rattle.reason_calls.proofs.Laws.{spent_is}
use borrow.Author.Rules.{rules}
use Rattle.reason_calls.proofs.spent_at.Goals as goal

pub returns-in-Spent : goal.returns-in-Spent
returns-in-Spent c = search (rules, spent_is)
