use Rattle.reason_calls.proofs.Laws.{at_granted, at_denied}
use borrow.Author.Rules.{rules}
use Rattle.reason_calls.proofs.judged_at.Goals as goal

pub returns-in-Ok : goal.returns-in-Ok
returns-in-Ok c = search (rules, at_granted)

pub returns-in-Err : goal.returns-in-Err
returns-in-Err c = search (rules, at_denied)
