use Rattle.reason_calls.proofs.Laws.{judged_is}
use borrow.Author.Rules.{rules}
use Rattle.reason_calls.proofs.locate_judged.Goals as goal

pub returns : goal.returns
returns c = search (rules, judged_is)
