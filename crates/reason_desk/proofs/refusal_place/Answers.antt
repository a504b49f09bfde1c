use Rattle.reason_desk.proofs.Laws.{refusal_is}
use borrow.Author.Rules.{rules}
use Rattle.reason_desk.proofs.refusal_place.Goals as goal

pub returns : goal.returns
returns c = search (rules, refusal_is)
