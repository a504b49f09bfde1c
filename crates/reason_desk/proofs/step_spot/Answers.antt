use Rattle.reason_desk.proofs.Laws.{spot_none, spot_found}
use borrow.Author.Rules.{rules}
use Rattle.reason_desk.proofs.step_spot.Goals as goal

pub returns-then-n : goal.returns-then-n
returns-then-n c = search (rules, spot_none)

pub returns : goal.returns
returns c = spot_found _ _ _ _ c.from-n.ensures c.if-n.false _ c.of.ensures c.first_at_fault.result c.first_at_fault.ensures.spot
