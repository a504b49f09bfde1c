use borrow.Author.Rules.{rules}
use Rattle.gate_in_place.proofs.charge.Goals as goal

pub returns : goal.returns
returns c = (search rules, rw (← c.time.ensures) c.last_after.ensures)
