use Rattle.run_form.proofs.Making.{doubling_start, doubling_below, doubling_next, doubling_done}
use borrow.Author.Rules.{rules}
use Rattle.run_form.proofs.double_uses.Goals as goal

pub loop-set-init : goal.loop-set-init
loop-set-init c = search (rules, doubling_start)

pub with_digit-requires : goal.with_digit-requires
with_digit-requires c = (search (rules, doubling_below), search rules)

pub loop-set-preserved : goal.loop-set-preserved
loop-set-preserved c = search (rules, doubling_next)

pub returns : goal.returns
returns c = search (rules, doubling_done)
