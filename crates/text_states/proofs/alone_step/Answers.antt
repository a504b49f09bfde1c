use Rattle.text_states.proofs.Laws.{alone_stop, alone_next}
use Rattle.text_states.proofs.alone_step.Goals as goal

pub returns-in_err-count : goal.returns-in_err-count
returns-in_err-count c = alone_stop _ _ _ c.stands_alone.ensures _ _ c.from_residual.ensures c.in_err-count.ensures

pub returns : goal.returns
returns c = alone_next _ _ _ c.stands_alone.ensures _ c.in_ok-count.ensures
