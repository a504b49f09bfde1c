use Rattle.text_states.proofs.Laws.{hint_stop, hint_next}
use Rattle.text_states.proofs.hint_step.Goals as goal

pub returns-in_err-count : goal.returns-in_err-count
returns-in_err-count c = hint_stop _ _ _ c.hint_record.ensures _ _ c.from_residual.ensures c.in_err-count.ensures

pub returns : goal.returns
returns c = hint_next _ _ _ c.hint_record.ensures _ c.in_ok-count.ensures
