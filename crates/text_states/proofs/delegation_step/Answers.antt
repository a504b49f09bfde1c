use Rattle.text_states.proofs.Laws.{delegation_stop, delegation_next}
use Rattle.text_states.proofs.delegation_step.Goals as goal

pub returns-in_err-count : goal.returns-in_err-count
returns-in_err-count c = delegation_stop _ _ _ _ c.requires c.delegation_record-good.ensures _ _ c.from_residual.ensures c.in_err-count.ensures

pub returns : goal.returns
returns c = delegation_next _ _ _ _ c.requires c.delegation_record-good.ensures _ c.in_ok-count.ensures
