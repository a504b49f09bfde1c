use Rattle.text_states.proofs.Laws.{certificate_stop, certificate_next}
use Rattle.text_states.proofs.certificate_step.Goals as goal

pub returns-in_err-count : goal.returns-in_err-count
returns-in_err-count c = certificate_stop _ _ _ _ c.requires c.certificate_record.ensures _ _ c.from_residual.ensures c.in_err-count.ensures

pub returns : goal.returns
returns c = certificate_next _ _ _ _ c.requires c.certificate_record.ensures _ c.in_ok-count.ensures
