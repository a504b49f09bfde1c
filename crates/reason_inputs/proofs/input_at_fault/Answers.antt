use Rattle.reason_inputs.proofs.Laws.{handed_on, long_first, none_long}
use Rattle.reason_inputs.proofs.input_at_fault.Goals as goal

pub returns-in_err-first_length : goal.returns-in_err-first_length
returns-in_err-first_length c = long_first _ _ _ _ (handed_on _ _ c.from_residual.ensures) c.in_err-first_length.ensures

pub returns : goal.returns
returns c = none_long _ _ c.in_ok-first_length.ensures c.first_fault.ensures
