use mathlib.Core.Path.{◌∙◌}
use Rattle.files.proofs.Passed.{fault_passed}
use Rattle.acl_reader.proofs.Laws.{fault_stopped, fault_ended}
use Rattle.acl_reader.proofs.acl_records.Goals as goal

pub returns-in_err-read : goal.returns-in_err-read
returns-in_err-read c = fault_passed _ _ c.from_residual.ensures ∙ fault_stopped _ _ _ c.start.ensures c.in_err-read.ensures

pub returns : goal.returns
returns c = fault_ended _ _ _ _ c.start.ensures c.in_ok-read.ensures c.end.ensures
