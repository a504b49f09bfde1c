use mathlib.Core.Path.{sym}
use Rattle.run_form.proofs.Preparing.{file_few, not_prepared, is_prepared}
use Rattle.run_form.proofs.prepare.Goals as goal

pub form_of-requires : goal.form_of-requires
form_of-requires c = file_few _ (sym c.in_ok-acl_file.ensures)

pub returns : goal.returns
returns c = is_prepared _ _ (sym c.in_ok-acl_file.ensures) c.form_of.ensures

pub returns-in_err-acl_file : goal.returns-in_err-acl_file
returns-in_err-acl_file c = not_prepared _ _ _ c.from_residual.ensures c.in_err-acl_file.ensures
