use mathlib.Core.Path.{sym}
use Rattle.text_states.specs.States.{state_as}
use Rattle.text_files.proofs.Laws.{small}
use Rattle.text_acl.proofs.Writing.{passed_on, write_faulty}
use Rattle.text_files.proofs.write_from.Goals as goal

pub returns-in_err-file_fault : goal.returns-in_err-file_fault
returns-in_err-file_fault c = rw (passed_on _ _ c.from_residual.ensures) (write_faulty _ _ _ _ c.in_err-file_fault.ensures)

pub write_sound-requires : goal.write_sound-requires
write_sound-requires c = (sym c.in_ok-file_fault.ensures, small (state_as c.args.start) c.args.file.now (sym c.in_ok-file_fault.ensures))
