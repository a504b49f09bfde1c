use Rattle.text_acl.proofs.Writing.{passed_on}
use Rattle.text_acl.proofs.Reading.{read_bad, found_none}
use Rattle.text_files.proofs.read_from.Goals as goal

pub returns-in_err-count : goal.returns-in_err-count
returns-in_err-count c = rw (passed_on _ _ c.from_residual.ensures) (read_bad _ _ _ _ c.in_err-count.ensures)

pub read_sound-requires : goal.read_sound-requires
read_sound-requires c = found_none _ _ _ c.in_ok-count.ensures
