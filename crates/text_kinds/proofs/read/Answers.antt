use Rattle.text_acl.proofs.Writing.{passed_on}
use Rattle.text_kinds.proofs.Laws.{read_known, read_unknown}
use Rattle.text_kinds.proofs.read.Goals as goal

pub returns-in_err-kind : goal.returns-in_err-kind
returns-in_err-kind c = rw (passed_on _ _ c.from_residual.ensures) (read_unknown _ _ _ _ c.in_err-kind.ensures)

pub returns : goal.returns
returns c = read_known _ _ _ _ _ _ c.in_ok-kind.ensures c.read.ensures
