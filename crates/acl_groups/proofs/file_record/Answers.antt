use Rattle.acl_groups.proofs.Laws.{file_short, file_other, file_found}
use Rattle.acl_groups.proofs.file_record.Goals as goal

pub returns-in_err-first : goal.returns-in_err-first
returns-in_err-first c = rw c.from_residual.ensures (file_short _ c.in_err-first.ensures.cases)

pub returns-then-first-ne-BLOBFILE : goal.returns-then-first-ne-BLOBFILE
returns-then-first-ne-BLOBFILE c = let h = c.in_ok-first.ensures.cases in file_other _ _ h.same h.enough c.if-first-ne-BLOBFILE.true

pub returns : goal.returns
returns c = let h = c.in_ok-first.ensures.cases in file_found _ _ h.same h.enough c.if-first-ne-BLOBFILE.false
