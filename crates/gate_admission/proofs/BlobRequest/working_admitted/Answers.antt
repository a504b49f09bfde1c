use Rattle.gate_admission.proofs.Laws.{working_other, working_elsewhere, working_is}
use borrow.Author.Rules.{rules}
use Rattle.gate_admission.proofs.BlobRequest.working_admitted.Goals as goal

pub returns-then-act-ne-MAKE_BLOB : goal.returns-then-act-ne-MAKE_BLOB
returns-then-act-ne-MAKE_BLOB c = search (rules, working_other)

pub returns-then-not-admits_blobfile : goal.returns-then-not-admits_blobfile
returns-then-not-admits_blobfile c = search (rules, working_elsewhere)

pub returns : goal.returns
returns c = search (rules, working_is)
