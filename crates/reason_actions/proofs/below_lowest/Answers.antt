use Rattle.reason_actions.proofs.Laws.{below_other, below_blob}
use Rattle.reason_actions.proofs.below_lowest.Goals as goal

pub returns-then-rec-ne-MAKE_BLOB : goal.returns-then-rec-ne-MAKE_BLOB
returns-then-rec-ne-MAKE_BLOB c = λ file. below_other _ _ file c.if-rec-ne-MAKE_BLOB.true

pub returns : goal.returns
returns c = λ file. below_blob _ _ file c.if-rec-ne-MAKE_BLOB.false _ c.blob_protection.ensures
