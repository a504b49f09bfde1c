use Rattle.gate_admission.proofs.Laws.{asks_working, asks_recovery}
use borrow.Author.Rules.{rules}
use Rattle.gate_admission.proofs.BlobRequest.admitted.Goals as goal

pub returns-then-self-eq-BLOB : goal.returns-then-self-eq-BLOB
returns-then-self-eq-BLOB c = search (rules, asks_working)

pub returns : goal.returns
returns c = search (rules, asks_recovery)
