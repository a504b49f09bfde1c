use Rattle.gate_certification.proofs.Laws.{serves_not, serves_is}
use borrow.Author.Rules.{rules}
use Rattle.gate_certification.proofs.certificate_serves.Goals as goal

pub returns-then-same_bytes : goal.returns-then-same_bytes
returns-then-same_bytes c = search (rules, serves_is)

pub returns-else-same_bytes : goal.returns-else-same_bytes
returns-else-same_bytes c = search (rules, serves_not)
