use borrow.Author.Tests.{ne_eqb}
use Rattle.subject.proofs.hashes_length.Goals as goal

pub returns-then-certificate-eq4 : goal.returns-then-certificate-eq4
returns-then-certificate-eq4 c = rw c.if-certificate-eq4.true

pub returns : goal.returns
returns c = rw (ne_eqb _ _ c.if-certificate-eq4.false)
