use Rattle.run_certificates.specs.Rows.{row_as}
use Rattle.run_certificates.proofs.Marks.{Marking}
use Rattle.run_certificates.proofs.certified_groups.Given as goal

abbrev pub invariant-loop-rec : goal.invariant-loop-rec
invariant-loop-rec l = Marking (row_as l.row) l.acl l.rec-iterator.iter.rest.now l.set
