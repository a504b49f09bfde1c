use Rattle.run_form.proofs.Making.{Passing}
use Rattle.run_form.proofs.form_of.Given as goal

abbrev pub invariant-loop-rec : goal.invariant-loop-rec
invariant-loop-rec l = Passing l.acl l.rec-iterator.iter.rest.now l.uses l.working l.recovery l.bits l.blob l.archive
