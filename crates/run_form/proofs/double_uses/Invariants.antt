use Rattle.run_form.proofs.Making.{Doubling}
use Rattle.run_form.proofs.double_uses.Given as goal

abbrev pub invariant-loop-set : goal.invariant-loop-set
invariant-loop-set l = Doubling l.bits l.initial.uses l.left l.set-index l.uses
