use Rattle.gate_charge.proofs.Laws.{Raising}
use Rattle.gate_charge.proofs.raise_named.Given as goal

abbrev pub invariant-loop-rec : goal.invariant-loop-rec
invariant-loop-rec l = Raising l.initial.table l.rec-items l.rec-index l.table
