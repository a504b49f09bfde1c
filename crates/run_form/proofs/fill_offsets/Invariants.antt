use Rattle.rules.specs.Basics.{records}
use Rattle.run_form.specs.Places.{offsets_from}
use Rattle.run_form.proofs.Placing.{Placing}
use Rattle.run_form.proofs.fill_offsets.Given as goal

abbrev pub invariant-loop-i : goal.invariant-loop-i
invariant-loop-i l = Placing l.acl l.rec-items l.bodies (offsets_from l.initial.bodies 0 0 (records l.acl)) l.g l.i
