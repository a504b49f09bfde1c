use mathlib.Core.Path.{◌≡◌}
use lib.ListN.{drop}
use Rattle.text_states.specs.States.{state_as}
use Rattle.text_files.proofs.Laws.{fault_after}
use Rattle.text_files.proofs.records_fault.Given as goal

abbrev pub invariant-loop-rec : goal.invariant-loop-rec
invariant-loop-rec l = fault_after (state_as l.state) (drop l.rec-index l.rec-items) ≡ fault_after (state_as l.initial.state) l.rec-items
