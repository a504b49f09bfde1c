use mathlib.Core.Path.{◌≡◌}
use lib.ListN.{drop}
use Rattle.acl_reader.specs.Places.{acl_state_as, reading}
use Rattle.acl_reader.proofs.state.State.read.Given as goal

abbrev pub invariant-loop-rec : goal.invariant-loop-rec
invariant-loop-rec l = reading (acl_state_as l.place) (drop l.rec-index l.rec-items) ≡ reading (acl_state_as l.initial.place) l.rec-items
