use mathlib.Core.Path.{◌≡◌}
use lib.ListN.{drop}
use Rattle.text_states.specs.States.{state_as, kind_from}
use Rattle.reason_files.specs.Places.{records_place}
use Rattle.reason_files.proofs.other_records.Given as goal

abbrev pub invariant-loop-index : goal.invariant-loop-index
invariant-loop-index l = records_place (kind_from (state_as l.initial.state)) (state_as l.state) l.index (drop l.index l.records) ≡ records_place (kind_from (state_as l.initial.state)) (state_as l.initial.state) 0 l.records
