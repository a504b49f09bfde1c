use mathlib.Core.Path.{◌≡◌}
use lib.ListN.{drop}
use Rattle.std.specs.Prelude.{map}
use Rattle.reason_inputs.specs.Inputs.{is_fault, first_input, located_as}
use Rattle.reason_inputs.proofs.first_fault.Given as goal

abbrev pub invariant-loop-located : goal.invariant-loop-located
invariant-loop-located l = first_input is_fault (map located_as (drop l.located-index l.inputs)) ≡ first_input is_fault (map located_as l.inputs)
