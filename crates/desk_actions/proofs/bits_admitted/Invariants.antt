use mathlib.Core.Path.{◌≡◌}
use Rattle.rules.specs.Basics.{all_below}
use Rattle.bundle_facts.specs.Found.{policy_as}
use Rattle.desk_actions.specs.Classes.{admitted_bit}
use Rattle.desk_actions.proofs.bits_admitted.Given as goal

abbrev pub invariant-loop-b : goal.invariant-loop-b
invariant-loop-b l = l.admitted ≡ all_below l.b (admitted_bit (policy_as l.policy) l.bits)
