use Prim.Native.Nat.{◌-◌}
use mathlib.Core.Path.{◌≡◌}
use Rattle.bundle_facts.specs.Found.{policy_as}
use Rattle.reason_actions.specs.Spots.{unadmitted_from}
use Rattle.reason_actions.proofs.lowest_unadmitted.Given as goal

abbrev pub invariant-loop-b : goal.invariant-loop-b
invariant-loop-b l = unadmitted_from (policy_as l.policy) l.bits (16 - l.b) l.b ≡ unadmitted_from (policy_as l.policy) l.bits 16 0
