use Prim.Native.Nat.{◌<◌, ◌^◌}
use mathlib.Core.Path.{◌≡◌}
use Rattle.rules.specs.Sizes.{groups_max}
use Rattle.run_decision.specs.GroupSets.{first_in}
use Rattle.run_decision.specs.Members.{left_at}
use Rattle.run_decision.specs.Opening.{Closes}
use Rattle.run_decision.proofs.plan.Plan.first_unspent.Given as goal

abbrev pub invariant-loop-left : goal.invariant-loop-left
invariant-loop-left l =
    let test = left_at l.counts l.counters l.elapsed l.self.rows.now in
    (l.left < 2 ^ groups_max) × ((l.still < 18446744073709551616) × ((first_in test 64 l.left ≡ first_in test 64 l.set) × Closes test l.unspent l.still))

abbrev pub decreases-loop-left : goal.decreases-loop-left
decreases-loop-left l = l.left
