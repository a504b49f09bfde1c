use Prim.Native.Nat.{ℕ, ◌+◌, ◌<◌, ◌≤◌, ◌^◌}
use mathlib.Core.Path.{◌≡◌}
use mathlib.Core.Bool.{Bool}
use Rattle.rules.specs.Sizes.{groups_max}
use Rattle.run_decision.proofs.Laws.{Keeping}
use Rattle.run_decision.proofs.members.Given as goal

abbrev pub invariant-loop-left : goal.invariant-loop-left
invariant-loop-left g l =
    (l.left < 2 ^ groups_max) × (l.kept + l.left ≤ l.set)
    × ((p : ℕ → Bool) → ((k : ℕ) (r : Bool) → k < groups_max → g.F.Fn.post l.test (k, tt) r → r ≡ p k) → Keeping p l.set l.kept l.left)

abbrev pub decreases-loop-left : goal.decreases-loop-left
decreases-loop-left g l = l.left
