use Prim.Native.Nat.{◌-◌, ◌≤◌}
use mathlib.Core.Path.{◌≡◌}
use mathlib.Core.List.{map}
use lib.ListN.{length, drop}
use Rattle.rules.specs.Basics.{records}
use Rattle.rules.specs.Acl.{groups_of}
use Rattle.rules.specs.Request.{hint_of}
use Rattle.reason_narrowing.specs.Breaches.{narrowing_from}
use Rattle.reason_narrowing.proofs.locate_breach.Given as goal

abbrev pub invariant-loop-first : goal.invariant-loop-first
invariant-loop-first l =
    (length l.left ≤ length l.rows)
    × ((groups_of (records l.ahead.0.now) ≡ drop l.low (groups_of (records l.old)))
    × (narrowing_from (groups_of (records l.old)) l.low (length l.rows - length l.left) (groups_of (records l.first-iterator.0.now)) (map hint_of l.left)
    ≡ narrowing_from (groups_of (records l.old)) 0 0 (groups_of (records l.new)) (map hint_of (records l.hints))))
