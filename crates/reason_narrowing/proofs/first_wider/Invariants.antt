use Prim.Native.Nat.{◌-◌, ◌≤◌}
use mathlib.Core.Path.{◌≡◌}
use lib.ListN.{length}
use Rattle.rules.specs.Basics.{records}
use Rattle.rules.specs.Acl.{actions_of}
use Rattle.reason_narrowing.specs.Breaches.{first_wider}
use Rattle.reason_narrowing.proofs.first_wider.Given as goal

abbrev pub invariant-loop-act : goal.invariant-loop-act
invariant-loop-act l =
    (length l.left ≤ length l.hints)
    × (first_wider (length l.hints - length l.left) (actions_of (records l.act-iterator.0.now)) l.left (actions_of (records l.old)) ≡ first_wider 0 (actions_of (records l.new)) l.hints (actions_of (records l.old)))
