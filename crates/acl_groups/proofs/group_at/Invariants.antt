use Prim.Native.Nat.{◌+◌, ◌*◌}
use mathlib.Core.Path.{◌≡◌}
use lib.ListN.{length, drop}
use Rattle.acl_groups.specs.Parts.{group_offset}
use Rattle.acl_groups.proofs.group_at.Given as goal

abbrev pub invariant-loop-i : goal.invariant-loop-i
invariant-loop-i l = group_offset l.left (drop l.i l.rec-items) (l.at + l.i * 64) (length l.acl) ≡ group_offset l.g l.rec-items l.at (length l.acl)
