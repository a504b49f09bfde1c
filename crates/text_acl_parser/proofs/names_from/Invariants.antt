use Prim.Native.Nat.{◌+◌, ◌≤◌, ◌-◌}
use lib.ListN.{length}
use Rattle.text_acl_parser.proofs.Laws.{Bits}
use Rattle.text_acl_parser.proofs.names_from.Given as goal

abbrev pub invariant-loop-i : goal.invariant-loop-i
invariant-loop-i l = (l.c.at ≤ l.from + l.i) × (l.i ≤ length l.names) × (l.weight ≤ 65536) × Bits l.names l.line l.from l.i l.weight l.c

abbrev pub decreases-loop-i : goal.decreases-loop-i
decreases-loop-i l = length l.names - l.i
