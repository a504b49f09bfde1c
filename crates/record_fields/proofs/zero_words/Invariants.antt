use Prim.Native.Nat.{◌*◌, ◌-◌}
use mathlib.Core.Path.{◌≡◌}
use mathlib.Core.Bool.{◌&&◌}
use lib.ListN.{length, drop}
use Rattle.rules.specs.Basics.{all_zero, blank}
use Rattle.record_fields.proofs.zero_words.Given as goal

abbrev pub invariant-loop-k : goal.invariant-loop-k
invariant-loop-k l = record {
  left : (l.so_far && all_zero (drop (8 * l.k) l.s)) ≡ all_zero l.s;
  low : (l.so_far && blank (length l.s - 8) 8 l.s) ≡ l.so_far;
}
