use Prim.Native.Nat.{◌*◌}
use mathlib.Core.Path.{◌≡◌}
use mathlib.Core.Bool.{◌&&◌}
use lib.ListN.{drop}
use Rattle.rules.specs.Basics.{same}
use Rattle.record_fields.proofs.Words.{same_last}
use Rattle.record_fields.proofs.same_words.Given as goal

abbrev pub invariant-loop-k : goal.invariant-loop-k
invariant-loop-k l = record {
  left : (l.so_far && same (drop (8 * l.k) l.a) (drop (8 * l.k) l.b)) ≡ same l.a l.b;
  low : (l.so_far && same_last l.a l.b) ≡ l.so_far;
}
