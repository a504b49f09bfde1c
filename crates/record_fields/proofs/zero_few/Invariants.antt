use mathlib.Core.Path.{◌≡◌}
use mathlib.Core.Bool.{◌&&◌}
use lib.ListN.{drop}
use Rattle.rules.specs.Basics.{all_zero}
use Rattle.record_fields.proofs.zero_few.Given as goal

abbrev pub invariant-loop-byte : goal.invariant-loop-byte
invariant-loop-byte l = (l.so_far && all_zero (drop l.byte-index l.s)) ≡ all_zero l.s
