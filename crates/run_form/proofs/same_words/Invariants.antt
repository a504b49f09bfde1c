use mathlib.Core.Path.{◌≡◌}
use mathlib.Core.Bool.{◌&&◌}
use lib.ListN.{drop}
use Rattle.rules.specs.Basics.{same}
use Rattle.run_form.proofs.same_words.Given as goal

abbrev pub invariant-loop-i : goal.invariant-loop-i
invariant-loop-i l = (l.so_far && same (drop l.i l.a) (drop l.i l.b)) ≡ same l.a l.b
