use mathlib.Core.Path.{◌≡◌}
use lib.ListN.{length, take}
use Rattle.replay_runs.specs.Letters.{uses_given}
use Rattle.replay_runs.proofs.uses_of.Given as goal

abbrev pub invariant-loop-i : goal.invariant-loop-i
invariant-loop-i l = (length l.uses ≡ 16) × (take l.i l.uses ≡ uses_given l.bytes l.i)
