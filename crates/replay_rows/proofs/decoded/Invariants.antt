use mathlib.Core.Path.{◌≡◌}
use lib.ListN.{length, take}
use Rattle.run_certificates.specs.Rows.{row_as}
use Rattle.replay_rows.specs.Given.{first_given}
use Rattle.replay_rows.proofs.decoded.Given as goal

abbrev pub invariant-loop-i : goal.invariant-loop-i
invariant-loop-i l = (length l.room ≡ 33) × (row_as (take l.i l.room) ≡ first_given l.bytes l.i)
