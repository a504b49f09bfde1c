use mathlib.Core.Path.{◌≡◌}
use lib.ListN.{length}
use Rattle.rules.specs.Sizes.{groups_max}
use Rattle.run_limits.proofs.Filling.{RowsTo}
use Rattle.run_limits.proofs.fill_rows.Given as goal

abbrev pub invariant-loop-k : goal.invariant-loop-k
invariant-loop-k l = (length l.rows ≡ groups_max) × RowsTo l.acl l.bodies l.rows l.k
