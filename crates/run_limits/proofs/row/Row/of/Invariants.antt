use lib.ListN.{drop}
use Rattle.rules.specs.Acl.{limits_of}
use Rattle.run_limits.proofs.Filling.{Reading}
use Rattle.run_limits.proofs.row.Row.of.Given as goal

abbrev pub invariant-loop-rec : goal.invariant-loop-rec
invariant-loop-rec l = Reading l.row (limits_of l.rec-items) (limits_of (drop l.rec-index l.rec-items))
