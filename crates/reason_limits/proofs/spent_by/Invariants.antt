use mathlib.Core.Path.{◌≡◌}
use lib.ListN.{drop}
use Rattle.rules.specs.Basics.{records}
use Rattle.rules.specs.Acl.{limits_of}
use Rattle.rules.specs.Grant.{limit_left}
use Rattle.reason_limits.specs.Limits.{first_failing}
use Rattle.reason_limits.proofs.spent_by.Given as goal

abbrev pub invariant-loop-i : goal.invariant-loop-i
invariant-loop-i l =
    first_failing (limit_left l.counters l.own l.elapsed) l.i (limits_of (drop l.i l.rec-items)) ≡ first_failing (limit_left l.counters l.own l.elapsed) 0 (limits_of (records l.body))
