use mathlib.Core.Path.{◌≡◌}
use lib.ListN.{drop}
use Rattle.rules.specs.Basics.{records}
use Rattle.rules.specs.Acl.{actions_of}
use Rattle.rules.specs.Narrow.{actions_no_wider}
use Rattle.gate_narrowing.proofs.actions_no_wider.Given as goal

abbrev pub invariant-loop-act : goal.invariant-loop-act
invariant-loop-act l =
    (actions_of (records l.ahead.0.now) ≡ drop l.low (actions_of (records l.old)))
    × (actions_no_wider (actions_of (records l.act-iterator.0.now)) l.left (actions_of (records l.old)) ≡ actions_no_wider (actions_of (records l.new)) l.hints (actions_of (records l.old)))
