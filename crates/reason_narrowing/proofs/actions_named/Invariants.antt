use mathlib.Core.Path.{◌≡◌}
use Rattle.rules.specs.Basics.{records}
use Rattle.rules.specs.Acl.{actions_of}
use Rattle.reason_narrowing.specs.Breaches.{actions_named}
use Rattle.reason_narrowing.proofs.actions_named.Given as goal

abbrev pub invariant-loop : goal.invariant-loop
invariant-loop l =
    actions_named (actions_of (records l.iterator'.0.now)) l.left (actions_of (records l.old)) ≡ actions_named (actions_of (records l.new)) l.hints (actions_of (records l.old))
