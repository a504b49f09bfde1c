use mathlib.Core.Path.{◌≡◌}
use mathlib.Core.List.{map}
use lib.ListN.{drop}
use Rattle.rules.specs.Basics.{records}
use Rattle.rules.specs.Acl.{groups_of}
use Rattle.rules.specs.Request.{hint_of}
use Rattle.rules.specs.Narrow.{narrows_from}
use Rattle.gate_narrowing.proofs.shows_narrowing.Given as goal

abbrev pub invariant-loop-first : goal.invariant-loop-first
invariant-loop-first l =
    (groups_of (records l.ahead.0.now) ≡ drop l.low (groups_of (records l.old)))
    × (narrows_from (groups_of (records l.old)) l.low (groups_of (records l.first-iterator.0.now)) (map hint_of l.left)
    ≡ narrows_from (groups_of (records l.old)) 0 (groups_of (records l.new)) (map hint_of (records l.hints)))
