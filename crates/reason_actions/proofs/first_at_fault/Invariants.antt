use Prim.Native.Nat.{◌≤◌}
use mathlib.Core.Path.{◌≡◌}
use lib.ListN.{drop}
use Rattle.rules.specs.Basics.{records}
use Rattle.rules.specs.Acl.{groups_of}
use Rattle.bundle_facts.specs.Found.{bytes_as, policy_as}
use Rattle.reason_actions.specs.Spots.{at_fault, skipped, in_groups}
use Rattle.reason_actions.proofs.Laws.{left}
use Rattle.reason_actions.proofs.first_at_fault.Given as goal

abbrev pub invariant-loop-rec : goal.invariant-loop-rec
invariant-loop-rec l =
    let t = l.terms in
    let faulty = at_fault l.graded (policy_as t.policy) (bytes_as t.hkm) (bytes_as t.hkre) in
    (l.next ≤ l.rec-index)
    × ((l.action ≤ l.rec-index)
    × (left (bytes_as t.officer) faulty l.checked l.group l.next l.action (drop l.rec-index l.rec-items) ≡ in_groups (skipped (bytes_as t.officer)) faulty 0 (groups_of (records l.acl))))
