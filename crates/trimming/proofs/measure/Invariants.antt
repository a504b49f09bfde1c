use Prim.Native.Nat.{◌≤◌, ◌*◌}
use lib.ListN.{drop}
use Rattle.rules.specs.Basics.{records}
use Rattle.trimming.proofs.Laws.{Measuring}
use Rattle.trimming.proofs.measure.Given as goal

abbrev pub invariant-loop-rec : goal.invariant-loop-rec
invariant-loop-rec l =
    (l.n ≤ l.rec-index * 64)
    × ((l.m ≤ l.rec-index * 64)
    × Measuring (records l.facts.bundle.now) l.acl l.standing.checked l.standing.kept (drop l.rec-index l.rec-items) l.n l.m)
