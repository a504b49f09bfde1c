use Prim.Native.Nat.{◌≤◌, ◌*◌}
use mathlib.Core.Path.{◌≡◌}
use lib.ListN.{length, drop}
use Rattle.rules.specs.Basics.{records, joined}
use Rattle.rules.specs.Trim.{trimmed_from, trimmed_acl}
use Rattle.trim_hints.proofs.Written.{Writing}
use Rattle.trimming.proofs.write_acl.Given as goal

abbrev pub invariant-loop-rec : goal.invariant-loop-rec
invariant-loop-rec l =
    let b = records l.facts.bundle.now in
    (l.to ≤ l.rec-index * 64)
    × ((length l.new ≡ length l.initial.new)
    × ((l.to ≤ length l.new)
    × Writing (trimmed_acl b l.acl) l.initial.new l.new (joined (trimmed_from b l.standing.checked l.standing.kept (drop l.rec-index l.rec-items))) l.to))
