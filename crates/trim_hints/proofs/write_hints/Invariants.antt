use Prim.Native.Nat.{◌≤◌, ◌*◌}
use mathlib.Core.Path.{◌≡◌}
use lib.ListN.{length, drop}
use Rattle.rules.specs.Basics.{records, joined}
use Rattle.rules.specs.Trim.{hints_from, trim_hints}
use Rattle.trim_hints.specs.Hinting.{SoundFrom}
use Rattle.trim_hints.proofs.Written.{Writing}
use Rattle.trim_hints.proofs.write_hints.Given as goal

abbrev pub invariant-loop-i : goal.invariant-loop-i
invariant-loop-i l =
    let b = records l.facts.bundle.now in
    (l.groups ≤ l.i)
    × ((l.to ≤ l.i * 64)
    × ((length l.hints ≡ length l.initial.hints)
    × ((l.to ≤ length l.hints)
    × (SoundFrom (drop l.i l.all) l.groups × Writing (trim_hints b l.acl) l.initial.hints l.hints (joined (hints_from b l.groups (drop l.i l.all))) l.to))))
