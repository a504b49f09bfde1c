use Prim.Native.Nat.{◌*◌}
use mathlib.Core.Path.{◌≡◌}
use lib.ListN.{length, drop}
use Rattle.bundle_facts.specs.Places.{entries, noted_from, offsets_of, Filling}
use Rattle.bundle_facts.proofs.find_offsets.Given as goal

abbrev pub invariant-loop-n : goal.invariant-loop-n
invariant-loop-n l =
    (length l.places ≡ entries)
    × (Filling l.bundle l.places (drop l.n l.rec-items) × (noted_from l.places (l.n * 64) (drop l.n l.rec-items) ≡ offsets_of l.bundle))
