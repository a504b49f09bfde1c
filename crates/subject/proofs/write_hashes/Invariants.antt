use Prim.Native.Nat.{◌≤◌, ◌-◌, ◌%◌}
use mathlib.Core.Path.{◌≡◌}
use lib.ListN.{length}
use Rattle.rules.specs.Sizes.{hash_bytes}
use Rattle.subject.proofs.Laws.{copied}
use Rattle.subject.proofs.write_hashes.Given as goal

abbrev pub invariant-loop-at : goal.invariant-loop-at
invariant-loop-at l = (l.at ≤ length l.hashes) × ((l.at % hash_bytes ≡ 0) × ((length l.buffer ≡ length l.initial.buffer) × (l.buffer ≡ copied l.hashes l.initial.buffer l.at)))

abbrev pub decreases-loop-at : goal.decreases-loop-at
decreases-loop-at l = length l.hashes - l.at
