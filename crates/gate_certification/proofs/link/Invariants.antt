use Prim.Native.Nat.{ℕ, ◌<◌}
use mathlib.Core.Path.{◌≡◌}
use mathlib.Core.List.{[]}
use lib.ListN.{length, get_or}
use Rattle.rules.specs.Basics.{part, set_of}
use Rattle.rules.specs.Request.{delegations_of}
use Rattle.gate_certification.specs.Levels.{leads_to}
use Rattle.gate_certification.proofs.link.Given as goal

abbrev pub invariant-loop-i : goal.invariant-loop-i
invariant-loop-i l = (length l.links ≡ 64) × ((k : ℕ) → k < l.i → get_or l.links k 0 ≡ set_of (leads_to (part 4 20 (get_or l.recs k []))) (delegations_of l.dels))
