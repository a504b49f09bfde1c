use Prim.Native.Nat.{◌≤◌, ◌%◌}
use mathlib.Core.Path.{◌≡◌}
use mathlib.Core.List.{[]}
use lib.ListN.{length}
use Rattle.rules.specs.Request.{certificates_of}
use Rattle.rules.specs.Basics.{records_from}
use Rattle.request_reader.proofs.delegations_start.Given as goal

abbrev pub invariant-loop-at : goal.invariant-loop-at
invariant-loop-at l = (64 ≤ l.at) × ((l.at ≤ length l.req) × ((l.at % 64 ≡ 0) × (certificates_of (records_from l.req l.at) ≡ [])))

abbrev pub decreases-loop-at : goal.decreases-loop-at
decreases-loop-at l = l.at
