use mathlib.Core.Path.{◌≡◌}
use Rattle.bundle_facts.specs.Found.{policy_as}
use Rattle.trim_records.proofs.Laws.{kept_to}
use Rattle.trim_records.proofs.kept_bits.Given as goal

abbrev pub invariant-loop-b : goal.invariant-loop-b
invariant-loop-b l = l.kept ≡ kept_to (policy_as l.policy) l.bits l.b
