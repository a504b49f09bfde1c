-- The group counts that a replacement of the ACL leaves.
use Rattle.std.specs.Prelude.{ℕ, ◌+◌, List, [], ◌∷◌, get_or, set, replicate, if◌then◌else◌}
use Rattle.rules.specs.Sizes.{groups_max}
use Rattle.rules.specs.Request.{Hint}
use Rattle.rules.specs.Gate as rulesGate
use Rattle.gate_charge.specs.Charges.{is_permit}

-- "Each new group takes its source's count": the counts of the new groups from index i on, over a table
unfoldable pub carried_from : List ℕ → ℕ → List Hint → List ℕ → List ℕ
carried_from counts i [] table = table
carried_from counts i (h ∷ hs) table = carried_from counts (i + 1) hs (set table i (get_or counts h.source 0))

-- the counts of all new groups, zero past the last
abbrev pub carried_of : List Hint → List ℕ → List ℕ
carried_of hs counts = carried_from counts 0 hs (replicate groups_max 0)

-- "zeroes all group counts"
abbrev pub no_counts : List ℕ → List ℕ
no_counts counts = replicate groups_max 0

-- the group counts that a replacement leaves: others where it is permitted, else those that were
unfoldable pub counts_after : (List ℕ → List ℕ) → rulesGate.Answer → List ℕ → List ℕ
counts_after f a counts = if is_permit a then f counts else counts
