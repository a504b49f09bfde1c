-- How a run judges: by sets of groups, each a number, bit i for group i.
use Rattle.std.specs.Prelude.{ℕ, zero, suc, ◌/◌, ◌%◌, ◌<◌, ◌≡◌, List, Bool, ◌&&◌, Some, None, eqb, if◌then◌else◌}
use Rattle.std.specs.Prelude as prelude
use Rattle.std.proofs.Math.Option.{Option, none, some}
use Rattle.std.proofs.Math.ListN.{get_elem?}
use Rattle.std.specs.Int.Bits.{bit_and}
use Rattle.std.specs.Int.Count.{count_trailing_zeros}
use Rattle.rules.specs.Sizes.{set_bits}
use Rattle.rules.specs.Basics.{holds_at}
use Rattle.rules.specs.Acl.{Group}
use Rattle.rules.specs.Request.{Request}
use Rattle.rules.specs.Ledger.{Ledger}
use Rattle.rules.specs.Grant.{unspent}
use Rattle.rules.specs.Gate.{Lowest, not_found, group, unadmitted, uncertified, exhausted, Judgement, granted, denied, or_else}

-- The lowest member of a set that passes a test of its place, of the lowest w bits; w where none does.
unfoldable pub first_in : (ℕ → Bool) → ℕ → ℕ → ℕ
first_in test zero n = 0
first_in test (suc w) n = if eqb (n % 2) 1 && test 0 then 0 else suc (first_in (λ k. test (suc k)) w (n / 2))

-- a place that is found, or none: then the number is past the last place
abbrev pub IsPlace : prelude.Option ℕ → ℕ → Type 0
IsPlace None n = n ≡ set_bits
IsPlace (Some k) n = (n ≡ k) × (k < set_bits)

-- an optional group, with its index
abbrev pub placed_at : ℕ → Option Group → Lowest
placed_at place none = not_found
placed_at place (some g) = group place g

-- the group of an ACL at an index, if there is one
abbrev pub placed : List Group → ℕ → Lowest
placed gs k = placed_at k (get_elem? gs k)

-- The judgement by two sets: the groups that admit, those that are certified, and a test of the places in both.
unfoldable pub judged_by_sets : List Group → ℕ → ℕ → (ℕ → Bool) → Judgement
judged_by_sets gs admitting certifying left =
    let both = bit_and admitting certifying in
    or_else (placed gs (first_in left set_bits both)) granted
    (or_else (placed gs (count_trailing_zeros set_bits both)) (λ place g. denied (exhausted place g))
    (or_else (placed gs (count_trailing_zeros set_bits admitting)) (λ place g. denied (uncertified place g))
    (denied unadmitted)))

-- there is a group at an index, and it is unspent
abbrev pub unspent_at : Ledger → Request → List Group → ℕ → Bool
unspent_at l q gs k = holds_at (unspent l k q) (get_elem? gs k)
