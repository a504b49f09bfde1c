-- The groups that a run need not walk: once a group is spent it stays so for the rest of the run, since counts only grow and no time goes back.
use Rattle.std.specs.Prelude.{ℕ, ◌-◌, ◌≤◌, List, ◌≡◌, Bool, false, get_or}
use Rattle.std.specs.Int.Bits.{bit_and}
use Rattle.rules.specs.Sizes.{set_bits}
use Rattle.run_limits.specs.declared.row.Row.{Row}
use Rattle.run_decision.specs.GroupSets.{first_in}
use Rattle.run_decision.specs.Members.{left_at}

-- a table with no less at any place
unfoldable pub NoLess : List ℕ → List ℕ → Type 0
NoLess before now = (i : ℕ) → get_or before i 0 ≤ get_or now i 0

-- whatever set of groups is walked, those of it that are unspent at first give the group that those certified give
unfoldable pub Opened : (ℕ → Bool) → ℕ → ℕ → Type 0
Opened left certified unspent = (set : ℕ) → first_in left set_bits (bit_and set unspent) ≡ first_in left set_bits (bit_and set certified)

-- whatever is used from now on, and whatever the time since load, if that is at least `since`
unfoldable pub OpenFrom : List ℕ → List ℕ → ℕ → List Row → ℕ → ℕ → Type 0
OpenFrom counts counters since rows certified unspent =
    (counts' counters' : List ℕ) (elapsed : ℕ) → NoLess counts counts' → NoLess counters counters' → since ≤ elapsed
    → Opened (left_at counts' counters' elapsed rows) certified unspent

-- a set without members that are spent: whatever test they all fail gives, of any set walked, the same group by it
unfoldable pub Closes : (ℕ → Bool) → ℕ → ℕ → Type 0
Closes left unspent still =
    (test : ℕ → Bool) → ((k : ℕ) → left k ≡ false → test k ≡ false) → (set : ℕ) → first_in test set_bits (bit_and set still) ≡ first_in test set_bits (bit_and set unspent)

-- the groups to walk at a request that does not come too early
unfoldable pub OpenAt : List ℕ → List ℕ → ℕ → ℕ → ℕ → List Row → ℕ → ℕ → Type 0
OpenAt counts counters loaded last time rows certified unspent =
    last ≤ time → Opened (left_at counts counters (time - loaded) rows) certified unspent
