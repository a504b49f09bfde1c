-- The first limit of a group that is spent.
use Rattle.std.specs.Prelude.{ℕ, suc, List, [], ◌∷◌, Bool, if◌then◌else◌}
use Rattle.std.proofs.Math.Option.{Option, none, some}
use Rattle.rules.specs.Acl.{Limit}
use Rattle.rules.specs.Grant.{limit_left}
use Rattle.reason_limits.specs.declared.SpentBy.{SpentBy}
use Rattle.reason_limits.specs.declared.SpentBy.TheVariants as by

-- the index of the first element that fails a test, of elements numbered from i
unfoldable pub first_failing : {A : Type 0} → (A → Bool) → ℕ → List A → Option ℕ
first_failing test i [] = none
first_failing test i (x ∷ xs) = if test x then first_failing test (suc i) xs else some i

-- the first limit that has nothing left; where each has, the group's own count is full
abbrev pub spent_limit : Option ℕ → SpentBy
spent_limit none = by.OwnCount
spent_limit (some i) = by.Limit i

-- what is spent of a group, by the named counters, its own count and the seconds since load
unfoldable pub spent_with : List ℕ → ℕ → ℕ → List Limit → SpentBy
spent_with counters own elapsed ms = spent_limit (first_failing (limit_left counters own elapsed) 0 ms)
