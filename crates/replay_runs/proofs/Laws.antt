-- A form that is given as bytes: the turns of the loop over its sets.
use Prim.Native.Nat.{ℕ, ◌+◌, ◌*◌, ◌≤◌, ◌<◌}
use native.Mathlib.Omega.{arith}
use native.Mathlib.Numerals.{add-one}
use mathlib.Core.Path.{◌≡◌, refl, sym, ◌∙◌, ap, ap₂}
use mathlib.Core.List.{List, [], ◌∷◌, ◌++◌}
use lib.ListN.{length, take, set}
use lib.Seq.{take_all, take-suc-set}
use Rattle.rules.specs.Sizes.{permissions_max}
use Rattle.rules.specs.Basics.{Bytes, number}
use Rattle.replay_runs.specs.Letters.{uses_given}

pub uses_start : (s : Bytes) → [] ≡ uses_given s 0
unfolding uses_given
uses_start s = refl

pub uses_next : (s : Bytes) (uses : List ℕ) (i n : ℕ) → take i uses ≡ uses_given s i → length uses ≡ 16 → i < 16 → n ≡ number (i * 8) 8 s → take (i + 1) (set uses i n) ≡ uses_given s (i + 1)
unfolding uses_given
uses_next s uses i n inv l h e =
    rw add-one (take-suc-set uses i n (omega arith) ∙ ap₂ (λ (xs : List ℕ) (x : ℕ). xs ++ (x ∷ [])) inv e)

pub uses_done : (s : Bytes) (uses : List ℕ) (i : ℕ) → take i uses ≡ uses_given s i → length uses ≡ 16 → i ≤ 16 → 16 ≤ i → uses ≡ uses_given s permissions_max
uses_done s uses i inv l h k = let e : i ≡ 16 = omega arith in sym (take_all i uses (omega arith)) ∙ inv ∙ ap (uses_given s) e
