-- Sets as numbers: laws for loops that make a set or read one.
use Prim.Native.Nat.{ℕ, suc, ◌+◌, ◌*◌, ◌/◌, ◌%◌, ◌^◌, ◌<◌}
use native.Mathlib.Omega.{arith}
use mathlib.Core.Path.{◌≡◌, refl}
use mathlib.Core.List.{List, [], ◌∷◌}
use mathlib.Core.Bool.{Bool, true, false}
use lib.ListN.{length}
use lib.Dec.{eqb}
use Rattle.std.specs.Prelude.{if◌then◌else◌}
use Rattle.rules.specs.Basics.{set_of}

-- the first bit of a set, and the rest of it
pub set_first : (b : Bool) (n : ℕ) → eqb (((if b then 1 else 0) + 2 * n) % 2) 1 ≡ b
set_first true n = let e : (1 + 2 * n) % 2 ≡ 1 = omega arith in rw e
set_first false n = let e : (0 + 2 * n) % 2 ≡ 0 = omega arith in rw e

pub set_rest : (b : Bool) (n : ℕ) → ((if b then 1 else 0) + 2 * n) / 2 ≡ n
set_rest true n = omega arith
set_rest false n = omega arith

-- tests that agree make the same set
pub set_alike : {A : Type 0} (t u : A → Bool) (xs : List A) → ((x : A) → t x ≡ u x) → set_of t xs ≡ set_of u xs
unfolding set_of
set_alike t u [] f = refl
set_alike t u (x ∷ xs) f = rw (f x, set_alike t u xs f)

-- a set of n elements has n bits
pub set_bits_lem : {A : Type 0} (t : A → Bool) (xs : List A) → set_of t xs < 2 ^ length xs
unfolding set_of
set_bits_lem t [] = omega arith
set_bits_lem t (x ∷ xs) = pick (t x) (set_bits_lem t xs)
  where
    pick : (b : Bool) → set_of t xs < 2 ^ length xs → (if b then 1 else 0) + 2 * set_of t xs < 2 ^ suc (length xs)
    pick true h = omega arith
    pick false h = omega arith
