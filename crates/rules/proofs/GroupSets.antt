-- Sets of groups as numbers: what their bits say.
use Prim.Native.Nat.{ℕ, zero, suc, ◌+◌, ◌*◌, ◌/◌, ◌%◌, ◌^◌, ◌<◌}
use native.Mathlib.Omega.{arith}
use native.Mathlib.Nat.{mod-lt}
use mathlib.Core.Path.{◌≡◌, refl, sym, ◌∙◌, ap}
use mathlib.Core.List.{List, [], ◌∷◌}
use mathlib.Core.Bool.{Bool, true, false, ◌||◌}
use lib.ListN.{get_elem?}
use lib.Dec.{eqb}
use lib.Pow.{shr-shr}
use lib.Bits.{bit_or, or_shr, or_mod}
use Rattle.std.specs.Prelude.{if◌then◌else◌}
use Rattle.rules.specs.Basics.{bit, holds_at, set_of}
use Rattle.rules.specs.Acl.{Group}
use Rattle.rules.proofs.Sets.{set_rest}

-- The lowest bit of a number, and the others.
pub bit_zero : (n : ℕ) → bit 0 n ≡ eqb (n % 2) 1
bit_zero n = ap (λ (k : ℕ). eqb (k % 2) 1) (div1 n)
  where
    div1 : (n : ℕ) → n / 1 ≡ n
    div1 n = omega arith

pub bit_suc : (k n : ℕ) → bit (suc k) n ≡ bit k (n / 2)
bit_suc k n = ap (λ (m : ℕ). eqb (m % 2) 1) (sym (shr-shr n 1 k ∙ ap (λ (j : ℕ). n / 2 ^ j) one))
  where
    one : 1 + k ≡ suc k
    one = omega arith

-- a number of one digit more
abbrev pub digit : Bool → ℕ
digit b = if b then 1 else 0

pub digit_odd : (b : Bool) (n : ℕ) → (digit b + 2 * n) % 2 ≡ digit b
digit_odd true n = omega arith
digit_odd false n = omega arith

pub digit_bit : (b : Bool) → eqb (digit b) 1 ≡ b
digit_bit true = refl
digit_bit false = refl

-- A set has exactly the groups that pass its test.
pub set_exact : (test : Group → Bool) (gs : List Group) (i : ℕ) → bit i (set_of test gs) ≡ holds_at test (get_elem? gs i)
unfolding set_of
set_exact test [] zero = refl
set_exact test [] (suc i) = bit_suc i 0 ∙ set_exact test [] i
set_exact test (g ∷ gs) zero = bit_zero (digit (test g) + 2 * set_of test gs) ∙ ap (λ (k : ℕ). eqb k 1) (digit_odd (test g) (set_of test gs)) ∙ digit_bit (test g)
set_exact test (g ∷ gs) (suc i) =
    bit_suc i (digit (test g) + 2 * set_of test gs) ∙ ap (bit i) (set_rest (test g) (set_of test gs)) ∙ set_exact test gs i

-- the bits of two numbers joined
pub bit_or_lem : (p a b : ℕ) → bit p (bit_or a b) ≡ (bit p a || bit p b)
bit_or_lem p a b = ap (λ (n : ℕ). eqb (n % 2) 1) (or_shr a b p) ∙ ap (λ (n : ℕ). eqb n 1) (or_mod (a / 2 ^ p) (b / 2 ^ p) 1) ∙ last (a / 2 ^ p % 2) (b / 2 ^ p % 2) (mod-lt (a / 2 ^ p) (omega arith)) (mod-lt (b / 2 ^ p) (omega arith))
  where
    last : (x y : ℕ) → x < 2 → y < 2 → eqb (bit_or x y) 1 ≡ (eqb x 1 || eqb y 1)
    last zero y h k = refl
    last (suc zero) zero h k = refl
    last (suc zero) (suc zero) h k = refl
    last (suc zero) (suc (suc y)) h k = absurd (omega arith)
    last (suc (suc x)) y h k = absurd (omega arith)
