-- The bits that a trimming keeps (specs/Trim.antt): each is set exactly if it was set and passes.
use Prim.Native.Nat.{ℕ, zero, suc, ◌+◌, ◌-◌, ◌*◌, ◌/◌, ◌%◌, ◌^◌, ◌<◌}
use native.Mathlib.Omega.{arith}
use native.Mathlib.Nat.{add-zero, add-suc, pow-succ', add-mul-div_left, div-eq_of_lt}
use mathlib.Core.Path.{◌≡◌, refl, ◌∙◌, ap}
use mathlib.Core.Logic.{◌≢◌}
use mathlib.Core.Bool.{Bool, true, false, ◌&&◌}
use lib.Dec.{eqb}
use borrow.Author.Tests.{eqb-true, eqb-false}
use Rattle.std.specs.Prelude.{if◌then◌else◌}
use Rattle.rules.specs.Basics.{bit}
use Rattle.rules.specs.Trim.{kept_below}

pow_positive : (k : ℕ) → 0 < 2 ^ k
pow_positive zero = omega arith
pow_positive (suc k) = let e = pow_positive k in let d = pow-succ' 2 k in omega arith

pow_sum : (i j : ℕ) → 2 ^ (i + j) ≡ 2 ^ i * 2 ^ j
pow_sum i zero = rw add-zero (omega arith)
pow_sum i (suc j) = let e = pow_sum i j in let d = pow-succ' 2 (i + j) in let f = pow-succ' 2 j in rw (add-suc, d, e, f) (omega arith)

-- the value of one place
abbrev value : Bool → ℕ → ℕ
value t k = if t then 2 ^ k else 0

pub kept_below_lem : (k : ℕ) (p : ℕ → Bool) (bits : ℕ) → kept_below k p bits < 2 ^ k
unfolding kept_below
kept_below_lem zero p bits = omega arith
kept_below_lem (suc k) p bits = pick (bit k bits && p k) (kept_below_lem k p bits)
  where
    pick : (t : Bool) → kept_below k p bits < 2 ^ k → kept_below k p bits + value t k < 2 ^ suc k
    pick true h = let d = pow-succ' 2 k in omega arith
    pick false h = let d = pow-succ' 2 k in omega arith

-- a place above leaves the bits below
bit_low : (i k m : ℕ) (t : Bool) → i < k → bit i (m + value t k) ≡ bit i m
bit_low i k m false h = ap (bit i) (add-zero m)
bit_low i k m true h =
    let j = k - suc i in
    let e : 2 ^ k ≡ 2 ^ i * (2 * 2 ^ j) = ap (λ (n : ℕ). 2 ^ n) (omega arith) ∙ pow_sum i (suc j) ∙ ap (λ (n : ℕ). 2 ^ i * n) (pow-succ' 2 j) in
    let d : (m + 2 ^ k) / 2 ^ i ≡ m / 2 ^ i + 2 * 2 ^ j = ap (λ (n : ℕ). (m + n) / 2 ^ i) e ∙ add-mul-div_left m (2 * 2 ^ j) (pow_positive i) in
    let f : (m / 2 ^ i + 2 * 2 ^ j) % 2 ≡ m / 2 ^ i % 2 = omega arith in
    ap (λ (n : ℕ). eqb (n % 2) 1) d ∙ ap (λ (n : ℕ). eqb n 1) f

-- the highest place
bit_top : (k m : ℕ) (t : Bool) → m < 2 ^ k → bit k (m + value t k) ≡ t
bit_top k m false h = ap (bit k) (add-zero m) ∙ ap (λ (n : ℕ). eqb (n % 2) 1) (div-eq_of_lt h)
bit_top k m true h =
    let e : (m + 2 ^ k) / 2 ^ k ≡ 1 = ap (λ (n : ℕ). (m + n) / 2 ^ k) (omega arith) ∙ add-mul-div_left m 1 (pow_positive k) ∙ ap (λ (n : ℕ). n + 1) (div-eq_of_lt h) in
    ap (λ (n : ℕ). eqb (n % 2) 1) e

pub kept_bit_lem : (k : ℕ) (p : ℕ → Bool) (bits i : ℕ) → i < k → bit i (kept_below k p bits) ≡ (bit i bits && p i)
unfolding kept_below
kept_bit_lem zero p bits i h = absurd (omega arith)
kept_bit_lem (suc k) p bits i h = pick (eqb i k) refl (kept_bit_lem k p bits i)
  where
    pick : (b : Bool) → eqb i k ≡ b → (i < k → bit i (kept_below k p bits) ≡ (bit i bits && p i)) → bit i (kept_below k p bits + value (bit k bits && p k) k) ≡ (bit i bits && p i)
    pick true e f = let q = eqb-true i k e in rw q (bit_top k (kept_below k p bits) (bit k bits && p k) (kept_below_lem k p bits))
    pick false e f =
        let n : i ≢ k = eqb-false i k e in
        let l : i < k = omega arith in
        bit_low i k (kept_below k p bits) (bit k bits && p k) l ∙ f l
