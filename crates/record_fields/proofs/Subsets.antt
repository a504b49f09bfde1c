-- "a subset", of bits: the machine's `&` of two numbers is the first exactly if each of its bits is set in the second.
use Prim.Native.Nat.{ℕ, zero, suc, ◌<◌, ◌+◌, ◌*◌, ◌/◌, ◌%◌, ◌^◌, min}
use native.Mathlib.Omega.{arith}
use native.Mathlib.Nat.{pow-suc}
use mathlib.Core.Path.{◌≡◌, refl, sym, ◌∙◌, ap}
use mathlib.Core.Bool.{Bool, true, false}
use lib.Bits.{bit_and, and_step}
use lib.Pow.{shr-shr}
use lib.Dec.{eqb}
use borrow.Author.Tests.{eqb-true, eq-eqb, ne_eqb}
use lib.Count.{ones, ones_step}
use Rattle.std.specs.Prelude.{if◌then◌else◌}
use Rattle.rules.specs.Basics.{implies, bit, bit_count, within}
use Rattle.rules.proofs.Laws.{all_below_at, all_below_all, implied, implication, not_both}

-- a bit of the half is the next bit of the whole
bit_half : (i n : ℕ) → bit i (n / 2) ≡ bit (suc i) n
bit_half i n = let e : 1 + i ≡ suc i = omega arith in ap (λ (x : ℕ). eqb (x % 2) 1) (shr-shr n 1 i ∙ ap (λ (j : ℕ). n / 2 ^ j) e)

bit_low : (n : ℕ) → bit 0 n ≡ eqb (n % 2) 1
bit_low n = let e : n / 1 ≡ n = omega arith in ap (λ (x : ℕ). eqb (x % 2) 1) e

-- an odd number where another is odd
odd_min : (x y : ℕ) → x < 2 → y < 2 → (eqb x 1 ≡ true → eqb y 1 ≡ true) → min x y ≡ x
odd_min zero y h k f = omega arith
odd_min (suc x) y h k f = let e : eqb (suc x) 1 ≡ true = eq-eqb (suc x) 1 (omega arith) in let d = eqb-true y 1 (f e) in omega arith

and_within : (k a b : ℕ) → a < 2 ^ k → ((i : ℕ) → i < k → bit i a ≡ true → bit i b ≡ true) → bit_and a b ≡ a
and_within zero a b h f = let e : a ≡ 0 = omega arith in rw e
and_within (suc k) a b h f =
    let l : a < 2 ^ k * 2 = rw (pow-suc 2 k) at h in
    let r : bit_and (a / 2) (b / 2) ≡ a / 2 = and_within k (a / 2) (b / 2) (omega arith)
    (λ i d e. bit_half i b ∙ f (suc i) (omega arith) (sym (bit_half i a) ∙ e)) in
    let m : min (a % 2) (b % 2) ≡ a % 2 = odd_min (a % 2) (b % 2) (omega arith) (omega arith)
    (λ e. sym (bit_low b) ∙ f 0 (omega arith) (bit_low a ∙ e)) in
    and_step a b ∙ rw (r, m) (omega arith)

within_and : (i a b : ℕ) → bit_and a b ≡ a → bit i a ≡ true → bit i b ≡ true
within_and zero a b e p =
    let s = and_step a b in
    let m = eqb-true (a % 2) 1 (sym (bit_low a) ∙ p) in
    bit_low b ∙ eq-eqb (b % 2) 1 (omega arith)
within_and (suc i) a b e p =
    let s = and_step a b in
    let h : bit_and (a / 2) (b / 2) ≡ a / 2 = omega arith in
    sym (bit_half i b) ∙ within_and i (a / 2) (b / 2) h (bit_half i a ∙ p)

-- of numbers of k bits
pub subset_and : (k a b : ℕ) → a < 2 ^ k → eqb (bit_and a b) a ≡ within k a b
unfolding within
subset_and k a b h = pick (within k a b) refl
  where
    pick : (t : Bool) → within k a b ≡ t → eqb (bit_and a b) a ≡ t
    pick true e =
        eq-eqb (bit_and a b) a (and_within k a b h
        (λ i d p. implied (bit i a) (bit i b) (all_below_at k (λ i. implies (bit i a) (bit i b)) i d e) p))
    pick false e =
        ne_eqb (bit_and a b) a
        (λ q. not_both (within k a b)
        (all_below_all k (λ i. implies (bit i a) (bit i b)) (λ i d. implication (bit i a) (bit i b) (within_and i a b q))) e)

-- How many bits are set: the lowest, and those of the half.
lowest_bit : (n : ℕ) → (if eqb (n % 2) 1 then 1 else 0) ≡ n % 2
lowest_bit n = pick (n % 2) (omega arith)
  where
    pick : (x : ℕ) → x < 2 → (if eqb x 1 then 1 else 0) ≡ x
    pick zero h = refl
    pick (suc x) h = let e : suc x ≡ 1 = omega arith in rw e

count_low : (k n : ℕ) → bit_count (suc k) n ≡ n % 2 + bit_count k (n / 2)
unfolding bit_count
count_low zero n = rw (bit_low n) (ap (λ (x : ℕ). x + 0) (lowest_bit n))
count_low (suc k) n =
    ap (λ (x : ℕ). (if bit (suc k) n then 1 else 0) + x) (count_low k n)
    ∙ rw (bit_half k n) (swap (if bit (suc k) n then 1 else 0) (n % 2) (bit_count k (n / 2)))
  where
    swap : (a b c : ℕ) → a + (b + c) ≡ b + (a + c)
    swap a b c = omega arith

-- the same as the machine counts them
no_ones : ones 0 ≡ 0
unfolding ones
no_ones = refl

pub count_ones : (k n : ℕ) → n < 2 ^ k → ones n ≡ bit_count k n
unfolding bit_count
count_ones zero n h = let e : n ≡ 0 = omega arith in rw e no_ones
count_ones (suc k) n h =
    let l : n / 2 < 2 ^ k = omega (arith, pow-suc 2 k) in
    ones_step n ∙ ap (λ (x : ℕ). n % 2 + x) (count_ones k (n / 2) l) ∙ sym (count_low k n)
