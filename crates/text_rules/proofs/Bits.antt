-- A number and its bits.
use Prim.Native.Nat.{ℕ, zero, suc, ◌+◌, ◌*◌, ◌/◌, ◌%◌, ◌^◌, ◌≤◌, ◌<◌}
use native.Mathlib.Omega.{arith}
use native.Mathlib.Numerals.{add-one}
use native.Mathlib.Nat.{pow-suc, pow-le-pow_right, div-eq_of_lt, div-lt_iff_lt-mul, div-div-eq-div-mul, add-suc, add-zero}
use mathlib.Core.Path.{◌≡◌, refl, sym, ◌∙◌}
use mathlib.Core.List.{List, [], ◌∷◌}
use mathlib.Core.Bool.{Bool, true, false}
use lib.Dec.{eqb}
use borrow.Author.Tests.{eqb-true, eqb-false}
use Rattle.std.specs.Prelude.{if◌then◌else◌}
use Rattle.rules.specs.Basics.{implies, within, bit}
use Rattle.rules.proofs.Laws.{implied, not_both, all_below_at}
use Rattle.text_rules.specs.Decoding.{of_bits}

-- bits of a number, from bit b on
abbrev pub bits_from : ℕ → ℕ → ℕ → List Bool
bits_from b zero n = []
bits_from b (suc m) n = bit b n ∷ bits_from (b + 1) m n

-- a number by its lowest bit and its half
halved : (q : ℕ) → (if eqb (q % 2) 1 then 1 else 0) + 2 * (q / 2) ≡ q
halved q = pick (eqb (q % 2) 1) refl
  where
    pick : (b : Bool) → eqb (q % 2) 1 ≡ b → (if eqb (q % 2) 1 then 1 else 0) + 2 * (q / 2) ≡ q
    pick true e = let h = eqb-true (q % 2) 1 e in rw e (omega arith)
    pick false e = let h : (q % 2 ≡ 1 → ⊥) = eqb-false (q % 2) 1 e in rw e (omega arith)

half_power : (b n : ℕ) → n / 2 ^ (b + 1) ≡ n / 2 ^ b / 2
half_power b n = rw (add-one, pow-suc 2 b) (sym (div-div-eq-div-mul n (2 ^ b) 2))

bits_above : (b m n : ℕ) → n < 2 ^ (b + m) → of_bits (bits_from b m n) ≡ n / 2 ^ b
unfolding of_bits
bits_above b zero n h = sym (div-eq_of_lt (rw add-zero at h))
bits_above b (suc m) n h =
    let e : b + 1 + m ≡ b + suc m = omega arith in
    rw (bits_above (b + 1) m n (rw e h), half_power b n) (halved (n / 2 ^ b))

-- A number below 2 to the m is that of its lowest m bits.
pub bits_of : (m n : ℕ) → n < 2 ^ m → of_bits (bits_from 0 m n) ≡ n
bits_of m n h = let e : 0 + m ≡ m = omega arith in bits_above 0 m n (rw e h) ∙ omega arith

-- the bits past a number's places are not set
bit_past : (m i n : ℕ) → n < 2 ^ m → m ≤ i → bit i n ≡ false
bit_past m i n h l =
    let p = pow-le-pow_right {n = 2} (omega arith) l in
    rw (div-eq_of_lt {n = n} {m = 2 ^ i} (omega arith))

-- a number one place longer than it needs
shorter : (k n : ℕ) → n < 2 ^ suc k → bit k n ≡ false → n < 2 ^ k
shorter k n h e =
    let d : n / 2 ^ k < 2 = (div-lt_iff_lt-mul {k = 2 ^ k} (power_some k)).1 (omega arith) in
    let f = eqb-false (n / 2 ^ k % 2) 1 e in
    let g : n / 2 ^ k < 1 = omega arith in
    let i = (div-lt_iff_lt-mul {k = 2 ^ k} (power_some k)).0 g in
    omega arith
  where
    power_some : (k : ℕ) → 0 < 2 ^ k
    power_some zero = omega arith
    power_some (suc k) = let i = power_some k in omega arith

-- "Unlisted .. flag bits .. are zero": a number of 16 bits, of which none is set but those listed, is no longer than what lists them
pub within_below : (j m n listed : ℕ) → m + j ≤ 16 → n < 2 ^ (m + j) → within 16 n listed ≡ true → listed < 2 ^ m → n < 2 ^ m
unfolding within
within_below zero m n listed l h w s = rw add-zero at h
within_below (suc j) m n listed l h w s = within_below j m n listed (omega arith) (shorter (m + j) n (rw add-suc at h) clear) w s
  where
    off : bit (m + j) listed ≡ false
    off = bit_past m (m + j) listed s (omega arith)

    pick : (b : Bool) → bit (m + j) n ≡ b → bit (m + j) n ≡ false
    pick false e = e
    pick true e =
        absurd (not_both (bit (m + j) listed)
        (implied (bit (m + j) n) (bit (m + j) listed) (all_below_at 16 (λ i. implies (bit i n) (bit i listed)) (m + j) (omega arith) w) e) off)

    clear : bit (m + j) n ≡ false
    clear = pick (bit (m + j) n) refl
