-- A row of certificates decoded from its bytes, one after the other.
use Prim.Native.Nat.{ℕ, zero, suc, ◌+◌, ◌*◌, ◌/◌, ◌≤◌, ◌<◌}
use native.Mathlib.Omega.{arith}
use native.Mathlib.Numerals.{add-one}
use mathlib.Core.Path.{◌≡◌, refl, sym, ◌∙◌, ap, ap₂}
use Rattle.std.proofs.Common.{min}
use mathlib.Core.List.{List, [], ◌∷◌, ◌++◌, map-append}
use mathlib.Core.Bool.{Bool, true, false}
use lib.ListN.{length, take, drop, set, length-append}
use lib.Dec.{leb}
use borrow.Author.Tests.{leb-true, leb-false}
use lib.Seq.{take_all, take-suc-set, take-append-le, drop-drop}
use Rattle.rules.specs.Sizes.{hash_bytes}
use Rattle.rules.specs.Basics.{Bytes, number}
use Rattle.rules.specs.Request as rules
use Rattle.rules.proofs.Rows.{lent_rest, lent_rest_lem}
use Rattle.run_certificates.specs.declared.Certificate.{Certificate}
use Rattle.run_certificates.specs.Rows.{certificate_as, row_as}
use Rattle.replay_rows.specs.Given.{given_at, first_given, row_given, lent_of}

-- the certificate at the front of bytes
pub given_here : (s hash : Bytes) (n : ℕ) → hash ≡ take hash_bytes s → n ≡ number 20 2 s → certificate_as (record { hash = hash; mechanism = n }) ≡ given_at s 0
given_here s hash n d e = rw (d, e)

-- the certificate of the lent row at an index
given_front : (s : Bytes) (at : ℕ) → given_at (lent_rest s at) 0 ≡ given_at s at
given_front s at =
    ap (λ (x : Bytes). given_at x 0) (lent_rest_lem s at)
    ∙ ap (λ (x : Bytes). record { hash = take 20 (drop at s); mechanism = number 0 2 x }) (drop-drop 20 at s)

-- The first certificates of a row: how many, and those of a longer part.
given_length : (s : Bytes) (n : ℕ) → length (first_given s n) ≡ n
unfolding first_given
given_length s zero = refl
given_length s (suc n) = let i = given_length s n in omega (arith, length-append (first_given s n) (given_at s (n * 22) ∷ []))

given_take : (s : Bytes) (m n : ℕ) → m ≤ n → take m (first_given s n) ≡ first_given s m
unfolding first_given
given_take s zero zero h = refl
given_take s (suc m) zero h = absurd (omega arith)
given_take s m (suc n) h = pick (leb m n) refl (given_take s m n)
  where
    pick : (b : Bool) → leb m n ≡ b → (m ≤ n → take m (first_given s n) ≡ first_given s m) → take m (first_given s (suc n)) ≡ first_given s m
    pick true e f =
        let k = leb-true m n e in
        let l = given_length s n in
        take-append-le m (first_given s n) (given_at s (n * 22) ∷ []) (omega arith) ∙ f k
    pick false e f =
        let k = leb-false m n e in
        let q : suc n ≡ m = omega arith in
        take_all m (first_given s (suc n)) (omega (arith, given_length s (suc n))) ∙ ap (first_given s) q

-- The turns of the loop over a row.
pub given_next : (s : Bytes) (row : List Certificate) (i : ℕ) (c : Certificate) → row_as (take i row) ≡ first_given s i → length row ≡ 33 → i < 33
    → certificate_as c ≡ given_at (lent_rest s (i * 22)) 0 → row_as (take (i + 1) (set row i c)) ≡ first_given s (i + 1)
unfolding first_given
given_next s row i c inv l h e =
    rw add-one
    (ap row_as (take-suc-set row i c (omega arith))
    ∙ map-append certificate_as (take i row) (c ∷ [])
    ∙ ap₂ (λ (xs : List rules.Certificate) (x : rules.Certificate). xs ++ (x ∷ [])) inv (e ∙ given_front s (i * 22)))

-- the first n are those that are lent, where n is all there are, or the most that are
pub given_lent : (s : Bytes) (n : ℕ) → n ≡ min (length s / 22) 33 → first_given s n ≡ lent_of s
given_lent s n e = pick (leb 33 (length s / 22)) refl
  where
    pick : (b : Bool) → leb 33 (length s / 22) ≡ b → first_given s n ≡ lent_of s
    pick true q =
        let h = leb-true 33 (length s / 22) q in
        let k : n ≡ 33 = omega arith in
        ap (first_given s) k ∙ sym (given_take s 33 (length s / 22) h)
    pick false q =
        let h = leb-false 33 (length s / 22) q in
        let k : n ≡ length s / 22 = omega arith in
        ap (first_given s) k ∙ sym (take_all 33 (row_given s) (omega (arith, given_length s (length s / 22))))
