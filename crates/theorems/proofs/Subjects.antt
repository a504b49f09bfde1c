-- The suites and the total lengths of subjects: "suites 1 to 4: certificate 3: 72, 90, 102, 109; certificate 4: 100, 118, 130, 137; certificate 5: 74."
-- and of suite 5 "92 bytes for certificate 3, 120 for certificate 4". Two wrong products that this rules out: a header without its zero byte, and a
-- header of suite 2 under suite 3.
use Prim.Native.Nat.{ℕ, zero, suc}
use native.Mathlib.Omega.{arith}
use mathlib.Core.Path.{◌≡◌, refl}
use mathlib.Core.List.{[], ◌∷◌, map}
use mathlib.Core.Option.{some}
use borrow.Author.Tests.{ne_eqb, le-leb, lt-leb}
use Rattle.rules.specs.Basics.{ascii, first_fault}
use Rattle.theorems.specs.Numbers.{subject_replies}
use Rattle.rules.specs.Layout.{between}
use Rattle.rules.specs.Suites.{suite, is_suite, suite_mechanism}
use Rattle.rules.specs.Subject.{written, subject, subject_fault, subject_reply}

-- "Refusal 11 now means not 1 to 5": every number from 1 to 5 is a suite's, and no other is
pub suite_numbers : (n : ℕ) → is_suite n ≡ between 1 5 n
unfolding suite
suite_numbers zero = refl
suite_numbers (suc zero) = refl
suite_numbers (suc (suc zero)) = refl
suite_numbers (suc (suc (suc zero))) = refl
suite_numbers (suc (suc (suc (suc zero)))) = refl
suite_numbers (suc (suc (suc (suc (suc zero))))) = refl
suite_numbers (suc (suc (suc (suc (suc (suc n)))))) =
    let m : ℕ = suc (suc (suc (suc (suc (suc n))))) in
    rw (ne_eqb m 1 (λ e. omega arith), ne_eqb m 2 (λ e. omega arith), ne_eqb m 3 (λ e. omega arith), ne_eqb m 4 (λ e. omega arith), ne_eqb m 5 (λ e. omega arith), le-leb 1 m (omega arith), lt-leb m 5 (omega arith))

-- "Mech_RSApPKCS1 (number 1); .. (2); .. (3)", "mechanism number 4": the mechanisms that RB3 and demand 3 go by
pub suite_mechanisms : map suite_mechanism (1 ∷ 2 ∷ 3 ∷ 4 ∷ 5 ∷ []) ≡ map some (1 ∷ 2 ∷ 2 ∷ 3 ∷ 4 ∷ [])
unfolding suite
suite_mechanisms = refl

-- the eleven lengths
pub subject_lengths : (subject_replies 3 ≡ map written (72 ∷ 90 ∷ 102 ∷ 109 ∷ 92 ∷ []))
    × (subject_replies 4 ≡ map written (100 ∷ 118 ∷ 130 ∷ 137 ∷ 120 ∷ []))
    × (subject_replies 5 ≡ map written (74 ∷ 74 ∷ 74 ∷ 74 ∷ 74 ∷ []))
unfolding ascii first_fault suite subject subject_fault subject_reply
subject_lengths = (refl, refl, refl)
