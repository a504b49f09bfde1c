-- What is named of a failing step: the flaw is there, and every failing step of the bundle has one. Two wrong products that this rules out: one that names
-- a field that is present and equal, and one that names nothing.
use Prim.Native.Nat.{ℕ}
use mathlib.Core.Path.{◌≡◌, refl, sym, ◌∙◌}
use mathlib.Core.List.{List, [], ◌∷◌}
use mathlib.Core.Option.{Option, none, some}
use mathlib.Core.Bool.{Bool, true, false, ◌&&◌}
use borrow.Author.Tests.{eq-eqb, ne_eqb, eqb-true, eqb-false}
use lib.Dec.{eqb}
use Rattle.rules.specs.Basics.{Bytes, Every, same, implies, present, both_same, unless, or_next, first_fault}
use Rattle.rules.specs.Bundle.{field, has_field, signature_outcome, reported, is_good, good, policy_of}
use Rattle.rules.specs.Desk.{Step, WV1, MSCV1, MSCV2, MSCV3, MSCV4, MSCV5, WBCV1, WBCV2, WBCV3, KGCV1, KGCV2, ACLV3, WB1, WB2, WB3, WB6, RB1, RB2, RB3, KV3, CSRL1, km_vouched, km_fips_vouched, kre_vouched, is_listed, csr_linked, before_acl, basic_failure}
use Rattle.rules.proofs.Laws.{never}
use Rattle.reason_steps.specs.declared.Flaw.{Flaw}
use Rattle.reason_steps.specs.declared.Flaw.TheVariants.{SignatureAbsent, SignatureBad, FieldAbsent, FieldDiffers}
use Rattle.reason_steps.specs.Defects.{signature_test, field_test, equal_test, listed_test, step_tests, step_flaw}
use Rattle.reason_steps.specs.Flawed.{is_equal, Flawed}

-- What holds of every fault that a test can give holds of the first.
pub first_is : {F : Type 0} (P : F → Type 0) (ts : List (Option F)) → Every (λ t. (f : F) → t ≡ some f → P f) ts → (f : F) → first_fault ts ≡ some f → P f
unfolding first_fault
first_is P [] h f e = absurd (never (cc))
first_is P (none ∷ ts) h f e = first_is P ts h.1 f e
first_is P (some g ∷ ts) h f e = h.0 f e

pub test_is : {F : Type 0} (P : F → Type 0) (t : Bool) (f : F) → (t ≡ false → P f) → (g : F) → unless t f ≡ some g → P g
test_is P true f h g e = absurd (never (cc))
test_is P false f h g e = let k : f ≡ g = cc in rw (← k) (h refl)

-- The flaw is there.
signature_flaw : (b : List Bytes) (n : ℕ) (f : Flaw) → signature_test n b ≡ some f → Flawed b f
unfolding signature_test first_fault
signature_flaw b n f e = pick (signature_outcome n b) refl e
  where
    pick : (o : Option Bool) → signature_outcome n b ≡ o → or_next (unless (present o) (SignatureAbsent n)) (or_next (unless (is_good o) (SignatureBad n)) none) ≡ some f → Flawed b f
    pick none q d = let k : SignatureAbsent n ≡ f = cc in rw (← k) (rw q)
    pick (some false) q d = let k : SignatureBad n ≡ f = cc in rw (← k) (rw q, rw q)
    pick (some true) q d = absurd (never (cc))

field_flaw : (b : List Bytes) (n : ℕ) (f : Flaw) → field_test n b ≡ some f → Flawed b f
field_flaw b n f e = test_is (Flawed b) (has_field n b) (FieldAbsent n) (λ h. h) f e

equal_flaw : (b : List Bytes) (n m : ℕ) → is_equal n b ≡ both_same (field n b) (field m b) → (f : Flaw) → equal_test n m b ≡ some f → Flawed b f
equal_flaw b n m k f e = test_is (Flawed b) (both_same (field n b) (field m b)) (FieldDiffers n) (λ h. k ∙ h) f e

listed_flaw : (b : List Bytes) (f : Flaw) → listed_test b ≡ some f → Flawed b f
listed_flaw b f e = test_is (Flawed b) (is_listed (field 6 b) b) (FieldDiffers 6) (λ h. h) f e

pub named_is_flawed : (s : Step) (b : List Bytes) (f : Flaw) → step_flaw s b ≡ some f → Flawed b f
unfolding step_tests
named_is_flawed s b f e = first_is (Flawed b) (step_tests s b) (each s) f e
  where
    each : (s : Step) → Every (λ t. (f : Flaw) → t ≡ some f → Flawed b f) (step_tests s b)
    each WV1 = (signature_flaw b 1, (field_flaw b 1, tt))
    each MSCV1 = (signature_flaw b 2, tt)
    each MSCV2 = (field_flaw b 2, (field_flaw b 3, tt))
    each MSCV3 = (equal_flaw b 2 1 refl, tt)
    each MSCV4 = (field_flaw b 4, (equal_flaw b 5 4 refl, tt))
    each MSCV5 = (listed_flaw b, tt)
    each WBCV1 = (signature_flaw b 3, (field_flaw b 5, (field_flaw b 6, (field_flaw b 12, tt))))
    each WBCV2 = (signature_flaw b 4, (field_flaw b 5, (field_flaw b 6, (field_flaw b 12, (field_flaw b 13, tt)))))
    each WBCV3 = (signature_flaw b 5, (field_flaw b 5, (field_flaw b 7, (field_flaw b 11, tt))))
    each KGCV1 = (signature_flaw b 6, tt)
    each KGCV2 = (field_flaw b 8, (field_flaw b 9, (equal_flaw b 8 9 refl, tt)))
    each ACLV3 = tt
    each WB1 = tt
    each WB2 = tt
    each WB3 = tt
    each WB6 = tt
    each RB1 = tt
    each RB2 = tt
    each RB3 = tt
    each KV3 = tt
    each CSRL1 = (field_flaw b 10, (equal_flaw b 10 9 refl, tt))

-- Every failing step of the bundle has one.
eqb_sym : (m n : ℕ) → eqb m n ≡ eqb n m
eqb_sym m n = pick (eqb m n) refl
  where
    pick : (t : Bool) → eqb m n ≡ t → eqb m n ≡ eqb n m
    pick true q = q ∙ sym (eq-eqb n m (sym (eqb-true m n q)))
    pick false q = q ∙ sym (ne_eqb n m (λ e. eqb-false m n q (sym e)))

same_sym : (x y : Bytes) → same x y ≡ same y x
unfolding same
same_sym [] [] = refl
same_sym [] (b ∷ y) = refl
same_sym (a ∷ x) [] = refl
same_sym (a ∷ x) (b ∷ y) = rw (eqb_sym a b, same_sym x y)

both_sym : (o p : Option Bytes) → both_same o p ≡ both_same p o
both_sym none none = refl
both_sym none (some y) = refl
both_sym (some x) none = refl
both_sym (some x) (some y) = same_sym x y

abbrev Named : List Bytes → Step → Type 0
Named b s = present (step_flaw s b) ≡ true

-- a signature's test, then others; another test, then others
signature_then : (o : Option Bool) (f g : Flaw) (ts : List (Option Flaw)) → (is_good o ≡ true → present (first_fault ts) ≡ true)
    → present (first_fault (first_fault (unless (present o) f ∷ unless (is_good o) g ∷ []) ∷ ts)) ≡ true
unfolding first_fault
signature_then none f g ts h = refl
signature_then (some false) f g ts h = refl
signature_then (some true) f g ts h = h refl

test_then : (t : Bool) (f : Flaw) (ts : List (Option Flaw)) → (t ≡ true → present (first_fault ts) ≡ true) → present (first_fault (unless t f ∷ ts)) ≡ true
unfolding first_fault
test_then true f ts h = h refl
test_then false f ts h = refl

-- tests that all pass, against a step that fails
passed : (t : Bool) → t ≡ false → t ≡ true → present (first_fault {F = Flaw} []) ≡ true
passed t p q = absurd (never (cc))

module _ (b : List Bytes) where
  sig : (n : ℕ) (ts : List (Option Flaw)) → (good n b ≡ true → present (first_fault ts) ≡ true) → present (first_fault (signature_test n b ∷ ts)) ≡ true
  unfolding signature_test
  sig n ts h = signature_then (signature_outcome n b) (SignatureAbsent n) (SignatureBad n) ts h

  fld : (n : ℕ) (ts : List (Option Flaw)) → (has_field n b ≡ true → present (first_fault ts) ≡ true) → present (first_fault (field_test n b ∷ ts)) ≡ true
  fld n ts h = test_then (has_field n b) (FieldAbsent n) ts h

  eql : (n m : ℕ) → both_same (field n b) (field m b) ≡ false → present (first_fault (equal_test n m b ∷ [])) ≡ true
  eql n m h = test_then (both_same (field n b) (field m b)) (FieldDiffers n) [] (passed (both_same (field n b) (field m b)) h)

  wv1 : (good 1 b && has_field 1 b) ≡ false → Named b WV1
  unfolding step_tests
  wv1 h = sig 1 _ (λ p. fld 1 [] (λ q. passed (good 1 b && has_field 1 b) h (rw (p, q))))

  mscv1 : good 2 b ≡ false → Named b MSCV1
  unfolding step_tests
  mscv1 h = sig 2 [] (passed (good 2 b) h)

  mscv2 : (has_field 2 b && has_field 3 b) ≡ false → Named b MSCV2
  unfolding step_tests
  mscv2 h = fld 2 _ (λ p. fld 3 [] (λ q. passed (has_field 2 b && has_field 3 b) h (rw (p, q))))

  mscv3 : both_same (field 1 b) (field 2 b) ≡ false → Named b MSCV3
  unfolding step_tests
  mscv3 h = eql 2 1 (both_sym (field 2 b) (field 1 b) ∙ h)

  implied : (s t : Bool) → implies s t ≡ false → t ≡ false
  implied true t e = e
  implied false t e = absurd (never (cc))

  mscv4 : implies (has_field 5 b) (both_same (field 5 b) (field 4 b)) ≡ false → Named b MSCV4
  unfolding step_tests
  mscv4 h = fld 4 _ (λ p. eql 5 4 (implied (has_field 5 b) (both_same (field 5 b) (field 4 b)) h))

  mscv5 : is_listed (field 6 b) b ≡ false → Named b MSCV5
  unfolding step_tests
  mscv5 h = test_then (is_listed (field 6 b) b) (FieldDiffers 6) [] (passed (is_listed (field 6 b) b) h)

  wbcv1 : implies (reported 3 b) (km_vouched b) ≡ false → Named b WBCV1
  unfolding step_tests km_vouched
  wbcv1 h = sig 3 _ (λ p. fld 5 _ (λ q. fld 6 _ (λ r. fld 12 [] (λ t. passed (km_vouched b) (implied (reported 3 b) (km_vouched b) h) (rw (p, q, r, t))))))

  wbcv2 : implies (reported 4 b) (km_fips_vouched b) ≡ false → Named b WBCV2
  unfolding step_tests km_fips_vouched
  wbcv2 h =
      sig 4 _ (λ p. fld 5 _ (λ q. fld 6 _ (λ r. fld 12 _ (λ t. fld 13 [] (λ u. passed (km_fips_vouched b) (implied (reported 4 b) (km_fips_vouched b) h) (rw (p, q, r, t, u)))))))

  wbcv3 : implies (reported 5 b) (kre_vouched b) ≡ false → Named b WBCV3
  unfolding step_tests kre_vouched
  wbcv3 h = sig 5 _ (λ p. fld 5 _ (λ q. fld 7 _ (λ r. fld 11 [] (λ t. passed (kre_vouched b) (implied (reported 5 b) (kre_vouched b) h) (rw (p, q, r, t))))))

  kgcv1 : good 6 b ≡ false → Named b KGCV1
  unfolding step_tests
  kgcv1 h = sig 6 [] (passed (good 6 b) h)

  kgcv2 : both_same (field 8 b) (field 9 b) ≡ false → Named b KGCV2
  unfolding step_tests
  kgcv2 h = fld 8 _ (λ p. fld 9 _ (λ q. eql 8 9 h))

  pub csr_named : csr_linked b ≡ false → Named b CSRL1
  unfolding step_tests
  csr_named h = fld 10 _ (λ p. eql 10 9 (implied (policy_of b).csr (both_same (field 10 b) (field 9 b)) h))

  pub bundle_step_named : (s : Step) → before_acl b ≡ some s → present (step_flaw s b) ≡ true
  bundle_step_named s e =
      first_is (Named b) _ (
        test_is (Named b) _ WV1 wv1,
        (
          test_is (Named b) _ MSCV1 mscv1,
          (
            test_is (Named b) _ MSCV2 mscv2,
            (
              test_is (Named b) _ MSCV3 mscv3,
              (
                test_is (Named b) _ MSCV4 mscv4,
                (
                  test_is (Named b) _ MSCV5 mscv5,
                  (
                    test_is (Named b) _ WBCV1 wbcv1,
                    (
                      test_is (Named b) _ WBCV2 wbcv2,
                      (test_is (Named b) _ WBCV3 wbcv3, (test_is (Named b) _ KGCV1 kgcv1, (test_is (Named b) _ KGCV2 kgcv2, tt))),
                    ),
                  ),
                ),
              ),
            ),
          ),
        ),
      )
      s e

  pub basic_step_named : (s : Step) → basic_failure b ≡ some s → present (step_flaw s b) ≡ true
  unfolding basic_failure
  basic_step_named s e =
      first_is (Named b) _ (
        test_is (Named b) _ WV1 wv1,
        (
          test_is (Named b) _ MSCV1 mscv1,
          (
            test_is (Named b) _ MSCV2 mscv2,
            (test_is (Named b) _ KGCV1 kgcv1, (test_is (Named b) _ KGCV2 kgcv2, (test_is (Named b) _ CSRL1 csr_named, tt))),
          ),
        ),
      )
      s e
