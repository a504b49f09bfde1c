-- The first element that fails: it fails, and every one before it passes; none is named exactly where all pass.
use Prim.Native.Nat.{ℕ, zero, suc, ◌+◌, ◌<◌}
use native.Mathlib.Omega.{arith}
use mathlib.Core.Path.{◌≡◌, refl, sym, ◌∙◌, ap}
use mathlib.Core.List.{List, [], ◌∷◌}
use mathlib.Core.Option.{none, some}
use mathlib.Core.Bool.{Bool, true, false, ◌&&◌}
use lib.ListN.{get_elem?}
use Rattle.std.specs.Prelude.{if◌then◌else◌}
use Rattle.rules.specs.Basics.{all}
use Rattle.rules.proofs.Laws.{never}
use Rattle.reason_limits.specs.Limits.{first_failing}

-- the element at an index fails a test, and those before it pass
pub record FirstFailing {A : Type 0} (test : A → Bool) (xs : List A) (i : ℕ) : Type 0 where
  pub element : A
  pub here : get_elem? xs i ≡ some element
  pub fails : test element ≡ false
  pub before : (n : ℕ) (y : A) → n < i → get_elem? xs n ≡ some y → test y ≡ true

module _ {A : Type 0} (test : A → Bool) where
  failing_from : (i : ℕ) (xs : List A) (j : ℕ) → first_failing test i xs ≡ some j → (m : ℕ) × (j ≡ i + m) × FirstFailing test xs m
  unfolding first_failing
  failing_from i [] j e = absurd (never (cc))
  failing_from i (x ∷ xs) j e = pick (test x) refl e (failing_from (suc i) xs j)
    where
      next : test x ≡ true → (m : ℕ) × (j ≡ suc i + m) × FirstFailing test xs m → (m : ℕ) × (j ≡ i + m) × FirstFailing test (x ∷ xs) m
      next t (m, d, h) = (suc m, omega (arith, d), record { element = h.element; here = h.here; fails = h.fails; before = earlier })
        where
          earlier : (n : ℕ) (y : A) → n < suc m → get_elem? (x ∷ xs) n ≡ some y → test y ≡ true
          earlier zero y l g = let q : x ≡ y = cc in ap test (sym q) ∙ t
          earlier (suc n) y l g = h.before n y (omega arith) g

      pick : (b : Bool) → test x ≡ b → (if b then first_failing test (suc i) xs else some i) ≡ some j → (first_failing test (suc i) xs ≡ some j → (m : ℕ) × (j ≡ suc i + m) × FirstFailing test xs m)
          → (m : ℕ) × (j ≡ i + m) × FirstFailing test (x ∷ xs) m
      pick true t g f = next t (f g)
      pick false t g f =
          let q : i ≡ j = cc in
          (zero, omega (arith, q), record { element = x; here = refl; fails = t; before = λ n y l p. absurd (omega arith) })

  pub failing_is_first : (xs : List A) (i : ℕ) → first_failing test 0 xs ≡ some i → FirstFailing test xs i
  failing_is_first xs i e = found (failing_from 0 xs i e)
    where
      found : (m : ℕ) × (i ≡ 0 + m) × FirstFailing test xs m → FirstFailing test xs i
      found (m, d, h) = let a : m ≡ i = omega (arith, d) in rw (← a) h

  pub none_failing : (i : ℕ) (xs : List A) → first_failing test i xs ≡ none → all test xs ≡ true
  unfolding first_failing all
  none_failing i [] e = refl
  none_failing i (x ∷ xs) e = pick (test x) e (none_failing (suc i) xs)
    where
      pick : (b : Bool) → (if b then first_failing test (suc i) xs else some i) ≡ none → (first_failing test (suc i) xs ≡ none → all test xs ≡ true) → (b && all test xs) ≡ true
      pick true g f = f g
      pick false g f = absurd (never (cc))
