-- Laws of lists and of tests that several files of this crate cite.
use Prim.Native.Nat.{ℕ, zero, suc}
use mathlib.Core.Path.{◌≡◌, refl}
use mathlib.Core.List.{List, [], ◌∷◌, ◌++◌, map}
use mathlib.Core.Option.{Option, none}
use mathlib.Core.Bool.{Bool, true, false, false≢true}
use lib.ListN.{get_or, set, replicate}
use Rattle.rules.specs.Basics.{all, Every, first_fault}
use Rattle.rules.proofs.Laws.{and_both}

-- a test that another implies, and that implies it
pub both_ways : (a b : Bool) → (a ≡ true → b ≡ true) → (b ≡ true → a ≡ true) → a ≡ b
both_ways true true f g = refl
both_ways true false f g = absurd (false≢true (f refl))
both_ways false true f g = absurd (false≢true (g refl))
both_ways false false f g = refl

-- zeros are zero at every place, past the end too
pub zero_at : (n i : ℕ) → ◌≡◌ {A = ℕ} (get_or (replicate n 0) i 0) 0
zero_at zero i = refl
zero_at (suc n) zero = refl
zero_at (suc n) (suc i) = zero_at n i

-- a test that every element passes
pub every_all : {A : Type 0} (p : A → Bool) (xs : List A) → Every (λ x. p x ≡ true) xs → all p xs ≡ true
unfolding all
every_all p [] h = refl
every_all p (x ∷ xs) h = and_both (p x) (all p xs) h.0 (every_all p xs h.1)

-- tests none of which finds a fault
pub every_fault_none : {A F : Type 0} (f : A → Option F) (xs : List A) → Every (λ x. f x ≡ none) xs → first_fault (map f xs) ≡ none
unfolding first_fault
every_fault_none f [] h = refl
every_fault_none f (x ∷ xs) h = rw h.0 (every_fault_none f xs h.1)

-- a predicate of every element
module _ {A : Type 0} (P : A → Type 0) where
  pub every_set : (xs : List A) (i : ℕ) (x : A) → P x → Every P xs → Every P (set xs i x)
  every_set [] i x p h = tt
  every_set (y ∷ ys) zero x p h = (p, h.1)
  every_set (y ∷ ys) (suc i) x p h = (h.0, every_set ys i x p h.1)

  pub every_get_d : (xs : List A) (i : ℕ) (d : A) → P d → Every P xs → P (get_or xs i d)
  every_get_d [] i d p h = p
  every_get_d (y ∷ ys) zero d p h = h.0
  every_get_d (y ∷ ys) (suc i) d p h = every_get_d ys i d p h.1

  pub every_append : (xs ys : List A) → Every P xs → Every P ys → Every P (xs ++ ys)
  every_append [] ys h k = k
  every_append (x ∷ xs) ys h k = (h.0, every_append xs ys h.1 k)

  pub every_replicate : (n : ℕ) (x : A) → P x → Every P (replicate n x)
  every_replicate zero x p = tt
  every_replicate (suc n) x p = (p, every_replicate n x p)
