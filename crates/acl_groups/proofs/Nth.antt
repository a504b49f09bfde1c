-- Steps along an iterator that shows what is left: what `nth` gives, and leaves.
use Prim.Native.Nat.{ℕ, zero, suc, ◌≤◌}
use native.Mathlib.Omega.{arith}
use mathlib.Core.Path.{◌≡◌, sym, ◌∙◌, ap}
use mathlib.Core.List.{List, [], ◌∷◌}
use lib.ListN.{length, drop}
use lib.Seq.{drop-nil}
use Rattle.std.specs.Prelude.{Option, None, Some}
use Rattle.std.specs.Option.{MatchOption}
use Rattle.std.specs.Iterator.{YieldsFirstBy, Yields, SkipsThenYields}

module _ {S A B : Type 0} (view : A → B) (rest : S → List B) where
  -- n items were passed over
  passed : (xs : List A) (n : ℕ) (s t : S) → Yields (YieldsFirstBy view rest) s xs t → length xs ≡ n → drop n (rest s) ≡ rest t
  passed [] n s t y e = ap (λ (k : ℕ). drop k (rest s)) (sym e) ∙ ap rest y
  passed (x ∷ xs) zero s t y e = absurd (omega arith)
  passed (x ∷ xs) (suc n) s t y e = ap (drop (suc n)) y.1 ∙ passed xs n y.0 t y.2 (omega arith)

  -- the items ended before that
  ended : (xs : List A) (n : ℕ) (s t : S) → Yields (YieldsFirstBy view rest) s xs t → length xs ≤ n → rest t ≡ [] → drop n (rest s) ≡ []
  ended [] n s t y l e = ap (λ (u : S). drop n (rest u)) y ∙ ap (drop n) e ∙ drop-nil n
  ended (x ∷ xs) zero s t y l e = absurd (omega arith)
  ended (x ∷ xs) (suc n) s t y l e = ap (drop (suc n)) y.1 ∙ ended xs n y.0 t y.2 (omega arith) e

  pub nth_left : (n : ℕ) (s u : S) (r : Option A) → SkipsThenYields (YieldsFirstBy view rest) s n r u
      → MatchOption r ((drop n (rest s) ≡ []) × (rest u ≡ [])) (λ x. drop n (rest s) ≡ view x ∷ rest u)
  nth_left n s u None p = let z = p.1.2 in (ended p.0 n s p.1.0 p.1.1 p.2 z.0, z.1)
  nth_left n s u (Some x) p = passed p.0 n s p.1.0 p.1.1 p.2 ∙ p.1.2
