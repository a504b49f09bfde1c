-- A limit by itself, and the turns of a loop over limits for the first that fails a test.
use Prim.Native.Nat.{ℕ, ◌+◌, ◌≤◌, ◌<◌}
use native.Mathlib.Omega.{arith}
use native.Mathlib.Numerals.{add-one}
use mathlib.Core.Path.{◌≡◌, refl, sym, ◌∙◌, ap}
use mathlib.Core.List.{List, [], ◌∷◌}
use mathlib.Core.Option.{Option, none, some}
use mathlib.Core.Bool.{Bool, true, false, ◌&&◌}
use lib.ListN.{length, get_or, drop, length-drop}
use lib.Seq.{take_all}
use lib.Dec.{ltb}
use borrow.Author.Tests.{eq-eqb, ne_eqb}
use Rattle.rules.specs.Basics.{Bytes, all, byte, kind, number, records}
use Rattle.rules.specs.Acl.{Limit, limit_of, limits_of}
use Rattle.rules.specs.Grant.{limit_left, unspent_with}
use Rattle.rules.proofs.Rows.{first, no_rows}
use Rattle.acl_groups.proofs.Laws.{limits_at, limits_over, limits_none}
use Rattle.reason_limits.specs.Limits.{first_failing}

module _ (counters : List ℕ) (own elapsed : ℕ) (r : Bytes) where
  -- one of sort 1 is about the group's own count
  pub own_left : (m : ℕ) → m ≡ number 8 4 r → byte 4 r ≡ 1 → ltb own m ≡ limit_left counters own elapsed (limit_of r)
  unfolding limit_left
  own_left m e k = rw (eq-eqb (byte 4 r) 1 k, e)

  and_true : (b : Bool) → (b && true) ≡ b
  and_true true = refl
  and_true false = refl

  one_limit : length r ≡ 64 → get_or r 0 0 ≡ 2 → limits_of (records r) ≡ limit_of r ∷ []
  unfolding limits_of
  one_limit h k =
      let d : records (drop 64 r) ≡ [] = no_rows (drop 64 r) (omega (arith, length-drop 64 r)) in
      let e : records r ≡ r ∷ [] = first r (omega arith) ∙ rw (take_all 64 r (omega arith), d) in
      ap limits_of e ∙ rw (eq-eqb (get_or r 0 0) 2 k)

  -- another is not
  pub other_left : (b : Bool) → length r ≡ 64 → get_or r 0 0 ≡ 2 → (byte 4 r ≡ 1 → ⊥) → b ≡ unspent_with counters 0 elapsed (limits_of (records r)) → b ≡ limit_left counters own elapsed (limit_of r)
  unfolding limit_left all
  other_left b h k n e = e ∙ rw (one_limit h k, ne_eqb (byte 4 r) 1 n) (and_true _)

-- A loop over the records of a group for the first limit that fails a test, from the i-th record on.
module _ (test : Limit → Bool) (xs : List Bytes) (i : ℕ) (x : Option ℕ) (inv : first_failing test i (limits_of (drop i xs)) ≡ x) where
  pub failing_done : length xs ≤ i → none ≡ x
  unfolding first_failing
  failing_done h = sym (ap (first_failing test i) (limits_none xs i h)) ∙ inv

  module _ (h : i < length xs) where
    pub failing_stop : (kind (get_or xs i []) ≡ 2 → ⊥) → none ≡ x
    unfolding first_failing
    failing_stop n = sym (ap (first_failing test i) (limits_over xs i h n)) ∙ inv

    module _ (t : Bool) (e : kind (get_or xs i []) ≡ 2) (d : t ≡ test (limit_of (get_or xs i []))) where
      pub failing_here : t ≡ false → some i ≡ x
      unfolding first_failing
      failing_here y = sym (ap (first_failing test i) (limits_at xs i h e) ∙ rw (sym d ∙ y)) ∙ inv

      pub failing_next : t ≡ true → first_failing test (i + 1) (limits_of (drop (i + 1) xs)) ≡ x
      unfolding first_failing
      failing_next y =
          ap (λ (n : ℕ). first_failing test n (limits_of (drop (i + 1) xs))) (add-one i) ∙ sym (ap (first_failing test i) (limits_at xs i h e) ∙ rw (sym d ∙ y)) ∙ inv
