-- New groups against the sources that their hints name, one after the other.
use Prim.Native.Nat.{ℕ, suc, ◌+◌, ◌≤◌, ◌<◌}
use native.Mathlib.Omega.{arith}
use native.Mathlib.Numerals.{add-one}
use mathlib.Core.Path.{◌≡◌, refl, sym, ◌∙◌, ap}
use mathlib.Core.List.{List, [], ◌∷◌, map}
use mathlib.Core.Option.{none, some}
use mathlib.Core.Bool.{Bool, true, false, ◌&&◌}
use borrow.Author.Tests.{lt-leb, le-leb, ne_eqb}
use lib.ListN.{length, get_elem?}
use lib.Dec.{eqb, leb}
use Rattle.rules.specs.Basics.{Bytes, part, byte}
use Rattle.rules.specs.Acl.{Group}
use Rattle.rules.specs.Request.{hint_of}
use Rattle.rules.specs.Narrow.{group_narrows, narrows_source, narrows_from}
use Rattle.gate_narrowing.proofs.Laws.{empty}

module _ (olds news : List Group) (low : ℕ) (hints : List Bytes) (x : Bool) (inv : narrows_from olds low news (map hint_of hints) ≡ x) where
  pub hints_over : (r : Bool) → news ≡ [] → r ≡ eqb (length hints) 0 → r ≡ x
  unfolding narrows_from
  hints_over r e p = p ∙ last hints ∙ ap (λ (z : List Group). narrows_from olds low z (map hint_of hints)) (sym e) ∙ inv
    where
      last : (hs : List Bytes) → eqb (length hs) 0 ≡ narrows_from olds low [] (map hint_of hs)
      last [] = refl
      last (h ∷ hs) = ne_eqb (length (h ∷ hs)) 0 (λ k. omega arith)

  module _ (n : Group) (more : List Group) (e : news ≡ n ∷ more) where
    pub hint_lacking : length hints ≡ 0 → false ≡ x
    unfolding narrows_from
    hint_lacking l = let d = empty hints l in rw (e, d) at inv

    module _ (h : Bytes) (others : List Bytes) (d : hints ≡ h ∷ others) where
      step : (leb low (byte 4 h) && narrows_source n (part 8 8 h) (get_elem? olds (byte 4 h)) && narrows_from olds (suc (byte 4 h)) more (map hint_of others)) ≡ x
      unfolding narrows_from
      step = rw (e, d) at inv

      pub source_falls : byte 4 h < low → false ≡ x
      source_falls f = rw (lt-leb low (byte 4 h) f) at step

      module _ (l : low ≤ byte 4 h) where
        pub source_missing : none ≡ get_elem? olds (byte 4 h) → false ≡ x
        source_missing f = rw (le-leb low (byte 4 h) l, ← f) at step

        module _ (o : Group) (f : some o ≡ get_elem? olds (byte 4 h)) (t : Bool) (p : t ≡ group_narrows n (part 8 8 h) o) where
          taken : (t && narrows_from olds (byte 4 h + 1) more (map hint_of others)) ≡ x
          taken = let z : (t && narrows_from olds (suc (byte 4 h)) more (map hint_of others)) ≡ x = rw (le-leb low (byte 4 h) l, ← f, ← p) at step in rw add-one z

          pub source_wider : t ≡ false → false ≡ x
          source_wider y = rw y at taken

          pub source_kept : t ≡ true → narrows_from olds (byte 4 h + 1) more (map hint_of others) ≡ x
          source_kept y = rw y at taken
