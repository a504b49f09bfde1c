-- New groups against the sources that their hints name, one after the other.
use Prim.Native.Nat.{ℕ, suc, ◌+◌, ◌≤◌, ◌<◌}
use native.Mathlib.Numerals.{add-one}
use mathlib.Core.Path.{◌≡◌, refl, sym, ◌∙◌, ap}
use mathlib.Core.List.{List, [], ◌∷◌, map}
use mathlib.Core.Option.{none, some}
use mathlib.Core.Bool.{Bool, true, false}
use borrow.Author.Tests.{eqb-true, eqb-false, lt-leb, le-leb}
use lib.ListN.{length, get_elem?}
use lib.Dec.{eqb, leb}
use Rattle.std.specs.Prelude.{if◌then◌else◌}
use Rattle.rules.specs.Basics.{Bytes, part, byte}
use Rattle.rules.specs.Acl.{Group}
use Rattle.rules.specs.Request.{hint_of}
use Rattle.gate_narrowing.proofs.Laws.{empty}
use Rattle.reason_narrowing.specs.Breaches.{is_breach, group_breach, source_breach, broken_or, narrowing_from}
use Rattle.reason_narrowing.specs.declared.Breach.{Breach}
use Rattle.reason_narrowing.specs.declared.Breach.TheVariants as breach
use Rattle.reason_narrowing.specs.declared.Narrowing.{Narrowing}
use Rattle.reason_narrowing.specs.declared.Narrowing.TheVariants.{Shown, Broken}

module _ (olds news : List Group) (low i : ℕ) (hints : List Bytes) (x : Narrowing) (inv : narrowing_from olds low i news (map hint_of hints) ≡ x) where
  module _ (e : news ≡ []) (b : Bool) (p : b ≡ eqb (length hints) 0) where
    pub hints_left : b ≡ false → Broken i breach.Hint ≡ x
    unfolding narrowing_from
    hints_left y = pick hints (eqb-false (length hints) 0 (sym p ∙ y)) ∙ ap (λ (z : List Group). narrowing_from olds low i z (map hint_of hints)) (sym e) ∙ inv
      where
        pick : (hs : List Bytes) → (length hs ≡ 0 → ⊥) → Broken i breach.Hint ≡ narrowing_from olds low i [] (map hint_of hs)
        pick [] n = absurd (n refl)
        pick (h ∷ hs) n = refl

    pub hints_done : b ≡ true → Shown ≡ x
    unfolding narrowing_from
    hints_done y = let d = empty hints (eqb-true (length hints) 0 (sym p ∙ y)) in rw (e, d) at inv

  module _ (n : Group) (more : List Group) (e : news ≡ n ∷ more) where
    pub hint_lacking : length hints ≡ 0 → Broken i breach.Hint ≡ x
    unfolding narrowing_from
    hint_lacking l = let d = empty hints l in rw (e, d) at inv

    module _ (h : Bytes) (others : List Bytes) (d : hints ≡ h ∷ others) where
      step : (if leb low (byte 4 h) then broken_or (source_breach n (part 8 8 h) (get_elem? olds (byte 4 h))) i (narrowing_from olds (suc (byte 4 h)) (suc i) more (map hint_of others)) else Broken i breach.Hint) ≡ x
      unfolding narrowing_from
      step = rw (e, d) at inv

      pub source_falls : byte 4 h < low → Broken i breach.Hint ≡ x
      source_falls f = rw (lt-leb low (byte 4 h) f) at step

      module _ (l : low ≤ byte 4 h) where
        pub source_missing : none ≡ get_elem? olds (byte 4 h) → Broken i breach.Hint ≡ x
        source_missing f = rw (le-leb low (byte 4 h) l, ← f) at step

        module _ (o : Group) (f : some o ≡ get_elem? olds (byte 4 h)) (t : Breach) (p : t ≡ group_breach n (part 8 8 h) o) where
          risen : broken_or t i (narrowing_from olds (suc (byte 4 h)) (suc i) more (map hint_of others)) ≡ x
          risen = rw (le-leb low (byte 4 h) l, ← f, ← p) at step

          pub source_breaks : is_breach t ≡ true → Broken i t ≡ x
          source_breaks y = rw y at risen

          pub source_kept : breach.Nothing ≡ t → (j : ℕ) → j ≡ suc i → narrowing_from olds (byte 4 h + 1) j more (map hint_of others) ≡ x
          source_kept y j q =
              let z : narrowing_from olds (suc (byte 4 h)) (suc i) more (map hint_of others) ≡ x = rw (← y) at risen in
              rw (q, add-one (byte 4 h)) z
