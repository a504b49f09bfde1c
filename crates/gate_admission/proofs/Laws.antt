-- The tests of this crate in the definitions' terms.
use Prim.Native.Nat.{ℕ, ◌+◌, ◌/◌, ◌^◌, ◌≤◌, ◌<◌}
use native.Mathlib.Omega.{arith}
use native.Mathlib.Nat.{div-eq_of_lt}
use mathlib.Core.Path.{◌≡◌, refl, sym, ◌∙◌, ap}
use mathlib.Core.List.{List, [], ◌∷◌}
use mathlib.Core.Option.{Option, none}
use mathlib.Core.Bool.{Bool, true, false, not, ◌&&◌, ◌||◌, false≢true}
use borrow.Author.Tests.{eq-eqb, ne_eqb, eqb-true, eqb-false, not-true, not-false}
use lib.ListN.{length, drop, get_or}
use Rattle.std.specs.Prelude.{if◌then◌else◌}
use lib.Dec.{eqb}
use lib.Pow.{pow_mono}
use Rattle.rules.specs.Basics.{Bytes, any, bit, number, byte, kind}
use Rattle.rules.specs.Acl.{blob_rule_of, archive_rule_of, BlobfileRule, blobfile_rule_next, action_of, Action, actions_of}
use Rattle.rules.specs.Request.{working_blob_of, recovery_blob_of, Blobfile, wanted_of}
use Rattle.rules.specs.Grant.{admits_blob, admits_archive, admits_blobfile, admits_use, admits_working, admits_recovery, admits}
use Rattle.record_fields.proofs.Walks.{left_at, left_none}
use Rattle.acl_groups.specs.Parts.{passed_over}

and_false : (a : Bool) → (a && false) ≡ false
and_false true = refl
and_false false = refl

and_true : (a : Bool) → (a && true) ≡ a
and_true true = refl
and_true false = refl

-- An action by its kind, against what a request record asks for.
high_bit : (p n : ℕ) → n < 65536 → 16 ≤ p → bit p n ≡ false
high_bit p n h k =
    let b : 2 ^ 16 ≤ 2 ^ p = pow_mono k in
    let z : n / 2 ^ p ≡ 0 = div-eq_of_lt (omega arith) in
    rw z

module _ (p : ℕ) (act : Bytes) (file : Option BlobfileRule) where
  pub use_other : (kind act ≡ 3 → ⊥) → false ≡ admits_use p (action_of act file)
  unfolding admits_use action_of
  use_other n = pick (eqb (kind act) 4) refl
    where
      pick : (b : Bool) → eqb (kind act) 4 ≡ b → false ≡ admits_use p (action_of act file)
      pick true e = rw (ne_eqb (kind act) 3 n, e)
      pick false e = rw (ne_eqb (kind act) 3 n, e)

  pub use_high : (x : ℕ) → kind act ≡ 3 → x ≡ number 4 2 act → 16 ≤ p → x < 65536 → false ≡ admits_use p (action_of act file)
  unfolding admits_use action_of
  use_high x e q h k = sym (rw (eq-eqb (kind act) 3 e, ← q) (high_bit p x k h))

  pub use_bit : (x : ℕ) (r : Bool) → kind act ≡ 3 → x ≡ number 4 2 act → r ≡ bit p x → r ≡ admits_use p (action_of act file)
  unfolding admits_use action_of
  use_bit x r e q d = d ∙ sym (rw (eq-eqb (kind act) 3 e, ← q))

module _ (km0 rec : Bytes) (stored : Option Blobfile) (act : Bytes) (file : Option BlobfileRule) where
  pub working_other : (kind act ≡ 4 → ⊥) → false ≡ admits_working km0 (working_blob_of rec) stored (action_of act file)
  unfolding admits_working action_of
  working_other n = pick (eqb (kind act) 3) refl
    where
      pick : (b : Bool) → eqb (kind act) 3 ≡ b → false ≡ admits_working km0 (working_blob_of rec) stored (action_of act file)
      pick true e = rw e
      pick false e = rw (e, ne_eqb (kind act) 4 n)

  module _ (t : Bool) (e : kind act ≡ 4) (d : t ≡ admits_blobfile file stored) where
    pub working_elsewhere : not t ≡ true → false ≡ admits_working km0 (working_blob_of rec) stored (action_of act file)
    unfolding admits_working action_of
    working_elsewhere y =
        let f : admits_blobfile file stored ≡ false = sym d ∙ not-true t y in
        sym (rw (ne_eqb (kind act) 3 (λ x. omega arith), eq-eqb (kind act) 4 e, f) (and_false (admits_blob km0 (blob_rule_of act) (working_blob_of rec))))

    pub working_is : (r : Bool) → not t ≡ false → r ≡ admits_blob km0 (blob_rule_of act) (working_blob_of rec) → r ≡ admits_working km0 (working_blob_of rec) stored (action_of act file)
    unfolding admits_working action_of
    working_is r y q =
        let f : admits_blobfile file stored ≡ true = sym d ∙ not-false t y in
        q ∙ sym (rw (ne_eqb (kind act) 3 (λ x. omega arith), eq-eqb (kind act) 4 e, f) (and_true (admits_blob km0 (blob_rule_of act) (working_blob_of rec))))

module _ (rec : Bytes) (stored : Option Blobfile) (act : Bytes) (file : Option BlobfileRule) where
  recovery_use : kind act ≡ 3 → false ≡ admits_recovery (recovery_blob_of rec) stored (action_of act file)
  unfolding admits_recovery action_of
  recovery_use e = sym (rw (eq-eqb (kind act) 3 e))

  recovery_blob_lem : kind act ≡ 4 → false ≡ admits_recovery (recovery_blob_of rec) stored (action_of act file)
  unfolding admits_recovery action_of
  recovery_blob_lem e = sym (rw (ne_eqb (kind act) 3 (λ x. omega arith), eq-eqb (kind act) 4 e))

  pub recovery_low : 3 ≤ kind act → kind act < 5 → false ≡ admits_recovery (recovery_blob_of rec) stored (action_of act file)
  recovery_low h l = pick (eqb (kind act) 3) refl
    where
      pick : (b : Bool) → eqb (kind act) 3 ≡ b → false ≡ admits_recovery (recovery_blob_of rec) stored (action_of act file)
      pick true e = recovery_use (eqb-true (kind act) 3 e)
      pick false e = let n = eqb-false (kind act) 3 e in recovery_blob_lem (omega arith)

  pub recovery_is : (r t : Bool) → (kind act ≡ 3 → ⊥) → (kind act ≡ 4 → ⊥) → r ≡ admits_archive (archive_rule_of act) (recovery_blob_of rec) → t ≡ admits_blobfile file stored
      → (r && t) ≡ admits_recovery (recovery_blob_of rec) stored (action_of act file)
  unfolding admits_recovery action_of
  recovery_is r t n m q d = rw (q, d) (sym (rw (ne_eqb (kind act) 3 n, ne_eqb (kind act) 4 m)))

-- what a request record asks for, by its kind
module _ (km0 rec : Bytes) (stored : Option Blobfile) where
  asks_use : kind rec ≡ 6 → (acts : List Action) → any (admits_use (byte 4 rec)) acts ≡ any (admits km0 (wanted_of rec stored)) acts
  unfolding admits wanted_of any
  asks_use e [] = refl
  asks_use e (a ∷ rest) = rw (eq-eqb (kind rec) 6 e, asks_use e rest) refl

  pub asks_some_use : (r : Bool) (acts : List Action) → kind rec ≡ 6 → r ≡ any (admits_use (byte 4 rec)) acts → r ≡ any (admits km0 (wanted_of rec stored)) acts
  asks_some_use r acts e q = q ∙ asks_use e acts

  pub asks_working : (act : Bytes) (file : Option BlobfileRule) (r : Bool) → (kind rec ≡ 6 → ⊥) → kind rec ≡ 7 → r ≡ admits_working km0 (working_blob_of rec) stored (action_of act file)
      → r ≡ admits km0 (wanted_of rec stored) (action_of act file)
  unfolding admits wanted_of
  asks_working act file r n e q = q ∙ sym (rw (ne_eqb (kind rec) 6 n, eq-eqb (kind rec) 7 e))

  pub asks_recovery : (act : Bytes) (file : Option BlobfileRule) (r : Bool) → (kind rec ≡ 6 → ⊥) → (kind rec ≡ 7 → ⊥) → r ≡ admits_recovery (recovery_blob_of rec) stored (action_of act file)
      → r ≡ admits km0 (wanted_of rec stored) (action_of act file)
  unfolding admits wanted_of
  asks_recovery act file r n m q = q ∙ sym (rw (ne_eqb (kind rec) 6 n, ne_eqb (kind rec) 7 m))

-- A loop over a group's actions, by those that are left, of which a is the next.
module _ (p : Action → Bool) (x : Bool) (left : List Action) (inv : any p left ≡ x) where
  module _ (a : Action) (bs : List Action) (step : left ≡ a ∷ bs) (t : Bool) (e : t ≡ p a) where
    pub acts_found : t ≡ true → true ≡ x
    unfolding any
    acts_found y = sym (ap (any p) step ∙ rw (sym e ∙ y)) ∙ inv

    pub acts_next : t ≡ false → any p bs ≡ x
    unfolding any
    acts_next y = sym (ap (any p) step ∙ rw (sym e ∙ y)) ∙ inv

  pub acts_none : left ≡ [] → false ≡ x
  unfolding any
  acts_none e = sym (ap (any p) e) ∙ inv

-- The loop for a use, over every record: one that is no action admits none, and neither does an action of another kind.
module _ (p : ℕ) (xs : List Bytes) (i : ℕ) (x : Bool) (inv : any (admits_use p) (actions_of (drop i xs)) ≡ x) where
  pub uses_none : length xs ≤ i → false ≡ x
  unfolding actions_of
  uses_none h = acts_none (admits_use p) x (actions_of (drop i xs)) inv (ap actions_of (left_none xs i h))

  module _ (h : i < length xs) where
    pub uses_stop : kind (get_or xs i []) ≡ 1 → false ≡ x
    unfolding actions_of
    uses_stop e = acts_none (admits_use p) x (actions_of (drop i xs)) inv (ap actions_of (left_at xs i h) ∙ rw (eq-eqb (kind (get_or xs i [])) 1 e))

    module _ (t : Bool) (n : kind (get_or xs i []) ≡ 1 → ⊥) (e : (file : Option BlobfileRule) → t ≡ admits_use p (action_of (get_or xs i []) file)) where
      over : passed_over (kind (get_or xs i [])) ≡ true → actions_of (drop i xs) ≡ actions_of (drop (i + 1) xs)
      unfolding actions_of
      over d = ap actions_of (left_at xs i h) ∙ rw (ne_eqb (kind (get_or xs i [])) 1 n) (skipped (eqb (kind (get_or xs i [])) 2) (eqb (kind (get_or xs i [])) 15) _ _ d)
        where
          skipped : {A : Type 0} (a b : Bool) (y z : A) → (a || b) ≡ true → (if a then y else if b then y else z) ≡ y
          skipped true b y z e = refl
          skipped false true y z e = refl
          skipped false false y z e = absurd (false≢true e)

      here : passed_over (kind (get_or xs i [])) ≡ false → actions_of (drop i xs) ≡ action_of (get_or xs i []) (blobfile_rule_next (drop (i + 1) xs)) ∷ actions_of (drop (i + 1) xs)
      unfolding actions_of
      here d = ap actions_of (left_at xs i h) ∙ rw (ne_eqb (kind (get_or xs i [])) 1 n) (taken (eqb (kind (get_or xs i [])) 2) (eqb (kind (get_or xs i [])) 15) _ _ d)
        where
          taken : {A : Type 0} (a b : Bool) (y z : A) → (a || b) ≡ false → (if a then y else if b then y else z) ≡ z
          taken true b y z e = absurd (false≢true (sym e))
          taken false true y z e = absurd (false≢true (sym e))
          taken false false y z e = refl

      other_none : (kind (get_or xs i []) ≡ 3 → ⊥) → t ≡ false
      other_none m = e none ∙ sym (use_other p (get_or xs i []) none m)

      pub uses_found : t ≡ true → true ≡ x
      uses_found y = pick (eqb (kind (get_or xs i [])) 3) refl
        where
          pick : (b : Bool) → eqb (kind (get_or xs i [])) 3 ≡ b → true ≡ x
          pick true d = acts_found (admits_use p) x _ inv _ _ (here (ap passed_over (eqb-true (kind (get_or xs i [])) 3 d))) t (e (blobfile_rule_next (drop (i + 1) xs))) y
          pick false d = absurd (false≢true (sym (other_none (eqb-false (kind (get_or xs i [])) 3 d)) ∙ y))

      pub uses_next : t ≡ false → any (admits_use p) (actions_of (drop (i + 1) xs)) ≡ x
      uses_next y = pick (passed_over (kind (get_or xs i []))) refl
        where
          pick : (b : Bool) → passed_over (kind (get_or xs i [])) ≡ b → any (admits_use p) (actions_of (drop (i + 1) xs)) ≡ x
          pick true d = sym (ap (any (admits_use p)) (over d)) ∙ inv
          pick false d = acts_next (admits_use p) x _ inv _ _ (here d) t (e (blobfile_rule_next (drop (i + 1) xs))) y
