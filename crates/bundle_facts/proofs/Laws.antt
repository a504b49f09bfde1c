-- What the first record of a sort says, and a record that lists a key.
use Prim.Native.Nat.{ℕ, ◌+◌, ◌<◌}
use mathlib.Core.Path.{◌≡◌, refl, sym, ◌∙◌, ap}
use mathlib.Core.List.{List, [], ◌∷◌}
use mathlib.Core.Option.{none, some}
use mathlib.Core.Bool.{Bool, true, false, not, ◌&&◌, ◌||◌}
use borrow.Author.Tests.{not-true, not-false}
use lib.ListN.{get_or}
use lib.Dec.{eqb}
use Rattle.std.specs.List.{list_any}
use Rattle.rules.specs.Basics.{Bytes, any, same, bit, part, records}
use Rattle.rules.specs.Bundle.{first_record, numbered, field, lists, content_of, signature_outcome, goodness_of, Policy, policy_from, policy_in, policy_of}
use Rattle.bundle_facts.specs.Places.{entered}
use Rattle.bundle_facts.proofs.Places.{first_fact, first_signature, first_policy}

-- What each lookup makes of the first record of its entry.
module _ (n : ℕ) (s : Bytes) (below : n < 16) where
  pub content_none : none ≡ first_record (entered n) (records s) → none ≡ field n (records s)
  unfolding field
  content_none e = ap content_of (e ∙ first_fact n (records s) below)

  -- the content as the code takes it, `&rec[8..28]`
  pub content_some : (rec : Bytes) → some rec ≡ first_record (entered n) (records s) → some (part 8 20 rec) ≡ field n (records s)
  unfolding field
  content_some rec e = ap content_of (e ∙ first_fact n (records s) below)

module _ (n : ℕ) (s : Bytes) (below : n < 8) where
  pub outcome_none : none ≡ first_record (entered (16 + n)) (records s) → none ≡ signature_outcome n (records s)
  unfolding signature_outcome
  outcome_none e = ap goodness_of (e ∙ first_signature n (records s) below)

  pub outcome_some : (rec : Bytes) → some rec ≡ first_record (entered (16 + n)) (records s) → some (eqb (get_or rec 5 0) 1) ≡ signature_outcome n (records s)
  unfolding signature_outcome
  outcome_some rec e = ap goodness_of (e ∙ first_signature n (records s) below)

module _ (s : Bytes) where
  pub policy_none : none ≡ first_record (entered 24) (records s) → policy_from [] ≡ policy_of (records s)
  unfolding policy_of
  policy_none e = ap policy_in (e ∙ first_policy (records s))

  pub policy_some : (rec : Bytes) (signing encryption csr : Bool) → some rec ≡ first_record (entered 24) (records s) → signing ≡ bit 0 (get_or rec 6 0) → encryption ≡ bit 1 (get_or rec 6 0) → csr ≡ bit 2 (get_or rec 6 0)
      → ◌≡◌ {A = Policy} (record { suite = get_or rec 4 0; approach = get_or rec 5 0; signing = signing; encryption = encryption; csr = csr; lowest_protection = get_or rec 7 0 }) (policy_of (records s))
  unfolding policy_of
  policy_some rec signing encryption csr e a b c = rw (a, b, c) (ap policy_in (e ∙ first_policy (records s)))

-- a record that lists a key is one of field 14
module _ (key rec : Bytes) where
  pub lists_not : not (eqb (get_or rec 0 0) 10 && eqb (get_or rec 4 0) 14) ≡ true → false ≡ lists key rec
  unfolding lists numbered
  lists_not h = sym (rw (not-true (eqb (get_or rec 0 0) 10 && eqb (get_or rec 4 0) 14) h))

  pub lists_if : (t : Bool) → not (eqb (get_or rec 0 0) 10 && eqb (get_or rec 4 0) 14) ≡ false → t ≡ same (part 8 20 rec) key → t ≡ lists key rec
  unfolding lists numbered
  lists_if t h e = e ∙ sym (rw (not-false (eqb (get_or rec 0 0) 10 && eqb (get_or rec 4 0) 14) h))

-- whether any passes, as std says it
pub any_is : (p : Bytes → Bool) (rs : List Bytes) → list_any p rs ≡ any p rs
unfolding any
any_is p [] = refl
any_is p (r ∷ rs) = ap (λ (b : Bool). p r || b) (any_is p rs)
