-- One record under the trimming tool (request l): what stays has its kind and its layout, and says the same action or one without its failing bits.
use Prim.Native.Nat.{ℕ}
use mathlib.Core.Path.{◌≡◌, refl, sym, ◌∙◌, ap}
use mathlib.Core.Logic.{inl, inr}
use mathlib.Core.List.{List}
use mathlib.Core.Option.{Option, none, some}
use mathlib.Core.Bool.{Bool, true, false, not, false≢true}
use lib.Dec.{eqb}
use Rattle.rules.specs.Basics.{Bytes, implies, number, kind, present, bit}
use Rattle.rules.specs.Layout.{permissions_laid_out}
use Rattle.rules.specs.Acl.{BlobfileRule, permissions, action_of, action_laid_out}
use Rattle.rules.specs.Bundle.{policy_of}
use Rattle.rules.specs.Desk.{Step, class_of, policy_admits, failure_under, action_failure}
use Rattle.rules.specs.Trim.{kept_bits, with_bits, action_passes, stays, trimmed_record}
use Rattle.theorems.specs.Trimmed.{Fails, is_blob, KeptAs}
use Rattle.rules.proofs.Laws.{and_right, not_both, implication, all_below_all}
use Rattle.rules.proofs.Joined.{Whole}
use Rattle.rules.proofs.Bits.{kept_bit_lem}
use Rattle.rules.proofs.Trim.{masked}

-- what an action's failure is, whatever its blobfile says
pub same_failure : (b : List Bytes) (r : Bytes) (f : Option BlobfileRule) → action_failure b (action_of r f) ≡ action_failure b (action_of r none)
unfolding action_of failure_under
same_failure b r f = pick (eqb (kind r) 3) refl (eqb (kind r) 4) refl
  where
    pick : (s : Bool) → eqb (kind r) 3 ≡ s → (t : Bool) → eqb (kind r) 4 ≡ t → action_failure b (action_of r f) ≡ action_failure b (action_of r none)
    pick true e t d = rw e
    pick false e true d = rw (e, d)
    pick false e false d = rw (e, d)

passes_none : (b : List Bytes) (r : Bytes) (f : Option BlobfileRule) → action_passes b r ≡ true → action_failure b (action_of r f) ≡ none
unfolding action_passes
passes_none b r f e = same_failure b r f ∙ pick (action_failure b (action_of r none)) e
  where
    pick : (o : Option Step) → not (present o) ≡ true → o ≡ none
    pick none d = refl
    pick (some s) d = absurd (false≢true d)

fails_some : (b : List Bytes) (r : Bytes) (f : Option BlobfileRule) → action_passes b r ≡ false → Fails b (action_of r f)
unfolding action_passes
fails_some b r f e = pick (action_failure b (action_of r none)) refl e
  where
    pick : (o : Option Step) → action_failure b (action_of r none) ≡ o → not (present o) ≡ false → Fails b (action_of r f)
    pick none p d = absurd (false≢true (sym d))
    pick (some s) p d = (s, same_failure b r f ∙ p)

-- the masked bits of an OpPermissions action pass ACLV3
pub masked_passes : (b : List Bytes) (bits : ℕ) → action_failure b (permissions (kept_bits (policy_of b) bits)) ≡ none
unfolding failure_under
masked_passes b bits =
    rw (all_below_all 16 (λ p. implies (bit p (kept_bits (policy_of b) bits)) (policy_admits (policy_of b) (class_of p)))
    (λ p h. implication (bit p (kept_bits (policy_of b) bits)) (policy_admits (policy_of b) (class_of p))
    (λ e. and_right (bit p bits) (policy_admits (policy_of b) (class_of p)) (sym (kept_bit_lem 16 (λ p. policy_admits (policy_of b) (class_of p)) bits p h) ∙ e))))

permissions_of : (r : Bytes) (f : Option BlobfileRule) → eqb (kind r) 3 ≡ true → action_of r f ≡ permissions (number 4 2 r)
unfolding action_of
permissions_of r f e = rw e

permissions_laid_out_lem : (r : Bytes) → eqb (kind r) 3 ≡ true → action_laid_out r ≡ permissions_laid_out r
unfolding action_laid_out
permissions_laid_out_lem r e = rw e

blob_of : (r : Bytes) (f : Option BlobfileRule) → eqb (kind r) 3 ≡ false → is_blob (action_of r f) ≡ true
unfolding action_of
blob_of r f e = pick (eqb (kind r) 4) refl
  where
    pick : (t : Bool) → eqb (kind r) 4 ≡ t → is_blob (action_of r f) ≡ true
    pick true d = rw (e, d)
    pick false d = rw (e, d)

-- An action's record that stays.
pub record Stays (b : List Bytes) (checked : Bool) (r : Bytes) : Type 0 where
  pub whole : Whole (trimmed_record b checked r)
  pub same_kind : kind (trimmed_record b checked r) ≡ kind r
  pub same_flags : number 2 2 (trimmed_record b checked r) ≡ number 2 2 r
  pub laid_out : action_laid_out (trimmed_record b checked r) ≡ action_laid_out r
  pub kept_as : (f : Option BlobfileRule) → KeptAs b checked (action_of r f) (action_of (trimmed_record b checked r) f)
  pub passing : (f : Option BlobfileRule) → checked ≡ true → action_failure b (action_of (trimmed_record b checked r) f) ≡ none
  pub unchanged : action_passes b r ≡ true → trimmed_record b checked r ≡ r

pub stays_as : (b : List Bytes) (checked : Bool) (r : Bytes) → Whole r → stays b checked r ≡ true → Stays b checked r
unfolding stays trimmed_record
stays_as b false r w e =
    record { whole = w; same_kind = refl; same_flags = refl; laid_out = refl; kept_as = λ f. inl refl; passing = λ f d. absurd (false≢true d); unchanged = λ p. refl }
stays_as b true r w e = pick (action_passes b r) refl
  where
    n : ℕ
    n = kept_bits (policy_of b) (number 4 2 r)

    pick : (t : Bool) → action_passes b r ≡ t → Stays b true r
    pick true p =
        record {
          whole = rw p w;
          same_kind = rw p;
          same_flags = rw p;
          laid_out = rw p;
          kept_as = λ f. rw p (inl refl);
          passing = λ f d. rw p (passes_none b r f p);
          unchanged = λ q. rw p;
        }
    pick false p =
        let k : eqb (kind r) 3 ≡ true = rw p at e in
        let m = masked n r w in
        let j : eqb (kind (with_bits n r)) 3 ≡ true = rw m.same_kind k in
        let a : (f : Option BlobfileRule) → action_of (with_bits n r) f ≡ permissions n = λ f. permissions_of (with_bits n r) f j ∙ ap permissions m.bits in
        record {
          whole = rw p m.whole;
          same_kind = rw p m.same_kind;
          same_flags = rw p m.same_flags;
          laid_out = rw p (permissions_laid_out_lem (with_bits n r) j ∙ m.laid_out ∙ sym (permissions_laid_out_lem r k));
          kept_as = λ f. rw p (inr (
            refl,
            record {
              before = number 4 2 r;
              left = n;
              was_set = permissions_of r f k;
              is_set = a f;
              exactly = λ i h. kept_bit_lem 16 (λ i. policy_admits (policy_of b) (class_of i)) (number 4 2 r) i h;
              failed = fails_some b r f p;
            },
          ));
          passing = λ f d. rw (p, a f) (masked_passes b (number 4 2 r));
          unchanged = λ q. absurd (not_both (action_passes b r) q p);
        }

-- An action's record that goes: a blob action of a checked group, which fails a step.
pub record Goes (b : List Bytes) (checked : Bool) (r : Bytes) : Type 0 where
  pub is_checked : checked ≡ true
  pub blob : (f : Option BlobfileRule) → is_blob (action_of r f) ≡ true
  pub fails : (f : Option BlobfileRule) → Fails b (action_of r f)

pub goes_as : (b : List Bytes) (checked : Bool) (r : Bytes) → stays b checked r ≡ false → Goes b checked r
unfolding stays
goes_as b false r e = absurd (false≢true (sym e))
goes_as b true r e = pick (action_passes b r) refl (eqb (kind r) 3) refl
  where
    pick : (s : Bool) → action_passes b r ≡ s → (t : Bool) → eqb (kind r) 3 ≡ t → Goes b true r
    pick true p t q = absurd (false≢true (sym (rw p at e)))
    pick false p true q = absurd (false≢true (sym (rw (p, q) at e)))
    pick false p false q = record { is_checked = refl; blob = λ f. blob_of r f q; fails = λ f. fails_some b r f p }
