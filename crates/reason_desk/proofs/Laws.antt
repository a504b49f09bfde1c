-- What the code's answers say of the place of a verdict.
use Prim.Native.Nat.{ℕ, ◌+◌, ◌*◌, ◌%◌, ◌≤◌, ◌<◌}
use native.Mathlib.Omega.{arith}
use mathlib.Core.Path.{◌≡◌, refl, sym, ◌∙◌, ap}
use mathlib.Core.List.{List, [], ◌∷◌}
use mathlib.Core.Option.{none}
use mathlib.Core.Bool.{Bool, true, false, not, ◌&&◌, ◌||◌, false≢true}
use borrow.Author.Tests.{leb-true, ltb-true, ltb-false, lt-ltb, le-ltb}
use lib.ListN.{length, get_or}
use lib.Dec.{eqb, ltb, leb}
use Rattle.std.specs.Prelude.{None, Result, Ok, Err, cond, if◌then◌else◌}
use Rattle.std.specs.Prelude as prelude
use Rattle.std.specs.Result.{OkIff, result_unwrap_or}
use Rattle.std.specs.List.{prefix_len}
use Rattle.rules.specs.Sizes.{acl_records, bundle_records, record_bytes}
use Rattle.rules.specs.Numbers.{bad_length, unknown_suite}
use Rattle.rules.specs.Basics.{Bytes, unless, or_next, first_fault, records, fits}
use Rattle.rules.specs.Acl.{Group, acl_of, acl_fault}
use Rattle.rules.specs.Suites.{is_suite}
use Rattle.rules.specs.Bundle.{bundle_fault, policy_record, policy_of}
use Rattle.rules.specs.Desk.{Step, Verdict, accepted, failed, faulty, desk_fault, verdict_unless, attested, desk}
use Rattle.rules.proofs.Laws.{never}
use Rattle.bundle_facts.specs.Found.{bytes_as, policy_as}
use Rattle.desk_steps.specs.declared.Step as codeStep
use Rattle.desk_steps.specs.Steps.{step_as, step_number}
use Rattle.desk_actions.specs.declared.Terms.{Terms}
use Rattle.desk_actions.specs.Judging.{TermsOf}
use Rattle.desk.specs.declared.Verdict as code
use Rattle.desk.specs.declared.Verdict.TheVariants.{Failed}
use Rattle.desk.specs.Replies.{DeskReply, accepting, failing, refusing, verdict_as, verdict_for}
use Rattle.reason_files.specs.declared.FilePlace.{FilePlace}
use Rattle.reason_files.specs.declared.FilePlace.TheVariants.{Length, Record, End}
use Rattle.text_files.specs.declared.Kind.TheVariants.{Acl, Bundle}
use Rattle.reason_files.specs.Places.{Place, sound, at_length, at_record, at_end, place_in, place_as}
use Rattle.reason_steps.specs.declared.Defect.{Defect}
use Rattle.reason_steps.specs.Defects.{named, step_flaw}
use Rattle.reason_actions.specs.declared.Spot.{Spot}
use Rattle.reason_actions.specs.Spots.{all_ones, at_fault, skipped, in_groups, spot_as, spot_of}
use Rattle.reason_desk.specs.declared.Site.{Site}
use Rattle.reason_desk.specs.declared.Numbers.{Numbers}
use Rattle.reason_desk.specs.declared.VerdictPlace.{VerdictPlace}
use Rattle.reason_desk.specs.VerdictPlaces.{looks_at_bundle, step_located, step_place, index_number, site_of, is_length, is_sound, policy_index, refusal_site, refusal_place, nowhere, place_for, verdict_place}

-- The group and the action of a step.
module _ (s : Step) (b : List Bytes) (gs : List Group) (n : ℕ) (is : n ≡ step_number s) where
  pub spot_none : (ltb n 12 || eqb n 21) ≡ true → spot_as None ≡ spot_of (policy_of b) (step_located s b gs)
  unfolding step_located
  spot_none h = let k : looks_at_bundle s ≡ true = rw (← is) h in rw k refl

  pub spot_found : (ltb n 12 || eqb n 21) ≡ false → (t : Terms) → TermsOf b t → (r : prelude.Option Spot)
      → spot_as r ≡ spot_of (policy_as t.policy) (in_groups (skipped (bytes_as t.officer)) (at_fault (eqb n 20) (policy_as t.policy) (bytes_as t.hkm) (bytes_as t.hkre)) 0 gs)
      → spot_as r ≡ spot_of (policy_of b) (step_located s b gs)
  unfolding step_located
  spot_found h t of r e = let k : looks_at_bundle s ≡ false = rw (← is) h in rw k (rw (of.policy, of.officer, of.hkm, of.hkre, is) at e)

-- The index of the policy, by the records before it.
policy_told : (rs : List Bytes) (n i : ℕ) → n ≡ prefix_len (λ r. not (eqb (get_or r 0 0) 12)) rs → i + n ≡ policy_index i rs
unfolding policy_index policy_record
policy_told [] n i e = omega (arith, e)
policy_told (r ∷ rs) n i e = pick (eqb (get_or r 0 0) 12) e (policy_told rs (prefix_len (λ z. not (eqb (get_or z 0 0) 12)) rs) (i + 1) refl)
  where
    pick : (t : Bool) → n ≡ cond (not t) (1 + prefix_len (λ z. not (eqb (get_or z 0 0) 12)) rs) 0 → i + 1 + prefix_len (λ z. not (eqb (get_or z 0 0) 12)) rs ≡ policy_index (i + 1) rs
        → i + n ≡ (if t then i else policy_index (i + 1) rs)
    pick true d h = omega (arith, d)
    pick false d h = omega (arith, d, h)

pub policy_first : (bundle : Bytes) (xs : List Bytes) (n : ℕ) → xs ≡ records bundle → n ≡ prefix_len (λ r. not (eqb (get_or r 0 0) 12)) xs → n ≡ policy_index 0 (records bundle)
policy_first bundle xs n w e = let h = policy_told (records bundle) n 0 (rw w at e) in omega (arith, h)

-- Where in an input a fault is, by what a match found.
pub site_is : (input : ℕ) (p q : FilePlace) (r : Site) → p ≡ q → r ≡ site_of input (place_as (Err q)) → r ≡ site_of input (place_as (Err p))
site_is input p q r e k = rw e k

index_fits : (n i : ℕ) → i < 4294967295 → n ≡ i → n ≡ index_number i
unfolding index_number
index_fits n i h e = sym (rw (lt-ltb i 4294967295 h, e))

index_past : (n i : ℕ) → 4294967295 ≤ i → n ≡ 4294967295 → n ≡ index_number i
unfolding index_number
index_past n i h e = sym (rw (le-ltb i 4294967295 h, e))

index_by_size : (n i : ℕ) → (i < 4294967295 → n ≡ i) → (4294967295 ≤ i → n ≡ 4294967295) → n ≡ index_number i
index_by_size n i f p = pick (ltb i 4294967295) refl
  where
    pick : (b : Bool) → ltb i 4294967295 ≡ b → n ≡ index_number i
    pick true e = let h = ltb-true i 4294967295 e in index_fits n i h (f h)
    pick false e = let h = ltb-false i 4294967295 e in index_past n i h (p h)

-- what fits, and else all ones: the greatest that fits is all ones itself
pub index_told : {E : Type 0} (r : Result ℕ E) (n i : ℕ) → OkIff r (i < 4294967296) i → n ≡ result_unwrap_or r 4294967295 → n ≡ index_number i
index_told (Ok x) n i h e = index_by_size n i (λ k. e ∙ h.1) (λ k. omega (arith, e, h.1, h.0))
index_told (Err x) n i h e = index_by_size n i (λ k. absurd (h (omega arith))) (λ k. e)

-- a record, or the end
pub site_numbered : (input part i n : ℕ) → n ≡ index_number i → ◌≡◌ {A = Site} (record { input = input; part = part; index = n }) (record { input = input; part = part; index = index_number i })
site_numbered input part i n e = rw e

-- the first fault of two files, by their places
abbrev chosen : Site → Place → Place → Site
chosen policy b a =
    if is_length b then site_of 6 b
    else if is_length a then site_of 2 a
    else if is_sound b then if is_sound a then policy else site_of 2 a
    else site_of 6 b

acl_length : (policy : Site) (b a : Place) → (is_length a && not (is_length b)) ≡ true → site_of 2 at_length ≡ chosen policy b a
acl_length policy b sound e = absurd (false≢true e)
acl_length policy b (at_record f i) e = absurd (false≢true e)
acl_length policy b (at_end f n) e = absurd (false≢true e)
acl_length policy sound at_length e = refl
acl_length policy at_length at_length e = absurd (false≢true e)
acl_length policy (at_record f i) at_length e = refl
acl_length policy (at_end f n) at_length e = refl

bundle_fault_at : (policy : Site) (p : FilePlace) (a : Place) → (is_length a && not (is_length (place_as (Err p)))) ≡ false → site_of 6 (place_as (Err p)) ≡ chosen policy (place_as (Err p)) a
bundle_fault_at policy Length a e = refl
bundle_fault_at policy (Record r i) sound e = refl
bundle_fault_at policy (Record r i) at_length e = absurd (false≢true (sym e))
bundle_fault_at policy (Record r i) (at_record f j) e = refl
bundle_fault_at policy (Record r i) (at_end f n) e = refl
bundle_fault_at policy (End r n) sound e = refl
bundle_fault_at policy (End r n) at_length e = absurd (false≢true (sym e))
bundle_fault_at policy (End r n) (at_record f j) e = refl
bundle_fault_at policy (End r n) (at_end f m) e = refl

acl_fault_at : (policy : Site) (p : FilePlace) → site_of 2 (place_as (Err p)) ≡ chosen policy sound (place_as (Err p))
acl_fault_at policy Length = refl
acl_fault_at policy (Record r i) = refl
acl_fault_at policy (End r n) = refl

-- what the two readers found of the files
module _ (bundle acl : Bytes) (x y : Result (Unit {0}) FilePlace) (p : place_as x ≡ place_in Bundle bundle) (q : place_as y ≡ place_in Acl acl) (r : Site) where
  abbrev policy_site : Site
  policy_site = record { input = 6; part = 2; index = index_number (policy_index 0 (records bundle)) }

  whole : refusal_site bundle acl ≡ chosen policy_site (place_as x) (place_as y)
  unfolding refusal_site
  whole = rw (← p, ← q)

  module _ (t u : Bool) (isT : t ≡ is_length (place_as y)) (isU : u ≡ is_length (place_as x)) where
    pub site_acl_length : (t && not u) ≡ true → r ≡ site_of 2 at_length → r ≡ refusal_site bundle acl
    site_acl_length h e = e ∙ acl_length policy_site (place_as x) (place_as y) (rw (← isT, ← isU) h) ∙ sym whole

    pub site_bundle : (t && not u) ≡ false → (w : FilePlace) → x ≡ Err w → r ≡ site_of 6 (place_as (Err w)) → r ≡ refusal_site bundle acl
    site_bundle h w d e =
        e
        ∙ bundle_fault_at policy_site w (place_as y) (rw d at (rw (isT, isU) at h))
        ∙ sym (whole ∙ ap (λ (z : Result (Unit {0}) FilePlace). chosen policy_site (place_as z) (place_as y)) d)

  module _ (v : Unit {0}) (d : x ≡ Ok v) where
    by_both : refusal_site bundle acl ≡ chosen policy_site sound (place_as y)
    by_both = whole ∙ ap (λ (z : Result (Unit {0}) FilePlace). chosen policy_site (place_as z) (place_as y)) d

    pub site_acl : (w : FilePlace) → y ≡ Err w → r ≡ site_of 2 (place_as (Err w)) → r ≡ refusal_site bundle acl
    site_acl w f e = e ∙ acl_fault_at policy_site w ∙ sym (by_both ∙ ap (λ (z : Result (Unit {0}) FilePlace). chosen policy_site sound (place_as z)) f)

    pub site_policy : (z : Unit {0}) → y ≡ Ok z → (i n : ℕ) → i ≡ policy_index 0 (records bundle) → n ≡ index_number i → r ≡ record { input = 6; part = 2; index = n } → r ≡ refusal_site bundle acl
    site_policy z f i n k m e =
        e
        ∙ site_numbered 6 2 (policy_index 0 (records bundle)) n (m ∙ ap index_number k)
        ∙ sym (by_both ∙ ap (λ (w : Result (Unit {0}) FilePlace). chosen policy_site sound (place_as w)) f)

-- the place of a refusal
pub refusal_is : (n m : ℕ) (s t : Site) (r : VerdictPlace) → n ≡ m → s ≡ t → r ≡ refusal_place n s → r ≡ refusal_place m t
refusal_is n m s t r e f k = k ∙ rw (e, f)

-- the place of a step
pub place_is : (s : Step) (b : List Bytes) (gs : List Group) (n : ℕ) (d : Defect) (o : prelude.Option Spot) (t : Numbers) → n ≡ step_number s → d ≡ named (step_flaw s b)
    → (t.group ≡ (spot_as o).group) × (t.action ≡ (spot_as o).action) × (t.permission ≡ (spot_as o).permission) → spot_as o ≡ spot_of (policy_of b) (step_located s b gs)
    → record {
      refusal = 0;
      step = n;
      input = 0;
      part = 0;
      index = all_ones;
      what = d.what;
      number = d.number;
      group = t.group;
      action = t.action;
      permission = t.permission;
    } ≡ step_place s b gs
place_is s b gs n d o t e f g h = rw (e, f, g.0, g.1, g.2, h)

fits_both : (most : ℕ) (bs : Bytes) → (eqb (length bs % record_bytes) 0 && leb (length bs) (most * record_bytes)) ≡ fits most bs
unfolding fits
fits_both most bs = refl

-- A step fails only where both files fit.
pub failed_short : (bundle acl : Bytes) (s : Step) → failing s ≡ verdict_for (desk bundle acl) → length acl < 4294967295
unfolding desk desk_fault first_fault
failed_short bundle acl s e = pick (fits bundle_records bundle) (fits acl_records acl) refl e
  where
    under : (t u : Bool) → t ≡ eqb (length acl % record_bytes) 0 → u ≡ leb (length acl) (acl_records * record_bytes) → (t && u) ≡ true → length acl < 4294967295
    under true true p q h = let k = leb-true (length acl) (acl_records * record_bytes) (sym q) in omega arith
    under true false p q h = absurd (never (cc))
    under false u p q h = absurd (never (cc))

    short : fits acl_records acl ≡ true → length acl < 4294967295
    short h = under (eqb (length acl % record_bytes) 0) (leb (length acl) (acl_records * record_bytes)) refl refl (fits_both acl_records acl ∙ h)

    pick : (f g : Bool) → g ≡ fits acl_records acl → failing s ≡ verdict_for (verdict_unless (or_next (unless (f && g) bad_length) (or_next (bundle_fault (records bundle)) (or_next (acl_fault (records acl)) (or_next (unless (is_suite (policy_of (records bundle)).suite) unknown_suite) none)))) (attested (records bundle) (acl_of acl)))
        → length acl < 4294967295
    pick f true k d = short (sym k)
    pick true false k d = absurd (never (cc))
    pick false false k d = absurd (never (cc))

-- the verdict by the desk's reply
abbrev reply_place : Bytes → Bytes → DeskReply → VerdictPlace
reply_place bundle acl (accepting a) = nowhere
reply_place bundle acl (failing s) = step_place s (records bundle) (acl_of acl)
reply_place bundle acl (refusing n) = refusal_place n (refusal_site bundle acl)

module _ (bundle acl : Bytes) (v : code.Verdict) (is : verdict_as v ≡ verdict_for (desk bundle acl)) where
  pub by_reply : (w : code.Verdict) (x : VerdictPlace) → v ≡ w → x ≡ reply_place bundle acl (verdict_as w) → x ≡ verdict_place bundle acl
  unfolding verdict_place
  by_reply w x e p = p ∙ ap (λ (z : code.Verdict). reply_place bundle acl (verdict_as z)) (sym e) ∙ ap (reply_place bundle acl) is ∙ pick (desk bundle acl)
    where
      pick : (d : Verdict) → reply_place bundle acl (verdict_for d) ≡ place_for bundle acl d
      pick (accepted a) = refl
      pick (failed s) = refl
      pick (faulty n) = refl

  pub files_fit : (s : codeStep.Step) → v ≡ Failed s → length acl < 4294967295
  files_fit s e = failed_short bundle acl (step_as s) (sym (ap verdict_as e) ∙ is)
