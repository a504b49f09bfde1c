-- What the place of a verdict says: refusal and step are the desk's; an acceptance names nothing; a step of the bundle names a flaw that is there; a step of
-- the ACL names the first action that fails, and KV3 the first that protects too little.
use Prim.Native.Nat.{ℕ, ◌≤◌}
use native.Mathlib.Omega.{arith}
use mathlib.Core.Path.{◌≡◌, refl, sym, ◌∙◌, ap}
use mathlib.Core.List.{List, [], ◌∷◌, map}
use mathlib.Core.Option.{Option, none, some}
use mathlib.Core.Bool.{Bool, true, false, not, ◌&&◌, ◌||◌, false≢true}
use borrow.Author.Tests.{eqb-true, ne_eqb, leb-true, leb-false}
use lib.Dec.{eqb, leb, ltb}
use Rattle.rules.specs.Sizes.{bundle_records, acl_records}
use Rattle.rules.specs.Numbers.{bad_length, malformed, not_kept}
use Rattle.std.specs.Prelude.{if◌then◌else◌}
use Rattle.rules.specs.Basics.{Bytes, bit, all_below, byte, kind, present, both_same, implies, within, bits, blank, unless, or_next, first_fault, record_fault, scan, records, fits}
use Rattle.rules.specs.Layout.{header, between, policy_laid_out}
use Rattle.rules.specs.Acl.{Action, permissions, make_blob, make_archive, Group, acl_of}
use Rattle.rules.specs.Bundle.{BundleState, bundle_record_laid_out, in_order, order_of, bundle_in_place, bundle_record_fault, after_bundle_record, bundle_end, bundle_start, bundle_fault, first_record, field, policy_record, policy_in, policy_of}
use Rattle.rules.specs.Suites.{suite_mechanism}
use Rattle.rules.specs.Desk.{Step, WV1, MSCV1, MSCV2, MSCV3, MSCV4, MSCV5, WBCV1, WBCV2, WBCV3, KGCV1, KGCV2, ACLV3, WB1, WB2, WB3, WB6, RB1, RB2, RB3, KV3, CSRL1, Acceptance, approach1, approach2, grade_of, Verdict, accepted, failed, faulty, module_key, recovery_key, class_of, policy_admits, is_mechanism, failure_under, action_failure, officers_group, group_failure, acl_failure, key_protection, csr_linked, after_acl, full_failure, basic_failure, accepted_unless, verdict_unless, attested, desk_fault, desk}
use Rattle.rules.proofs.Laws.{never, and_left, and_right}
use Rattle.desk_steps.specs.Steps.{step_number}
use Rattle.reason_steps.specs.declared.Flaw.{Flaw}
use Rattle.reason_steps.specs.Defects.{named, step_tests, step_flaw}
use Rattle.reason_steps.specs.Flawed.{Flawed}
use Rattle.reason_steps.proofs.Flaws.{first_is, test_is, named_is_flawed, csr_named, bundle_step_named, basic_step_named}
use Rattle.reason_actions.specs.Spots.{at_fault, skipped, Located, in_groups, permission_of, spot_of}
use Rattle.reason_actions.specs.First.{First, step_at, LowestBit}
use Rattle.reason_actions.proofs.Firsts.{located_is_first, located_step, weak_located, permission_is_lowest}
use Rattle.reason_desk.specs.declared.VerdictPlace.{VerdictPlace}
use Rattle.reason_desk.specs.VerdictPlaces.{looks_at_bundle, step_located, step_place, nowhere, place_for, verdict_place}

-- Refusal and step are the desk's.
abbrev pub refusal_of : Verdict → ℕ
refusal_of (accepted a) = 0
refusal_of (failed s) = 0
refusal_of (faulty n) = n

abbrev pub step_of : Verdict → ℕ
step_of (accepted a) = 0
step_of (failed s) = step_number s
step_of (faulty n) = 0

module _ (bundle acl : Bytes) where
  pub refusal_is_desks : (verdict_place bundle acl).refusal ≡ refusal_of (desk bundle acl)
  unfolding verdict_place
  refusal_is_desks = pick (desk bundle acl)
    where
      pick : (d : Verdict) → (place_for bundle acl d).refusal ≡ refusal_of d
      pick (accepted a) = refl
      pick (failed s) = refl
      pick (faulty n) = refl

  pub step_is_desks : (verdict_place bundle acl).step ≡ step_of (desk bundle acl)
  unfolding verdict_place
  step_is_desks = pick (desk bundle acl)
    where
      pick : (d : Verdict) → (place_for bundle acl d).step ≡ step_of d
      pick (accepted a) = refl
      pick (failed s) = refl
      pick (faulty n) = refl

  -- "on acceptance nothing is named"
  pub accepted_names_nothing : (a : Acceptance) → desk bundle acl ≡ accepted a → verdict_place bundle acl ≡ nowhere
  unfolding verdict_place
  accepted_names_nothing a e = ap (place_for bundle acl) e

  failed_place : (s : Step) → desk bundle acl ≡ failed s → verdict_place bundle acl ≡ step_place s (records bundle) (acl_of acl)
  unfolding verdict_place
  failed_place s e = ap (place_for bundle acl) e

-- What holds of every step that a part of an ACL can fail holds of the first.
each_is : {A F : Type 0} (P : F → Type 0) (f : A → Option F) → ((x : A) (s : F) → f x ≡ some s → P s) → (xs : List A) (s : F) → first_fault (map f xs) ≡ some s → P s
unfolding first_fault
each_is P f h [] s e = absurd (never (cc))
each_is P f h (x ∷ xs) s e = pick (f x) refl e (each_is P f h xs s)
  where
    pick : (o : Option _) → f x ≡ o → or_next o (first_fault (map f xs)) ≡ some s → (first_fault (map f xs) ≡ some s → P s) → P s
    pick none q d next = next d
    pick (some g) q d next = h x s (q ∙ d)

-- A step of the ACL is neither one of the bundle nor KV3.
record OfAcl (s : Step) : Type 0 where
  not_bundle : looks_at_bundle s ≡ false
  not_grade : eqb (step_number s) (step_number KV3) ≡ false

module _ (b : List Bytes) where
  an_acl_step : (s : Step) → looks_at_bundle s ≡ false → eqb (step_number s) (step_number KV3) ≡ false → (t : Bool) (x : Step) → unless t s ≡ some x → OfAcl x
  an_acl_step s p q t x e = test_is OfAcl t s (λ h. record { not_bundle = p; not_grade = q }) x e

  of_action : (a : Action) (s : Step) → action_failure b a ≡ some s → OfAcl s
  unfolding failure_under
  of_action (permissions bits) s e = an_acl_step ACLV3 refl refl (all_below 16 (λ p. implies (bit p bits) (policy_admits (policy_of b) (class_of p)))) s e
  of_action (make_blob r f) s e =
      first_is OfAcl _ (
        an_acl_step WB1 refl refl (r.km_only || present r.kthash),
        (
          an_acl_step WB2 refl refl (both_same (module_key b) r.kmhash),
          (an_acl_step WB3 refl refl (not r.null_token), (an_acl_step WB6 refl refl (implies (present r.kthash) (present r.ktparams)), tt)),
        ),
      )
      s e
  of_action (make_archive a f) s e =
      first_is OfAcl _ (
        an_acl_step RB1 refl refl (present (recovery_key b)),
        (
          an_acl_step RB2 refl refl (both_same (recovery_key b) a.kahash),
          (an_acl_step RB3 refl refl (is_mechanism (suite_mechanism (policy_of b).suite) a.mechanism), tt),
        ),
      )
      s e

  of_group : (g : Group) (s : Step) → group_failure b g ≡ some s → OfAcl s
  of_group g s e = pick (officers_group b g) e
    where
      pick : (t : Bool) → (if t then none else first_fault (map (action_failure b) g.actions)) ≡ some s → OfAcl s
      pick true d = absurd (never (cc))
      pick false d = each_is OfAcl (action_failure b) of_action g.actions s d

  of_acl : (gs : List Group) (s : Step) → acl_failure b gs ≡ some s → OfAcl s
  unfolding acl_failure
  of_acl gs s e = each_is OfAcl (group_failure b) of_group gs s e

  -- a step that names a flaw looks at the bundle
  abbrev Early : Step → Type 0
  Early s = (looks_at_bundle s ≡ true) × (eqb (step_number s) (step_number KV3) ≡ false)

  is_early : (s : Step) → present (step_flaw s b) ≡ true → Early s
  unfolding step_tests first_fault
  is_early WV1 e = (refl, refl)
  is_early MSCV1 e = (refl, refl)
  is_early MSCV2 e = (refl, refl)
  is_early MSCV3 e = (refl, refl)
  is_early MSCV4 e = (refl, refl)
  is_early MSCV5 e = (refl, refl)
  is_early WBCV1 e = (refl, refl)
  is_early WBCV2 e = (refl, refl)
  is_early WBCV3 e = (refl, refl)
  is_early KGCV1 e = (refl, refl)
  is_early KGCV2 e = (refl, refl)
  is_early ACLV3 e = absurd (false≢true e)
  is_early WB1 e = absurd (false≢true e)
  is_early WB2 e = absurd (false≢true e)
  is_early WB3 e = absurd (false≢true e)
  is_early WB6 e = absurd (false≢true e)
  is_early RB1 e = absurd (false≢true e)
  is_early RB2 e = absurd (false≢true e)
  is_early RB3 e = absurd (false≢true e)
  is_early KV3 e = absurd (false≢true e)
  is_early CSRL1 e = (refl, refl)

  -- What a failing step of approach 2 says.
  module _ (gs : List Group) where
    pub record Failing (s : Step) : Type 0 where
      pub flaw : looks_at_bundle s ≡ true → present (step_flaw s b) ≡ true
      pub acl : looks_at_bundle s ≡ false → eqb (step_number s) (step_number KV3) ≡ false → acl_failure b gs ≡ some s
      pub grade : eqb (step_number s) (step_number KV3) ≡ true → leb (policy_of b).lowest_protection (key_protection b gs) ≡ false

    clash : {t : Bool} → t ≡ true → t ≡ false → ⊥
    clash p q = never (cc)

    of_early : (s : Step) → present (step_flaw s b) ≡ true → Failing s
    of_early s f = let h = is_early s f in record { flaw = λ p. f; acl = λ p q. absurd (clash h.0 p); grade = λ p. absurd (clash p h.1) }

    by_acl : (x : Step) → acl_failure b gs ≡ some x → Failing x
    by_acl x p = let o = of_acl gs x p in record { flaw = λ q. absurd (clash q o.not_bundle); acl = λ q r. p; grade = λ q. absurd (clash q o.not_grade) }

    after_acl_lem : (x : Step) → after_acl b gs ≡ some x → Failing x
    after_acl_lem x p =
        first_is Failing _ (
          test_is Failing (leb (policy_of b).lowest_protection (key_protection b gs)) KV3 (λ h. record { flaw = λ q. absurd (false≢true q); acl = λ q r. absurd (false≢true (sym r)); grade = λ q. h }),
          (test_is Failing (csr_linked b) CSRL1 (λ h. of_early CSRL1 (csr_named b h)), tt),
        )
        x p

    full_failing : (s : Step) → full_failure b gs ≡ some s → Failing s
    unfolding full_failure
    full_failing s e = first_is Failing _ (λ x p. of_early x (bundle_step_named b x p), (by_acl, (after_acl_lem, tt))) s e

    -- of either approach
    attested_failing : (s : Step) → attested b gs ≡ failed s → Failing s
    attested_failing s e = pick (eqb (policy_of b).approach 2) e
      where
        full : (o : Option Step) → full_failure b gs ≡ o → accepted_unless o (approach2 (grade_of b gs)) ≡ failed s → Failing s
        full none q d = absurd (never (cc))
        full (some x) q d = let k : x ≡ s = cc in full_failing s (q ∙ ap some k)

        basic : (o : Option Step) → basic_failure b ≡ o → accepted_unless o approach1 ≡ failed s → Failing s
        basic none q d = absurd (never (cc))
        basic (some x) q d = let k : x ≡ s = cc in of_early s (basic_step_named b s (q ∙ ap some k))

        pick : (t : Bool) → (if t then accepted_unless (full_failure b gs) (approach2 (grade_of b gs)) else accepted_unless (basic_failure b) approach1) ≡ failed s → Failing s
        pick true d = full (full_failure b gs) refl d
        pick false d = basic (basic_failure b) refl d

-- the files of a step that fails are without fault
sound_when_failed : (o : Option ℕ) (v : Verdict) (s : Step) → verdict_unless o v ≡ failed s → (o ≡ none) × (v ≡ failed s)
sound_when_failed none v s e = (refl, e)
sound_when_failed (some f) v s e = absurd (never (cc))

-- "lowest protection 1-4": the policy of a bundle without fault has none above 4.
none_both : {F : Type 0} (o p : Option F) → or_next o p ≡ none → (o ≡ none) × (p ≡ none)
none_both none p e = (refl, e)
none_both (some f) p e = absurd (never (cc))

passed_test : {F : Type 0} (t : Bool) (f : F) → unless t f ≡ none → t ≡ true
passed_test true f e = refl
passed_test false f e = absurd (never (cc))

laid_here : (st : BundleState) (x : Bytes) → policy_record x ≡ true → bundle_record_fault st x ≡ none → policy_laid_out x ≡ true
unfolding bundle_record_fault record_fault first_fault bundle_in_place bundle_record_laid_out policy_record
laid_here st x h e =
    let p : bundle_in_place st.last x ≡ true = passed_test (bundle_in_place st.last x) malformed (none_both (unless (bundle_in_place st.last x) malformed) _ e).0 in
    let l : bundle_record_laid_out x ≡ true = and_left (bundle_record_laid_out x) (in_order st.last (order_of x)) p in
    let k : kind x ≡ 12 = eqb-true (kind x) 12 h in
    let n : eqb (kind x) 10 ≡ false = ne_eqb (kind x) 10 (λ z. omega arith) in
    let m : eqb (kind x) 11 ≡ false = ne_eqb (kind x) 11 (λ z. omega arith) in
    rw (n, m, h) at l

policy_laid : (st : BundleState) (rs : List Bytes) → scan bundle_record_fault after_bundle_record bundle_end st rs ≡ none → (r : Bytes) → first_record policy_record rs ≡ some r → policy_laid_out r ≡ true
unfolding scan first_record
policy_laid st [] e r q = absurd (never (cc))
policy_laid st (x ∷ rs) e r q = pick (policy_record x) refl q (policy_laid (after_bundle_record st x) rs (none_both (bundle_record_fault st x) (scan bundle_record_fault after_bundle_record bundle_end (after_bundle_record st x) rs) e).1 r)
  where
    here : policy_record x ≡ true → policy_laid_out x ≡ true
    here h = laid_here st x h (none_both (bundle_record_fault st x) (scan bundle_record_fault after_bundle_record bundle_end (after_bundle_record st x) rs) e).0

    pick : (t : Bool) → policy_record x ≡ t → (if t then some x else first_record policy_record rs) ≡ some r → (first_record policy_record rs ≡ some r → policy_laid_out r ≡ true) → policy_laid_out r ≡ true
    pick true h d next = let k : x ≡ r = cc in rw (← k) (here h)
    pick false h d next = next d

laid_lowest : (r : Bytes) → policy_laid_out r ≡ true → byte 7 r ≤ not_kept
unfolding policy_laid_out
laid_lowest r e =
    let front = header 0 r && between 1 2 (byte 5 r) && within 16 (byte 6 r) (bits (0 ∷ 1 ∷ 2 ∷ [])) in
    let k : between 1 4 (byte 7 r) ≡ true = and_right front (between 1 4 (byte 7 r)) (and_left (front && between 1 4 (byte 7 r)) (blank 8 56 r) e) in
    leb-true (byte 7 r) 4 (and_right (leb 1 (byte 7 r)) (leb (byte 7 r) 4) k)

policy_bounded : (rs : List Bytes) → bundle_fault rs ≡ none → (policy_of rs).lowest_protection ≤ not_kept
unfolding bundle_fault policy_of
policy_bounded rs e = pick (first_record policy_record rs) refl
  where
    pick : (o : Option Bytes) → first_record policy_record rs ≡ o → (policy_in o).lowest_protection ≤ not_kept
    pick none q = omega arith
    pick (some r) q = laid_lowest r (policy_laid bundle_start rs e r q)

lowest_bounded : (bundle acl : Bytes) → desk_fault bundle acl ≡ none → (policy_of (records bundle)).lowest_protection ≤ not_kept
unfolding desk_fault first_fault
lowest_bounded bundle acl e = policy_bounded (records bundle) (none_both (bundle_fault (records bundle)) _ (none_both (unless (fits bundle_records bundle && fits acl_records acl) bad_length) _ e).1).0

-- The statements, for a bundle and an ACL of which the desk answers a step.
module _ (bundle acl : Bytes) (s : Step) (e : desk bundle acl ≡ failed s) where
  sound_files : (desk_fault bundle acl ≡ none) × (attested (records bundle) (acl_of acl) ≡ failed s)
  unfolding desk
  sound_files = sound_when_failed (desk_fault bundle acl) (attested (records bundle) (acl_of acl)) s e

  failing : Failing (records bundle) (acl_of acl) s
  failing = attested_failing (records bundle) (acl_of acl) s sound_files.1

  -- A step of the bundle: what is named is a signature that is absent or not good, or a field that is absent or not equal.
  pub flaw_named : looks_at_bundle s ≡ true → (f : Flaw) × (Flawed (records bundle) f × (((verdict_place bundle acl).what ≡ (named (some f)).what) × ((verdict_place bundle acl).number ≡ (named (some f)).number)))
  flaw_named h = pick (step_flaw s (records bundle)) refl (failing.flaw h)
    where
      pick : (o : Option Flaw) → step_flaw s (records bundle) ≡ o → present o ≡ true
          → (f : Flaw) × (Flawed (records bundle) f × (((verdict_place bundle acl).what ≡ (named (some f)).what) × ((verdict_place bundle acl).number ≡ (named (some f)).number)))
      pick none q k = absurd (false≢true k)
      pick (some f) q k =
          (f, (named_is_flawed s (records bundle) f q, (ap (λ (v : VerdictPlace). v.what) (failed_place bundle acl s e) ∙ ap (λ (o : Option Flaw). (named o).what) q, ap (λ (v : VerdictPlace). v.number) (failed_place bundle acl s e) ∙ ap (λ (o : Option Flaw). (named o).number) q)))

  abbrev b : List Bytes
  b = records bundle

  abbrev gs : List Group
  gs = acl_of acl

  -- the actions that are checked, for a step of the ACL or for KV3
  abbrev among : Bool → Option Located
  among graded = in_groups (skipped (field 4 b)) (at_fault graded (policy_of b) (module_key b) (recovery_key b)) 0 gs

  -- the place names an action by its indices, and the permission that it fails by
  abbrev pub Names : Located → Type 0
  Names l = ((verdict_place bundle acl).group ≡ l.group) × (((verdict_place bundle acl).action ≡ l.action) × ((verdict_place bundle acl).permission ≡ permission_of (policy_of b) l.found))

  names : (l : Located) (graded : Bool) → looks_at_bundle s ≡ false → eqb (step_number s) (step_number KV3) ≡ graded → among graded ≡ some l → Names l
  unfolding step_located
  names l graded h k q =
      let f = failed_place bundle acl s e in
      let z : step_located s b gs ≡ some l = rw (h, k, q) in (
        ap (λ (v : VerdictPlace). v.group) f ∙ ap (λ (o : Option Located). (spot_of (policy_of b) o).group) z,
        (
          ap (λ (v : VerdictPlace). v.action) f ∙ ap (λ (o : Option Located). (spot_of (policy_of b) o).action) z,
          ap (λ (v : VerdictPlace). v.permission) f ∙ ap (λ (o : Option Located). (spot_of (policy_of b) o).permission) z,
        ),
      )

  first_of : (l : Located) (graded : Bool) → among graded ≡ some l → First (skipped (field 4 b)) (at_fault graded (policy_of b) (module_key b) (recovery_key b)) 0 gs l
  first_of l graded q = located_is_first (skipped (field 4 b)) (at_fault graded (policy_of b) (module_key b) (recovery_key b)) 0 gs l q

  -- A step of the ACL: what is named is the first action that fails, and this is the step that it fails.
  pub action_named : looks_at_bundle s ≡ false → eqb (step_number s) (step_number KV3) ≡ false
      → (l : Located) × (First (skipped (field 4 b)) (at_fault false (policy_of b) (module_key b) (recovery_key b)) 0 gs l × ((action_failure b l.found ≡ some s) × Names l))
  action_named h k = pick (among false) refl (sym (located_step b 0 gs) ∙ failing.acl h k)
    where
      pick : (o : Option Located) → among false ≡ o → step_at b (among false) ≡ some s
          → (l : Located) × (First (skipped (field 4 b)) (at_fault false (policy_of b) (module_key b) (recovery_key b)) 0 gs l × ((action_failure b l.found ≡ some s) × Names l))
      pick none q d = let z : none ≡ some s = sym (ap (step_at b) q) ∙ d in absurd (never (cc))
      pick (some l) q d = (l, (first_of l false q, (sym (ap (step_at b) q) ∙ d, names l false h k q)))

  -- KV3: what is named is the first MakeBlob action that protects less than the policy's lowest.
  graded_not_early : (n : ℕ) → eqb n (step_number KV3) ≡ true → (ltb n (step_number ACLV3) || eqb n (step_number CSRL1)) ≡ false
  graded_not_early n k = rw (eqb-true n (step_number KV3) k)

  pub grade_named : eqb (step_number s) (step_number KV3) ≡ true
      → (l : Located) × (First (skipped (field 4 b)) (at_fault true (policy_of b) (module_key b) (recovery_key b)) 0 gs l × Names l)
  grade_named k = pick (among true) refl (weak_located b (lowest_bounded bundle acl sound_files.0) 0 gs (leb-false (policy_of b).lowest_protection (key_protection b gs) (failing.grade k)))
    where
      pick : (o : Option Located) → among true ≡ o → present (among true) ≡ true
          → (l : Located) × (First (skipped (field 4 b)) (at_fault true (policy_of b) (module_key b) (recovery_key b)) 0 gs l × Names l)
      pick none q d = absurd (false≢true (sym (ap (λ (o : Option Located). present o) q) ∙ d))
      pick (some l) q d = (l, (first_of l true q, names l true (graded_not_early (step_number s) k) k q))

-- ACLV3: an action that fails it is one of permissions, and the permission that is named is the lowest that is set and not admitted.
other_step : (s : Step) → (s ≡ ACLV3 → ⊥) → (t : Bool) (x : Step) → unless t s ≡ some x → x ≡ ACLV3 → ⊥
other_step s n t x d = test_is (λ z. z ≡ ACLV3 → ⊥) t s (λ h. n) x d

pub permission_named : (b : List Bytes) (a : Action) → action_failure b a ≡ some ACLV3 → (bits : ℕ) × ((a ≡ permissions bits) × LowestBit (policy_of b) bits 0 (permission_of (policy_of b) a))
unfolding failure_under
permission_named b (permissions bits) e = (bits, (refl, permission_is_lowest (policy_of b) bits (module_key b) (recovery_key b) e))
permission_named b (make_blob r f) e =
    absurd
    (first_is (λ z. z ≡ ACLV3 → ⊥) _ (
      other_step WB1 (λ q. never (cc)) (r.km_only || present r.kthash),
      (
        other_step WB2 (λ q. never (cc)) (both_same (module_key b) r.kmhash),
        (other_step WB3 (λ q. never (cc)) (not r.null_token), (other_step WB6 (λ q. never (cc)) (implies (present r.kthash) (present r.ktparams)), tt)),
      ),
    )
    ACLV3 e refl)
permission_named b (make_archive a f) e =
    absurd
    (first_is (λ z. z ≡ ACLV3 → ⊥) _ (
      other_step RB1 (λ q. never (cc)) (present (recovery_key b)),
      (
        other_step RB2 (λ q. never (cc)) (both_same (recovery_key b) a.kahash),
        (other_step RB3 (λ q. never (cc)) (is_mechanism (suite_mechanism (policy_of b).suite) a.mechanism), tt),
      ),
    )
    ACLV3 e refl)
