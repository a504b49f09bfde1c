-- The place that a refusal names has the refusal's number: the first bad length, else the first record or end at fault, bundle before ACL, else the suite.
-- Two wrong products that this rules out: one that names the ACL's record where the bundle has a fault, and one that names the policy for a bad record.
use Prim.Native.Nat.{ℕ, ◌+◌}
use mathlib.Core.Path.{◌≡◌, refl, sym, ◌∙◌, ap}
use mathlib.Core.List.{List, [], ◌∷◌}
use mathlib.Core.Option.{Option, none, some}
use mathlib.Core.Bool.{Bool, true, false, ◌&&◌, false≢true}
use lib.ListN.{length}
use lib.Dec.{eqb}
use Rattle.rules.specs.Sizes.{bundle_records, acl_records}
use Rattle.rules.specs.Numbers.{bad_length, unknown_suite}
use Rattle.std.specs.Prelude.{if◌then◌else◌}
use Rattle.rules.specs.Basics.{Bytes, unless, or_next, first_fault, file_fault, records, fits}
use Rattle.rules.specs.Acl.{acl_of, acl_fault}
use Rattle.rules.specs.Bundle.{bundle_fault, policy_of}
use Rattle.rules.specs.Suites.{is_suite}
use Rattle.rules.specs.Desk.{Step, Acceptance, approach1, approach2, grade_of, Verdict, faulty, full_failure, basic_failure, accepted_unless, verdict_unless, attested, desk_fault, desk}
use Rattle.rules.proofs.Laws.{never}
use Rattle.text_rules.specs.Kinds.{FileKind, acl_kind, bundle_kind}
use Rattle.text_files.specs.declared.Kind.TheVariants.{Acl, Bundle}
use Rattle.reason_files.specs.Places.{Place, sound, at_length, at_record, at_end, place_refusal, record_faults, reached, first_record, end_place, records_place, file_place, place_in}
use Rattle.reason_files.proofs.Places.{number_is_own}
use Rattle.reason_desk.specs.VerdictPlaces.{is_length, is_sound}

-- the number of the place that a refusal names
abbrev pub site_number : Place → Place → Option ℕ
site_number b a =
    if is_length b then place_refusal b
    else if is_length a then place_refusal a
    else if is_sound b then if is_sound a then some unknown_suite else place_refusal a
    else place_refusal b

-- a file that fits has no bad length
no_length : (i : ℕ) (fs : List (Option ℕ)) (next : Place) → is_length next ≡ false → is_length (first_record i fs next) ≡ false
unfolding first_record
no_length i [] next e = e
no_length i (none ∷ fs) next e = no_length _ fs next e
no_length i (some f ∷ fs) next e = refl

end_no_length : (o : Option ℕ) (n : ℕ) → is_length (end_place o n) ≡ false
end_no_length none n = refl
end_no_length (some f) n = refl

records_no_length : {S : Type 0} (k : FileKind S) (s : S) (i : ℕ) (rs : List Bytes) → is_length (records_place k s i rs) ≡ false
unfolding records_place
records_no_length k s i rs = no_length i (record_faults k s rs) (end_place (k.end (reached k s rs)) (i + length rs)) (end_no_length (k.end (reached k s rs)) (i + length rs))

module _ {S : Type 0} (k : FileKind S) (file : Bytes) where
  fitting : fits k.most file ≡ true → is_length (file_place k file) ≡ false
  unfolding file_place
  fitting h = rw h (records_no_length k k.start 0 (records file))

  not_fitting : fits k.most file ≡ false → file_place k file ≡ at_length
  unfolding file_place
  not_fitting h = rw h

-- the fault of the records of a file that fits
own_fault_lem : (most : ℕ) (fault : List Bytes → Option ℕ) (file : Bytes) → fits most file ≡ true → file_fault most fault file ≡ fault (records file)
unfolding file_fault first_fault
own_fault_lem most fault file h = rw h (pick (fault (records file)))
  where
    pick : (o : Option ℕ) → or_next o none ≡ o
    pick none = refl
    pick (some f) = refl

-- by the places of two files that fit
agree : (b a : Place) (t : Bool) (n : ℕ) → is_length b ≡ false → is_length a ≡ false → or_next (place_refusal b) (or_next (place_refusal a) (or_next (unless t unknown_suite) none)) ≡ some n
    → site_number b a ≡ some n
agree sound sound true n p q h = absurd (never (cc))
agree sound sound false n p q h = h
agree sound at_length t n p q h = absurd (false≢true (sym q))
agree sound (at_record f i) t n p q h = h
agree sound (at_end f m) t n p q h = h
agree at_length a t n p q h = absurd (false≢true (sym p))
agree (at_record f i) a t n p q h = rw q h
agree (at_end f m) a t n p q h = rw q h

module _ (bundle acl : Bytes) (n : ℕ) where
  fault_number_lem : desk_fault bundle acl ≡ some n → site_number (place_in Bundle bundle) (place_in Acl acl) ≡ some n
  unfolding desk_fault first_fault place_in
  fault_number_lem e = pick (fits bundle_records bundle) refl (fits acl_records acl) refl e
    where
      bundle_is : fits bundle_records bundle ≡ true → place_refusal (file_place bundle_kind bundle) ≡ bundle_fault (records bundle)
      bundle_is p = number_is_own Bundle bundle ∙ own_fault_lem bundle_records bundle_fault bundle p

      acl_is : fits acl_records acl ≡ true → place_refusal (file_place acl_kind acl) ≡ acl_fault (records acl)
      acl_is q = number_is_own Acl acl ∙ own_fault_lem acl_records acl_fault acl q

      pick : (f : Bool) → fits bundle_records bundle ≡ f → (g : Bool) → fits acl_records acl ≡ g
          → or_next (unless (f && g) bad_length) (or_next (bundle_fault (records bundle)) (or_next (acl_fault (records acl)) (or_next (unless (is_suite (policy_of (records bundle)).suite) unknown_suite) none))) ≡ some n
          → site_number (file_place bundle_kind bundle) (file_place acl_kind acl) ≡ some n
      pick false p g q d = rw (not_fitting bundle_kind bundle p) d
      pick true p false q d = rw (not_fitting acl_kind acl q, fitting bundle_kind bundle p) d
      pick true p true q d =
          agree (file_place bundle_kind bundle) (file_place acl_kind acl) (is_suite (policy_of (records bundle)).suite) n (fitting bundle_kind bundle p) (fitting acl_kind acl q) (rw (bundle_is p, acl_is q) d)

  never_faulty : (o : Option Step) (a : Acceptance) → accepted_unless o a ≡ faulty n → ⊥
  never_faulty none a e = never (cc)
  never_faulty (some s) a e = never (cc)

  pub place_has_number : desk bundle acl ≡ faulty n → site_number (place_in Bundle bundle) (place_in Acl acl) ≡ some n
  unfolding desk
  place_has_number e = fault_number_lem (pick (desk_fault bundle acl) (attested (records bundle) (acl_of acl)) refl e)
    where
      not_faulty : (t : Bool) → (if t then accepted_unless (full_failure (records bundle) (acl_of acl)) (approach2 (grade_of (records bundle) (acl_of acl))) else accepted_unless (basic_failure (records bundle)) approach1) ≡ faulty n → ⊥
      not_faulty true d = never_faulty (full_failure (records bundle) (acl_of acl)) (approach2 (grade_of (records bundle) (acl_of acl))) d
      not_faulty false d = never_faulty (basic_failure (records bundle)) approach1 d

      pick : (o : Option ℕ) (v : Verdict) → attested (records bundle) (acl_of acl) ≡ v → verdict_unless o v ≡ faulty n → o ≡ some n
      pick none v q d = absurd (not_faulty (eqb (policy_of (records bundle)).approach 2) (q ∙ d))
      pick (some f) v q d = let k : f ≡ n = cc in ap some k
