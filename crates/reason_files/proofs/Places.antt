-- What the place of a file's first fault says: its number is that of the reader of such a file; every record before it is without fault; it is
-- the first; and none is named exactly where the file has none.
use Prim.Native.Nat.{ℕ, zero, suc, ◌+◌, ◌<◌}
use native.Mathlib.Omega.{arith}
use mathlib.Core.Path.{◌≡◌, refl, sym, ◌∙◌, ap}
use mathlib.Core.List.{List, [], ◌∷◌}
use mathlib.Core.Option.{Option, none, some}
use mathlib.Core.Bool.{Bool, true, false}
use lib.ListN.{length, get_elem?}
use Rattle.rules.specs.Sizes.{request_records, bundle_records, day_records}
use Rattle.rules.specs.Numbers.{bad_length}
use Rattle.std.specs.Prelude.{if◌then◌else◌}
use Rattle.rules.specs.Basics.{Bytes, records, fits, unless, or_next, first_fault, each_fault, scan, file_fault}
use Rattle.rules.specs.Acl.{acl_file_fault}
use Rattle.rules.specs.Request.{request_laid_out, request_record_fault, request_fault, hints_file_fault}
use Rattle.rules.specs.Bundle.{bundle_fault}
use Rattle.rules.proofs.Laws.{never}
use Rattle.text_rules.specs.Kinds.{FileKind, fault_from, kind_fault}
use Rattle.text_rules.proofs.Readers.{acl_reader, request_reader, requests_reader, bundle_reader, hints_reader}
use Rattle.text_files.specs.declared.Kind.{Kind}
use Rattle.text_files.specs.declared.Kind.TheVariants.{Acl, Request, Requests, Bundle, Hints}
use Rattle.reason_files.specs.Places.{Place, sound, at_length, at_record, at_end, place_refusal, record_faults, reached, record_or, first_record, end_place, records_place, file_place, place_in}

-- a list of faults in which the one at an index is the first
pub record IsFirst (fs : List (Option ℕ)) (f i : ℕ) : Type 0 where
  pub here : get_elem? fs i ≡ some (some f)
  pub before : (n : ℕ) → n < i → get_elem? fs n ≡ some none

-- the search for the first record with a fault
first_named_lem : (i : ℕ) (fs : List (Option ℕ)) (next : Place) (f j : ℕ) → (next ≡ at_record f j → ⊥) → first_record i fs next ≡ at_record f j → (m : ℕ) × (j ≡ i + m) × IsFirst fs f m
unfolding first_record
first_named_lem i [] next f j other e = absurd (other e)
first_named_lem i (some g ∷ fs) next f j other e =
    let a : g ≡ f = cc in
    let b : i ≡ j = cc in
    (zero, omega (arith, b), record { here = ap (λ (x : ℕ). some (some x)) a; before = λ n h. absurd (omega arith) })
first_named_lem i (none ∷ fs) next f j other e = pick (first_named_lem (suc i) fs next f j other e)
  where
    pick : (m : ℕ) × (j ≡ suc i + m) × IsFirst fs f m → (m : ℕ) × (j ≡ i + m) × IsFirst (none ∷ fs) f m
    pick (m, d, h) = (suc m, omega (arith, d), record { here = h.here; before = earlier })
      where
        earlier : (n : ℕ) → n < suc m → get_elem? (none ∷ fs) n ≡ some none
        earlier zero l = refl
        earlier (suc n) l = h.before n (omega arith)

-- it finds none where it goes on to what comes after the records
first_passed : (i : ℕ) (fs : List (Option ℕ)) (next p : Place) → ((f j : ℕ) → at_record f j ≡ p → ⊥) → first_record i fs next ≡ p → (next ≡ p) × ((n : ℕ) → n < length fs → get_elem? fs n ≡ some none)
unfolding first_record
first_passed i [] next p other e = (e, λ n h. absurd (omega arith))
first_passed i (some g ∷ fs) next p other e = absurd (other g i e)
first_passed i (none ∷ fs) next p other e = pick (first_passed (suc i) fs next p other e)
  where
    pick : (next ≡ p) × ((n : ℕ) → n < length fs → get_elem? fs n ≡ some none) → (next ≡ p) × ((n : ℕ) → n < suc (length fs) → get_elem? (none ∷ fs) n ≡ some none)
    pick (d, h) = (d, earlier)
      where
        earlier : (n : ℕ) → n < suc (length fs) → get_elem? (none ∷ fs) n ≡ some none
        earlier zero l = refl
        earlier (suc n) l = h n (omega arith)

-- an end is no record and no length
end_no_record : (o : Option ℕ) (n f j : ℕ) → end_place o n ≡ at_record f j → ⊥
end_no_record none n f j e = never (cc)
end_no_record (some g) n f j e = never (cc)

end_no_length : (o : Option ℕ) (n : ℕ) → end_place o n ≡ at_length → ⊥
end_no_length none n e = never (cc)
end_no_length (some g) n e = never (cc)

end_named : (o : Option ℕ) (n f m : ℕ) → end_place o n ≡ at_end f m → (o ≡ some f) × (n ≡ m)
end_named none n f m e = absurd (never (cc))
end_named (some g) n f m e =
    let a : g ≡ f = cc in
    let b : n ≡ m = cc in
    (ap some a, b)

refused_none : (p : Place) → place_refusal p ≡ none → p ≡ sound
refused_none sound e = refl
refused_none at_length e = absurd (never (cc))
refused_none (at_record f i) e = absurd (never (cc))
refused_none (at_end f n) e = absurd (never (cc))

or_none : (o : Option ℕ) → or_next o none ≡ o
or_none none = refl
or_none (some f) = refl

module _ {S : Type 0} (k : FileKind S) where
  faults_length : (s : S) (rs : List Bytes) → length (record_faults k s rs) ≡ length rs
  unfolding record_faults
  faults_length s [] = refl
  faults_length s (r ∷ rs) = ap suc (faults_length (k.after s r) rs)

  records_refusal : (s : S) (i : ℕ) (rs : List Bytes) → place_refusal (records_place k s i rs) ≡ fault_from k s rs
  unfolding records_place record_faults reached first_record scan
  records_refusal s i [] = pick (k.end s)
    where
      pick : (o : Option ℕ) → place_refusal (end_place o (i + 0)) ≡ o
      pick none = refl
      pick (some f) = refl
  records_refusal s i (r ∷ rs) = pick (k.fault s r) (records_refusal (k.after s r) (suc i) rs)
    where
      pick : (o : Option ℕ) → place_refusal (records_place k (k.after s r) (suc i) rs) ≡ fault_from k (k.after s r) rs
          → place_refusal (record_or o i (first_record (suc i) (record_faults k (k.after s r) rs) (end_place (k.end (reached k (k.after s r) rs)) (i + suc (length rs))))) ≡ or_next o (fault_from k (k.after s r) rs)
      pick none e =
          let a : i + suc (length rs) ≡ suc i + length rs = omega arith in
          ap (λ (n : ℕ). place_refusal (first_record (suc i) (record_faults k (k.after s r) rs) (end_place (k.end (reached k (k.after s r) rs)) n))) a ∙ e
      pick (some f) e = refl

  module _ (file : Bytes) where
    abbrev faults : List (Option ℕ)
    faults = record_faults k k.start (records file)

    abbrev last : Option ℕ
    last = k.end (reached k k.start (records file))

    abbrev count : ℕ
    count = 0 + length (records file)

    place_of : (b : Bool) → fits k.most file ≡ b → file_place k file ≡ (if b then first_record 0 faults (end_place last count) else at_length)
    unfolding file_place records_place
    place_of b e = rw e

    -- The number is the reader's.
    pub place_refusal_lem : place_refusal (file_place k file) ≡ kind_fault k file
    unfolding file_place file_fault first_fault
    place_refusal_lem = pick (fits k.most file)
      where
        pick : (b : Bool) → place_refusal (if b then records_place k k.start 0 (records file) else at_length) ≡ or_next (unless b bad_length) (or_next (fault_from k k.start (records file)) none)
        pick true = records_refusal k.start 0 (records file) ∙ sym (or_none (fault_from k k.start (records file)))
        pick false = refl

    -- None is named exactly where the file has no fault.
    pub sound_faultless : file_place k file ≡ sound → kind_fault k file ≡ none
    sound_faultless e = sym place_refusal_lem ∙ ap place_refusal e

    pub faultless_sound : kind_fault k file ≡ none → file_place k file ≡ sound
    faultless_sound e = refused_none (file_place k file) (place_refusal_lem ∙ e)

    -- A record that is named has the fault, and every record before it has none.
    pub record_is_first : (f i : ℕ) → file_place k file ≡ at_record f i → IsFirst faults f i
    record_is_first f i e = pick (fits k.most file) refl
      where
        found : (m : ℕ) × (i ≡ 0 + m) × IsFirst faults f m → IsFirst faults f i
        found (m, d, h) = let a : m ≡ i = omega (arith, d) in rw (← a) h

        pick : (b : Bool) → fits k.most file ≡ b → IsFirst faults f i
        pick true d = found (first_named_lem 0 faults (end_place last count) f i (end_no_record last count f i) (sym (place_of true d) ∙ e))
        pick false d = absurd (clash (sym (place_of false d) ∙ e))
          where
            clash : at_length ≡ at_record f i → ⊥
            clash z = never (cc)

    -- An end that is named has the fault, after all records, none of which has one.
    pub end_is_last : (f n : ℕ) → file_place k file ≡ at_end f n → (n ≡ length (records file)) × (last ≡ some f) × ((m : ℕ) → m < n → get_elem? faults m ≡ some none)
    end_is_last f n e = pick (fits k.most file) refl
      where
        clash : at_length ≡ at_end f n → ⊥
        clash z = never (cc)

        other : (g j : ℕ) → at_record g j ≡ at_end f n → ⊥
        other g j z = never (cc)

        found : (end_place last count ≡ at_end f n) × ((m : ℕ) → m < length faults → get_elem? faults m ≡ some none) → (n ≡ length (records file)) × (last ≡ some f) × ((m : ℕ) → m < n → get_elem? faults m ≡ some none)
        found (d, h) =
            let t = end_named last count f n d in
            (let b = t.1 in omega arith, t.0, λ m l. h m (let a = faults_length k.start (records file) in let b = t.1 in omega arith))

        pick : (b : Bool) → fits k.most file ≡ b → (n ≡ length (records file)) × (last ≡ some f) × ((m : ℕ) → m < n → get_elem? faults m ≡ some none)
        pick true d = found (first_passed 0 faults (end_place last count) (at_end f n) other (sym (place_of true d) ∙ e))
        pick false d = absurd (clash (sym (place_of false d) ∙ e))

    -- A length that is named is at fault.
    pub length_is_bad : file_place k file ≡ at_length → fits k.most file ≡ false
    length_is_bad e = pick (fits k.most file) refl
      where
        other : (g j : ℕ) → at_record g j ≡ at_length → ⊥
        other g j z = never (cc)

        pick : (b : Bool) → fits k.most file ≡ b → b ≡ false
        pick true d = absurd (end_no_length last count (first_passed 0 faults (end_place last count) at_length other (sym (place_of true d) ∙ e)).0)
        pick false d = refl

-- the fault that gate, desk or day gives for a file of a kind
abbrev pub own_fault : Kind → Bytes → Option ℕ
own_fault Acl file = acl_file_fault file
own_fault Request file = file_fault request_records (request_fault request_laid_out) file
own_fault Requests file = file_fault day_records (each_fault request_record_fault) file
own_fault Bundle file = file_fault bundle_records bundle_fault file
own_fault Hints file = hints_file_fault file

-- The number is that of gate, desk or day.
pub number_is_own : (kind : Kind) (file : Bytes) → place_refusal (place_in kind file) ≡ own_fault kind file
unfolding place_in
number_is_own Acl file = place_refusal_lem _ file ∙ acl_reader file
number_is_own Request file = place_refusal_lem _ file ∙ request_reader file
number_is_own Requests file = place_refusal_lem _ file ∙ requests_reader file
number_is_own Bundle file = place_refusal_lem _ file ∙ bundle_reader file
number_is_own Hints file = place_refusal_lem _ file ∙ hints_reader file
