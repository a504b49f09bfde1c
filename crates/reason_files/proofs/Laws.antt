-- The loops over a file's records, and the kinds of file by their states.
use Prim.Native.Nat.{ℕ, zero, suc, ◌+◌, ◌≤◌, ◌<◌}
use native.Mathlib.Omega.{arith}
use native.Mathlib.Numerals.{add-one}
use mathlib.Core.Path.{◌≡◌, refl, sym, ◌∙◌, ap}
use mathlib.Core.List.{List, [], ◌∷◌}
use mathlib.Core.Option.{Option, none, some}
use mathlib.Core.Bool.{Bool, true, false, not}
use lib.ListN.{length, drop, get_or, length-drop}
use lib.Seq.{take_all}
use borrow.Author.Tests.{not-true, not-false}
use Rattle.std.specs.Prelude.{if◌then◌else◌}
use Rattle.rules.specs.Basics.{Bytes, records, fits}
use Rattle.rules.specs.Acl.{AclState, acl_record_fault, after_record, acl_end}
use Rattle.rules.specs.Bundle.{bundle_start}
use Rattle.rules.proofs.Laws.{never}
use Rattle.rules.specs.Basics.{Every}
use Rattle.rules.proofs.Rows.{first, no_rows, records_sized}
use Rattle.record_fields.proofs.Walks.{left_at, left_none}
use Rattle.refusals.specs.Refusals.{refusal_number}
use Rattle.refusals.specs.declared.Refusal.TheVariants.{Malformed}
use Rattle.acl_reader.specs.Places as acl
use Rattle.text_rules.specs.OtherWords.{record_line}
use Rattle.text_rules.specs.OtherDecoding.{record_of}
use Rattle.text_rules.specs.Kinds.{FileKind, request_due, acl_kind, request_kind, requests_kind, bundle_kind, hints_kind}
use Rattle.text_states.specs.States as states
use Rattle.text_states.specs.States.{AnyState, of_request, of_requests, of_bundle, of_hints, state_fault, state_after, state_end, kind_from, step_of}
use Rattle.text_files.specs.declared.Kind.{Kind}
use Rattle.text_files.specs.declared.Kind.TheVariants.{Acl, Request, Requests, Bundle, Hints}
use Rattle.reason_files.specs.Places.{Place, sound, at_length, at_record, at_end, record_faults, reached, record_or, first_record, end_place, records_place, file_place, place_in}

-- The turns of a loop over records, by the index.
module _ {S : Type 0} (k : FileKind S) (rs : List Bytes) (s : S) (i : ℕ) (x : Place) (inv : records_place k s i (drop i rs) ≡ x) where
  abbrev here : Bytes
  here = get_or rs i []

  place_step : i < length rs → record_or (k.fault s here) i (records_place k (k.after s here) (i + 1) (drop (i + 1) rs)) ≡ x
  unfolding records_place record_faults first_record reached
  place_step h =
      let a : i + suc (length (drop (i + 1) rs)) ≡ i + 1 + length (drop (i + 1) rs) = omega arith in
      let fs = record_faults k (k.after s here) (drop (i + 1) rs) in
      let e = k.end (reached k (k.after s here) (drop (i + 1) rs)) in
      sym (ap (records_place k s i) (left_at rs i h)
      ∙ ap (λ (n : ℕ). record_or (k.fault s here) i (first_record (suc i) fs (end_place e n))) a
      ∙ ap (λ (n : ℕ). record_or (k.fault s here) i (first_record n fs (end_place e (i + 1 + length (drop (i + 1) rs))))) (sym (add-one i)))
      ∙ inv

  pub place_stop : (f : ℕ) → i < length rs → k.fault s here ≡ some f → at_record f i ≡ x
  place_stop f h e = rw e at (place_step h)

  pub place_next : (t : S) → i < length rs → k.fault s here ≡ none → t ≡ k.after s here → records_place k t (i + 1) (drop (i + 1) rs) ≡ x
  place_next t h e d = ap (λ (z : S). records_place k z (i + 1) (drop (i + 1) rs)) d ∙ rw e at (place_step h)

  pub place_done : (p : Place) → i ≡ length rs → p ≡ end_place (k.end s) (length rs) → p ≡ x
  unfolding records_place record_faults first_record reached
  place_done p h d =
      let a : length rs ≡ i + 0 = omega arith in
      let l : length rs ≤ i = omega arith in
      d ∙ ap (end_place (k.end s)) a ∙ sym (ap (records_place k s i) (left_none rs i l)) ∙ inv

-- a record of a file is 64 bytes
pub record_length : (file : Bytes) (rs : List Bytes) (i : ℕ) → rs ≡ records file → i < length rs → length (get_or rs i []) ≡ 64
record_length file rs i e h = every_get (λ (r : Bytes). length r ≡ 64) rs i (rw e (records_sized file)) h
  where
    every_get : (P : Bytes → Type 0) (xs : List Bytes) (i : ℕ) → Every P xs → i < length xs → P (get_or xs i [])
    every_get P [] i a h = absurd (omega arith)
    every_get P (x ∷ xs) zero a h = a.0
    every_get P (x ∷ xs) (suc i) a h = every_get P xs i a.1 (omega arith)

-- what an ACL's reader found in one record, and the state after it
acl_record : (s : AclState) (rec : Bytes) → length rec ≡ 64 → acl.reading s (records rec) ≡ acl.read_past (acl_record_fault s rec) (acl.on (after_record s rec))
unfolding acl.reading
acl_record s rec h =
    let d : records (drop 64 rec) ≡ [] = no_rows (drop 64 rec) (omega (arith, length-drop 64 rec)) in
    let e : records rec ≡ rec ∷ [] = first rec (omega arith) ∙ rw (take_all 64 rec (omega arith), d) in
    ap (acl.reading s) e

acl_stopped : (f : ℕ) (t : AclState) (o : Option ℕ) → acl.stopped f ≡ acl.read_past o (acl.on t) → o ≡ some f
acl_stopped f t none e = absurd (never (cc))
acl_stopped f t (some g) e = let d : g ≡ f = cc in ap some d

acl_passed : (q t : AclState) (o : Option ℕ) → acl.on q ≡ acl.read_past o (acl.on t) → (o ≡ none) × (q ≡ t)
acl_passed q t none e = (refl, cc)
acl_passed q t (some g) e = absurd (never (cc))

module _ (s : AclState) (rec : Bytes) (h : length rec ≡ 64) where
  pub acl_fault_lem : (f : ℕ) → acl.stopped f ≡ acl.reading s (records rec) → acl_record_fault s rec ≡ some f
  acl_fault_lem f e = acl_stopped f _ _ (e ∙ acl_record s rec h)

  pub acl_sound_lem : (q : AclState) → acl.on q ≡ acl.reading s (records rec) → (acl_record_fault s rec ≡ none) × (q ≡ after_record s rec)
  acl_sound_lem q e = acl_passed q _ _ (e ∙ acl_record s rec h)

-- what another file's reader found
stopped_at : (f : ℕ) (t : AnyState) (o : Option ℕ) → states.stopped f ≡ states.past o t → o ≡ some f
stopped_at f t none e = absurd (never (cc))
stopped_at f t (some g) e = let d : g ≡ f = cc in ap some d

passed_to : (q t : AnyState) (o : Option ℕ) → states.on q ≡ states.past o t → (o ≡ none) × (q ≡ t)
passed_to q t none e = (refl, cc)
passed_to q t (some g) e = absurd (never (cc))

module _ (s : AnyState) (rec : Bytes) where
  pub other_fault : (f : ℕ) → states.stopped f ≡ step_of s rec → state_fault s rec ≡ some f
  unfolding step_of
  other_fault f e = stopped_at f _ _ e

  pub other_sound : (q : AnyState) → states.on q ≡ step_of s rec → (state_fault s rec ≡ none) × (q ≡ state_after s rec)
  unfolding step_of
  other_sound q e = passed_to q _ _ e

-- the end of an ACL
pub acl_due : (s : AclState) (n : ℕ) → s.file_due ≡ true → at_end (refusal_number Malformed) n ≡ end_place (acl_end s) n
acl_due s n d = sym (rw d)

pub acl_over : (s : AclState) (n : ℕ) → s.file_due ≡ false → sound ≡ end_place (acl_end s) n
acl_over s n d = sym (rw d)

-- a file: its length, then its records
module _ {S : Type 0} (k : FileKind S) (file : Bytes) (m : ℕ) (w : Bool) (em : m ≡ k.most) (ew : w ≡ fits m file) where
  whole_is : (y : Bool) → w ≡ y → fits k.most file ≡ y
  whole_is y p = ap (λ (n : ℕ). fits n file) (sym em) ∙ sym ew ∙ p

  pub place_long : not w ≡ true → at_length ≡ file_place k file
  unfolding file_place
  place_long n = sym (rw (whole_is false (not-true w n)))

  pub place_rest : (p : Place) → not w ≡ false → p ≡ records_place k k.start 0 (records file) → p ≡ file_place k file
  unfolding file_place
  place_rest p n e = e ∙ sym (rw (whole_is true (not-false w n)))

-- One kind of file by the states of another.
module _ {S : Type 0} (into : S → AnyState) (start : S) (fault : S → Bytes → Option ℕ) (after : S → Bytes → S) (end : S → Option ℕ) (most : ℕ)
    (fault_is : (s : S) (r : Bytes) → state_fault (into s) r ≡ fault s r) (after_is : (s : S) (r : Bytes) → state_after (into s) r ≡ into (after s r)) (end_is : (s : S) → state_end (into s) ≡ end s)
    (most-is : (kind_from (into start)).most ≡ most) where
  abbrev own : FileKind S
  own = record { line = record_line; told = record_of; start = start; fault = fault; after = after; end = end; most = most }

  abbrev any : FileKind AnyState
  any = kind_from (into start)

  faults_same : (s : S) (rs : List Bytes) → record_faults any (into s) rs ≡ record_faults own s rs
  unfolding record_faults
  faults_same s [] = refl
  faults_same s (r ∷ rs) =
      ap (λ (o : Option ℕ). o ∷ record_faults any (state_after (into s) r) rs) (fault_is s r)
      ∙ ap (λ (t : AnyState). fault s r ∷ record_faults any t rs) (after_is s r)
      ∙ ap (λ (os : List (Option ℕ)). fault s r ∷ os) (faults_same (after s r) rs)

  reached_same : (s : S) (rs : List Bytes) → reached any (into s) rs ≡ into (reached own s rs)
  unfolding reached
  reached_same s [] = refl
  reached_same s (r ∷ rs) = ap (λ (t : AnyState). reached any t rs) (after_is s r) ∙ reached_same (after s r) rs

  records_same : (rs : List Bytes) → records_place any (into start) 0 rs ≡ records_place own start 0 rs
  unfolding records_place
  records_same rs =
      ap (λ (fs : List (Option ℕ)). first_record 0 fs (end_place (state_end (reached any (into start) rs)) (0 + length rs))) (faults_same start rs)
      ∙ ap (λ (t : AnyState). first_record 0 (record_faults own start rs) (end_place (state_end t) (0 + length rs))) (reached_same start rs)
      ∙ ap (λ (o : Option ℕ). first_record 0 (record_faults own start rs) (end_place o (0 + length rs))) (end_is (reached own start rs))

  pub place_same : (file : Bytes) → file_place any file ≡ file_place own file
  unfolding file_place
  place_same file =
      ap (λ (n : ℕ). if fits n file then records_place any (into start) 0 (records file) else at_length) most-is
      ∙ ap (λ (p : Place). if fits most file then p else at_length) (records_same (records file))

-- the entry point, by the kind of file
module _ (k : Kind) (file : Bytes) (p : Place) where
  located_by : (t : Kind) (q : Place) → k ≡ t → q ≡ place_in t file → p ≡ q → p ≡ place_in k file
  located_by t q e d z = z ∙ d ∙ ap (λ (y : Kind). place_in y file) (sym e)

  pub located_acl : k ≡ Acl → p ≡ file_place acl_kind file → p ≡ place_in k file
  unfolding place_in
  located_acl e z = located_by Acl _ e refl z

  pub located_request : k ≡ Request → p ≡ file_place (kind_from (of_request request_due)) file → p ≡ place_in k file
  unfolding place_in
  located_request e z = located_by Request _ e (place_same of_request request_due request_kind.fault request_kind.after request_kind.end request_kind.most (λ s r. refl) (λ s r. refl) (λ s. refl) refl file) z

  pub located_requests : k ≡ Requests → p ≡ file_place (kind_from (of_requests 0)) file → p ≡ place_in k file
  unfolding place_in
  located_requests e z = located_by Requests _ e (place_same of_requests 0 requests_kind.fault requests_kind.after requests_kind.end requests_kind.most (λ s r. refl) (λ s r. refl) (λ s. refl) refl file) z

  pub located_bundle : k ≡ Bundle → p ≡ file_place (kind_from (of_bundle bundle_start)) file → p ≡ place_in k file
  unfolding place_in
  located_bundle e z = located_by Bundle _ e (place_same of_bundle bundle_start bundle_kind.fault bundle_kind.after bundle_kind.end bundle_kind.most (λ s r. refl) (λ s r. refl) (λ s. refl) refl file) z

  pub located_hints : k ≡ Hints → p ≡ file_place (kind_from (of_hints 0)) file → p ≡ place_in k file
  unfolding place_in
  located_hints e z = located_by Hints _ e (place_same of_hints 0 hints_kind.fault hints_kind.after hints_kind.end hints_kind.most (λ s r. refl) (λ s r. refl) (λ s. refl) refl file) z
