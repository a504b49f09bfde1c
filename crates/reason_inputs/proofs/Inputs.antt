-- The refusal of the input that is named is that of the call's files.
use Prim.Native.Nat.{ℕ}
use mathlib.Core.Path.{◌≡◌, refl, sym, ◌∙◌, ap}
use mathlib.Core.List.{List, [], ◌∷◌}
use mathlib.Core.Option.{Option, none, some}
use mathlib.Core.Bool.{Bool, true, false, not, ◌&&◌, false≢true}
use lib.ListN.{length}
use lib.Dec.{eqb}
use Rattle.rules.specs.Sizes.{hash_bytes, acl_records, request_records, hint_records}
use Rattle.rules.specs.Numbers.{bad_length, malformed}
use Rattle.std.specs.Prelude.{if◌then◌else◌}
use Rattle.rules.specs.Basics.{Bytes, kind, byte, records, fits, unless, or_next, first_fault, file_fault}
use Rattle.rules.specs.Layout.{use_laid_out}
use Rattle.rules.specs.Acl.{acl_fault}
use Rattle.rules.specs.Request.{request_laid_out, use_of, reduce_acl, expand_acl, request_fault, hints_fault}
use Rattle.rules.specs.Gate.{request_files, narrow_files, expand_files}
use Rattle.rules.proofs.Laws.{and_left, and_right}
use Rattle.text_rules.specs.Kinds.{FileKind, kind_fault, acl_kind, request_kind, hints_kind}
use Rattle.text_rules.proofs.Readers.{acl_reader, request_reader, hints_reader}
use Rattle.reason_files.specs.Places.{Place, sound, at_length, at_record, at_end, place_refusal, file_place}
use Rattle.reason_files.proofs.Places.{place_refusal_lem, length_is_bad}
use Rattle.reason_inputs.specs.Inputs.{InputPlace, is_length, is_fault, inputs_place, km0_place, asks_other, use_place, input_at, request_inputs, narrow_inputs, expand_inputs}
use Rattle.reason_inputs.specs.declared.Input.{Input}
use Rattle.reason_inputs.specs.declared.Input.TheVariants.{Km0, Acl, Request, NewAcl, Hints}
use Rattle.reason_inputs.proofs.Laws.{earlier_of, only_length, first_length, second_length, first_fault_lem, second_fault, inputs_cons, inputs_none}

-- An input, or the first of several: whether lengths fit, and where they do the first fault of the records.
record Sized (p : InputPlace) (b : Bool) (o : Option ℕ) : Type 0 where
  short : b ≡ false → p.place ≡ at_length
  fit : b ≡ true → (is_length p.place ≡ false) × (place_refusal p.place ≡ o)

or_none : (o : Option ℕ) → or_next o none ≡ o
or_none none = refl
or_none (some f) = refl

fault_first : (p : Place) (o next : Option ℕ) → is_fault p ≡ true → place_refusal p ≡ o → place_refusal p ≡ or_next o next
fault_first sound o next h e = absurd (false≢true h)
fault_first at_length o next h e = ap (λ (z : Option ℕ). or_next z next) e
fault_first (at_record f i) o next h e = ap (λ (z : Option ℕ). or_next z next) e
fault_first (at_end f n) o next h e = ap (λ (z : Option ℕ). or_next z next) e

no_refusal : (p : Place) → is_fault p ≡ false → place_refusal p ≡ none
no_refusal sound h = refl
no_refusal at_length h = absurd (false≢true (sym h))
no_refusal (at_record f i) h = absurd (false≢true (sym h))
no_refusal (at_end f n) h = absurd (false≢true (sym h))

-- of two inputs
sized_earlier : (p q : InputPlace) (b c : Bool) (o u : Option ℕ) → Sized p b o → Sized q c u → Sized (earlier_of p q) (b && c) (or_next o u)
sized_earlier p q false c o u s t =
    let r = first_length p q (is_length p.place) refl (ap is_length (s.short refl)) in
    record { short = λ e. sym (ap (λ (z : InputPlace). z.place) r) ∙ s.short refl; fit = λ e. absurd (false≢true e) }
sized_earlier p q true false o u s t =
    let r = second_length p q (is_length p.place) refl (s.fit refl).0 (is_length q.place) refl (ap is_length (t.short refl)) in
    record { short = λ e. sym (ap (λ (z : InputPlace). z.place) r) ∙ t.short refl; fit = λ e. absurd (false≢true e) }
sized_earlier p q true true o u s t = record { short = λ e. absurd (false≢true (sym e)); fit = λ e. pick (is_fault p.place) refl }
  where
    pick : (x : Bool) → is_fault p.place ≡ x → (is_length (earlier_of p q).place ≡ false) × (place_refusal (earlier_of p q).place ≡ or_next o u)
    pick true d =
        let r = first_fault_lem p q (is_length p.place) refl (s.fit refl).0 (is_length q.place) refl (t.fit refl).0 (is_fault p.place) refl d in
        (sym (ap (λ (z : InputPlace). is_length z.place) r) ∙ (s.fit refl).0, sym (ap (λ (z : InputPlace). place_refusal z.place) r) ∙ fault_first p.place o u d (s.fit refl).1)
    pick false d =
        let r = second_fault p q (is_length p.place) refl (s.fit refl).0 (is_length q.place) refl (t.fit refl).0 (is_fault p.place) refl d in
        let n : none ≡ o = sym (no_refusal p.place d) ∙ (s.fit refl).1 in
        (sym (ap (λ (z : InputPlace). is_length z.place) r) ∙ (t.fit refl).0, sym (ap (λ (z : InputPlace). place_refusal z.place) r) ∙ (t.fit refl).1 ∙ ap (λ (z : Option ℕ). or_next z u) n)

-- of several
sized_none : Sized (inputs_place []) true none
sized_none = rw inputs_none (record { short = λ e. absurd (false≢true (sym e)); fit = λ e. (refl, refl) })

sized_cons : (p : InputPlace) (ps : List InputPlace) (b c : Bool) (o u : Option ℕ) → Sized p b o → Sized (inputs_place ps) c u → Sized (inputs_place (p ∷ ps)) (b && c) (or_next o u)
sized_cons p ps b c o u s t = rw (inputs_cons p ps) (sized_earlier p (inputs_place ps) b c o u s t)

-- KM0
sized_km0 : (km0 : Bytes) → Sized (input_at Km0 (km0_place km0)) (eqb (length km0) hash_bytes) none
sized_km0 km0 = pick (eqb (length km0) hash_bytes)
  where
    pick : (b : Bool) → Sized (input_at Km0 (if b then sound else at_length)) b none
    pick true = record { short = λ e. absurd (false≢true (sym e)); fit = λ e. (refl, refl) }
    pick false = record { short = λ e. refl; fit = λ e. absurd (false≢true e) }

-- a file with a reader
module _ {S : Type 0} (k : FileKind S) (file : Bytes) (i : Input) (fault : List Bytes → Option ℕ) (is : kind_fault k file ≡ file_fault k.most fault file) where
  pub file_short : fits k.most file ≡ false → file_place k file ≡ at_length
  unfolding file_place
  file_short e = rw e

  pub file_long : fits k.most file ≡ true → is_length (file_place k file) ≡ false
  file_long e = pick (is_length (file_place k file)) refl
    where
      pick : (b : Bool) → is_length (file_place k file) ≡ b → b ≡ false
      pick false d = refl
      pick true d = absurd (false≢true (sym (length_is_bad k file (only_length (file_place k file) d)) ∙ e))

  pub file_refusal : fits k.most file ≡ true → place_refusal (file_place k file) ≡ fault (records file)
  unfolding file_fault first_fault
  file_refusal e = place_refusal_lem k file ∙ is ∙ rw e (or_none (fault (records file)))

  sized_file : Sized (input_at i (file_place k file)) (fits k.most file) (fault (records file))
  sized_file = record { short = λ e. file_short e; fit = λ e. (file_long e, file_refusal e) }

-- the request of a replacement
use_laid_out_lem : (p : ℕ) (r : Bytes) → use_of p r ≡ true → request_laid_out r ≡ true
unfolding use_of request_laid_out
use_laid_out_lem p r e =
    let u = and_left (eqb (kind r) 6 && use_laid_out r) (eqb (byte 4 r) p) e in
    rw (and_left (eqb (kind r) 6) (use_laid_out r) u) (and_right (eqb (kind r) 6) (use_laid_out r) u)

other_fault : (p : ℕ) (rs : List Bytes) → asks_other p rs ≡ true → some malformed ≡ request_fault (use_of p) rs
unfolding request_fault first_fault
other_fault p [] e = refl
other_fault p (r ∷ rs) e = pick (use_of p r) refl e
  where
    pick : (b : Bool) → use_of p r ≡ b → not b ≡ true → some malformed ≡ request_fault (use_of p) (r ∷ rs)
    pick true d h = absurd (false≢true h)
    pick false d h = sym (rw d)

same_fault : (p : ℕ) (rs : List Bytes) → asks_other p rs ≡ false → request_fault request_laid_out rs ≡ request_fault (use_of p) rs
unfolding request_fault
same_fault p [] e = refl
same_fault p (r ∷ rs) e = pick (use_of p r) refl e
  where
    pick : (b : Bool) → use_of p r ≡ b → not b ≡ false → request_fault request_laid_out (r ∷ rs) ≡ request_fault (use_of p) (r ∷ rs)
    pick true d h = rw (use_laid_out_lem p r d, d)
    pick false d h = absurd (false≢true (sym h))

sized_use : (p : ℕ) (req : Bytes) → Sized (input_at Request (use_place p req)) (fits request_records req) (request_fault (use_of p) (records req))
unfolding use_place
sized_use p req = record { short = λ e. rw e (file_short request_kind req Request (request_fault request_laid_out) (request_reader req) e); fit = λ e. pick e (asks_other p (records req)) refl }
  where
    pick : fits request_records req ≡ true → (b : Bool) → asks_other p (records req) ≡ b
        → (is_length (if fits request_records req && asks_other p (records req) then at_record malformed 0 else file_place request_kind req) ≡ false)
        × (place_refusal (if fits request_records req && asks_other p (records req) then at_record malformed 0 else file_place request_kind req) ≡ request_fault (use_of p) (records req))
    pick e true d = rw (e, d) (refl, other_fault p (records req) d)
    pick e false d =
        rw (e, d) (
          file_long request_kind req Request (request_fault request_laid_out) (request_reader req) e,
          file_refusal request_kind req Request (request_fault request_laid_out) (request_reader req) e ∙ same_fault p (records req) d,
        )

-- the refusal of the first
refusal_of_lem : (p : InputPlace) (b : Bool) (o : Option ℕ) → Sized p b o → place_refusal p.place ≡ or_next (unless b bad_length) o
refusal_of_lem p true o s = (s.fit refl).1
refusal_of_lem p false o s = ap place_refusal (s.short refl)

three : (a b c : Bool) → (a && (b && (c && true))) ≡ (a && b && c)
three false b c = refl
three true false c = refl
three true true false = refl
three true true true = refl

four : (a b c d : Bool) → (a && (b && (c && (d && true)))) ≡ (a && b && c && d)
four false b c d = refl
four true b c d = three b c d

five : (a b c d e : Bool) → (a && (b && (c && (d && (e && true))))) ≡ (a && b && c && d && e)
five false b c d e = refl
five true b c d e = four b c d e

module _ (km0 acl req : Bytes) where
  pub request_refusal : place_refusal (inputs_place (request_inputs km0 acl req)).place ≡ request_files km0 acl req
  unfolding first_fault
  request_refusal =
      refusal_of_lem _ _ _
      (sized_cons _ _ _ _ _ _ (sized_km0 km0)
      (sized_cons _ _ _ _ _ _ (sized_file acl_kind acl Acl acl_fault (acl_reader acl))
      (sized_cons _ _ _ _ _ _ (sized_file request_kind req Request (request_fault request_laid_out) (request_reader req)) sized_none)))
      ∙ ap (λ (b : Bool). or_next (unless b bad_length) (or_next (acl_fault (records acl)) (or_next (request_fault request_laid_out (records req)) none)))
      (three (eqb (length km0) hash_bytes) (fits acl_records acl) (fits request_records req))

  pub request_inputs_sound : is_fault (inputs_place (request_inputs km0 acl req)).place ≡ false → request_files km0 acl req ≡ none
  request_inputs_sound e = sym request_refusal ∙ no_refusal (inputs_place (request_inputs km0 acl req)).place e

  pub expand_refusal : (new : Bytes) → place_refusal (inputs_place (expand_inputs km0 acl req new)).place ≡ expand_files km0 acl req new
  unfolding first_fault
  expand_refusal new =
      refusal_of_lem _ _ _
      (sized_cons _ _ _ _ _ _ (sized_km0 km0)
      (sized_cons _ _ _ _ _ _ (sized_file acl_kind acl Acl acl_fault (acl_reader acl))
      (sized_cons _ _ _ _ _ _ (sized_use expand_acl req)
      (sized_cons _ _ _ _ _ _ (sized_file acl_kind new NewAcl acl_fault (acl_reader new)) sized_none))))
      ∙ ap (λ (b : Bool). or_next (unless b bad_length) (or_next (acl_fault (records acl)) (or_next (request_fault (use_of expand_acl) (records req)) (or_next (acl_fault (records new)) none))))
      (four (eqb (length km0) hash_bytes) (fits acl_records acl) (fits request_records req) (fits acl_records new))

  pub expand_inputs_sound : (new : Bytes) → is_fault (inputs_place (expand_inputs km0 acl req new)).place ≡ false → expand_files km0 acl req new ≡ none
  expand_inputs_sound new e = sym (expand_refusal new) ∙ no_refusal (inputs_place (expand_inputs km0 acl req new)).place e

  pub narrow_refusal : (new hints : Bytes) → place_refusal (inputs_place (narrow_inputs km0 acl req new hints)).place ≡ narrow_files km0 acl req new hints
  unfolding first_fault
  narrow_refusal new hints =
      refusal_of_lem _ _ _
      (sized_cons _ _ _ _ _ _ (sized_km0 km0)
      (sized_cons _ _ _ _ _ _ (sized_file acl_kind acl Acl acl_fault (acl_reader acl))
      (sized_cons _ _ _ _ _ _ (sized_use reduce_acl req)
      (sized_cons _ _ _ _ _ _ (sized_file acl_kind new NewAcl acl_fault (acl_reader new))
      (sized_cons _ _ _ _ _ _ (sized_file hints_kind hints Hints hints_fault (hints_reader hints)) sized_none)))))
      ∙ ap (λ (b : Bool). or_next (unless b bad_length) (or_next (acl_fault (records acl)) (or_next (request_fault (use_of reduce_acl) (records req)) (or_next (acl_fault (records new)) (or_next (hints_fault (records hints)) none)))))
      (five (eqb (length km0) hash_bytes) (fits acl_records acl) (fits request_records req) (fits acl_records new) (fits hint_records hints))

  pub narrow_inputs_sound : (new hints : Bytes) → is_fault (inputs_place (narrow_inputs km0 acl req new hints)).place ≡ false → narrow_files km0 acl req new hints ≡ none
  narrow_inputs_sound new hints e = sym (narrow_refusal new hints) ∙ no_refusal (inputs_place (narrow_inputs km0 acl req new hints)).place e
