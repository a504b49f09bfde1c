-- Inputs one after the other, and each input by what the code found.
use Prim.Native.Nat.{ℕ, ◌+◌, ◌≤◌, ◌<◌}
use native.Mathlib.Numerals.{add-one}
use mathlib.Core.Path.{◌≡◌, refl, sym, ◌∙◌, ap}
use mathlib.Core.List.{List, [], ◌∷◌}
use mathlib.Core.Bool.{Bool, true, false, not, ◌&&◌, false≢true}
use mathlib.Core.Option.{none, some}
use lib.ListN.{length, take, drop, get_or, drop_of_length-le}
use lib.Seq.{drop-cons}
use borrow.Author.Tests.{eq-eqb, ne_eqb}
use Rattle.rules.specs.Sizes.{hash_bytes, request_records}
use Rattle.rules.specs.Numbers.{malformed}
use Rattle.std.specs.Prelude.{Result, Ok, Err, map, if◌then◌else◌}
use Rattle.std.specs.Result.{IsErrAnd, IsErr}
use Rattle.rules.proofs.Laws.{never}
use Rattle.rules.specs.Basics.{Bytes, records, fits}
use Rattle.rules.specs.Request.{use_of}
use Rattle.rules.proofs.Rows.{first, no_rows}
use Rattle.text_files.specs.declared.Kind.TheVariants as kind
use Rattle.reason_files.specs.Places.{Place, sound, at_length, at_record, at_end, place_in, place_as}
use Rattle.reason_files.specs.declared.FilePlace.{FilePlace}
use Rattle.reason_files.specs.declared.FilePlace.TheVariants.{Length, Record, End}
use Rattle.reason_inputs.specs.declared.Input.{Input}
use Rattle.reason_inputs.specs.declared.InputPlace as code
use Rattle.reason_inputs.specs.declared.Located.{Located}
use Rattle.reason_inputs.specs.Inputs.{located_as, input_place_as, InputPlace, no_input, is_length, is_fault, first_input, inputs_place, km0_place, asks_other, use_place, input_at}

-- of two inputs, the one at fault: a bad length before any other fault, else the first
unfoldable pub earlier_of : InputPlace → InputPlace → InputPlace
earlier_of p q =
    if is_length p.place then p
    else if is_length q.place then q
    else if is_fault p.place then p
    else q

-- Of two inputs, by the tests that the code made.
module _ (p q : InputPlace) (x : Bool) (e : x ≡ is_length p.place) where
  pub first_length : x ≡ true → p ≡ earlier_of p q
  unfolding earlier_of
  first_length d = sym (rw (sym e ∙ d))

  module _ (d : x ≡ false) (y : Bool) (f : y ≡ is_length q.place) where
    pub second_length : y ≡ true → q ≡ earlier_of p q
    unfolding earlier_of
    second_length g = sym (rw (sym e ∙ d, sym f ∙ g))

    module _ (g : y ≡ false) (z : Bool) (h : z ≡ is_fault p.place) where
      pub first_fault_lem : z ≡ true → p ≡ earlier_of p q
      unfolding earlier_of
      first_fault_lem k = sym (rw (sym e ∙ d, sym f ∙ g, sym h ∙ k))

      pub second_fault : z ≡ false → q ≡ earlier_of p q
      unfolding earlier_of
      second_fault k = sym (rw (sym e ∙ d, sym f ∙ g, sym h ∙ k))

-- the first of several, one after the other
no_length : (ps : List InputPlace) → is_length (first_input is_length ps).place ≡ false → is_length (first_input is_fault ps).place ≡ false
unfolding first_input
no_length [] e = refl
no_length (p ∷ ps) e = pick p.place refl e (no_length ps)
  where
    pick : (q : Place) → p.place ≡ q → is_length (if is_length q then p else first_input is_length ps).place ≡ false → (is_length (first_input is_length ps).place ≡ false → is_length (first_input is_fault ps).place ≡ false)
        → is_length (if is_fault q then p else first_input is_fault ps).place ≡ false
    pick sound d g f = f g
    pick at_length d g f = g
    pick (at_record n i) d g f = ap is_length d
    pick (at_end n i) d g f = ap is_length d

pub inputs_cons : (p : InputPlace) (ps : List InputPlace) → inputs_place (p ∷ ps) ≡ earlier_of p (inputs_place ps)
unfolding inputs_place first_input earlier_of
inputs_cons p ps = pick (is_length p.place) refl (is_length (first_input is_length ps).place) refl
  where
    pick : (a : Bool) → is_length p.place ≡ a → (b : Bool) → is_length (first_input is_length ps).place ≡ b
        → (if is_length (if a then p else first_input is_length ps).place then (if a then p else first_input is_length ps) else (if is_fault p.place then p else first_input is_fault ps))
        ≡ (if a then p else if is_length (if b then first_input is_length ps else first_input is_fault ps).place then (if b then first_input is_length ps else first_input is_fault ps) else if is_fault p.place then p else (if b then first_input is_length ps else first_input is_fault ps))
    pick true d b f = rw d
    pick false d true f = rw f
    pick false d false f = rw (f, no_length ps f)

pub inputs_none : inputs_place [] ≡ no_input
unfolding inputs_place first_input
inputs_none = refl

-- KM0
pub km0_fits : (km0 : Bytes) → length km0 ≡ hash_bytes → sound ≡ km0_place km0
km0_fits km0 e = sym (rw (eq-eqb (length km0) hash_bytes e))

pub km0_long : (km0 : Bytes) → (length km0 ≡ hash_bytes → ⊥) → at_length ≡ km0_place km0
km0_long km0 e = sym (rw (ne_eqb (length km0) hash_bytes e))

-- the request of a replacement
module _ (p : ℕ) (req : Bytes) where
  pub asks_nothing : length req < 64 → false ≡ asks_other p (records req)
  asks_nothing h = sym (ap (asks_other p) (no_rows req h))

  pub asks_first : (b : Bool) → 64 ≤ length req → b ≡ use_of p (take 64 req) → not b ≡ asks_other p (records req)
  asks_first b h e = ap not e ∙ sym (ap (asks_other p) (first req h))

  module _ (w a : Bool) (ew : w ≡ fits request_records req) (ea : a ≡ asks_other p (records req)) where
    both : (w && a) ≡ (fits request_records req && asks_other p (records req))
    both = ap (λ (x : Bool). x && a) ew ∙ ap (λ (x : Bool). fits request_records req && x) ea

    pub use_other : (w && a) ≡ true → at_record malformed 0 ≡ use_place p req
    unfolding use_place
    use_other h = sym (rw (sym both ∙ h))

    pub use_same : (x : Place) → (w && a) ≡ false → x ≡ place_in kind.Request req → x ≡ use_place p req
    unfolding use_place place_in
    use_same x h e = e ∙ sym (rw (sym both ∙ h))

-- The turns of a search for the first input, by the index.
module _ (test : Place → Bool) (xs : List Located) (i : ℕ) (d : Located) (x : InputPlace) (inv : first_input test (map located_as (drop i xs)) ≡ x) where
  search_step : i < length xs → (if test (place_as (get_or xs i d).found) then located_as (get_or xs i d) else first_input test (map located_as (drop (i + 1) xs))) ≡ x
  unfolding first_input
  search_step h =
      let e : drop i xs ≡ get_or xs i d ∷ drop (i + 1) xs = rw (add-one, drop-cons xs i d) in
      sym (ap (λ (ys : List Located). first_input test (map located_as ys)) e) ∙ inv

  pub search_stop : (q : Place) → i < length xs → place_as (get_or xs i d).found ≡ q → test q ≡ true → input_at (get_or xs i d).input q ≡ x
  search_stop q h e t = ap (input_at (get_or xs i d).input) (sym e) ∙ (rw (ap test e ∙ t) at (search_step h))

  pub search_next : i < length xs → test (place_as (get_or xs i d).found) ≡ false → first_input test (map located_as (drop (i + 1) xs)) ≡ x
  search_next h t = rw t at (search_step h)

  pub search_done : length xs ≤ i → no_input ≡ x
  unfolding first_input
  search_done h = sym (ap (λ (ys : List Located). first_input test (map located_as ys)) (drop_of_length-le xs {i = i} h)) ∙ inv

pub err_is_fault : (f : FilePlace) → is_fault (place_as (Err f)) ≡ true
err_is_fault Length = refl
err_is_fault (Record r i) = refl
err_is_fault (End r n) = refl

pub only_length : (p : Place) → is_length p ≡ true → p ≡ at_length
only_length sound h = absurd (false≢true h)
only_length at_length h = refl
only_length (at_record f i) h = absurd (false≢true h)
only_length (at_end f n) h = absurd (false≢true h)

-- An input that a search finds passes its test.
found_passes : (test : Place → Bool) (ps : List InputPlace) (i : Input) (q : Place) → input_at i q ≡ first_input test ps → test q ≡ true
unfolding first_input
found_passes test [] i q e =
    let d : some i ≡ none = ap (λ (z : InputPlace). z.input) e in
    absurd (never (cc))
found_passes test (p ∷ ps) i q e = pick (test p.place) refl e (found_passes test ps i q)
  where
    pick : (b : Bool) → test p.place ≡ b → input_at i q ≡ (if b then p else first_input test ps) → (input_at i q ≡ first_input test ps → test q ≡ true) → test q ≡ true
    pick true t f next = ap (λ (z : InputPlace). test z.place) f ∙ t
    pick false t f next = next f

pub handed_on : (x : Result (Unit {0}) code.InputPlace) (p : code.InputPlace) → IsErr x × IsErrAnd x (λ e. e ≡ p) → input_place_as x ≡ input_at p.input (place_as (Err p.place))
handed_on (Ok x) p h = absurd h.1
handed_on (Err e) p h = ap (λ (z : code.InputPlace). input_at z.input (place_as (Err z.place))) h.1

module _ (ps : List InputPlace) (x : InputPlace) where
  pub long_first : (i : Input) (q : Place) → x ≡ input_at i q → input_at i q ≡ first_input is_length ps → x ≡ inputs_place ps
  unfolding inputs_place
  long_first i q d e =
      let t : is_length (first_input is_length ps).place ≡ true = sym (ap (λ (z : InputPlace). is_length z.place) e) ∙ found_passes is_length ps i q e in
      d ∙ e ∙ sym (rw t)

  pub none_long : no_input ≡ first_input is_length ps → x ≡ first_input is_fault ps → x ≡ inputs_place ps
  unfolding inputs_place
  none_long e d =
      let t : is_length (first_input is_length ps).place ≡ false = sym (ap (λ (z : InputPlace). is_length z.place) e) in
      d ∙ sym (rw t)
