-- Laws of a loop over the records of a file, or over any list of lists, by the index: what is left of them at each turn.
use Prim.Native.Nat.{ℕ, ◌≤◌, ◌<◌, ◌+◌}
use native.Mathlib.Numerals.{add-one}
use mathlib.Core.Path.{◌≡◌, sym, ◌∙◌, ap}
use mathlib.Core.List.{List, [], ◌∷◌}
use mathlib.Core.Option.{Option, none, some}
use mathlib.Core.Bool.{Bool, true, false}
use lib.ListN.{length, drop, get_or, drop_of_length-le}
use lib.Seq.{drop-cons}
use Rattle.rules.specs.Numbers.{malformed, too_many}
use Rattle.rules.specs.Basics.{Bytes, or_next, first_fault, record_fault, each_fault, scan}

pub left_at : {A : Type 0} (xs : List (List A)) (i : ℕ) → i < length xs → drop i xs ≡ get_or xs i [] ∷ drop (i + 1) xs
left_at xs i h = rw (add-one, drop-cons xs i [])

pub left_none : {A : Type 0} (xs : List (List A)) (i : ℕ) → length xs ≤ i → drop i xs ≡ []
left_none xs i h = drop_of_length-le xs {i = i} h

-- The turns of a loop that carries a state over the records and stops at the first fault.
module _ {S F : Type 0} (fault : S → Bytes → Option F) (next : S → Bytes → S) (end : S → Option F) (rs : List Bytes) (i : ℕ) (st : S) (x : Option F) (inv : scan fault next end st (drop i rs) ≡ x) where
  scan_step : i < length rs → or_next (fault st (get_or rs i [])) (scan fault next end (next st (get_or rs i [])) (drop (i + 1) rs)) ≡ x
  unfolding scan
  scan_step h = sym (ap (scan fault next end st) (left_at rs i h)) ∙ inv

  pub scan_stop : (f : F) → i < length rs → fault st (get_or rs i []) ≡ some f → some f ≡ x
  scan_stop f h e = rw e at (scan_step h)

  pub scan_next : (st' : S) → i < length rs → fault st (get_or rs i []) ≡ none → st' ≡ next st (get_or rs i []) → scan fault next end st' (drop (i + 1) rs) ≡ x
  scan_next st' h e d = ap (λ (z : S). scan fault next end z (drop (i + 1) rs)) d ∙ rw e at (scan_step h)

  pub scan_done : (f : Option F) → length rs ≤ i → f ≡ end st → f ≡ x
  unfolding scan
  scan_done f h e = e ∙ sym (ap (scan fault next end st) (left_none rs i h)) ∙ inv

-- the same for a reader that judges each record by itself
module _ {F : Type 0} (fault : Bytes → Option F) (rs : List Bytes) (i : ℕ) (x : Option F) (inv : each_fault fault (drop i rs) ≡ x) where
  each_step : i < length rs → or_next (fault (get_or rs i [])) (each_fault fault (drop (i + 1) rs)) ≡ x
  unfolding each_fault first_fault
  each_step h = sym (ap (each_fault fault) (left_at rs i h)) ∙ inv

  pub each_stop : (f : F) → i < length rs → fault (get_or rs i []) ≡ some f → some f ≡ x
  each_stop f h e = rw e at (each_step h)

  pub each_next : i < length rs → fault (get_or rs i []) ≡ none → each_fault fault (drop (i + 1) rs) ≡ x
  each_next h e = rw e at (each_step h)

  pub each_done : length rs ≤ i → none ≡ x
  unfolding each_fault first_fault
  each_done h = sym (ap (each_fault fault) (left_none rs i h)) ∙ inv

-- "within one record 2 before 3": a record's fault, by what two tests of the code answered
module _ (x : Option ℕ) (good room r : Bool) (is : x ≡ record_fault good room) (e : r ≡ good) where
  pub bad_record : r ≡ false → x ≡ some malformed
  unfolding record_fault first_fault
  bad_record h = is ∙ rw (sym e ∙ h)

  pub full_record : (t : Bool) → t ≡ room → r ≡ true → t ≡ false → x ≡ some too_many
  unfolding record_fault first_fault
  full_record t d h k = is ∙ rw (sym e ∙ h, sym d ∙ k)

  pub sound_record : (t : Bool) → t ≡ room → r ≡ true → t ≡ true → x ≡ none
  unfolding record_fault first_fault
  sound_record t d h k = is ∙ rw (sym e ∙ h, sym d ∙ k)
