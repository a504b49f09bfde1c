-- The reading of a place loses nothing: places that read the same are the same.
use mathlib.Core.Path.{◌≡◌, refl, sym, ◌∙◌, ap}
use Rattle.std.specs.Prelude.{Result, Ok, Err}
use Rattle.refusals.proofs.Determined.{refusal_back, refusal_back_lem}
use Rattle.refusals.specs.declared.Refusal.{Refusal}
use Rattle.reason_files.specs.Places.{Place, sound, at_length, at_record, at_end, place_as}
use Rattle.reason_files.specs.declared.FilePlace.{FilePlace}
use Rattle.reason_files.specs.declared.FilePlace.TheVariants.{Length, Record, End}

abbrev pub place_back : Place → Result (Unit {0}) FilePlace
place_back sound = Ok tt
place_back at_length = Err Length
place_back (at_record f i) = Err (Record (refusal_back f) i)
place_back (at_end f n) = Err (End (refusal_back f) n)

pub place_back_lem : (p : Result (Unit {0}) FilePlace) → place_back (place_as p) ≡ p
place_back_lem (Ok tt) = refl
place_back_lem (Err Length) = refl
place_back_lem (Err (Record r i)) = ap (λ (x : Refusal). Err (Record x i)) (refusal_back_lem r)
place_back_lem (Err (End r n)) = ap (λ (x : Refusal). Err (End x n)) (refusal_back_lem r)

pub place_determined : (p q : Result (Unit {0}) FilePlace) → place_as p ≡ place_as q → p ≡ q
place_determined p q e = sym (place_back_lem p) ∙ ap place_back e ∙ place_back_lem q
