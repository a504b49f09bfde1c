-- The reading of an input's place loses nothing.
use mathlib.Core.Path.{◌≡◌, refl, sym, ◌∙◌, ap}
use mathlib.Core.Option.{Option, none, some}
use Rattle.std.specs.Prelude.{Result, Ok, Err}
use Rattle.reason_files.specs.declared.FilePlace.{FilePlace}
use Rattle.reason_files.proofs.Determined.{place_back, place_back_lem}
use Rattle.reason_inputs.specs.Inputs.{InputPlace, input_place_as}
use Rattle.reason_inputs.specs.declared.Input.{Input}
use Rattle.reason_inputs.specs.declared.InputPlace as code

abbrev fault_back : Option Input → Result (Unit {0}) FilePlace → Result (Unit {0}) code.InputPlace
fault_back none p = Ok tt
fault_back (some i) (Ok x) = Ok tt
fault_back (some i) (Err p) = Err (record { input = i; place = p })

abbrev input_back : InputPlace → Result (Unit {0}) code.InputPlace
input_back p = fault_back p.input (place_back p.place)

input_back_lem : (p : Result (Unit {0}) code.InputPlace) → input_back (input_place_as p) ≡ p
input_back_lem (Ok tt) = refl
input_back_lem (Err p) = ap (fault_back (some p.input)) (place_back_lem (Err p.place))

pub input_determined : (p q : Result (Unit {0}) code.InputPlace) → input_place_as p ≡ input_place_as q → p ≡ q
input_determined p q e = sym (input_back_lem p) ∙ ap input_back e ∙ input_back_lem q
