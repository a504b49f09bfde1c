-- The reading of a call's place loses nothing.
use Prim.Native.Nat.{ℕ}
use mathlib.Core.Path.{◌≡◌, refl, sym, ◌∙◌, ap}
use mathlib.Core.Option.{Option, none, some}
use lib.Dec.{eqb}
use Rattle.rules.specs.Numbers.{clock_back, not_certified}
use Rattle.std.specs.Prelude.{Result, Ok, Err, if◌then◌else◌}
use Rattle.reason_inputs.specs.declared.Input.{Input}
use Rattle.refusals.specs.declared.Denial.{Denial}
use Rattle.refusals.specs.declared.Denial.TheVariants.{ClockBack, NotAdmitted, NotCertified, Spent}
use Rattle.reason_files.specs.declared.FilePlace.{FilePlace}
use Rattle.reason_files.proofs.Determined.{place_back, place_back_lem}
use Rattle.reason_calls.specs.Calls.{CallPlace, permitted, bad_input, denial, not_shown, call_place_as}
use Rattle.reason_calls.specs.declared.CallPlace as code
use Rattle.reason_calls.specs.declared.CallPlace.TheVariants.{BadInput, Denied, NotNarrower}

abbrev denial_back : ℕ → Option ℕ → Denial
denial_back n none = if eqb n clock_back then ClockBack else NotAdmitted
denial_back n (some k) = if eqb n not_certified then NotCertified k else Spent k

abbrev bad_back : Input → Result (Unit {0}) FilePlace → Result (Unit {0}) code.CallPlace
bad_back i (Ok x) = Ok tt
bad_back i (Err p) = Err (BadInput i p)

abbrev call_back : CallPlace → Result (Unit {0}) code.CallPlace
call_back permitted = Ok tt
call_back (bad_input none p) = Ok tt
call_back (bad_input (some i) p) = bad_back i (place_back p)
call_back (denial n near s) = Err (Denied (denial_back n near) s)
call_back (not_shown i b) = Err (NotNarrower i b)

call_back_lem : (p : Result (Unit {0}) code.CallPlace) → call_back (call_place_as p) ≡ p
call_back_lem (Ok tt) = refl
call_back_lem (Err (BadInput i p)) = ap (bad_back i) (place_back_lem (Err p))
call_back_lem (Err (Denied ClockBack s)) = refl
call_back_lem (Err (Denied NotAdmitted s)) = refl
call_back_lem (Err (Denied (NotCertified k) s)) = refl
call_back_lem (Err (Denied (Spent k) s)) = refl
call_back_lem (Err (NotNarrower i b)) = refl

pub call_determined : (p q : Result (Unit {0}) code.CallPlace) → call_place_as p ≡ call_place_as q → p ≡ q
call_determined p q e = sym (call_back_lem p) ∙ ap call_back e ∙ call_back_lem q
