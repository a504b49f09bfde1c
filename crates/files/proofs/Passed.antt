-- A fault that `?` returns.
use mathlib.Core.Path.{◌≡◌, ap}
use mathlib.Core.Option.{some}
use Rattle.std.specs.Prelude.{Result, Ok, Err}
use Rattle.std.specs.Result.{IsErrAnd, IsErr}
use Rattle.refusals.specs.declared.Refusal.{Refusal}
use Rattle.refusals.specs.Refusals.{refusal_number}
use Rattle.files.specs.Faults.{fault_as}

pub fault_passed : {A : Type 0} (x : Result A Refusal) (r : Refusal) → IsErr x × IsErrAnd x (λ e. e ≡ r) → fault_as x ≡ some (refusal_number r)
fault_passed (Ok x) r h = absurd h.1
fault_passed (Err e) r h = ap (λ (k : Refusal). some (refusal_number k)) h.1
