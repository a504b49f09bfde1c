-- What two tests found, and a fault that `?` returns.
use Prim.Native.Nat.{ℕ}
use mathlib.Core.Path.{◌≡◌, ◌∙◌}
use mathlib.Core.List.{List, ◌∷◌}
use mathlib.Core.Option.{Option, some}
use mathlib.Core.Bool.{Bool, ◌&&◌}
use Rattle.std.specs.Prelude.{Result}
use Rattle.std.specs.Result.{IsErrAnd, IsErr}
use Rattle.rules.specs.Basics.{first_fault}
use Rattle.rules.proofs.Faults.{fault_found}
use Rattle.refusals.specs.declared.Refusal.{Refusal}
use Rattle.refusals.specs.Refusals.{refusal_number}
use Rattle.files.specs.Faults.{fault_as}
use Rattle.files.proofs.Passed.{fault_passed}

-- two tests that the code made, as one
pub both_are : (a b x y : Bool) → a ≡ x → b ≡ y → (a && b) ≡ (x && y)
both_are a b x y p q = rw (p, q)

-- a fault that a call found, returned as the first of several
pub handed_on : {A : Type 0} (x : Result A Refusal) (r : Refusal) (o : Option ℕ) (ts : List (Option ℕ)) → IsErr x × IsErrAnd x (λ e. e ≡ r) → some (refusal_number r) ≡ o → fault_as x ≡ first_fault (o ∷ ts)
handed_on x r o ts h e = let p = fault_passed x r h in fault_found o (fault_as x) ts (refusal_number r) (p ∙ e) p
