-- The reading of readers' answers loses nothing: those that read the same are the same.
use Prim.Native.Nat.{ℕ}
use mathlib.Core.Path.{◌≡◌, refl, sym, ◌∙◌, ap}
use mathlib.Core.Option.{Option, none, some}
use Rattle.std.specs.Prelude.{Result, Ok, Err}
use Rattle.refusals.proofs.Determined.{refusal_back, refusal_back_lem}
use Rattle.refusals.specs.declared.Refusal.{Refusal}
use Rattle.files.specs.Faults.{fault_as}

abbrev checked_back : Option ℕ → Result (Unit {0}) Refusal
checked_back none = Ok tt
checked_back (some n) = Err (refusal_back n)

checked_back_lem : (c : Result (Unit {0}) Refusal) → checked_back (fault_as c) ≡ c
checked_back_lem (Ok tt) = refl
checked_back_lem (Err r) = ap Err (refusal_back_lem r)

pub checked_determined : (a b : Result (Unit {0}) Refusal) → fault_as a ≡ fault_as b → a ≡ b
checked_determined a b e = sym (checked_back_lem a) ∙ ap checked_back e ∙ checked_back_lem b
