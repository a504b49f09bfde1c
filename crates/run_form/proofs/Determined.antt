-- The reading of a form, and of what is answered where one is asked for, loses nothing: what reads the same is the same.
use mathlib.Core.Path.{◌≡◌, refl, sym, ◌∙◌, ap}
use Rattle.std.specs.Prelude.{Result, Ok, Err}
use Rattle.rules.specs.Prepared as rules
use Rattle.refusals.specs.declared.Refusal.{Refusal}
use Rattle.refusals.proofs.Determined.{refusal_back, refusal_back_lem}
use Rattle.run_form.specs.declared.Prepared.{Prepared}
use Rattle.run_form.specs.Forms.{form_as, preparation_as}

abbrev pub form_back : rules.Form → Prepared
form_back f = record { uses = f.uses; working = f.working; recovery = f.recovery }

pub form_determined : (f g : Prepared) → form_as f ≡ form_as g → f ≡ g
form_determined f g e = ap form_back e

abbrev preparation_back : rules.Preparation → Result Prepared Refusal
preparation_back (rules.prepared f) = Ok (form_back f)
preparation_back (rules.unprepared n) = Err (refusal_back n)

preparation_back_lem : (p : Result Prepared Refusal) → preparation_back (preparation_as p) ≡ p
preparation_back_lem (Ok f) = refl
preparation_back_lem (Err r) = ap Err (refusal_back_lem r)

pub preparation_determined : (p q : Result Prepared Refusal) → preparation_as p ≡ preparation_as q → p ≡ q
preparation_determined p q e = sym (preparation_back_lem p) ∙ ap preparation_back e ∙ preparation_back_lem q
