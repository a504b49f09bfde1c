use Rattle.std.proofs.Common.{ℕ, [], sym, ◌∙◌, ap}
use Rattle.std.specs.Prelude.{Result}
use Rattle.rules.specs.Basics.{set_of}
use Rattle.rules.specs.Prepared.{form_of, use_sets}
use Rattle.refusals.specs.declared.Refusal.{Refusal}
use Rattle.run_form.specs.declared.Prepared.{Prepared}
use Rattle.run_form.specs.Forms.{preparation_as}
use Rattle.c_run_answers.specs.Surface.{FormInNumbers, host_form_for}
use Rattle.c_run_answers.proofs.HostFormFromResultPreparedRefusal.from.Goals as goal

abbrev form_told : Result Prepared Refusal → FormInNumbers
form_told p = host_form_for (preparation_as p)

abbrev refused : ℕ → FormInNumbers
refused n = record { refusal = n; form = form_of [] }

pub returns-in-Err : goal.returns-in-Err
unfolding form_of use_sets set_of
returns-in-Err c = ap refused (c.from-in-Err.ensures ∙ c.from.ensures) ∙ sym (ap form_told c.in-Err.is)
