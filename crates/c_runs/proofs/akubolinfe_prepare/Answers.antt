use mathlib.Core.Path.{◌∙◌, ap}
use Rattle.c_run_answers.specs.Surface.{host_form_for}
use Rattle.c_runs.proofs.akubolinfe_prepare.Goals as goal

pub returns : goal.returns
returns c = c.from.ensures ∙ ap host_form_for c.prepare.ensures
