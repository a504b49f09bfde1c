use Rattle.std.proofs.Common.{◌∙◌, ap}
use Rattle.c_run_answers.specs.Surface.{host_cabinet_run_for}
use Rattle.c_runs.proofs.akubolinfe_cabinet_run.Goals as goal

pub returns : goal.returns
returns c = c.from.ensures _ ∙ ap host_cabinet_run_for c.run.ensures
