use mathlib.Core.Path.{◌∙◌, ap}
use Rattle.desk_steps.specs.Steps.{failure_as}
use Rattle.desk_grading.specs.Grades.{graded_together}
use Rattle.desk_grading.proofs.Laws.{failure_and}
use Rattle.desk_grading.proofs.joined.Goals as goal

pub returns : goal.returns
unfolding graded_together
returns c = rw (ap failure_as c.and.ensures ∙ failure_and c.args.a.failure c.args.b.failure, c.min.ensures)
