use mathlib.Core.Path.{sym, ◌∙◌, ap}
use Rattle.files.specs.Faults.{fault_as}
use Rattle.runs.proofs.Laws.{refused_run}
use Rattle.runs.proofs.run_judged.Goals as goal

pub returns-in-Err : goal.returns-in-Err
returns-in-Err c = c.refused.ensures _ ∙ refused_run _ _ _ _ _ _ _ (sym c.seen_fault.ensures ∙ ap fault_as c.in-Err.is)
