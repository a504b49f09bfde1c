use mathlib.Core.Path.{sym, ◌∙◌, ap}
use Rattle.files.specs.Faults.{fault_as}
use Rattle.runs.proofs.Laws.{refused_prepared}
use Rattle.runs.proofs.prepared_judged.Goals as goal

pub returns-in-Err : goal.returns-in-Err
returns-in-Err c = c.refused.ensures _ ∙ refused_prepared _ _ _ _ _ _ _ _ (sym c.seen_fault.ensures ∙ ap fault_as c.in-Err.is)
