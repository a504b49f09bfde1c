use mathlib.Core.Path.{◌∙◌, ap}
use Rattle.rules.specs.CabinetRuns.{CabinetRan}
use Rattle.cabinet.specs.Kept.{cabinet_as}
use Rattle.replay_runs.proofs.slot_run_call.Goals as goal

pub returns : goal.returns
returns c = let o = c.slot_answer-o.ensures in
    (ap cabinet_as c.print_cabinet.ensures ∙ ap (λ (x : CabinetRan). x.cabinet) o, ap (λ (x : CabinetRan). x.buffer) o)
