use mathlib.Core.Path.{sym}
use Rattle.replay_rows.specs.Given.{row_given}
use Rattle.replay_rows.proofs.Whole.{cabinet_run_of_whole}
use Rattle.replay_rows.proofs.cabinet_run.Goals as goal

pub returns : goal.returns
returns c = cabinet_run_of_whole _ _ _ _ _ _ _ _ c.run.ensures (row_given _) (sym c.decoded-row.ensures)
