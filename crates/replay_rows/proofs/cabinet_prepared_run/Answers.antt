use mathlib.Core.Path.{sym}
use Rattle.replay_rows.specs.Given.{row_given}
use Rattle.replay_rows.proofs.Whole.{cabinet_prepared_run_of_whole}
use Rattle.replay_rows.proofs.cabinet_prepared_run.Goals as goal

pub returns : goal.returns
returns c = cabinet_prepared_run_of_whole _ _ _ _ _ _ _ _ _ c.prepared_run.ensures (row_given _) (sym c.decoded-row.ensures)
