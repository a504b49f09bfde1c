use mathlib.Core.Path.{sym}
use Rattle.replay_rows.specs.Given.{row_given}
use Rattle.replay_rows.proofs.Whole.{prepared_run_of_whole}
use Rattle.replay_rows.proofs.prepared_run.Goals as goal

pub returns : goal.returns
returns c = prepared_run_of_whole _ _ _ _ _ _ _ _ c.prepared_run.ensures (row_given _) (sym c.decoded-row.ensures)
