use mathlib.Core.Path.{sym}
use Rattle.replay_rows.specs.Given.{row_given}
use Rattle.replay_rows.proofs.Whole.{run_of_whole}
use Rattle.replay_rows.proofs.run.Goals as goal

pub returns : goal.returns
returns c = run_of_whole _ _ _ _ _ _ _ c.run.ensures (row_given _) (sym c.decoded-row.ensures)
