use Rattle.std.proofs.Common.{◌∙◌}
use Rattle.runs.proofs.Seeing.{run_seen_lem}
use Rattle.runs.proofs.run.Goals as goal

pub returns : goal.returns
returns c = c.run_judged.ensures ∙ run_seen_lem _ _ _ _ _ _ _ c.read_row-seen.ensures
