use Rattle.std.proofs.Common.{◌∙◌}
use Rattle.runs.proofs.Seeing.{prepared_seen_lem}
use Rattle.runs.proofs.prepared_run.Goals as goal

pub returns : goal.returns
returns c = c.prepared_judged.ensures ∙ prepared_seen_lem _ _ _ _ _ _ _ _ c.read_row-seen.ensures
