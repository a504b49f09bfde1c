use Rattle.std.proofs.Common.{◌∙◌}
use Rattle.cabinet_runs.proofs.Laws.{prepared_seen_at}
use Rattle.cabinet_runs.proofs.prepared_run.Goals as goal

pub returns : goal.returns
returns c = c.prepared_judged.ensures ∙ prepared_seen_at _ _ _ _ _ _ _ _ _ c.read_row-seen.ensures
