use Rattle.std.proofs.Common.{◌∙◌}
use Rattle.cabinet_runs.proofs.Laws.{run_seen_at}
use Rattle.cabinet_runs.proofs.run.Goals as goal

pub returns : goal.returns
returns c = c.run_judged.ensures ∙ run_seen_at _ _ _ _ _ _ _ _ c.read_row-seen.ensures
