use mathlib.Core.Path.{◌∙◌}
use Rattle.trim_records.proofs.Laws.{passed}
use Rattle.trim_records.proofs.passes.Goals as goal

pub returns : goal.returns
returns c = c.is_ok.ensures.value ∙ passed _ _ _ c.action_failure.ensures
