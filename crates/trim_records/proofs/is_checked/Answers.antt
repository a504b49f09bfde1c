use Rattle.trim_records.proofs.Laws.{checked_found}
use Rattle.trim_records.proofs.is_checked.Goals as goal

pub returns : goal.returns
returns c = checked_found _ _ _ _ c.content.ensures c.names_certifier.ensures
