use Rattle.c_reasons.proofs.Laws.{index_told}
use Rattle.c_reasons.proofs.index_number.Goals as goal

pub returns : goal.returns
returns c = index_told _ _ _ c.try_from.ensures c.unwrap_or.ensures
