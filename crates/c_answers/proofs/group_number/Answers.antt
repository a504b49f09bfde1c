use Rattle.c_answers.proofs.Laws.{group_told}
use Rattle.c_answers.proofs.group_number.Goals as goal

pub returns : goal.returns
returns c = group_told _ _ _ c.try_from.ensures c.unwrap_or.ensures
