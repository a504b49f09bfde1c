use Rattle.std.proofs.Common.{arith}
use Rattle.run_decision.proofs.Laws.{left_row}
use Rattle.run_decision.proofs.is_left.Goals as goal

pub returns : goal.returns
returns c = left_row _ _ _ _ _ _ _ (omega arith) c.is_left.ensures
