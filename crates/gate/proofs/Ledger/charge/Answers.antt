use Rattle.gate.proofs.Settling.{tables_charged}
use Rattle.gate.proofs.Ledger.charge.Goals as goal

pub returns : goal.returns
returns c = tables_charged _ _ _ _ _ _ _ c.charge_counters.ensures c.charge_count.ensures.1 c.last_after.ensures
