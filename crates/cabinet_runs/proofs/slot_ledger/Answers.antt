use Rattle.cabinet.proofs.Laws.{ledger_made}
use Rattle.cabinet_runs.proofs.slot_ledger.Goals as goal

pub returns : goal.returns
returns c = let a = c.args in
    ledger_made a.cabinet.slots a.cabinet.counters a.slot
