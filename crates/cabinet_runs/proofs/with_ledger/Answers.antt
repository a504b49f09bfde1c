use Rattle.cabinet.proofs.Laws.{ledger_handed}
use Rattle.cabinet_runs.proofs.with_ledger.Goals as goal

pub returns : goal.returns
returns c = let a = c.args in
    let l = a.l in
    ledger_handed a.cabinet.slots a.cabinet.counters l.counters a.slot (record { counts = l.counts; loaded = l.loaded; last = l.last })
