use Rattle.gate_charge.specs.Charges.{answer_as}
use Rattle.cabinet.proofs.Laws.{handed}
use Rattle.cabinet.proofs.Cabinet.hand_back.Goals as goal

pub returns : goal.returns
returns c = let a = c.args in
    handed a.self.slots a.self.counters _ _ a.at (record { counts = a.counts; loaded = a.loaded; last = a.after }) (answer_as a.reply) c.charge_counters.ensures
