use mathlib.Core.Path.{refl}
use lib.ListN.{replicate}
use Rattle.rules.specs.Sizes.{groups_max}
use Rattle.rules.specs.Gate.{done, load}
use Rattle.rules.specs.Cabinet.{ledger_at, cabinet_load}
use Rattle.cabinet.specs.Kept.{cabinet_as}
use Rattle.cabinet.proofs.Laws.{handed, slot_refused, slot_taken}
use borrow.Author.Rules.{rules}
use Rattle.cabinet.proofs.Cabinet.load.Goals as goal

pub returns-then-slot-ge-SLOTS : goal.returns-then-slot-ge-SLOTS
unfolding cabinet_load
returns-then-slot-ge-SLOTS c = slot_refused _ c.args.slot _ _ (search rules) c.refuse.ensures

pub returns : goal.returns
unfolding cabinet_load
returns c = let a = c.args in
    slot_taken (cabinet_as a.self) a.slot (load (ledger_at (cabinet_as a.self) a.slot) a.time) _ (search rules)
    (handed a.self.slots a.self.counters a.self.counters a.self.counters a.slot (record { counts = replicate groups_max 0; loaded = a.time; last = a.time }) done refl)
