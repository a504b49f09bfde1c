-- The cabinet's types, as the definitions have them.
use Rattle.std.specs.Prelude.{ℕ, map, Bool, ltb, if◌then◌else◌}
use Rattle.rules.specs.Sizes.{slots_max}
use Rattle.rules.specs.Numbers.{no_slot}
use Rattle.rules.specs.Ledger.{Ledger}
use Rattle.rules.specs.Gate.{Outcome, refused}
use Rattle.rules.specs.Cabinet as rules
use Rattle.gate_charge.specs.Charges.{answer_as}
use Rattle.cabinet.specs.declared.Slot.{Slot}
use Rattle.cabinet.specs.declared.Cabinet.{Cabinet}
use Rattle.cabinet.specs.declared.CabinetOutcome.{CabinetOutcome}

-- a slot
abbrev pub slot_as : Slot → rules.Slot
slot_as s = record { counts = s.counts; loaded = s.loaded; last = s.last }

-- the cabinet
abbrev pub cabinet_as : Cabinet → rules.Cabinet
cabinet_as c = record { slots = map slot_as c.slots; counters = c.counters }

-- the outcome of a call
abbrev pub cabinet_outcome_as : CabinetOutcome → rules.CabinetOutcome
cabinet_outcome_as o = record { answer = answer_as o.reply; cabinet = cabinet_as o.cabinet }

-- the index of the slot that a call reads and writes: 0 if there is no such slot
abbrev pub slot_index : ℕ → ℕ
slot_index slot = if ltb slot slots_max then slot else 0

-- a call on a slot's ledger, if there is such a slot; else 13, and the ledger is unchanged
abbrev pub if_there : Bool → Ledger → Outcome → Outcome
if_there there l o = if there then o else refused l no_slot
