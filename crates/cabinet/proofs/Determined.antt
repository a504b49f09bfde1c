-- The reading of the cabinet's answers loses nothing: outcomes that read the same are the same, so that the cabinet's promises determine reply, slots and
-- counters.
use mathlib.Core.Path.{◌≡◌, refl, sym, ◌∙◌, ap, ap₂}
use mathlib.Core.List.{List, [], ◌∷◌, map}
use Rattle.gate_charge.specs.declared.Reply.{Reply}
use Rattle.gate_charge.proofs.Determined.{reply_back, reply_back_lem}
use Rattle.rules.specs.Cabinet as rules
use Rattle.cabinet.specs.declared.Slot.{Slot}
use Rattle.cabinet.specs.declared.Cabinet.{Cabinet}
use Rattle.cabinet.specs.declared.CabinetOutcome.{CabinetOutcome}
use Rattle.cabinet.specs.Kept.{slot_as, cabinet_as, cabinet_outcome_as}

abbrev slot_back : rules.Slot → Slot
slot_back s = record { counts = s.counts; loaded = s.loaded; last = s.last }

slots_back : (xs : List Slot) → map slot_back (map slot_as xs) ≡ xs
slots_back [] = refl
slots_back (x ∷ xs) = ap (λ (ys : List Slot). x ∷ ys) (slots_back xs)

abbrev pub cabinet_back : rules.Cabinet → Cabinet
cabinet_back c = record { slots = map slot_back c.slots; counters = c.counters }

pub cabinet_back_lem : (c : Cabinet) → cabinet_back (cabinet_as c) ≡ c
cabinet_back_lem c = ap (λ (ss : List Slot). let d : Cabinet = record { slots = ss; counters = c.counters } in d) (slots_back c.slots)

pub cabinet_determined : (c d : Cabinet) → cabinet_as c ≡ cabinet_as d → c ≡ d
cabinet_determined c d e = sym (cabinet_back_lem c) ∙ ap cabinet_back e ∙ cabinet_back_lem d

abbrev outcome_back : rules.CabinetOutcome → CabinetOutcome
outcome_back o = record { cabinet = cabinet_back o.cabinet; reply = reply_back o.answer }

outcome_back_lem : (o : CabinetOutcome) → outcome_back (cabinet_outcome_as o) ≡ o
outcome_back_lem o =
    ap₂ (λ (c : Cabinet) (r : Reply). let p : CabinetOutcome = record { cabinet = c; reply = r } in p) (cabinet_back_lem o.cabinet) (reply_back_lem o.reply)

pub cabinet_outcome_determined : (o p : CabinetOutcome) → cabinet_outcome_as o ≡ cabinet_outcome_as p → o ≡ p
cabinet_outcome_determined o p e = sym (outcome_back_lem o) ∙ ap outcome_back e ∙ outcome_back_lem p
