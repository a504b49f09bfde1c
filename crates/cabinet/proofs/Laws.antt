-- Slots in the code's array, and as the definitions have them.
use Prim.Native.Nat.{ℕ, zero, suc, ◌≤◌, ◌<◌}
use native.Mathlib.Omega.{arith}
use mathlib.Core.Path.{◌≡◌, refl, sym, ◌∙◌, ap}
use mathlib.Core.List.{List, [], ◌∷◌, map}
use mathlib.Core.Option.{none}
use mathlib.Core.Bool.{Bool, true, false}
use borrow.Author.Tests.{lt-ltb, le-ltb}
use lib.ListN.{get_or, set, get_or-map}
use lib.Seq.{set-get_or}
use lib.Dec.{ltb}
use Rattle.rules.specs.Sizes.{slots_max}
use Rattle.rules.specs.Numbers.{no_slot}
use Rattle.rules.specs.Acl.{Group}
use Rattle.rules.specs.Ledger.{Ledger}
use Rattle.rules.specs.Gate.{Answer, refuse, refused, Outcome}
use Rattle.rules.proofs.Choices.{pick_ge, pick_lt}
use Rattle.rules.specs.Cabinet as rules
use Rattle.refusals.specs.declared.Refusal.TheVariants.{NoSlot}
use Rattle.gate_charge.specs.declared.Reply.{Reply}
use Rattle.gate_charge.specs.declared.Reply.TheVariants.{Refuse}
use Rattle.gate_charge.specs.Charges.{answer_as}
use Rattle.gate.specs.Outcomes.{Settles}
use Rattle.gate.proofs.Settling.{settles_refused}
use Rattle.cabinet.specs.declared.Slot.{Slot}
use Rattle.cabinet.specs.Kept.{slot_as, slot_index, if_there}

-- the index for a slot's number, and for a number that is none
pub place_of : (slot r : ℕ) → slot < slots_max → r ≡ slot → (r < slots_max) × (r ≡ slot_index slot)
place_of slot r h e = (rw e h, e ∙ sym (rw (lt-ltb slot slots_max h)))

pub place_past : (slot r : ℕ) → slots_max ≤ slot → r ≡ 0 → (r < slots_max) × (r ≡ slot_index slot)
place_past slot r h e = (omega (arith, e), e ∙ sym (rw (le-ltb slot slots_max h)))

-- the reply to a call where there is a slot, and where there is none: that one charges nothing
pub settled_in : (l : Ledger) (gs : List Group) (time : ℕ) (after : Answer → List ℕ → List ℕ) (o : Outcome) (there : Bool) (r : Reply) → after (refuse no_slot none) l.counts ≡ l.counts
    → (there ≡ true → Settles l gs time after (answer_as r) o) → (there ≡ false → r ≡ Refuse NoSlot) → Settles l gs time after (answer_as r) (if_there there l o)
settled_in l gs time after o true r k s e = s refl
settled_in l gs time after o false r k s e = rw (e refl) (settles_refused l gs time after (refused l no_slot) no_slot k refl)

-- the ledger made of a slot and the counters
pub ledger_made : (xs : List Slot) (counters : List ℕ) (k : ℕ)
    → rules.ledger_with (slot_as (get_or xs k (record { counts = []; loaded = 0; last = 0 }))) counters ≡ rules.ledger_at (record { slots = map slot_as xs; counters = counters }) k
ledger_made xs counters k = ap (λ (s : rules.Slot). rules.ledger_with s counters) (sym (get_or-map slot_as xs k (record { counts = []; loaded = 0; last = 0 })))

slot_written : (xs : List Slot) (k : ℕ) (x : Slot) → map slot_as (set xs k x) ≡ set (map slot_as xs) k (slot_as x)
slot_written [] k x = refl
slot_written (y ∷ ys) zero x = refl
slot_written (y ∷ ys) (suc k) x = ap (λ (zs : List rules.Slot). slot_as y ∷ zs) (slot_written ys k x)

-- the cabinet with a ledger put back
pub ledger_handed : (xs : List Slot) (counters after : List ℕ) (k : ℕ) (x : Slot)
    → let r : rules.Cabinet = record { slots = map slot_as (set xs k x); counters = after } in
    r ≡ rules.put_back (record { slots = map slot_as xs; counters = counters }) k (rules.ledger_with (slot_as x) after)
ledger_handed xs counters after k x = ap (λ (ss : List rules.Slot). let r : rules.Cabinet = record { slots = ss; counters = after } in r) (slot_written xs k x)

-- the cabinet with a slot written
abbrev outcome : Answer → List rules.Slot → List ℕ → rules.CabinetOutcome
outcome answer slots counters = record { answer = answer; cabinet = record { slots = slots; counters = counters } }

pub handed : (xs : List Slot) (counters after charged : List ℕ) (k : ℕ) (x : Slot) (answer : Answer) → after ≡ charged
    → outcome answer (map slot_as (set xs k x)) after
    ≡ rules.as_gate (record { slots = map slot_as xs; counters = counters }) k (record { answer = answer; ledger = rules.ledger_with (slot_as x) charged })
handed xs counters after charged k x answer e =
    ap (λ (ss : List rules.Slot). outcome answer ss after) (slot_written xs k x) ∙ ap (outcome answer (set (map slot_as xs) k (slot_as x))) e

-- a slot's ledger put back as it was
put_back_lem : (c : rules.Cabinet) (k : ℕ) → rules.put_back c k (rules.ledger_at c k) ≡ c
put_back_lem c k = ap (λ (ss : List rules.Slot). let d : rules.Cabinet = record { slots = ss; counters = c.counters } in d) (set-get_or c.slots k rules.empty_slot)

-- A call is the gate's own in its slot, or 13.
in_place : (c : rules.Cabinet) (slot : ℕ) (f : Ledger → Outcome)
    → rules.as_gate c (slot_index slot) (if_there (ltb slot slots_max) (rules.ledger_at c (slot_index slot)) (f (rules.ledger_at c (slot_index slot)))) ≡ rules.in_slot c slot (f (rules.ledger_at c slot))
in_place c slot f = pick (ltb slot slots_max) refl
  where
    pick : (b : Bool) → ltb slot slots_max ≡ b
        → rules.as_gate c (slot_index slot) (if_there (ltb slot slots_max) (rules.ledger_at c (slot_index slot)) (f (rules.ledger_at c (slot_index slot)))) ≡ rules.in_slot c slot (f (rules.ledger_at c slot))
    pick true e = rw e
    pick false e = rw e (ap (λ (d : rules.Cabinet). let r : rules.CabinetOutcome = record { answer = refuse no_slot none; cabinet = d } in r) (put_back_lem c 0))

pub slot_called : (xs : List Slot) (counts counters : List ℕ) (slot at : ℕ) (there : Bool) (f : Ledger → Outcome) (o : Outcome) (r : rules.CabinetOutcome)
    → let c : rules.Cabinet = record { slots = map slot_as xs; counters = counters } in
    let s : Slot = get_or xs at (record { counts = []; loaded = 0; last = 0 }) in
    let l : Ledger = record { counts = counts; counters = counters; loaded = s.loaded; last = s.last } in
    there ≡ ltb slot slots_max → at ≡ slot_index slot → counts ≡ s.counts → o ≡ if_there there l (f l) → r ≡ rules.as_gate c at o
    → r ≡ rules.in_slot c slot (f (rules.ledger_at c slot))
slot_called xs counts counters slot at there f o r t a k d p =
    let c : rules.Cabinet = record { slots = map slot_as xs; counters = counters } in
    let s : Slot = get_or xs at (record { counts = []; loaded = 0; last = 0 }) in
    p
    ∙ ap (λ (x : Outcome). rules.as_gate c at x)
    (d
    ∙ ap (λ (cs : List ℕ). let l : Ledger = record { counts = cs; counters = counters; loaded = s.loaded; last = s.last } in if_there there l (f l)) k
    ∙ ap (λ (l : Ledger). if_there there l (f l)) (ledger_made xs counters at))
    ∙ rw (t, a) (in_place c slot f)

-- a load of a slot that is not there, and of one that is
pub slot_refused : (c : rules.Cabinet) (k : ℕ) (o : Outcome) (r : rules.CabinetOutcome) → slots_max ≤ k → r ≡ rules.cabinet_refused c no_slot → r ≡ rules.in_slot c k o
slot_refused c k o r h e = pick_ge _ _ r k slots_max h e

pub slot_taken : (c : rules.Cabinet) (k : ℕ) (o : Outcome) (r : rules.CabinetOutcome) → k < slots_max → r ≡ rules.as_gate c k o → r ≡ rules.in_slot c k o
slot_taken c k o r h e = pick_lt _ _ r k slots_max h e
