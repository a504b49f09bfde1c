-- The cabinet's slots: a slot answers and is charged as the gate would; a call changes no other slot's counts or times; a clear reaches every slot; a
-- refusal changes nothing, and its number is one that the papers give to its entry. Two wrong products that this rules out: a cabinet whose load zeroes
-- every slot's counts, and one that takes slot 8.
use Prim.Native.Nat.{ℕ, ◌≤◌, ◌<◌}
use mathlib.Core.Path.{◌≡◌, refl, sym, ◌∙◌, ap, subst}
use mathlib.Core.Logic.{◌↔◌}
use mathlib.Core.List.{List, []}
use mathlib.Core.Option.{Option, none, some}
use mathlib.Core.Bool.{Bool, true, false}
use lib.ListN.{length, get_or, set, length-set}
use lib.Seq.{get_or-set_same, get_or-set_other, set-get_or}
use lib.Dec.{eqb, ltb}
use borrow.Author.Tests.{eqb-false, lt-ltb, le-ltb, ltb-true, ltb-false}
use Rattle.rules.specs.Sizes.{slots_max, counters_max}
use Rattle.rules.specs.Numbers.{no_slot}
use Rattle.rules.specs.Basics.{any}
use Rattle.rules.specs.Ledger.{Ledger}
use Rattle.rules.specs.Gate.{Outcome, refuse, clear}
use Rattle.rules.specs.Cabinet.{Slot, Cabinet, counts_and_times, empty_slot, slot_at, ledger_with, ledger_at, put_back, CabinetOutcome, cabinet_refused, as_gate, in_slot, cabinet_request, cabinet_load, cabinet_clear, cabinet_narrow, cabinet_expand}
use Rattle.theorems.specs.Demands.{clearing, outcome, one_of}
use Rattle.theorems.specs.Cabinets.{CabinetCall, requesting_at, loading_at, clearing_all, narrowing_at, expanding_at, cabinet_outcome, cabinet_after, slot_in, gate_outcome, is_slot, gate_call, lent_in}
use Rattle.rules.proofs.Laws.{never, not_both, or_right}
use Rattle.theorems.proofs.Calls.{ClearsNone}
use Rattle.theorems.proofs.Demand1.{refused_ledger}
use Rattle.theorems.proofs.Refusals.{request_number, expand_number, narrow_number, clear_number}
use Rattle.theorems.specs.Numbers.{Numbered, RefusalIn, gate_numbers, cabinet_numbers}

-- the gate's answer, and of the ledger that it handed back the counters
abbrev on_table : Cabinet → Outcome → CabinetOutcome
on_table c o = record { answer = o.answer; cabinet = record { slots = c.slots; counters = o.ledger.counters } }

-- What a call comes to, whichever kind it is: what the gate makes of it, in one of the eight slots; a refusal, where its slot is none of these; or, of a
-- clear, what the gate makes of it on the shared table. This is the case over the kinds of call of the cabinet that the theorems cite.
pub data Lands (c : Cabinet) : CabinetCall → CabinetOutcome → Type 0 where
  to_slot : {x : CabinetCall} (k : ℕ) → slot_in x ≡ some k → k < slots_max → Lands c x (as_gate c k (gate_outcome (ledger_at c k) x))
  to_none : {x : CabinetCall} (k : ℕ) → slot_in x ≡ some k → slots_max ≤ k → ClearsNone (gate_call x) → Lands c x (cabinet_refused c no_slot)
  to_all : (n : ℕ) → Lands c (clearing_all n) (on_table c (clear (ledger_at c 0) n))

clear_table : (c : Cabinet) (n : ℕ) → cabinet_outcome c (clearing_all n) ≡ on_table c (clear (ledger_at c 0) n)
unfolding cabinet_outcome cabinet_clear clear
clear_table c n = pick (ltb n counters_max) refl
  where
    pick : (b : Bool) → ltb n counters_max ≡ b → cabinet_clear c n ≡ on_table c (clear (ledger_at c 0) n)
    pick true t = rw t
    pick false t = rw t

pub lands : (c : Cabinet) (x : CabinetCall) → Lands c x (cabinet_outcome c x)
unfolding cabinet_outcome cabinet_request cabinet_load cabinet_narrow cabinet_expand outcome
lands c x = pick x
  where
    at : (x : CabinetCall) (k : ℕ) → slot_in x ≡ some k → ClearsNone (gate_call x) → (b : Bool) → ltb k slots_max ≡ b → Lands c x (in_slot c k (gate_outcome (ledger_at c k) x))
    at x k e z true t = rw t (to_slot k e (ltb-true k slots_max t))
    at x k e z false t = rw t (to_none k e (ltb-false k slots_max t) z)

    pick : (x : CabinetCall) → Lands c x (cabinet_outcome c x)
    pick (requesting_at slot km0 acl req) = at (requesting_at slot km0 acl req) slot refl (λ n h. refl) _ refl
    pick (loading_at slot time) = at (loading_at slot time) slot refl (λ n h. refl) _ refl
    pick (clearing_all n) = rw (clear_table c n) (to_all n)
    pick (narrowing_at slot km0 acl req new hints) = at (narrowing_at slot km0 acl req new hints) slot refl (λ n h. refl) _ refl
    pick (expanding_at slot km0 acl req new) = at (expanding_at slot km0 acl req new) slot refl (λ n h. refl) _ refl

-- a call to a slot
in_slot_lem : (c : Cabinet) (x : CabinetCall) (k : ℕ) → slot_in x ≡ some k → cabinet_outcome c x ≡ in_slot c k (gate_outcome (ledger_at c k) x)
in_slot_lem c x k e = pick x (cabinet_outcome c x) (lands c x) e
  where
    pick : (x : CabinetCall) (r : CabinetOutcome) → Lands c x r → slot_in x ≡ some k → r ≡ in_slot c k (gate_outcome (ledger_at c k) x)
    pick x r (to_slot j d b) e = let q : k ≡ j = cc in rw (q, lt-ltb j slots_max b)
    pick x r (to_none j d b z) e = let q : k ≡ j = cc in rw (q, le-ltb j slots_max b)
    pick x r (to_all n) e = absurd (never (cc))

-- a call to one of the eight
pub inside : (c : Cabinet) (x : CabinetCall) (k : ℕ) → slot_in x ≡ some k → k < slots_max → cabinet_outcome c x ≡ as_gate c k (gate_outcome (ledger_at c k) x)
inside c x k e h = in_slot_lem c x k e ∙ rw (lt-ltb k slots_max h)

-- "A slot answers and is charged as the gate would with its counts, times and the shared table."
pub as_the_gate : (c : Cabinet) (x : CabinetCall) (k : ℕ) → length c.slots ≡ slots_max → slot_in x ≡ some k → k < slots_max
    → ((cabinet_outcome c x).answer ≡ (gate_outcome (ledger_at c k) x).answer)
    × (ledger_at (cabinet_after c x) k ≡ (gate_outcome (ledger_at c k) x).ledger)
as_the_gate c x k n e h =
    let o = gate_outcome (ledger_at c k) x in
    let s : get_or (set c.slots k (counts_and_times o.ledger)) k empty_slot ≡ counts_and_times o.ledger = get_or-set_same c.slots k (counts_and_times o.ledger) empty_slot (rw n h) in
    subst (λ (r : CabinetOutcome). (r.answer ≡ o.answer) × (ledger_at r.cabinet k ≡ o.ledger)) (sym (inside c x k e h))
    (refl, ap (λ (t : Slot). ledger_with t o.ledger.counters) s)

-- "Slot numbers over 7 get a new refusal, 13, first of all."
pub no_such_slot : (c : Cabinet) (x : CabinetCall) (k : ℕ) → slot_in x ≡ some k → slots_max ≤ k → cabinet_outcome c x ≡ cabinet_refused c no_slot
no_such_slot c x k e h = in_slot_lem c x k e ∙ rw (le-ltb k slots_max h)

-- "a clear takes no slot and affects every slot naming the counter": it is the gate's clear in every slot
pub clears_everywhere : (c : Cabinet) (counter k : ℕ)
    → ((cabinet_outcome c (clearing_all counter)).answer ≡ (clear (ledger_at c k) counter).answer)
    × (ledger_at (cabinet_after c (clearing_all counter)) k ≡ (clear (ledger_at c k) counter).ledger)
unfolding cabinet_outcome cabinet_clear clear
clears_everywhere c counter k = pick (ltb counter counters_max) refl
  where
    pick : (b : Bool) → ltb counter counters_max ≡ b
        → ((cabinet_clear c counter).answer ≡ (clear (ledger_at c k) counter).answer) × (ledger_at (cabinet_clear c counter).cabinet k ≡ (clear (ledger_at c k) counter).ledger)
    pick true e = rw e (refl, refl)
    pick false e = rw e (refl, refl)

-- a clear leaves the slots
pub clear_slots : (c : Cabinet) (counter : ℕ) → (cabinet_after c (clearing_all counter)).slots ≡ c.slots
clear_slots c counter = ap (λ (r : CabinetOutcome). r.cabinet.slots) (clear_table c counter)

-- "A request, load or replacement changes no other slot's counts or times"; a clear changes no slot's
pub others_stand : (c : Cabinet) (x : CabinetCall) (other : ℕ) → is_slot other (slot_in x) ≡ false → slot_at (cabinet_after c x) other ≡ slot_at c other
others_stand c x other e = pick x (cabinet_outcome c x) (lands c x) e
  where
    pick : (x : CabinetCall) (r : CabinetOutcome) → Lands c x r → is_slot other (slot_in x) ≡ false → slot_at r.cabinet other ≡ slot_at c other
    pick x r (to_slot k d b) e = get_or-set_other c.slots k other _ empty_slot (λ q. eqb-false k other (rw d at e) (sym q))
    pick x r (to_none k d b z) e = refl
    pick x r (to_all n) e = refl

-- the slots stay eight
pub slots_kept : (c : Cabinet) (x : CabinetCall) → length (cabinet_after c x).slots ≡ length c.slots
slots_kept c x = pick x (cabinet_outcome c x) (lands c x)
  where
    pick : (x : CabinetCall) (r : CabinetOutcome) → Lands c x r → length r.cabinet.slots ≡ length c.slots
    pick x r (to_slot k d b) = length-set c.slots k _
    pick x r (to_none k d b z) = refl
    pick x r (to_all n) = refl

-- a slot's ledger put back as it was
pub put_back_lem : (c : Cabinet) (k : ℕ) → put_back c k (ledger_at c k) ≡ c
put_back_lem c k = ap (λ (ss : List Slot). let d : Cabinet = record { slots = ss; counters = c.counters } in d) (set-get_or c.slots k empty_slot)

-- Demand 1 for the cabinet: a call that is refused changes nothing.
pub demand_1_cabinet : (c : Cabinet) (x : CabinetCall) (n : ℕ) (near : Option ℕ) → (cabinet_outcome c x).answer ≡ refuse n near → cabinet_after c x ≡ c
unfolding outcome
demand_1_cabinet c x n near e = pick x (cabinet_outcome c x) (lands c x) e
  where
    pick : (x : CabinetCall) (r : CabinetOutcome) → Lands c x r → r.answer ≡ refuse n near → r.cabinet ≡ c
    pick x r (to_slot k d b) e = rw (refused_ledger (record { ledger = ledger_at c k; acl = lent_in x }) (gate_call x) n near e) (put_back_lem c k)
    pick x r (to_none k d b z) e = refl
    pick x r (to_all m) e = rw (refused_ledger (record { ledger = ledger_at c 0; acl = [] }) (clearing m) n near e)

-- a refusal's number is one of the gate's, and 13 is none of these
gate_number : (l : Ledger) (x : CabinetCall) → RefusalIn (gate_numbers x) (gate_outcome l x) × (one_of (gate_numbers x) no_slot ≡ false)
unfolding outcome one_of any
gate_number l (requesting_at slot km0 acl req) = (request_number l km0 acl req, refl)
gate_number l (loading_at slot time) = (λ n near e. absurd (never (cc)), refl)
gate_number l (clearing_all counter) = (clear_number l counter, refl)
gate_number l (narrowing_at slot km0 acl req new hints) = (narrow_number l km0 acl req new hints, refl)
gate_number l (expanding_at slot km0 acl req new) = (expand_number l km0 acl req new, refl)

-- Demand 1 for the cabinet, the numbers; 6 and 7 carry a group, and no other does.
pub cabinet_number : (c : Cabinet) (x : CabinetCall) (n : ℕ) (near : Option ℕ) → (cabinet_outcome c x).answer ≡ refuse n near → Numbered (cabinet_numbers x) n near
unfolding one_of any
cabinet_number c x n near e = pick x (cabinet_outcome c x) (lands c x) e
  where
    pick : (x : CabinetCall) (r : CabinetOutcome) → Lands c x r → r.answer ≡ refuse n near → Numbered (cabinet_numbers x) n near
    pick x r (to_slot k d b) e = let g = (gate_number (ledger_at c k) x).0 n near e in (rw d (or_right (eqb no_slot n) _ g.0), g.1)
    pick x r (to_none k d b z) e =
        let p : n ≡ no_slot = cc in
        let q : near ≡ none = cc in
        (rw (d, p), rw (p, q))
    pick x r (to_all m) e = clear_number (ledger_at c 0) m n near e

-- 13 is given exactly for a slot over 7.
pub thirteen : (c : Cabinet) (x : CabinetCall) (k : ℕ) → slot_in x ≡ some k → ((cabinet_outcome c x).answer ≡ refuse no_slot none) ↔ (slots_max ≤ k)
thirteen c x k e = (λ d. pick x (cabinet_outcome c x) (lands c x) e d, λ h. ap (λ (r : CabinetOutcome). r.answer) (no_such_slot c x k e h))
  where
    pick : (x : CabinetCall) (r : CabinetOutcome) → Lands c x r → slot_in x ≡ some k → r.answer ≡ refuse no_slot none → slots_max ≤ k
    pick x r (to_slot j d b) e f = let g = gate_number (ledger_at c j) x in absurd (not_both _ (g.0 no_slot none f).0 g.1)
    pick x r (to_none j d b z) e f = let q : k ≡ j = cc in rw q b
    pick x r (to_all n) e f = absurd (never (cc))
