-- Every call of the cabinet keeps the lengths of its tables, and brings no count past 32 bits. Two wrong products that this rules out: a cabinet that
-- drops a slot when it is narrowed, and one that charges a full counter through another slot.
use Prim.Native.Nat.{ℕ, zero, suc, ◌<◌}
use native.Mathlib.Omega.{arith}
use mathlib.Core.Path.{◌≡◌, ◌∙◌}
use mathlib.Core.List.{List, [], ◌∷◌}
use lib.ListN.{length, get_or, length-replicate}
use Rattle.rules.specs.Sizes.{groups_max, counters_max, slots_max}
use Rattle.rules.specs.Basics.{Every}
use Rattle.rules.specs.Ledger.{Ledger}
use Rattle.rules.specs.Cabinet.{Slot, Cabinet, counts_and_times, fresh_slot, fresh_cabinet, empty_slot, slot_at, ledger_at, CabinetOutcome}
use Rattle.theorems.specs.Demands.{outcome}
use Rattle.theorems.specs.Cabinets.{CabinetCall, clearing_all, cabinet_outcome, cabinet_after, cabinet_after_all, lent_in, gate_call, gate_outcome}
use Rattle.theorems.proofs.Lists.{every_set, every_get_d, every_replicate}
use Rattle.theorems.proofs.Tables.{fresh_sized, call_sized}
use Rattle.theorems.proofs.Bounds.{fresh_bounded, call_bounded}
use Rattle.theorems.specs.Tables.{Held, CabinetSized, CabinetBounded}
use Rattle.theorems.proofs.Slots.{Lands, to_slot, to_none, to_all, lands, slots_kept}

module _ {A : Type 0} (P : A → Type 0) where
  every_within : (xs : List A) (i : ℕ) (d : A) → i < length xs → Every P xs → P (get_or xs i d)
  every_within [] i d b h = absurd (omega arith)
  every_within (y ∷ ys) zero d b h = h.0
  every_within (y ∷ ys) (suc i) d b h = every_within ys i d (omega arith) h.1

-- What the gate keeps of a ledger's counts and of its counters, the cabinet keeps of every slot's counts and of the shared counters.
module _ (P : List ℕ → Type 0) (Q : List ℕ → Type 0) (keeps : (l : Ledger) (x : CabinetCall) → P l.counts → Q l.counters → P (gate_outcome l x).ledger.counts × Q (gate_outcome l x).ledger.counters) (c : Cabinet) (at : (k : ℕ) → k < slots_max → P (slot_at c k).counts) where
  abbrev Kept : Cabinet → Type 0
  Kept d = Every (λ s. P s.counts) d.slots × Q d.counters

  kept : (x : CabinetCall) → Kept c → Kept (cabinet_after c x)
  unfolding outcome
  kept x h = pick x (cabinet_outcome c x) (lands c x)
    where
      pick : (x : CabinetCall) (r : CabinetOutcome) → Lands c x r → Kept r.cabinet
      pick x r (to_slot k e b) =
          let l = keeps (ledger_at c k) x (at k b) h.1 in
          (every_set (λ s. P s.counts) c.slots k (counts_and_times (gate_outcome (ledger_at c k) x).ledger) l.0 h.0, l.1)
      pick x r (to_none k e b z) = h
      pick x r (to_all n) = (h.0, (keeps (ledger_at c 0) (clearing_all n) (at 0 (omega arith)) h.1).1)

pub fresh_cabinet_sized : CabinetSized fresh_cabinet
fresh_cabinet_sized =
    record { eight = length-replicate {A = Slot} slots_max fresh_slot; groups = every_replicate (λ s. length s.counts ≡ groups_max) slots_max fresh_slot fresh_sized.groups; named = fresh_sized.named }

pub fresh_cabinet_bounded : CabinetBounded fresh_cabinet
fresh_cabinet_bounded = record { groups = every_replicate (λ s. Every Held s.counts) slots_max fresh_slot fresh_bounded.groups; named = fresh_bounded.named }

pub cabinet_sized : (c : Cabinet) (x : CabinetCall) → CabinetSized c → CabinetSized (cabinet_after c x)
cabinet_sized c x h =
    let r = kept (λ xs. length xs ≡ groups_max) (λ xs. length xs ≡ counters_max) sized c (λ k b. every_within (λ s. length s.counts ≡ groups_max) c.slots k empty_slot (rw h.eight b) h.groups) x (h.groups, h.named) in
    record { eight = slots_kept c x ∙ h.eight; groups = r.0; named = r.1 }
  where
    sized : (l : Ledger) (x : CabinetCall) → length l.counts ≡ groups_max → length l.counters ≡ counters_max
        → (length (gate_outcome l x).ledger.counts ≡ groups_max) × (length (gate_outcome l x).ledger.counters ≡ counters_max)
    sized l x p q = let r = call_sized (record { ledger = l; acl = lent_in x }) (gate_call x) (record { groups = p; named = q }) in (r.groups, r.named)

pub cabinet_bounded : (c : Cabinet) (x : CabinetCall) → CabinetBounded c → CabinetBounded (cabinet_after c x)
cabinet_bounded c x h =
    let r = kept (Every Held) (Every Held) bounded c (λ k b. every_get_d (λ s. Every Held s.counts) c.slots k empty_slot tt h.groups) x (h.groups, h.named) in
    record { groups = r.0; named = r.1 }
  where
    bounded : (l : Ledger) (x : CabinetCall) → Every Held l.counts → Every Held l.counters
        → Every Held (gate_outcome l x).ledger.counts × Every Held (gate_outcome l x).ledger.counters
    bounded l x p q = let r = call_bounded (record { ledger = l; acl = lent_in x }) (gate_call x) (record { groups = p; named = q }) in (r.groups, r.named)

-- the same over every sequence of calls
pub cabinet_sized_all : (c : Cabinet) (xs : List CabinetCall) → CabinetSized c → CabinetSized (cabinet_after_all c xs)
unfolding cabinet_after_all
cabinet_sized_all c [] h = h
cabinet_sized_all c (x ∷ xs) h = cabinet_sized_all (cabinet_after c x) xs (cabinet_sized c x h)

pub cabinet_bounded_all : (c : Cabinet) (xs : List CabinetCall) → CabinetBounded c → CabinetBounded (cabinet_after_all c xs)
unfolding cabinet_after_all
cabinet_bounded_all c [] h = h
cabinet_bounded_all c (x ∷ xs) h = cabinet_bounded_all (cabinet_after c x) xs (cabinet_bounded c x h)
