-- Demand 2, the counters of the cabinet: from a fresh cabinet each named counter equals the permits charged, over all slots, to groups then naming it
-- since it was last cleared, over every sequence of calls, each with the ACL that the host lends it then. Two wrong products that this rules out: a
-- cabinet in which each slot has counters of its own, and one whose clear takes a slot's permits alone off the counter.
use Prim.Native.Nat.{ℕ, ◌<◌}
use mathlib.Core.Path.{◌≡◌, refl, ◌∙◌, ap}
use mathlib.Core.List.{List, [], ◌∷◌}
use lib.ListN.{length, get_or, length-replicate, get_or-replicate}
use Rattle.rules.specs.Sizes.{counters_max}
use Rattle.rules.specs.Cabinet.{Cabinet, fresh_cabinet, ledger_at, CabinetOutcome}
use Rattle.theorems.specs.Demands.{clearing, outcome}
use Rattle.theorems.specs.Cabinets.{CabinetCall, cabinet_outcome, cabinet_after, cabinet_after_all, lent_in, gate_call, cabinet_counted, cabinet_tally}
use Rattle.theorems.proofs.Counters.{Counts, called_counter}
use Rattle.theorems.proofs.Slots.{Lands, to_slot, to_none, to_all, lands}

-- What one call of the cabinet does to a counter.
counter_after : (counter : ℕ) (c : Cabinet) (x : CabinetCall) → counter < counters_max → counter < length c.counters → Counts counter (lent_in x) (gate_call x) (cabinet_outcome c x).answer c.counters (cabinet_after c x).counters
unfolding outcome
counter_after counter c x b h = pick x (cabinet_outcome c x) (lands c x)
  where
    pick : (x : CabinetCall) (r : CabinetOutcome) → Lands c x r → Counts counter (lent_in x) (gate_call x) r.answer c.counters r.cabinet.counters
    pick x r (to_slot k e d) = called_counter counter (record { ledger = ledger_at c k; acl = lent_in x }) (gate_call x) b h
    pick x r (to_none k e d z) = rw (z counter b) (refl, refl)
    pick x r (to_all n) = called_counter counter (record { ledger = ledger_at c 0; acl = [] }) (clearing n) b h

tallied : (counter : ℕ) (c : Cabinet) (n : ℕ) (xs : List CabinetCall) → counter < counters_max → counter < length c.counters → get_or c.counters counter 0 ≡ n
    → get_or (cabinet_after_all c xs).counters counter 0 ≡ cabinet_tally counter c n xs
unfolding cabinet_after_all cabinet_tally
tallied counter c n [] b h e = e
tallied counter c n (x ∷ xs) b h e =
    let r = counter_after counter c x b h in
    tallied counter (cabinet_after c x) (cabinet_counted counter c x n) xs b (rw r.1 h) (r.0 ∙ ap (cabinet_counted counter c x) e)

-- Demand 2, the counters. "The counter sentence of demand 2 now counts permits over all slots, from a fresh cabinet."
pub counters_count_all : (calls : List CabinetCall) (counter : ℕ) → counter < counters_max
    → get_or (cabinet_after_all fresh_cabinet calls).counters counter 0 ≡ cabinet_tally counter fresh_cabinet 0 calls
counters_count_all calls counter b =
    tallied counter fresh_cabinet 0 calls b (rw (length-replicate {A = ℕ} counters_max 0) b) (get_or-replicate counters_max counter 0 0 b)
