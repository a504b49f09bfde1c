-- Runs in a slot of the cabinet: a run not refused whole comes to the slot's requests one after the other, each with the row's certificates, so that
-- what the other theorems say of sequences of cabinet calls holds with each run put down as its requests; a run refused whole changes nothing. Two wrong
-- products that this rules out: one whose run changes another slot, and one that takes slot 8.
use Prim.Native.Nat.{ℕ, ◌≤◌, ◌<◌}
use mathlib.Core.Path.{◌≡◌, refl, sym, ◌∙◌, ap, ap₂}
use mathlib.Core.List.{List, [], ◌∷◌, ◌++◌, map}
use mathlib.Core.Option.{Option, none, some}
use mathlib.Core.Bool.{Bool, true, false}
use lib.ListN.{length, get_or, drop}
use lib.Seq.{set-set, get_or-set_other}
use lib.Dec.{eqb, ltb}
use borrow.Author.Tests.{lt-ltb, le-ltb, ltb-true, eqb-false}
use Rattle.rules.specs.Sizes.{slots_max, counters_max, run_records}
use Rattle.rules.specs.Numbers.{no_slot}
use Rattle.rules.specs.Basics.{Bytes, Every, records}
use Rattle.rules.specs.Request.{Certificate}
use Rattle.rules.specs.Ledger.{Ledger}
use Rattle.rules.specs.Runs.{with_row, ask_gate, bytes_of_answer, Ran, asked_in_order, requests_in, run_fault, RunOutcome, ran, refused_whole, run_end, run}
use Rattle.rules.specs.Prepared.{Form, prepared_fault, prepared_run}
use Rattle.rules.specs.Desk.{Grade, approach2, accepted, desk}
use Rattle.rules.specs.Cabinet.{Slot, Cabinet, fresh_cabinet, counts_and_times, empty_slot, slot_at, ledger_at, put_back}
use Rattle.rules.specs.CabinetRuns.{run_in_slot, cabinet_run, cabinet_prepared_run}
use Rattle.rules.proofs.Laws.{never}
use Rattle.theorems.specs.Demands.{outcome}
use Rattle.theorems.specs.CabinetSteps.{CabinetStep, calling_cabinet, running_at, running_prepared_at, cabinet_after_step, cabinet_after_steps, cabinet_requests_of, cabinet_answers, asked_in_slot, cabinet_calls_by, cabinet_calls_in}
use Rattle.theorems.specs.Cabinets.{CabinetCall, requesting_at, cabinet_after, cabinet_after_all, cabinet_tally, calls_to, turns, readings_before, LentInForce, Unsigned, PermitAllowed}
use Rattle.theorems.proofs.SharedCounters.{counters_count_all}
use Rattle.theorems.proofs.Isolation.{isolation}
use Rattle.theorems.proofs.SlotDemand3.{demand_3_slot}
use Rattle.theorems.proofs.Slots.{inside, as_the_gate, slots_kept, put_back_lem}

-- a ledger put back over another
put_over : (c : Cabinet) (slot : ℕ) (l m : Ledger) → put_back (put_back c slot l) slot m ≡ put_back c slot m
put_over c slot l m = ap (λ (ss : List Slot). let d : Cabinet = record { slots = ss; counters = m.counters } in d) (set-set c.slots slot (counts_and_times l) (counts_and_times m))

abbrev call_of : (slot : ℕ) (km0 acl : Bytes) (row : List Certificate) → Bytes → CabinetCall
call_of slot km0 acl row r = requesting_at slot km0 acl (with_row r row)

asked_at : (slot : ℕ) (km0 acl : Bytes) (row : List Certificate) (h : slot < slots_max) (c : Cabinet) (rs : List Bytes) → length c.slots ≡ slots_max
    → (cabinet_after_all c (map (call_of slot km0 acl row) rs) ≡ put_back c slot (asked_in_order (ask_gate km0 acl row) (ledger_at c slot) rs).ledger)
    × (cabinet_answers c (map (call_of slot km0 acl row) rs) ≡ (asked_in_order (ask_gate km0 acl row) (ledger_at c slot) rs).answers)
unfolding asked_in_order cabinet_after_all cabinet_answers outcome
asked_at slot km0 acl row h c [] n = (sym (put_back_lem c slot), refl)
asked_at slot km0 acl row h c (r ∷ rs) n =
    let x = call_of slot km0 acl row r in
    let ask = ask_gate km0 acl row in
    let o = ask (ledger_at c slot) r in
    let g = as_the_gate c x slot n refl h in
    let i = asked_at slot km0 acl row h (cabinet_after c x) rs (slots_kept c x ∙ n) in
    let e : asked_in_order ask (ledger_at (cabinet_after c x) slot) rs ≡ asked_in_order ask o.ledger rs = ap (λ (l : Ledger). asked_in_order ask l rs) g.1 in
    let d : cabinet_after c x ≡ put_back c slot o.ledger = ap (λ (y : _). y.cabinet) (inside c x slot refl h) in
    let p : put_back (cabinet_after c x) slot (asked_in_order ask o.ledger rs).ledger ≡ put_back c slot (asked_in_order ask o.ledger rs).ledger = ap (λ (k : Cabinet). put_back k slot (asked_in_order ask o.ledger rs).ledger) d ∙ put_over c slot o.ledger (asked_in_order ask o.ledger rs).ledger in (
      i.0 ∙ ap (λ (y : Ran). put_back (cabinet_after c x) slot y.ledger) e ∙ p,
      ap₂ (λ (a b : Bytes). a ++ b) (ap bytes_of_answer g.0) (i.1 ∙ ap (λ (y : Ran). y.answers) e),
    )

-- what a run comes to by its fault
ended : (slot : ℕ) (km0 acl : Bytes) (row : List Certificate) (h : slot < slots_max) (c : Cabinet) (requests buffer : Bytes) → length c.slots ≡ slots_max → (o : RunOutcome)
    → o ≡ run_end (ledger_at c slot) requests buffer none (asked_in_order (ask_gate km0 acl row) (ledger_at c slot) (records requests))
    → run_in_slot c slot buffer o
    ≡ record { reply = ran (requests_in requests); cabinet = cabinet_after_all c (cabinet_requests_of slot km0 acl row requests); buffer = cabinet_answers c (cabinet_requests_of slot km0 acl row requests) ++ drop (length (cabinet_answers c (cabinet_requests_of slot km0 acl row requests))) buffer }
ended slot km0 acl row h c requests buffer n o e =
    let a = asked_at slot km0 acl row h c (records requests) n in
    rw (lt-ltb slot slots_max h, e, a.0, a.1)

-- "On every ledger and run not refused whole, answers and ledger equal those of asking it one by one in order": in a slot
pub slot_run : (slot : ℕ) (km0 acl : Bytes) (row : List Certificate) (h : slot < slots_max) (c : Cabinet) (requests buffer : Bytes) → length c.slots ≡ slots_max → run_fault run_records km0 acl row requests buffer ≡ none
    → cabinet_run c slot km0 acl row requests buffer
    ≡ record { reply = ran (requests_in requests); cabinet = cabinet_after_all c (cabinet_requests_of slot km0 acl row requests); buffer = cabinet_answers c (cabinet_requests_of slot km0 acl row requests) ++ drop (length (cabinet_answers c (cabinet_requests_of slot km0 acl row requests))) buffer }
unfolding cabinet_run run
slot_run slot km0 acl row h c requests buffer n e = ended slot km0 acl row h c requests buffer n (run (ledger_at c slot) km0 acl row requests buffer) (rw e)

pub slot_prepared_run : (slot : ℕ) (km0 acl : Bytes) (row : List Certificate) (h : slot < slots_max) (c : Cabinet) (f : Form) (requests buffer : Bytes) → length c.slots ≡ slots_max → prepared_fault km0 acl row f requests buffer ≡ none
    → cabinet_prepared_run c slot km0 acl row f requests buffer
    ≡ record { reply = ran (requests_in requests); cabinet = cabinet_after_all c (cabinet_requests_of slot km0 acl row requests); buffer = cabinet_answers c (cabinet_requests_of slot km0 acl row requests) ++ drop (length (cabinet_answers c (cabinet_requests_of slot km0 acl row requests))) buffer }
unfolding cabinet_prepared_run prepared_run
slot_prepared_run slot km0 acl row h c f requests buffer n e = ended slot km0 acl row h c requests buffer n (prepared_run (ledger_at c slot) km0 acl row f requests buffer) (rw e)

-- a run in a slot, by what it comes to on the slot's ledger: a reply of 13, or of a run refused as a whole, leaves cabinet and buffer
refused_in : (c : Cabinet) (slot : ℕ) (requests buffer : Bytes) (f : Option ℕ) (o : Ran) (n : ℕ) → (run_in_slot c slot buffer (run_end (ledger_at c slot) requests buffer f o)).reply ≡ refused_whole n
    → ((run_in_slot c slot buffer (run_end (ledger_at c slot) requests buffer f o)).cabinet ≡ c) × ((run_in_slot c slot buffer (run_end (ledger_at c slot) requests buffer f o)).buffer ≡ buffer)
refused_in c slot requests buffer f o n e = pick (ltb slot slots_max) refl f e
  where
    pick : (b : Bool) → ltb slot slots_max ≡ b → (f : Option ℕ) → (run_in_slot c slot buffer (run_end (ledger_at c slot) requests buffer f o)).reply ≡ refused_whole n
        → ((run_in_slot c slot buffer (run_end (ledger_at c slot) requests buffer f o)).cabinet ≡ c) × ((run_in_slot c slot buffer (run_end (ledger_at c slot) requests buffer f o)).buffer ≡ buffer)
    pick true t none d = let q : ran (requests_in requests) ≡ refused_whole n = rw t at d in absurd (never (cc))
    pick true t (some x) d = rw t (put_back_lem c slot, refl)
    pick false t f d = rw t (refl, refl)

others_in : (c : Cabinet) (slot other : ℕ) (buffer : Bytes) (o : RunOutcome) → eqb slot other ≡ false → slot_at (run_in_slot c slot buffer o).cabinet other ≡ slot_at c other
others_in c slot other buffer o e = pick (ltb slot slots_max) refl
  where
    pick : (b : Bool) → ltb slot slots_max ≡ b → slot_at (run_in_slot c slot buffer o).cabinet other ≡ slot_at c other
    pick true t = rw t (get_or-set_other c.slots slot other _ empty_slot (λ q. eqb-false slot other e (sym q)))
    pick false t = rw t

-- "13, first of all"
pub slot_run_13 : (c : Cabinet) (slot : ℕ) (km0 acl : Bytes) (row : List Certificate) (requests buffer : Bytes) → slots_max ≤ slot → cabinet_run c slot km0 acl row requests buffer ≡ record { reply = refused_whole no_slot; cabinet = c; buffer = buffer }
unfolding cabinet_run
slot_run_13 c slot km0 acl row requests buffer h = rw (le-ltb slot slots_max h)

-- a run refused whole leaves cabinet and buffer
pub slot_run_refused : (c : Cabinet) (slot : ℕ) (km0 acl : Bytes) (row : List Certificate) (requests buffer : Bytes) (n : ℕ) → (cabinet_run c slot km0 acl row requests buffer).reply ≡ refused_whole n
    → ((cabinet_run c slot km0 acl row requests buffer).cabinet ≡ c) × ((cabinet_run c slot km0 acl row requests buffer).buffer ≡ buffer)
unfolding cabinet_run run
slot_run_refused c slot km0 acl row requests buffer n e =
    refused_in c slot requests buffer (run_fault run_records km0 acl row requests buffer) (asked_in_order (ask_gate km0 acl row) (ledger_at c slot) (records requests)) n e

-- "changes no other slot's counts or times"
pub slot_run_others : (c : Cabinet) (slot : ℕ) (km0 acl : Bytes) (row : List Certificate) (requests buffer : Bytes) (other : ℕ) → eqb slot other ≡ false → slot_at (cabinet_run c slot km0 acl row requests buffer).cabinet other ≡ slot_at c other
unfolding cabinet_run
slot_run_others c slot km0 acl row requests buffer other e = others_in c slot other buffer (run (ledger_at c slot) km0 acl row requests buffer) e

-- the same on a prepared ACL
pub slot_prepared_13 : (c : Cabinet) (slot : ℕ) (km0 acl : Bytes) (row : List Certificate) (requests buffer : Bytes) (f : Form) → slots_max ≤ slot → cabinet_prepared_run c slot km0 acl row f requests buffer ≡ record { reply = refused_whole no_slot; cabinet = c; buffer = buffer }
unfolding cabinet_prepared_run
slot_prepared_13 c slot km0 acl row requests buffer f h = rw (le-ltb slot slots_max h)

pub slot_prepared_refused : (c : Cabinet) (slot : ℕ) (km0 acl : Bytes) (row : List Certificate) (requests buffer : Bytes) (f : Form) (n : ℕ) → (cabinet_prepared_run c slot km0 acl row f requests buffer).reply ≡ refused_whole n
    → ((cabinet_prepared_run c slot km0 acl row f requests buffer).cabinet ≡ c) × ((cabinet_prepared_run c slot km0 acl row f requests buffer).buffer ≡ buffer)
unfolding cabinet_prepared_run prepared_run
slot_prepared_refused c slot km0 acl row requests buffer f n e =
    refused_in c slot requests buffer (prepared_fault km0 acl row f requests buffer) (asked_in_order (ask_gate km0 acl row) (ledger_at c slot) (records requests)) n e

pub slot_prepared_others : (c : Cabinet) (slot : ℕ) (km0 acl : Bytes) (row : List Certificate) (requests buffer : Bytes) (f : Form) (other : ℕ) → eqb slot other ≡ false → slot_at (cabinet_prepared_run c slot km0 acl row f requests buffer).cabinet other ≡ slot_at c other
unfolding cabinet_prepared_run
slot_prepared_others c slot km0 acl row requests buffer f other e = others_in c slot other buffer (prepared_run (ledger_at c slot) km0 acl row f requests buffer) e

-- ---- runs among calls of the cabinet
cabinet_append : (c : Cabinet) (xs ys : List CabinetCall) → cabinet_after_all c (xs ++ ys) ≡ cabinet_after_all (cabinet_after_all c xs) ys
unfolding cabinet_after_all
cabinet_append c [] ys = refl
cabinet_append c (x ∷ xs) ys = cabinet_append (cabinet_after c x) xs ys

-- a run is its requests, none where it is refused as a whole or there is no such slot
run_calls : (c : Cabinet) (slot : ℕ) (km0 acl : Bytes) (row : List Certificate) (requests buffer : Bytes) (f : Option ℕ) → length c.slots ≡ slots_max
    → (run_in_slot c slot buffer (run_end (ledger_at c slot) requests buffer f (asked_in_order (ask_gate km0 acl row) (ledger_at c slot) (records requests)))).cabinet
    ≡ cabinet_after_all c (asked_in_slot slot f (cabinet_requests_of slot km0 acl row requests))
unfolding cabinet_after_all
run_calls c slot km0 acl row requests buffer f n = pick (ltb slot slots_max) refl f
  where
    pick : (b : Bool) → ltb slot slots_max ≡ b → (f : Option ℕ)
        → (run_in_slot c slot buffer (run_end (ledger_at c slot) requests buffer f (asked_in_order (ask_gate km0 acl row) (ledger_at c slot) (records requests)))).cabinet
        ≡ cabinet_after_all c (asked_in_slot slot f (cabinet_requests_of slot km0 acl row requests))
    pick false t f = rw t
    pick true t (some x) = rw t (put_back_lem c slot)
    pick true t none = rw t (sym (asked_at slot km0 acl row (ltb-true slot slots_max t) c (records requests) n).0)

step_calls : (c : Cabinet) (x : CabinetStep) → length c.slots ≡ slots_max → cabinet_after_step c x ≡ cabinet_after_all c (cabinet_calls_by x)
unfolding cabinet_after_step cabinet_after_all cabinet_run cabinet_prepared_run run prepared_run
step_calls c (calling_cabinet x) n = refl
step_calls c (running_at slot km0 acl row requests buffer) n = run_calls c slot km0 acl row requests buffer (run_fault run_records km0 acl row requests buffer) n
step_calls c (running_prepared_at slot km0 acl row f requests buffer) n = run_calls c slot km0 acl row requests buffer (prepared_fault km0 acl row f requests buffer) n

all_kept : (c : Cabinet) (xs : List CabinetCall) → length (cabinet_after_all c xs).slots ≡ length c.slots
unfolding cabinet_after_all
all_kept c [] = refl
all_kept c (x ∷ xs) = all_kept (cabinet_after c x) xs ∙ slots_kept c x

-- Steps come to calls: the same cabinet. So the theorems about sequences of cabinet calls (shared counters, isolation, demand 3 per slot) speak of runs in slots.
pub cabinet_steps_as_calls : (c : Cabinet) (xs : List CabinetStep) → length c.slots ≡ slots_max → cabinet_after_steps c xs ≡ cabinet_after_all c (cabinet_calls_in xs)
unfolding cabinet_after_steps cabinet_calls_in cabinet_after_all
cabinet_steps_as_calls c [] n = refl
cabinet_steps_as_calls c (x ∷ xs) n =
    let e = step_calls c x n in
    cabinet_steps_as_calls (cabinet_after_step c x) xs (ap (λ (d : Cabinet). length d.slots) e ∙ all_kept c (cabinet_calls_by x) ∙ n)
    ∙ ap (λ (d : Cabinet). cabinet_after_all d (cabinet_calls_in xs)) e
    ∙ sym (cabinet_append c (cabinet_calls_by x) (cabinet_calls_in xs))

-- "The counter sentence of demand 2 now counts permits over all slots", with runs among the calls.
pub counters_count_all_steps : (steps : List CabinetStep) (counter : ℕ) → counter < counters_max
    → get_or (cabinet_after_steps fresh_cabinet steps).counters counter 0 ≡ cabinet_tally counter fresh_cabinet 0 (cabinet_calls_in steps)
counters_count_all_steps steps counter b =
    ap (λ (c : Cabinet). get_or c.counters counter 0) (cabinet_steps_as_calls fresh_cabinet steps refl)
    ∙ counters_count_all (cabinet_calls_in steps) counter b

-- Demand 3 per slot, with runs among the calls.
pub demand_3_slot_steps : (bundle acl : Bytes) (verdict : Grade) → desk bundle acl ≡ accepted (approach2 verdict)
    → (cabinet : Cabinet) (slot : ℕ) (steps : List CabinetStep)
    → LentInForce acl (turns slot cabinet (cabinet_calls_in steps))
    → Every (Unsigned (records bundle)) (turns slot cabinet (cabinet_calls_in steps))
    → Every (PermitAllowed (records bundle) verdict) (turns slot cabinet (cabinet_calls_in steps))
demand_3_slot_steps bundle acl verdict e cabinet slot steps f d = demand_3_slot bundle acl verdict e cabinet slot (cabinet_calls_in steps) f d

-- Isolation, with runs among the calls: the slot's calls are its own and the requests of its runs.
pub isolation_steps : (slot : ℕ) (c d : Cabinet) (xs ys : List CabinetStep) → length c.slots ≡ slots_max → length d.slots ≡ slots_max
    → slot_at c slot ≡ slot_at d slot
    → calls_to slot (cabinet_calls_in xs) ≡ calls_to slot (cabinet_calls_in ys)
    → map readings_before (turns slot c (cabinet_calls_in xs)) ≡ map readings_before (turns slot d (cabinet_calls_in ys))
    → (map (λ t. t.answer) (turns slot c (cabinet_calls_in xs)) ≡ map (λ t. t.answer) (turns slot d (cabinet_calls_in ys)))
    × (map (λ t. t.slot) (turns slot c (cabinet_calls_in xs)) ≡ map (λ t. t.slot) (turns slot d (cabinet_calls_in ys)))
isolation_steps slot c d xs ys n m s e r = isolation slot c d (cabinet_calls_in xs) (cabinet_calls_in ys) n m s e r
