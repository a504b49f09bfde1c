-- The cabinet of many keys: document 02, request h. "Add a part above the gate: eight slots, each with its own ACL (lent by the host at each call),
-- group counts and times, and one shared table of named counters."
use Rattle.std.specs.Prelude.{ℕ, List, [], get_or, set, replicate, ltb, if◌then◌else◌}
use Rattle.std.proofs.Math.Option.{none}
use Rattle.rules.specs.Sizes.{slots_max, counters_max}
use Rattle.rules.specs.Numbers.{out_of_range, no_slot}
use Rattle.rules.specs.Basics.{Bytes}
use Rattle.rules.specs.Ledger.{Ledger, fresh_ledger}
use Rattle.rules.specs.Gate.{Answer, done, refuse, Outcome, request, load, narrow, expand}

-- "group counts and times": what a slot has of a ledger
pub record Slot : Type 0 where
  pub counts : List ℕ
  pub loaded : ℕ
  pub last : ℕ

-- "eight slots .. and one shared table of named counters". The Rattle type sees to it that the slots are eight.
pub record Cabinet : Type 0 where
  pub slots : List Slot
  pub counters : List ℕ

-- a ledger without its counters
abbrev pub counts_and_times : Ledger → Slot
counts_and_times l = record { counts = l.counts; loaded = l.loaded; last = l.last }

-- "its counts, times and the shared table", as the gate's ledger
abbrev pub ledger_with : Slot → List ℕ → Ledger
ledger_with s counters = record { counts = s.counts; counters = counters; loaded = s.loaded; last = s.last }

-- a slot just made is as a fresh ledger
abbrev pub fresh_slot : Slot
fresh_slot = counts_and_times fresh_ledger

-- "a fresh cabinet"
abbrev pub fresh_cabinet : Cabinet
fresh_cabinet = record { slots = replicate slots_max fresh_slot; counters = fresh_ledger.counters }

-- the value of a slot past the eight, which no call reads
abbrev pub empty_slot : Slot
empty_slot = record { counts = []; loaded = 0; last = 0 }

-- the slot of a number
abbrev pub slot_at : Cabinet → ℕ → Slot
slot_at c slot = get_or c.slots slot empty_slot

-- the ledger that the gate is handed for a slot
abbrev pub ledger_at : Cabinet → ℕ → Ledger
ledger_at c slot = ledger_with (slot_at c slot) c.counters

-- the cabinet after the gate has returned a ledger for a slot
abbrev pub put_back : Cabinet → ℕ → Ledger → Cabinet
put_back c slot l = record { slots = set c.slots slot (counts_and_times l); counters = l.counters }

-- the cabinet's answer, and the cabinet afterwards
pub record CabinetOutcome : Type 0 where
  pub answer : Answer
  pub cabinet : Cabinet

-- a refusal: "ledger and buffers stand"
abbrev pub cabinet_refused : Cabinet → ℕ → CabinetOutcome
cabinet_refused c f = record { answer = refuse f none; cabinet = c }

-- "A slot answers and is charged as the gate would": the gate's answer, with the slot and the counters of the ledger that it returns
abbrev pub as_gate : Cabinet → ℕ → Outcome → CabinetOutcome
as_gate c slot o = record { answer = o.answer; cabinet = put_back c slot o.ledger }

-- "Slot numbers over 7 get a new refusal, 13, first of all."
abbrev pub in_slot : Cabinet → ℕ → Outcome → CabinetOutcome
in_slot c slot o = if ltb slot slots_max then as_gate c slot o else cabinet_refused c no_slot

-- A request: cabinet, slot, KM0, ACL, request with certificates.
unfoldable pub cabinet_request : Cabinet → ℕ → Bytes → Bytes → Bytes → CabinetOutcome
cabinet_request c slot km0 acl req = in_slot c slot (request (ledger_at c slot) km0 acl req)

-- A load: cabinet, slot, time.
unfoldable pub cabinet_load : Cabinet → ℕ → ℕ → CabinetOutcome
cabinet_load c slot time = in_slot c slot (load (ledger_at c slot) time)

-- one counter of the shared table to zero
abbrev pub cabinet_cleared : Cabinet → ℕ → Cabinet
cabinet_cleared c counter = record { slots = c.slots; counters = set c.counters counter 0 }

-- "a clear takes no slot and affects every slot naming the counter"; a counter past the table gives 10
unfoldable pub cabinet_clear : Cabinet → ℕ → CabinetOutcome
cabinet_clear c counter =
    if ltb counter counters_max then record { answer = done; cabinet = cabinet_cleared c counter }
    else cabinet_refused c out_of_range

-- A narrowing: cabinet, slot, KM0, ACL, request with certificates, new ACL, hints.
unfoldable pub cabinet_narrow : Cabinet → ℕ → Bytes → Bytes → Bytes → Bytes → Bytes → CabinetOutcome
cabinet_narrow c slot km0 acl req new hints = in_slot c slot (narrow (ledger_at c slot) km0 acl req new hints)

-- An expansion: cabinet, slot, KM0, ACL, request with certificates, new ACL.
unfoldable pub cabinet_expand : Cabinet → ℕ → Bytes → Bytes → Bytes → Bytes → CabinetOutcome
cabinet_expand c slot km0 acl req new = in_slot c slot (expand (ledger_at c slot) km0 acl req new)
