-- Sequences of calls of the cabinet, and the words of the promises about them: document 02, request h. The theorems are in proofs/Slots.antt,
-- proofs/SharedCounters.antt, proofs/Isolation.antt and proofs/SlotDemand3.antt.
use Rattle.std.specs.Prelude.{ℕ, ◌+◌, List, [], ◌∷◌, ◌++◌, map, ◌≡◌, Bool, false, get_or, eqb, if◌then◌else◌}
use Rattle.std.proofs.Math.Option.{Option, none, some}
use Rattle.rules.specs.Basics.{Bytes}
use Rattle.rules.specs.Acl.{Limit, Group, acl_of, acl_file_fault}
use Rattle.rules.specs.Ledger.{Ledger}
use Rattle.rules.specs.Gate.{Answer, permit, Outcome}
use Rattle.rules.specs.Desk.{Grade}
use Rattle.rules.specs.Cabinet.{Slot, Cabinet, CabinetOutcome, slot_at, cabinet_request, cabinet_load, cabinet_clear, cabinet_narrow, cabinet_expand}
use Rattle.theorems.specs.Demands.{Call, requesting, loading, clearing, narrowing, expanding, outcome, replacement, in_force, wanted_in, officer_signed, Allowed, charged_in, named_by, clears}

-- A call of the cabinet, with the bytes and numbers that the host gives it, and the ACL that the host lends.
pub data CabinetCall : Type 0 where
  requesting_at : ℕ → Bytes → Bytes → Bytes → CabinetCall  -- slot, KM0, ACL, request
  loading_at : ℕ → ℕ → CabinetCall  -- slot, time
  clearing_all : ℕ → CabinetCall  -- counter
  narrowing_at : ℕ → Bytes → Bytes → Bytes → Bytes → Bytes → CabinetCall  -- slot, KM0, ACL, request, new ACL, hints
  expanding_at : ℕ → Bytes → Bytes → Bytes → Bytes → CabinetCall  -- slot, KM0, ACL, request, new ACL

-- what a call comes to
unfoldable pub cabinet_outcome : Cabinet → CabinetCall → CabinetOutcome
cabinet_outcome c (requesting_at slot km0 acl req) = cabinet_request c slot km0 acl req
cabinet_outcome c (loading_at slot time) = cabinet_load c slot time
cabinet_outcome c (clearing_all counter) = cabinet_clear c counter
cabinet_outcome c (narrowing_at slot km0 acl req new hints) = cabinet_narrow c slot km0 acl req new hints
cabinet_outcome c (expanding_at slot km0 acl req new) = cabinet_expand c slot km0 acl req new

-- the cabinet after a call
abbrev pub cabinet_after : Cabinet → CabinetCall → Cabinet
cabinet_after c x = (cabinet_outcome c x).cabinet

-- the cabinet after a sequence of calls, the first of them first
unfoldable pub cabinet_after_all : Cabinet → List CabinetCall → Cabinet
cabinet_after_all c [] = c
cabinet_after_all c (x ∷ xs) = cabinet_after_all (cabinet_after c x) xs

-- what the cabinet answers to each call of a sequence
abbrev pub cabinet_replies : Cabinet → List CabinetCall → List Answer
cabinet_replies c [] = []
cabinet_replies c (x ∷ xs) = (cabinet_outcome c x).answer ∷ cabinet_replies (cabinet_after c x) xs

-- the slot that a call is made to; "a clear takes no slot"
abbrev pub slot_in : CabinetCall → Option ℕ
slot_in (requesting_at slot km0 acl req) = some slot
slot_in (loading_at slot time) = some slot
slot_in (clearing_all counter) = none
slot_in (narrowing_at slot km0 acl req new hints) = some slot
slot_in (expanding_at slot km0 acl req new) = some slot

-- the ACL lent to a call; a load and a clear are lent none, which is the empty one here
abbrev pub lent_in : CabinetCall → Bytes
lent_in (requesting_at slot km0 acl req) = acl
lent_in (loading_at slot time) = []
lent_in (clearing_all counter) = []
lent_in (narrowing_at slot km0 acl req new hints) = acl
lent_in (expanding_at slot km0 acl req new) = acl

-- the call of the gate, without slot and ACL
abbrev pub gate_call : CabinetCall → Call
gate_call (requesting_at slot km0 acl req) = requesting km0 req
gate_call (loading_at slot time) = loading time
gate_call (clearing_all counter) = clearing counter
gate_call (narrowing_at slot km0 acl req new hints) = narrowing km0 req new hints
gate_call (expanding_at slot km0 acl req new) = expanding km0 req new

-- "as the gate would": what the gate makes of the call, on a ledger
abbrev pub gate_outcome : Ledger → CabinetCall → Outcome
gate_outcome l x = outcome (record { ledger = l; acl = lent_in x }) (gate_call x)

-- "The counter sentence of demand 2 now counts permits over all slots": the group that a call charges, whichever slot it is made to
abbrev pub charged_at : Cabinet → CabinetCall → Option Group
charged_at c x = charged_in (acl_of (lent_in x)) (cabinet_outcome c x).answer

-- From n permits on: the permits that the calls charge to groups then naming the counter, since it was last cleared.
abbrev pub cabinet_counted : ℕ → Cabinet → CabinetCall → ℕ → ℕ
cabinet_counted counter c x n = if clears counter (gate_call x) then 0 else if named_by counter (charged_at c x) then n + 1 else n

-- the tally over a sequence of calls
unfoldable pub cabinet_tally : ℕ → Cabinet → ℕ → List CabinetCall → ℕ
cabinet_tally counter c n [] = n
cabinet_tally counter c n (x ∷ xs) = cabinet_tally counter (cabinet_after c x) (cabinet_counted counter c x n) xs

-- a call is made to this slot
abbrev pub is_slot : ℕ → Option ℕ → Bool
is_slot slot none = false
is_slot slot (some k) = eqb k slot

-- "a slot's calls in the same order", of a sequence
unfoldable pub calls_to : ℕ → List CabinetCall → List CabinetCall
calls_to slot [] = []
calls_to slot (x ∷ xs) = if is_slot slot (slot_in x) then x ∷ calls_to slot xs else calls_to slot xs

-- One of a slot's calls in a run: the call, the shared counters just before it, the answer, and the slot's counts and times after it.
pub record Turn : Type 0 where
  pub call : CabinetCall
  pub counters : List ℕ
  pub answer : Answer
  pub slot : Slot

-- a call made to a slot
abbrev pub turn : ℕ → Cabinet → CabinetCall → Turn
turn slot c x =
    record { call = x; counters = c.counters; answer = (cabinet_outcome c x).answer; slot = slot_at (cabinet_after c x) slot }

-- the slot's calls in a run of the cabinet, whatever stands between them
unfoldable pub turns : ℕ → Cabinet → List CabinetCall → List Turn
turns slot c [] = []
turns slot c (x ∷ xs) =
    if is_slot slot (slot_in x) then turn slot c x ∷ turns slot (cabinet_after c x) xs else turns slot (cabinet_after c x) xs

-- the counters that a group's limits name
unfoldable pub counters_named : List Limit → List ℕ
counters_named [] = []
counters_named (m ∷ ms) = if eqb m.sort 2 then m.counter ∷ counters_named ms else counters_named ms

-- the counters that the groups of an ACL name
unfoldable pub counters_in : List Group → List ℕ
counters_in [] = []
counters_in (g ∷ gs) = counters_named g.limits ++ counters_in gs

-- An ACL with a fault is refused whatever the counters are, so that it names none.
abbrev pub named_unless : Option ℕ → List ℕ → List ℕ
named_unless none ns = ns
named_unless (some f) ns = []

-- the counters that an ACL file names
abbrev pub counters_lent : Bytes → List ℕ
counters_lent acl = named_unless (acl_file_fault acl) (counters_in (acl_of acl))

-- "just before each, the counters its lent ACL names": their readings
abbrev pub readings_before : Turn → List ℕ
readings_before t = map (λ n. get_or t.counters n 0) (counters_lent (lent_in t.call))

-- a call is lent this ACL, if it is lent one
abbrev pub IsLent : Bytes → CabinetCall → Type 0
IsLent acl (requesting_at slot km0 lent req) = lent ≡ acl
IsLent acl (loading_at slot time) = Unit {0}
IsLent acl (clearing_all counter) = Unit {0}
IsLent acl (narrowing_at slot km0 lent req new hints) = lent ≡ acl
IsLent acl (expanding_at slot km0 lent req new) = lent ≡ acl

-- "The ACL in force is first the accepted one; a permitted replacement (reply a group) makes it the new one": of a slot's calls, each is lent the ACL
-- in force in that slot.
abbrev pub LentInForce : Bytes → List Turn → Type 0
LentInForce acl [] = Unit {0}
LentInForce acl (t ∷ ts) = IsLent acl t.call × LentInForce (in_force acl (replacement acl (gate_call t.call)) t.answer) ts

-- a call that presents no certificate by the officer's key, and no chain that starts there
abbrev pub Unsigned : List Bytes → Turn → Type 0
Unsigned b t = officer_signed b (gate_call t.call) ≡ false

-- what is permitted is what the verdict allows
abbrev pub PermitAllowed : List Bytes → Grade → Turn → Type 0
PermitAllowed b v t = (place : ℕ) → t.answer ≡ permit place → Allowed b v (wanted_in (gate_call t.call))
