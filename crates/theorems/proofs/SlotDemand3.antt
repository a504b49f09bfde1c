-- Demand 3 per slot: of a key that the desk accepted under approach 2 with a slot's ACL, no sequence of cabinet calls in which that slot is presented
-- no certificate by the officer, and no chain from the officer's key, is permitted anything in that slot that the verdict does not cover, whatever
-- the other slots are asked or presented. Two wrong products that this rules out: a cabinet that judges a slot's request by what was presented to
-- another slot, and one whose narrowing lets a permission bit be added.
use Prim.Native.Nat.{ℕ}
use mathlib.Core.Path.{◌≡◌, refl, sym, ◌∙◌}
use mathlib.Core.Logic.{◌⊎◌, inl, inr}
use mathlib.Core.List.{List, [], ◌∷◌}
use mathlib.Core.Option.{none}
use mathlib.Core.Bool.{Bool, true, false}
use Rattle.rules.specs.Numbers.{no_slot}
use Rattle.rules.specs.Basics.{Bytes, Every, records}
use Rattle.rules.specs.Ledger.{Ledger}
use Rattle.rules.specs.Gate.{Answer, refuse}
use Rattle.rules.specs.Desk.{Grade, approach2, accepted, desk}
use Rattle.rules.specs.Cabinet.{Cabinet, ledger_at, CabinetOutcome}
use Rattle.theorems.specs.Demands.{State, outcome, replacement, in_force, after}
use Rattle.theorems.specs.Cabinets.{CabinetCall, requesting_at, loading_at, clearing_all, narrowing_at, expanding_at, cabinet_outcome, cabinet_after, slot_in, gate_call, gate_outcome, is_slot, Turn, turns, IsLent, LentInForce, Unsigned, PermitAllowed}
use Rattle.rules.proofs.Laws.{never}
use Rattle.theorems.proofs.Accepted.{accepted_safe}
use Rattle.theorems.proofs.Demand3.{SafeAcl, call_allowed, call_safe}
use Rattle.theorems.proofs.Slots.{Lands, to_slot, to_none, to_all, lands}

-- A turn is refused with 13, or answered as the gate answers on some ledger.
abbrev Gated : CabinetCall → Answer → Type 0
Gated x a = (a ≡ refuse no_slot none) ⊎ ((l : Ledger) × (a ≡ (gate_outcome l x).answer))

turns_gated : (slot : ℕ) (c : Cabinet) (xs : List CabinetCall) → Every (λ t. Gated t.call t.answer) (turns slot c xs)
unfolding turns outcome
turns_gated slot c [] = tt
turns_gated slot c (x ∷ xs) = pick (is_slot slot (slot_in x)) refl (turns_gated slot (cabinet_after c x) xs)
  where
    answered : (x : CabinetCall) (r : CabinetOutcome) → Lands c x r → Gated x r.answer
    answered x r (to_slot k e b) = inr (ledger_at c k, refl)
    answered x r (to_none k e b z) = inl refl
    answered x r (to_all n) = inr (ledger_at c 0, refl)

    pick : (b : Bool) → is_slot slot (slot_in x) ≡ b → Every (λ t. Gated t.call t.answer) (turns slot (cabinet_after c x) xs) → Every (λ t. Gated t.call t.answer) (turns slot c (x ∷ xs))
    pick true e f = rw e (answered x (cabinet_outcome c x) (lands c x), f)
    pick false e f = rw e f

-- A call that is lent the ACL in force. This goes by kind of call as `IsLent` does, which says of a load and a clear that they are lent none.
lent_answer : (l : Ledger) (acl : Bytes) (x : CabinetCall) → IsLent acl x → (gate_outcome l x).answer ≡ (outcome (record { ledger = l; acl = acl }) (gate_call x)).answer
unfolding outcome
lent_answer l acl (requesting_at slot km0 lent req) e = rw e
lent_answer l acl (loading_at slot time) e = refl
lent_answer l acl (clearing_all counter) e = refl
lent_answer l acl (narrowing_at slot km0 lent req new hints) e = rw e
lent_answer l acl (expanding_at slot km0 lent req new) e = rw e

module _ (b : List Bytes) (v : Grade) where
  -- One turn: if it is permitted it is allowed, and the ACL in force after it is safe.
  turn_allowed : (acl : Bytes) (t : Turn) → SafeAcl b v acl → Gated t.call t.answer → IsLent acl t.call → Unsigned b t
      → PermitAllowed b v t × SafeAcl b v (in_force acl (replacement acl (gate_call t.call)) t.answer)
  unfolding after
  turn_allowed acl t h (inl q) e d = (λ place p. absurd (never (cc)), rw q h)
  turn_allowed acl t h (inr g) e d =
      let s : State = record { ledger = g.0; acl = acl } in
      let q : t.answer ≡ (outcome s (gate_call t.call)).answer = g.1 ∙ lent_answer g.0 acl t.call e in (
        λ place p. call_allowed b v s (gate_call t.call) place h d (sym q ∙ p),
        rw q (call_safe b v s (gate_call t.call) h d),
      )

  -- Turns on any ledgers, each lent the ACL in force.
  turns_allowed : (acl : Bytes) (ts : List Turn) → SafeAcl b v acl → Every (λ t. Gated t.call t.answer) ts → LentInForce acl ts → Every (Unsigned b) ts → Every (PermitAllowed b v) ts
  turns_allowed acl [] h g e d = tt
  turns_allowed acl (t ∷ ts) h g e d =
      let r = turn_allowed acl t h g.0 e.0 d.0 in
      (r.0, turns_allowed (in_force acl (replacement acl (gate_call t.call)) t.answer) ts r.1 g.1 e.1 d.1)

-- Demand 3 per slot. Let the desk accept a bundle and a slot's ACL under approach 2. Start with any cabinet, and make any calls, of which those to
-- the slot are lent the ACL in force in that slot, first the accepted one, and present no certificate by the officer's key and no chain that starts
-- there. Then every call to the slot that is permitted is allowed by the verdict.
pub demand_3_slot : (bundle acl : Bytes) (verdict : Grade) → desk bundle acl ≡ accepted (approach2 verdict)
    → (cabinet : Cabinet) (slot : ℕ) (calls : List CabinetCall)
    → LentInForce acl (turns slot cabinet calls)
    → Every (Unsigned (records bundle)) (turns slot cabinet calls)
    → Every (PermitAllowed (records bundle) verdict) (turns slot cabinet calls)
demand_3_slot bundle acl verdict e cabinet slot calls f d =
    turns_allowed (records bundle) verdict acl (turns slot cabinet calls) (accepted_safe bundle acl verdict e) (turns_gated slot cabinet calls) f d
