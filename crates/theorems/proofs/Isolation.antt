-- Isolation: what stands between a slot's calls does not matter to it, but through the counters that its lent ACL names. Two wrong products that this
-- rules out: a cabinet whose load sets every slot's times, and one that refuses a slot's request where another slot was refused.
use Prim.Native.Nat.{ℕ}
use mathlib.Core.Path.{◌≡◌, refl, sym, ◌∙◌, ap, ap₂, subst}
use mathlib.Core.List.{List, [], ◌∷◌, map}
use mathlib.Core.Option.{Option, none, some}
use mathlib.Core.Bool.{Bool, true, false, false≢true}
use lib.ListN.{length, get_or}
use lib.Dec.{ltb}
use borrow.Author.Tests.{eqb-true, ltb-true, ltb-false}
use Rattle.rules.specs.Sizes.{slots_max}
use Rattle.rules.specs.Numbers.{no_slot}
use Rattle.std.specs.Prelude.{if◌then◌else◌}
use Rattle.rules.specs.Ledger.{Ledger}
use Rattle.rules.specs.Gate.{Answer, refuse}
use Rattle.rules.specs.Cabinet.{Slot, Cabinet, counts_and_times, ledger_with, slot_at, CabinetOutcome}
use Rattle.theorems.specs.Cabinets.{CabinetCall, cabinet_after, slot_in, lent_in, gate_call, gate_outcome, is_slot, calls_to, Turn, turn, turns, counters_lent, readings_before}
use Rattle.rules.proofs.Laws.{never}
use Rattle.theorems.proofs.Slots.{as_the_gate, no_such_slot, others_stand, slots_kept}
use Rattle.theorems.proofs.NamedCounters.{only_named}

is_slot_lem : (slot : ℕ) (o : Option ℕ) → is_slot slot o ≡ true → o ≡ some slot
is_slot_lem slot none e = absurd (false≢true e)
is_slot_lem slot (some k) e = ap some (eqb-true k slot e)

-- A slot's turn is the gate's, on the slot as the turn before it left it, and on whatever the counters are then; over 7 it is refused.
record Taken (slot : ℕ) (s : Slot) (t : Turn) : Type 0 where
  answered : t.answer ≡ (if ltb slot slots_max then (gate_outcome (ledger_with s t.counters) t.call).answer else refuse no_slot none)
  left : t.slot ≡ (if ltb slot slots_max then counts_and_times (gate_outcome (ledger_with s t.counters) t.call).ledger else s)

-- several calls, one after the other
abbrev Follows : ℕ → Slot → List Turn → Type 0
Follows slot s [] = Unit {0}
Follows slot s (t ∷ ts) = Taken slot s t × Follows slot t.slot ts

turn_taken : (slot : ℕ) (c : Cabinet) (x : CabinetCall) → length c.slots ≡ slots_max → slot_in x ≡ some slot → Taken slot (slot_at c slot) (turn slot c x)
turn_taken slot c x n e = pick (ltb slot slots_max) refl
  where
    pick : (b : Bool) → ltb slot slots_max ≡ b → Taken slot (slot_at c slot) (turn slot c x)
    pick true t =
        let g = as_the_gate c x slot n e (ltb-true slot slots_max t) in
        record { answered = rw t g.0; left = rw t (ap (λ (l : Ledger). counts_and_times l) g.1) }
    pick false t =
        let q = no_such_slot c x slot e (ltb-false slot slots_max t) in
        record { answered = rw t (ap (λ (r : CabinetOutcome). r.answer) q); left = rw t (ap (λ (r : CabinetOutcome). slot_at r.cabinet slot) q) }

-- A run of the cabinet, of which the slot's turns are kept.
turns_follow : (slot : ℕ) (c : Cabinet) (xs : List CabinetCall) → length c.slots ≡ slots_max → Follows slot (slot_at c slot) (turns slot c xs)
unfolding turns
turns_follow slot c [] n = tt
turns_follow slot c (x ∷ xs) n = pick (is_slot slot (slot_in x)) refl (turns_follow slot (cabinet_after c x) xs (slots_kept c x ∙ n))
  where
    pick : (b : Bool) → is_slot slot (slot_in x) ≡ b → Follows slot (slot_at (cabinet_after c x) slot) (turns slot (cabinet_after c x) xs) → Follows slot (slot_at c slot) (turns slot c (x ∷ xs))
    pick true e f = rw e (turn_taken slot c x n (is_slot_lem slot (slot_in x) e), f)
    pick false e f = rw e (subst (λ (s : Slot). Follows slot s (turns slot (cabinet_after c x) xs)) (others_stand c x slot e) f)

-- the calls that are kept are the slot's
calls_kept : (slot : ℕ) (c : Cabinet) (xs : List CabinetCall) → map (λ t. t.call) (turns slot c xs) ≡ calls_to slot xs
unfolding turns calls_to
calls_kept slot c [] = refl
calls_kept slot c (x ∷ xs) = pick (is_slot slot (slot_in x)) refl (calls_kept slot (cabinet_after c x) xs)
  where
    pick : (b : Bool) → is_slot slot (slot_in x) ≡ b → map (λ t. t.call) (turns slot (cabinet_after c x) xs) ≡ calls_to slot xs → map (λ t. t.call) (turns slot c (x ∷ xs)) ≡ calls_to slot (x ∷ xs)
    pick true e f = rw e (ap (λ (ys : List CabinetCall). x ∷ ys) f)
    pick false e f = rw e f

module _ (slot : ℕ) where
  -- two turns from the same counts and times, with the same call and the same readings
  same_turn : (s : Slot) (t u : Turn) → Taken slot s t → Taken slot s u → t.call ≡ u.call → readings_before t ≡ readings_before u → (t.answer ≡ u.answer) × (t.slot ≡ u.slot)
  same_turn s t u p q e r =
      let f = subst (λ (y : CabinetCall). readings_before t ≡ map (λ n. get_or u.counters n 0) (counters_lent (lent_in y))) (sym e) r in
      let a = only_named s t.counters u.counters (lent_in t.call) (gate_call t.call) f in (
        p.answered
            ∙ ap (λ (x : Answer). if ltb slot slots_max then x else refuse no_slot none) a.answers
            ∙ ap (λ (y : CabinetCall). if ltb slot slots_max then (gate_outcome (ledger_with s u.counters) y).answer else refuse no_slot none) e
            ∙ sym q.answered,
        p.left
            ∙ ap (λ (x : Slot). if ltb slot slots_max then x else s) a.slots
            ∙ ap (λ (y : CabinetCall). if ltb slot slots_max then counts_and_times (gate_outcome (ledger_with s u.counters) y).ledger else s) e
            ∙ sym q.left,
      )

  same_turns : (s : Slot) (ts us : List Turn) → Follows slot s ts → Follows slot s us
      → map (λ t. t.call) ts ≡ map (λ t. t.call) us
      → map readings_before ts ≡ map readings_before us
      → (map (λ t. t.answer) ts ≡ map (λ t. t.answer) us) × (map (λ t. t.slot) ts ≡ map (λ t. t.slot) us)
  same_turns s [] [] p q e r = (refl, refl)
  same_turns s [] (u ∷ us) p q e r = absurd (never (cc))
  same_turns s (t ∷ ts) [] p q e r = absurd (never (cc))
  same_turns s (t ∷ ts) (u ∷ us) p q e r =
      let a = same_turn s t u p.0 q.0 (cc) (cc) in
      let b = same_turns t.slot ts us p.1 (subst (λ (x : Slot). Follows slot x us) (sym a.1) q.1) (cc) (cc) in
      (ap₂ ◌∷◌ a.0 b.0, ap₂ ◌∷◌ a.1 b.1)

-- Isolation. "Let two runs make a slot's calls in the same order, from equal counts and times, with all equal that these are given (ACL and KM0 too)
-- and, just before each, the counters its lent ACL names: whatever stands between, the slot answers the same." Its counts and times after each are
-- the same, too.
pub isolation : (slot : ℕ) (c d : Cabinet) (xs ys : List CabinetCall) → length c.slots ≡ slots_max → length d.slots ≡ slots_max
    → slot_at c slot ≡ slot_at d slot
    → calls_to slot xs ≡ calls_to slot ys
    → map readings_before (turns slot c xs) ≡ map readings_before (turns slot d ys)
    → (map (λ t. t.answer) (turns slot c xs) ≡ map (λ t. t.answer) (turns slot d ys))
    × (map (λ t. t.slot) (turns slot c xs) ≡ map (λ t. t.slot) (turns slot d ys))
isolation slot c d xs ys n m s e r =
    same_turns slot (slot_at c slot) (turns slot c xs) (turns slot d ys) (turns_follow slot c xs n)
    (subst (λ (x : Slot). Follows slot x (turns slot d ys)) (sym s) (turns_follow slot d ys m)) (calls_kept slot c xs ∙ e ∙ sym (calls_kept slot d ys)) r
