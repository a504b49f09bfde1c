-- What one request does to the tables: no count gets smaller and the last time does not go back, so that a group that is spent stays so.
use Prim.Native.Nat.{ℕ, zero, suc, ◌+◌, ◌-◌, ◌^◌, ◌≤◌, ◌<◌}
use native.Mathlib.Omega.{arith}
use mathlib.Core.Path.{◌≡◌, refl, sym, ap, subst}
use mathlib.Core.List.{List, [], ◌∷◌}
use mathlib.Core.Option.{Option, none, some}
use mathlib.Core.Bool.{Bool, true, false, ◌||◌}
use borrow.Author.Tests.{ltb-false, leb-true}
use lib.ListN.{get_or, set}
use lib.Dec.{eqb, leb, ltb}
use Rattle.rules.specs.Sizes.{groups_max}
use Rattle.std.specs.Prelude.{if◌then◌else◌}
use Rattle.rules.specs.Basics.{Bytes, number}
use Rattle.rules.specs.Acl.{Limit, Group}
use Rattle.rules.specs.Request.{request_record_fault, wanted_of}
use Rattle.rules.specs.Ledger.{Ledger, raised, raised_by, charge}
use Rattle.rules.specs.Gate.{Judgement, granted, denied, early, too_early, permitted, settle, outcome_unless}
use Rattle.rules.specs.Runs.{request_with}
use Rattle.rules.proofs.Laws.{never}
use Rattle.run_limits.specs.declared.row.Row.{Row}
use Rattle.run_decision.specs.GroupSets.{judged_by_sets, unspent_at}
use Rattle.gate_decision.specs.Standings.{ledger_of_tables}
use Rattle.run_decision.specs.Deciding.{admitting_set, set_judge, ask_sets}
use Rattle.run_decision.specs.Opening.{NoLess, OpenFrom, Closes, OpenAt}
use Rattle.run_decision.specs.Members.{left_at}
use Rattle.run_decision.proofs.Opening.{no_less_same, open_on, open_judged, open_at}
use Rattle.run_requests.specs.Answers.{IsOutcome}

-- a place of a table, after a store of no less
stored : (ys : List ℕ) (c v i b : ℕ) → (i ≡ c → b ≤ v) → b ≤ get_or ys i 0 → b ≤ get_or (set ys c v) i 0
stored [] c v i b f h = h
stored (y ∷ ys) zero v zero b f h = f refl
stored (y ∷ ys) zero v (suc i) b f h = h
stored (y ∷ ys) (suc c) v zero b f h = h
stored (y ∷ ys) (suc c) v (suc i) b f h = stored ys c v i b (λ e. f (ap suc e)) h

raise_grows : (before now : List ℕ) (c : ℕ) → NoLess before now → NoLess before (raised before c now)
unfolding NoLess
raise_grows before now c h i = stored now c (get_or before c 0 + 1) i (get_or before i 0) (λ e. rw e (omega arith)) (h i)

raised_grows : (before : List ℕ) (ms : List Limit) (now : List ℕ) → NoLess before now → NoLess before (raised_by before ms now)
unfolding raised_by
raised_grows before [] now h = h
raised_grows before (m ∷ ms) now h = raised_grows before ms (if eqb m.sort 2 then raised before m.counter now else now) (pick (eqb m.sort 2))
  where
    pick : (b : Bool) → NoLess before (if b then raised before m.counter now else now)
    pick true = raise_grows before now m.counter h
    pick false = h

record Grown (l m : Ledger) : Type 0 where
  counts : NoLess l.counts m.counts
  counters : NoLess l.counters m.counters
  later : l.last ≤ m.last

same_grown : (l : Ledger) → Grown l l
same_grown l = record { counts = no_less_same l.counts; counters = no_less_same l.counters; later = omega arith }

ask_grows : (km0 : Bytes) (gs : List Group) (c : ℕ) (l : Ledger) (r : Bytes) → Grown l (ask_sets km0 gs c l r).ledger
unfolding ask_sets set_judge charge
ask_grows km0 gs c l r = fault (request_record_fault r)
  where
    settled : l.last ≤ number 56 8 r → (j : Judgement) → Grown l (settle l (number 56 8 r) permitted j).ledger
    settled h (granted k g) =
        record {
          counts = raise_grows l.counts l.counts k (no_less_same l.counts);
          counters = raised_grows l.counters g.limits l.counters (no_less_same l.counters);
          later = h;
        }
    settled h (denied d) = same_grown l

    in_time_lem : (a : Bool) → (a || ltb (number 56 8 r) l.last) ≡ false → l.last ≤ number 56 8 r
    in_time_lem true e = absurd (never (cc))
    in_time_lem false e = ltb-false (number 56 8 r) l.last e

    judged : (b : Bool) → too_early l (request_with r []) ≡ b
        → Grown l (settle l (number 56 8 r) permitted (if b then denied early else judged_by_sets gs (admitting_set km0 (wanted_of r none) gs) c (unspent_at l (request_with r []) gs))).ledger
    judged true e = same_grown l
    judged false e = settled (in_time_lem (ltb (number 56 8 r) l.loaded) e) (judged_by_sets gs (admitting_set km0 (wanted_of r none) gs) c (unspent_at l (request_with r []) gs))

    fault : (f : Option ℕ) → Grown l (outcome_unless l f (settle l (number 56 8 r) permitted (set_judge l km0 gs c r))).ledger
    fault none = judged (too_early l (request_with r [])) refl
    fault (some n) = same_grown l

pub open_next : (km0 : Bytes) (gs : List Group) (c o : ℕ) (r : Bytes) (rows : List Row) (counts counters counts' counters' : List ℕ) (loaded before n place last : ℕ)
    → IsOutcome (ask_sets km0 gs c (ledger_of_tables counts counters loaded before) r) counts' counters' loaded n place last
    → OpenFrom counts counters (before - loaded) rows c o → OpenFrom counts' counters' (last - loaded) rows c o
open_next km0 gs c o r rows counts counters counts' counters' loaded before n place last a h =
    let l = ledger_of_tables counts counters loaded before in
    let g : Grown l (ledger_of_tables counts' counters' loaded last) = subst (Grown l) (sym a.ledger) (ask_grows km0 gs c l r) in
    let t = g.later in
    open_on counts counts' counters counters' (before - loaded) (last - loaded) rows c o g.counts g.counters (omega arith) h

-- the groups that need a look from a time on are still right after a charge
pub open_kept : (km0 : Bytes) (gs : List Group) (c o : ℕ) (r : Bytes) (rows : List Row) (counts counters counts' counters' : List ℕ) (loaded before n place last since : ℕ)
    → IsOutcome (ask_sets km0 gs c (ledger_of_tables counts counters loaded before) r) counts' counters' loaded n place last
    → OpenFrom counts counters (since - loaded) rows c o → OpenFrom counts' counters' (since - loaded) rows c o
open_kept km0 gs c o r rows counts counters counts' counters' loaded before n place last since a h =
    let l = ledger_of_tables counts counters loaded before in
    let g : Grown l (ledger_of_tables counts' counters' loaded last) = subst (Grown l) (sym a.ledger) (ask_grows km0 gs c l r) in
    open_on counts counts' counters counters' (since - loaded) (since - loaded) rows c o g.counts g.counters (omega arith) h

-- The groups to look at for a request, and those to look at after it.
module _ (counts counters : List ℕ) (loaded last since : ℕ) (rows : List Row) (c unspent still : ℕ)
    (u : OpenFrom counts counters (last - loaded) rows c unspent) (s : OpenFrom counts counters (since - loaded) rows c still) where
  used_open : (time used : ℕ) → used ≡ (if leb since time then still else unspent) → last ≤ time → OpenFrom counts counters (time - loaded) rows c used
  used_open time used e h = rw e (choose (leb since time) refl)
    where
      choose : (b : Bool) → leb since time ≡ b → OpenFrom counts counters (time - loaded) rows c (if b then still else unspent)
      choose true q =
          let l = leb-true since time q in
          open_on counts counts counters counters (since - loaded) (time - loaded) rows c still (no_less_same counts) (no_less_same counters) (omega arith) s
      choose false q =
          open_on counts counts counters counters (last - loaded) (time - loaded) rows c unspent (no_less_same counts) (no_less_same counters) (omega arith) u

  pub open_used : (time t used : ℕ) → time ≡ t → used ≡ (if leb since time then still else unspent) → OpenAt counts counters loaded last t rows c used
  open_used time t used d e = open_at counts counters loaded last t rows c used (λ h. used_open t used (rw d at e) h)

  pub open_after : (time t used o next from' : ℕ) → time ≡ t → used ≡ (if leb since time then still else unspent)
      → Closes (left_at counts counters (t - loaded) rows) used o
      → next ≡ (if leb last time then o else still) → from' ≡ (if leb last time then time else since)
      → OpenFrom counts counters (from' - loaded) rows c next
  open_after time t used o next from' d e k p q = rw (p, q) (choose (leb last time) refl)
    where
      choose : (b : Bool) → leb last time ≡ b → OpenFrom counts counters ((if b then time else since) - loaded) rows c (if b then o else still)
      choose true y =
          let l = leb-true last time y in
          open_judged counts counters (time - loaded) rows c used o (used_open time used e l) (rw (sym d) at k)
      choose false y = s

-- a number of 64 bits is a set of groups
pub word_within : (n : ℕ) → n < 18446744073709551616 → n < 2 ^ groups_max
word_within n h = omega arith
