-- What a charge in place does to the tables, limit by limit.
use Prim.Native.Nat.{ℕ, zero, suc, ◌+◌, ◌≤◌, ◌<◌}
use native.Mathlib.Omega.{arith}
use mathlib.Core.Path.{◌≡◌, refl, sym, ◌∙◌, ap}
use mathlib.Core.List.{List, [], ◌∷◌}
use mathlib.Core.Option.{some}
use mathlib.Core.Bool.{Bool, true, false}
use borrow.Author.Tests.{eqb-true}
use lib.ListN.{length, drop, get_or, get_elem?}
use lib.Seq.{get_or-set_other}
use lib.Dec.{eqb}
use Rattle.rules.specs.Basics.{Bytes, all, kind}
use Rattle.rules.specs.Acl.{Limit, limit_of, limits_of}
use Rattle.rules.specs.Ledger.{raised_by}
use Rattle.rules.proofs.Laws.{and_left, and_right}
use Rattle.acl_groups.proofs.Laws.{limits_at, limits_over, limits_none}
use Rattle.gate_charge.specs.Charges.{counter_not_full, limit_not_full, Chargeable, raised_once}

-- the counters that limits name are as they were before
abbrev pub Kept : List ℕ → List ℕ → List Limit → Type 0
Kept before table ms = (j : ℕ) (n : Limit) → get_elem? ms j ≡ some n → n.sort ≡ 2 → get_or table n.counter 0 ≡ get_or before n.counter 0

-- Of limits that name no counter twice, the first raises its counter in place, and the counters of the others are unchanged.
module _ (before table : List ℕ) (m : Limit) (ms : List Limit) (able : Chargeable before (m ∷ ms)) (kept : Kept before table (m ∷ ms)) where
  first_room : counter_not_full table m.sort m.counter ≡ true
  unfolding all limit_not_full
  first_room = pick (eqb m.sort 2) refl
    where
      room : counter_not_full before m.sort m.counter ≡ true
      room = and_left (limit_not_full before m) (all (limit_not_full before) ms) able.room

      pick : (b : Bool) → eqb m.sort 2 ≡ b → counter_not_full table m.sort m.counter ≡ true
      pick true q = rw (kept zero m refl (eqb-true m.sort 2 q)) room
      pick false q = rw q

  others_able : Chargeable before ms
  unfolding all
  others_able =
      record {
        room = and_right (limit_not_full before m) (all (limit_not_full before) ms) able.room;
        apart = λ i j x y l d e. able.apart (suc i) (suc j) x y (omega arith) d e;
      }

  others_kept : Kept before (raised_once table m.sort m.counter) ms
  others_kept j n e s = pick (eqb m.sort 2) refl
    where
      pick : (b : Bool) → eqb m.sort 2 ≡ b → get_or (raised_once table m.sort m.counter) n.counter 0 ≡ get_or before n.counter 0
      pick true q =
          let k = eqb-true m.sort 2 q in
          let d = (able.apart zero (suc j) m n (omega arith) refl e (k ∙ sym s)).1 in
          rw q (get_or-set_other table m.counter n.counter (get_or table m.counter 0 + 1) 0 (λ x. d (sym x)) ∙ kept (suc j) n e s)
      pick false q = rw q (kept (suc j) n e s)

  first_raised : raised_by before (m ∷ ms) table ≡ raised_by before ms (raised_once table m.sort m.counter)
  unfolding raised_by
  first_raised = pick (eqb m.sort 2) refl
    where
      pick : (b : Bool) → eqb m.sort 2 ≡ b → raised_by before (m ∷ ms) table ≡ raised_by before ms (raised_once table m.sort m.counter)
      pick true q = rw (q, kept zero m refl (eqb-true m.sort 2 q))
      pick false q = rw q

-- A loop over the limits of a group: what is left to raise from the i-th record on, by the table as it was before the first.
pub record Raising (before : List ℕ) (rs : List Bytes) (i : ℕ) (table : List ℕ) : Type 0 where
  pub rest : raised_by before (limits_of (drop i rs)) table ≡ raised_by before (limits_of rs) before
  pub able : Chargeable before (limits_of (drop i rs))
  pub kept : Kept before table (limits_of (drop i rs))

module _ (before : List ℕ) (rs : List Bytes) (i : ℕ) (table : List ℕ) (r : Raising before rs i table) where
  pub raising_done : length rs ≤ i → table ≡ raised_by before (limits_of rs) before
  unfolding raised_by
  raising_done h = sym (ap (λ (l : List Limit). raised_by before l table) (limits_none rs i h)) ∙ r.rest

  module _ (h : i < length rs) where
    pub raising_stop : (kind (get_or rs i []) ≡ 2 → ⊥) → table ≡ raised_by before (limits_of rs) before
    unfolding raised_by
    raising_stop n = sym (ap (λ (l : List Limit). raised_by before l table) (limits_over rs i h n)) ∙ r.rest

    module _ (k : kind (get_or rs i []) ≡ 2) where
      abbrev m : Limit
      m = limit_of (get_or rs i [])

      abbrev ms : List Limit
      ms = limits_of (drop (i + 1) rs)

      able_here : Chargeable before (m ∷ ms)
      able_here = rw (limits_at rs i h k) at r.able

      kept_here : Kept before table (m ∷ ms)
      kept_here = rw (limits_at rs i h k) at r.kept

      pub raising_room : counter_not_full table m.sort m.counter ≡ true
      raising_room = first_room before table m ms able_here kept_here

      pub raising_next : (next : List ℕ) → next ≡ raised_once table m.sort m.counter → Raising before rs (i + 1) next
      raising_next next e =
          record {
            rest = rw e (sym (first_raised before table m ms able_here kept_here) ∙ sym (ap (λ (l : List Limit). raised_by before l table) (limits_at rs i h k)) ∙ r.rest);
            able = others_able before table m ms able_here kept_here;
            kept = rw e (others_kept before table m ms able_here kept_here);
          }
