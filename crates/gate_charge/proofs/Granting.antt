-- The group that grants is at its index, is not full, and names no counter twice: where the answer permits, the tables can be charged.
use Prim.Native.Nat.{ℕ, zero, suc, ◌+◌, ◌-◌, ◌<◌}
use native.Mathlib.Omega.{arith}
use mathlib.Core.Path.{◌≡◌, refl, sym, ◌∙◌, ap}
use mathlib.Core.List.{List, [], ◌∷◌}
use mathlib.Core.Option.{none}
use mathlib.Core.Bool.{Bool, true, false, ◌&&◌}
use borrow.Author.Tests.{eqb-true, ltb-true}
use lib.ListN.{drop, get_or}
use lib.Dec.{eqb, ltb}
use Rattle.rules.specs.Sizes.{full_count}
use Rattle.rules.specs.Numbers.{not_narrower}
use Rattle.rules.specs.Basics.{Bytes, Every, all, records}
use Rattle.rules.specs.Acl.{Limit, Group, acl_of, acl_fault}
use Rattle.rules.specs.Request.{Request}
use Rattle.rules.specs.Ledger.{Ledger}
use Rattle.rules.specs.Grant.{limit_left, limits_left, group_admits, certified, unspent}
use Rattle.rules.specs.Gate.{Answer, permit, refuse, group, lowest, Judgement, granted, denied, grants, judge}
use Rattle.rules.proofs.Laws.{never, and_left, and_right, and_both, implication}
use Rattle.rules.proofs.Judging.{judge_lowest}
use Rattle.rules.specs.Fits.{Apart, GroupFits}
use Rattle.rules.proofs.AclSizes.{acl_fits}
use Rattle.acl_groups.specs.Parts.{first_limits}
use Rattle.refusals.specs.declared.Denial.{Denial}
use Rattle.std.specs.Prelude.{Result, Ok, Err}
use Rattle.gate_decision.specs.Standings.{denial_for, judged_for}
use Rattle.gate_charge.specs.Charges.{limit_not_full, Chargeable, permit_if, decided, CountersRoom, CountRoom}

-- of groups that fit, the limits of the group at an index name no counter twice
first_apart : (k : ℕ) (gs : List Group) → Every GroupFits gs → Apart (first_limits (drop k gs))
first_apart zero [] f = λ i j m n l d e. absurd (never (cc))
first_apart (suc k) [] f = λ i j m n l d e. absurd (never (cc))
first_apart zero (g ∷ gs) f = f.0.apart
first_apart (suc k) (g ∷ gs) f = first_apart k gs f.1

-- the lowest group is at its index, counted from `place`, and passes
lowest_at : (test : ℕ → Group → Bool) (place : ℕ) (gs : List Group) (k : ℕ) (g : Group) → lowest test place gs ≡ group k g
    → (i : ℕ) × (k ≡ place + i) × (first_limits (drop i gs) ≡ g.limits) × (test k g ≡ true)
unfolding lowest
lowest_at test place [] k g e = absurd (never (cc))
lowest_at test place (x ∷ xs) k g e = pick (test place x) refl (lowest_at test (suc place) xs k g)
  where
    pick : (b : Bool) → test place x ≡ b
        → (lowest test (suc place) xs ≡ group k g → (i : ℕ) × (k ≡ suc place + i) × (first_limits (drop i xs) ≡ g.limits) × (test k g ≡ true))
        → (i : ℕ) × (k ≡ place + i) × (first_limits (drop i (x ∷ xs)) ≡ g.limits) × (test k g ≡ true)
    pick true q f =
        let d : group place x ≡ group k g = rw q at e in
        let a : place ≡ k = cc in
        let b : x ≡ g = cc in
        (0, omega arith, ap (λ (z : Group). z.limits) b, rw (← a, ← b) q)
    pick false q f =
        let r = f (rw q at e) in
        (suc r.0, omega (arith, r.1), r.2, r.3)

-- the counters that the limits of an unspent group name are not full
pub limits_room : (counters : List ℕ) (own elapsed : ℕ) (ms : List Limit) → limits_left counters own elapsed ms ≡ true → all (limit_not_full counters) ms ≡ true
unfolding all limit_left limit_not_full
limits_room counters own elapsed [] e = refl
limits_room counters own elapsed (m ∷ ms) e =
    and_both (limit_not_full counters m) (all (limit_not_full counters) ms)
    (implication (eqb m.sort 2) (ltb (get_or counters m.counter 0) full_count) one)
    (limits_room counters own elapsed ms (and_right (limit_left counters own elapsed m) (all (limit_left counters own elapsed) ms) e))
  where
    one : eqb m.sort 2 ≡ true → ltb (get_or counters m.counter 0) full_count ≡ true
    one s =
        let q2 = eqb-true m.sort 2 s in
        let n = get_or counters m.counter 0 in
        let d : limit_left counters own elapsed m ≡ true = and_left (limit_left counters own elapsed m) (all (limit_left counters own elapsed) ms) e in
        let f : (ltb n m.maximum && ltb n full_count) ≡ true = rw q2 at d in
        and_right (ltb n m.maximum) (ltb n full_count) f

module _ (l : Ledger) (km0 : Bytes) (gs : List Group) (q : Request) where
  -- what the code's answer says
  granted_as : (k : ℕ) → Ok k ≡ judged_for (judge l km0 gs q) → (g : Group) × (judge l km0 gs q ≡ granted k g)
  granted_as k e = pick (judge l km0 gs q) refl
    where
      pick : (j : Judgement) → judge l km0 gs q ≡ j → (g : Group) × (j ≡ granted k g)
      pick (granted p g) d = let c : Ok k ≡ Ok p = e ∙ ap judged_for d in let n : p ≡ k = cc in (g, ap (λ (z : ℕ). granted z g) n)
      pick (denied x) d = let c : Ok k ≡ Err (denial_for x) = e ∙ ap judged_for d in absurd (never (cc))

  -- the group that grants has the limits that follow its record
  pub granted_limits : (k : ℕ) → Ok k ≡ judged_for (judge l km0 gs q) → (g : Group) × (judge l km0 gs q ≡ granted k g) × (first_limits (drop k gs) ≡ g.limits) × (grants l km0 q k g ≡ true)
  granted_limits k e =
      let j = granted_as k e in
      let r = lowest_at (grants l km0 q) 0 gs k j.0 (judge_lowest l km0 gs q k j.0 j.1).1 in
      let i : r.0 ≡ k = omega (arith, r.1) in
      (j.0, j.1, rw i at r.2, r.3)

  -- its own count is not full
  count_room : (k : ℕ) (g : Group) → grants l km0 q k g ≡ true → get_or l.counts k 0 < full_count
  count_room k g e =
      let u : unspent l k q g ≡ true = and_right (group_admits km0 q g && certified q g) (unspent l k q g) e in
      let own = get_or l.counts k 0 in
      ltb-true own full_count (and_left (ltb own full_count) (limits_left l.counters own (q.time - l.loaded) g.limits) u)

  charge_able : (k : ℕ) (ms : List Limit) → Every GroupFits gs → Ok k ≡ judged_for (judge l km0 gs q) → ms ≡ first_limits (drop k gs)
      → (get_or l.counts k 0 < full_count) × Chargeable l.counters ms
  charge_able k ms f e m =
      let r = granted_limits k e in
      let g = r.0 in
      let own = get_or l.counts k 0 in
      let u : unspent l k q g ≡ true = and_right (group_admits km0 q g && certified q g) (unspent l k q g) r.3 in
      let x = and_right (ltb own full_count) (limits_left l.counters own (q.time - l.loaded) g.limits) u in (
        count_room k g r.3,
        record { room = rw (m ∙ r.2) (limits_room l.counters own (q.time - l.loaded) g.limits x); apart = rw m (first_apart k gs f) },
      )

-- the same on an ACL without fault
pub grant_able : (l : Ledger) (km0 acl : Bytes) (q : Request) (k : ℕ) (ms : List Limit) → acl_fault (records acl) ≡ none → Ok k ≡ judged_for (judge l km0 (acl_of acl) q)
    → ms ≡ first_limits (drop k (acl_of acl)) → (get_or l.counts k 0 < full_count) × Chargeable l.counters ms
grant_able l km0 acl q k ms f = charge_able l km0 (acl_of acl) q k ms (acl_fits acl f).each

-- A grant is a permit, but where hints do not show a narrowing.
pub grant_not : (shown : Bool) (k : ℕ) → shown ≡ false → refuse not_narrower none ≡ permit_if shown k
unfolding permit_if
grant_not shown k h = sym (rw h)

pub grant_is : (shown : Bool) (k : ℕ) → shown ≡ true → permit k ≡ permit_if shown k
unfolding permit_if
grant_is shown k h = sym (rw h)

permit_place : (b : Bool) (k place : ℕ) → permit_if b k ≡ permit place → k ≡ place
unfolding permit_if
permit_place true k place e = cc
permit_place false k place e = absurd (never (cc))

-- Where the answer permits, the group can be charged.
module _ (l : Ledger) (km0 acl : Bytes) (q : Request) (shown : Bool) (j : Result ℕ Denial) (a : Answer) (sound : acl_fault (records acl) ≡ none)
    (e : j ≡ judged_for (judge l km0 (acl_of acl) q)) (d : a ≡ decided shown j) where
  permit_granted : (place : ℕ) → a ≡ permit place → Ok place ≡ judged_for (judge l km0 (acl_of acl) q)
  permit_granted place p = pick j e (sym d ∙ p)
    where
      pick : (x : Result ℕ Denial) → x ≡ judged_for (judge l km0 (acl_of acl) q) → decided shown x ≡ permit place → Ok place ≡ judged_for (judge l km0 (acl_of acl) q)
      pick (Ok k) f g = ap Ok (sym (permit_place shown k place g)) ∙ f
      pick (Err x) f g = absurd (never (cc))

  pub counters_room : CountersRoom l.counters (acl_of acl) a
  counters_room place p = (grant_able l km0 acl q place _ sound (permit_granted place p) refl).1

  pub count_room_for : CountRoom l.counts a
  count_room_for place p = (grant_able l km0 acl q place _ sound (permit_granted place p) refl).0
