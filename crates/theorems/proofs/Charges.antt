-- What a permit does to the ledger, entry by entry: the replied group's count is 1 more and every other as it was; each counter that a limit of sort
-- 2 of that group names is 1 more and every other as it was; a narrowing's new groups take their sources' counts after that, an expansion zeroes the
-- counts. What a load and a clear do. Two wrong products that this rules out: a gate that counts for group 0 alone, and one that raises a counter
-- for a limit of any sort.
use Prim.Native.Nat.{ℕ, zero, suc, ◌+◌, ◌-◌, ◌≤◌, ◌<◌}
use native.Mathlib.Omega.{arith}
use mathlib.Core.Path.{◌≡◌, refl, ◌∙◌}
use mathlib.Core.List.{List, [], ◌∷◌, ◌++◌, map}
use mathlib.Core.Option.{none, some}
use mathlib.Core.Bool.{Bool, true, false, ◌&&◌}
use lib.ListN.{length, get_or, get_elem?, set, replicate, length-replicate, get_or-eq_default}
use lib.Seq.{get_or-set_same, get_or-set_other}
use lib.Dec.{eqb, ltb}
use borrow.Author.Tests.{eqb-true, eqb-false, ltb-true, ltb-false, lt-ltb}
use Rattle.rules.specs.Sizes.{today, groups_max, counters_max}
use Rattle.std.specs.Prelude.{if◌then◌else◌}
use Rattle.rules.specs.Basics.{Bytes, records}
use Rattle.rules.specs.Acl.{Group, acl_of, acl_fault}
use Rattle.rules.specs.Request.{request_of, Hint, hints_of}
use Rattle.rules.specs.Ledger.{Ledger, raised, raised_by, charge, recounted, carried}
use Rattle.rules.specs.Narrow.{narrows}
use Rattle.rules.specs.Gate.{done, permit, load, clear, request, narrow, expand}
use Rattle.rules.proofs.Laws.{never, and_left, and_right, every_at, any_some, fault_none_every, there_below}
use Rattle.rules.proofs.Few.{narrow_few}
use Rattle.theorems.specs.Demands.{names}
use Rattle.rules.specs.Fits.{LimitFits, GroupFits, Sized}
use Rattle.theorems.specs.Charges.{count_charged, counter_charged, AsCharged, Charged, Carried, Zeroed, Loaded, Cleared}
use Rattle.theorems.proofs.Lists.{zero_at}
use Rattle.theorems.proofs.Permit.{permit_needs, permit_comes, narrow_needs, narrow_comes, expand_needs, expand_comes}
use Rattle.theorems.proofs.Counters.{raised_by_at}
use Rattle.rules.proofs.Ledgers.{raised_by_length, charge_sized}
use Rattle.theorems.proofs.Tables.{carried_sized}
use Rattle.theorems.proofs.Hints.{narrows_shown}
use Rattle.rules.proofs.AclSizes.{acl_fits}

-- what is within a list stands at a place
below_there : {A : Type 0} (xs : List A) (i : ℕ) → i < length xs → (x : A) × (get_elem? xs i ≡ some x)
below_there [] i h = absurd (omega arith)
below_there (y ∷ ys) zero h = (y, refl)
below_there (y ∷ ys) (suc i) h = below_there ys i (omega arith)

-- a counter that a group of such an ACL names is in the table
named_below : (g : Group) (c : ℕ) → GroupFits g → names c g.limits ≡ true → c < counters_max
unfolding names
named_below g c f e =
    let x = any_some LimitFits (λ m. eqb m.sort 2 && eqb m.counter c) g.limits f.each e in
    let m = x.0 in
    let q = eqb-true m.sort 2 (and_left (eqb m.sort 2) (eqb m.counter c) x.2) in
    let d = eqb-true m.counter c (and_right (eqb m.sort 2) (eqb m.counter c) x.2) in
    let n = x.1.named q in
    omega arith

-- A ledger whose tables have their sizes, and a group of an ACL that fits, at its place.
module _ (l : Ledger) (place : ℕ) (g : Group) (time : ℕ) (s : Sized l) (below : place < groups_max) (f : GroupFits g) where
  charge_counts : (i : ℕ) → get_or (charge l place g time).counts i 0 ≡ count_charged l place i
  unfolding charge
  charge_counts i = pick (eqb i place) refl
    where
      pick : (b : Bool) → eqb i place ≡ b → get_or (raised l.counts place l.counts) i 0 ≡ count_charged l place i
      pick true q =
          let e = eqb-true i place q in
          let z = s.groups in
          rw (q, e) (get_or-set_same l.counts place (get_or l.counts place 0 + 1) 0 (omega arith))
      pick false q = rw q (get_or-set_other l.counts place i _ 0 (eqb-false i place q))

  charge_counters : (c : ℕ) → get_or (charge l place g time).counters c 0 ≡ counter_charged l g c
  unfolding charge
  charge_counters c = pick (ltb c counters_max) refl (names c g.limits) refl
    where
      pick : (b : Bool) → ltb c counters_max ≡ b → (t : Bool) → names c g.limits ≡ t → get_or (raised_by l.counters g.limits l.counters) c 0 ≡ counter_charged l g c
      pick true q t e =
          let h = ltb-true c counters_max q in
          let z = s.named in
          raised_by_at l.counters c g.limits l.counters (omega arith)
      pick false q true e = let h = ltb-false c counters_max q in let n = named_below g c f e in absurd (omega arith)
      pick false q false e =
          let h = ltb-false c counters_max q in
          let z = s.named in
          let n = raised_by_length l.counters g.limits l.counters in
          rw (e, get_or-eq_default (raised_by l.counters g.limits l.counters) 0 {n = c} (omega arith), get_or-eq_default l.counters 0 {n = c} (omega arith))

  -- with any counts of the table's size
  charge_as : (counts : List ℕ) → length counts ≡ groups_max → AsCharged l g time (recounted (charge l place g time) counts)
  unfolding charge
  charge_as counts h =
      record {
        counts_length = h;
        counters_length = (charge_sized l place g time s).named;
        counters = charge_counters;
        loaded = refl;
        last = refl;
      }

  charge_charged : Charged l place g time (charge l place g time)
  unfolding charge
  charge_charged = record { as_charged = charge_as (charge l place g time).counts (charge_sized l place g time s).groups; counts = charge_counts }

-- the replied group stands in the table, and fits
module _ (acl : Bytes) (place : ℕ) (g : Group) (e : acl_fault (records acl) ≡ none) (there : get_elem? (acl_of acl) place ≡ some g) where
  place_below : place < groups_max
  place_below = let a = there_below (acl_of acl) place g there in let b = (acl_fits acl e).groups in omega arith

  group_sized : GroupFits g
  group_sized = every_at GroupFits (acl_of acl) place g (acl_fits acl e).each there

-- A request that is permitted, on a ledger whose tables have their sizes: the group at the place that is the reply is charged.
pub request_charges : (l : Ledger) (km0 acl req : Bytes) (place : ℕ) → Sized l → (request l km0 acl req).answer ≡ permit place
    → (g : Group) × (get_elem? (acl_of acl) place ≡ some g) × Charged l place g (request_of req).time (request l km0 acl req).ledger
request_charges l km0 acl req place s e =
    let r = permit_needs l km0 acl req place e in
    let n = fault_none_every _ r.1.files in
    let g = r.0 in
    let t = r.1.lowest_group.there in
    let c = charge_charged l place g (request_of req).time s (place_below acl place g n.1.0 t) (group_sized acl place g n.1.0 t) in
    (g, t, rw (permit_comes l km0 acl req place g r.1) c)

-- The counts that a narrowing carries: at a hint's place its source's, past the last hint zero.
pub carried_at : (counts : List ℕ) (n : ℕ) (hints : List Hint) (i : ℕ) (h : Hint) → get_elem? hints i ≡ some h → get_or (map (λ (x : Hint). get_or counts x.source 0) hints ++ replicate n 0) i 0 ≡ get_or counts h.source 0
carried_at counts n [] i h e = absurd (never (cc))
carried_at counts n (x ∷ xs) zero h e = let q : x ≡ h = cc in rw q
carried_at counts n (x ∷ xs) (suc i) h e = carried_at counts n xs i h e

carried_past : (counts : List ℕ) (n : ℕ) (hints : List Hint) (i : ℕ) → length hints ≤ i → get_or (map (λ (x : Hint). get_or counts x.source 0) hints ++ replicate n 0) i 0 ≡ 0
carried_past counts n [] i h = zero_at n i
carried_past counts n (x ∷ xs) zero h = absurd (omega arith)
carried_past counts n (x ∷ xs) (suc i) h = carried_past counts n xs i (omega arith)

-- A narrowing that is permitted: the group at the place that is the reply is charged, and the new groups carry their sources' counts after that.
pub narrow_charges : (l : Ledger) (km0 acl req new hints : Bytes) (place : ℕ) → Sized l → (narrow l km0 acl req new hints).answer ≡ permit place
    → (g : Group) × (get_elem? (acl_of acl) place ≡ some g) × Carried l place g (request_of req).time (acl_of new) (hints_of hints) (narrow l km0 acl req new hints).ledger
narrow_charges l km0 acl req new hints place s e =
    let r = narrow_needs l km0 acl req new hints place e in
    let n = fault_none_every _ r.1.files in
    let g = r.0 in
    let t = r.1.lowest_group.there in
    let time = (request_of req).time in
    let below = place_below acl place g n.1.0 t in
    let fits = group_sized acl place g n.1.0 t in
    let few = narrow_few km0 acl req new hints r.1.files in
    let counts = (charge l place g time).counts in
    let c : Carried l place g time (acl_of new) (hints_of hints) (recounted (charge l place g time) (carried counts (hints_of hints))) = record {
      as_charged = charge_as l place g time s below fits (carried counts (hints_of hints)) (carried_sized today counts (hints_of hints) few);
      counts = λ i b. from_source g time r.2 below fits i b;
      past = λ i b. carried_past counts (groups_max - length (hints_of hints)) (hints_of hints) i (no_hint r.2 i b);
    } in
    (g, t, rw (narrow_comes l km0 acl req new hints place g r.1 r.2) c)
  where
    no_hint : narrows (acl_of acl) (acl_of new) (hints_of hints) ≡ true → (i : ℕ) → length (acl_of new) ≤ i → length (hints_of hints) ≤ i
    no_hint d i b = let q = (narrows_shown (acl_of acl) (acl_of new) (hints_of hints) d).0 in omega arith

    from_source : (g : Group) (time : ℕ) → narrows (acl_of acl) (acl_of new) (hints_of hints) ≡ true → place < groups_max → GroupFits g → (i : ℕ) → i < length (acl_of new)
        → (h : Hint) × (get_elem? (hints_of hints) i ≡ some h) × (get_or (carried (charge l place g time).counts (hints_of hints)) i 0 ≡ count_charged l place h.source)
    from_source g time d below fits i b =
        let q = (narrows_shown (acl_of acl) (acl_of new) (hints_of hints) d).0 in
        let h = below_there (hints_of hints) i (omega arith) in
        (h.0, h.1, carried_at (charge l place g time).counts (groups_max - length (hints_of hints)) (hints_of hints) i h.0 h.1 ∙ charge_counts l place g time s below fits h.0.source)

-- An expansion that is permitted: the group at the place that is the reply is charged, and then every count is zero.
pub expand_charges : (l : Ledger) (km0 acl req new : Bytes) (place : ℕ) → Sized l → (expand l km0 acl req new).answer ≡ permit place
    → (g : Group) × (get_elem? (acl_of acl) place ≡ some g) × Zeroed l g (request_of req).time (expand l km0 acl req new).ledger
expand_charges l km0 acl req new place s e =
    let r = expand_needs l km0 acl req new place e in
    let n = fault_none_every _ r.1.files in
    let g = r.0 in
    let t = r.1.lowest_group.there in
    let time = (request_of req).time in
    let c : Zeroed l g time (recounted (charge l place g time) (replicate groups_max 0)) = record {
      as_charged = charge_as l place g time s (place_below acl place g n.1.0 t) (group_sized acl place g n.1.0 t) (replicate groups_max 0) (length-replicate {A = ℕ} groups_max 0);
      counts = zero_at groups_max;
    } in
    (g, t, rw (expand_comes l km0 acl req new place g r.1) c)

-- A load is always done.
pub load_loads : (l : Ledger) (time : ℕ) → ((load l time).answer ≡ done) × Loaded l time (load l time).ledger
load_loads l time = (refl, record { counts = zero_at groups_max; counters = refl; loaded = refl; last = refl })

-- A clear of a counter in the table is done.
pub clear_clears : (l : Ledger) (counter : ℕ) → Sized l → counter < counters_max → ((clear l counter).answer ≡ done) × Cleared l counter (clear l counter).ledger
unfolding clear
clear_clears l counter s h =
    rw (lt-ltb counter counters_max h)
    (refl, record { counts = refl; counters = λ c. at c (eqb c counter) refl; loaded = refl; last = refl })
  where
    at : (c : ℕ) (b : Bool) → eqb c counter ≡ b → get_or (set l.counters counter 0) c 0 ≡ (if eqb c counter then 0 else get_or l.counters c 0)
    at c true q =
        let e = eqb-true c counter q in
        let z = s.named in
        rw (q, e) (get_or-set_same l.counters counter 0 0 (omega arith))
    at c false q = rw q (get_or-set_other l.counters counter c 0 0 (eqb-false c counter q))
