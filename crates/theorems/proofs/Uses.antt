-- Request m: narrowing never buys uses. From a load, with no expansion, every permit can be put down to a group of the first ACL. Two wrong products
-- that this rules out: one whose narrowing starts the counts of the new groups at zero, and one that lets two new groups share a source.
use Prim.Native.Nat.{ℕ, zero, suc, ◌+◌, ◌-◌, ◌≤◌, ◌<◌}
use native.Mathlib.Omega.{arith}
use mathlib.Core.Path.{◌≡◌, refl, sym, ◌∙◌, ap}
use mathlib.Core.Logic.{◌≢◌}
use mathlib.Core.List.{List, [], ◌∷◌, map}
use mathlib.Core.Option.{Option, none, some}
use mathlib.Core.Bool.{Bool, true, false, false≢true}
use lib.ListN.{length, get_or, get_elem?, set, length-set, length-replicate, get_or-eq_default}
use lib.Seq.{get_or-set_same, get_or-set_other}
use lib.Dec.{eqb, ltb}
use borrow.Author.Tests.{eqb-true, eqb-false, leb-true, ltb-true, ltb-false, lt-ltb}
use Rattle.rules.specs.Sizes.{today, groups_max, counters_max, full_count}
use Rattle.rules.specs.Basics.{Bytes, Every}
use Rattle.rules.specs.Acl.{Limit, Group, acl_of}
use Rattle.rules.specs.Request.{Request, Hint, hints_of}
use Rattle.rules.specs.Ledger.{Ledger, raised_by, charge, loaded_at, cleared, recounted, carried}
use Rattle.rules.specs.Grant.{group_admits, certified, limits_left}
use Rattle.rules.specs.Narrow.{group_narrows, narrows_source, narrows_from, narrows}
use Rattle.rules.specs.Gate.{Outcome, permit, load, grants, permitted, clear}
use Rattle.theorems.specs.Demands.{Call, State, outcome, replacement, in_force, after, EveryPermit, names}
use Rattle.theorems.specs.Account.{request_asked, km0_given, PutDownTo, PutDown, AllPutDown, is_expansion}
use Rattle.rules.proofs.Laws.{never, and_left, and_right, and_both, every_map, there_below}
use Rattle.theorems.proofs.Lists.{zero_at, every_all}
use Rattle.theorems.specs.Safety.{KnownUse}
use Rattle.rules.proofs.AclSizes.{acl_fits}
use Rattle.theorems.proofs.Hints.{limit_self}
use Rattle.theorems.proofs.Calls.{Way, uses, reduces, expands, Permits, Comes, refuses, loads, zeroes, permits, comes}
use Rattle.theorems.proofs.Counters.{reading, raised_by_at}
use Rattle.rules.proofs.Ledgers.{raised_by_length}
use Rattle.theorems.proofs.Tables.{carried_sized}
use Rattle.theorems.proofs.Charges.{carried_at}
use Rattle.theorems.proofs.Narrowing.{all_every, limit_left_lem, admits_source, certified_source, left_source, names_source}

ruleset conj = (and_left, and_right, and_both)

-- A group covers another: what the first grants, the second grants under an account that counts no more.
record Covers (g f : Group) : Type 0 where
  admitted : (km0 : Bytes) (q : Request) → KnownUse q.wanted → group_admits km0 q g ≡ true → group_admits km0 q f ≡ true
  certifies : (q : Request) → certified q g ≡ true → certified q f ≡ true
  leaves : (ledger account : List ℕ) (own own' elapsed : ℕ) → own' ≤ own → ((c : ℕ) → get_or account c 0 ≤ get_or ledger c 0) → limits_left ledger own elapsed g.limits ≡ true → limits_left account own' elapsed f.limits ≡ true
  naming : (c : ℕ) → names c f.limits ≡ true → names c g.limits ≡ true

covers_self : (g : Group) → Covers g g
covers_self g =
    record {
      admitted = λ km0 q k e. e;
      certifies = λ q e. e;
      leaves = λ l a own own' elapsed fewer lower e.
          every_all _ g.limits (every_map _ _ g.limits (λ m f. limit_left_lem l a own own' elapsed fewer lower m m (limit_self m) f) (all_every _ g.limits e));
      naming = λ c e. e;
    }

covers_narrow : (n : Group) (hints : List ℕ) (o f : Group) → group_narrows n hints o ≡ true → Covers o f → Covers n f
covers_narrow n hints o f e c =
    record {
      admitted = λ km0 q k d. c.admitted km0 q k (admits_source n hints o e km0 q k d);
      certifies = λ q d. c.certifies q (certified_source n hints o e q d);
      leaves = λ l a own own' elapsed fewer lower d.
          c.leaves l a own own' elapsed fewer lower (left_source n hints o e l l own own elapsed (omega arith) (λ c. omega arith) d);
      naming = λ i d. names_source n hints o e i (c.naming i d);
    }

-- The account follows the ledger: `os` gives, for each group of the ACL in force, its group of the first ACL.
record Follows (first : List Group) (a l : Ledger) (gs : List Group) (os : List ℕ) : Type 0 where
  load_time : a.loaded ≡ l.loaded
  counter_size : length a.counters ≡ length l.counters
  count_size : length l.counts ≡ groups_max
  lower : (c : ℕ) → get_or a.counters c 0 ≤ get_or l.counters c 0
  rising : (i j x y : ℕ) → i < j → get_elem? os i ≡ some x → get_elem? os j ≡ some y → x < y
  origin : (k : ℕ) (g : Group) → get_elem? gs k ≡ some g → (o : ℕ) × (f : Group) × (get_elem? os k ≡ some o) × (get_elem? first o ≡ some f) × Covers g f × (get_or a.counts o 0 ≤ get_or l.counts k 0)

-- a permit of the ledger is one of the account
grants_first : (first : List Group) (a l : Ledger) (km0 : Bytes) (q : Request) (k o : ℕ) (g f : Group) → a.loaded ≡ l.loaded → ((c : ℕ) → get_or a.counters c 0 ≤ get_or l.counters c 0) → Covers g f → get_or a.counts o 0 ≤ get_or l.counts k 0 → KnownUse q.wanted → grants l km0 q k g ≡ true → grants a km0 q o f ≡ true
grants_first first a l km0 q k o g f timed lower c fewer known e =
    let x = c.admitted km0 q known (search conj) in
    let y = c.certifies q (search conj) in
    let u = ltb-true (get_or l.counts k 0) full_count (search conj) in
    let v : ltb (get_or a.counts o 0) full_count ≡ true = lt-ltb (get_or a.counts o 0) full_count (omega arith) in
    let w : limits_left a.counters (get_or a.counts o 0) (q.time - a.loaded) f.limits ≡ true =
    rw timed (c.leaves l.counters a.counters (get_or l.counts k 0) (get_or a.counts o 0) (q.time - l.loaded) fewer lower (search conj)) in
    and_both _ _ (and_both _ _ x y) (and_both _ _ v w)

-- Tables.
set_at_most : (xs : List ℕ) (i v : ℕ) → get_or (set xs i v) i 0 ≤ v
set_at_most [] i v = omega arith
set_at_most (x ∷ xs) zero v = omega arith
set_at_most (x ∷ xs) (suc i) v = set_at_most xs i v

raised_lower : (a l : List ℕ) (ms ns : List Limit) → length a ≡ length l → ((c : ℕ) → get_or a c 0 ≤ get_or l c 0) → ((c : ℕ) → names c ms ≡ true → names c ns ≡ true) → (c : ℕ) → get_or (raised_by a ms a) c 0 ≤ get_or (raised_by l ns l) c 0
raised_lower a l ms ns p lower f c = pick (ltb c (length a)) refl
  where
    compare : (t u : Bool) (x y : ℕ) → x ≤ y → (t ≡ true → u ≡ true) → reading t x x ≤ reading u y y
    compare true true x y h g = omega arith
    compare true false x y h g = absurd (false≢true (g refl))
    compare false true x y h g = omega arith
    compare false false x y h g = h

    pick : (b : Bool) → ltb c (length a) ≡ b → get_or (raised_by a ms a) c 0 ≤ get_or (raised_by l ns l) c 0
    pick true e =
        let h = ltb-true c (length a) e in
        rw (raised_by_at a c ms a (omega arith), raised_by_at l c ns l (omega arith))
        (compare (names c ms) (names c ns) (get_or a c 0) (get_or l c 0) (lower c) (f c))
    pick false e =
        let h = ltb-false c (length a) e in
        let z = raised_by_length a ms a in
        rw (get_or-eq_default (raised_by a ms a) 0 {n = c} (omega arith)) (omega arith)

-- A permit keeps the account following.
charged_follows : (first : List Group) (a l : Ledger) (gs : List Group) (os : List ℕ) (k o : ℕ) (g f : Group) (t : ℕ) → Follows first a l gs os → k < groups_max → get_elem? os k ≡ some o → Covers g f → get_or a.counts o 0 ≤ get_or l.counts k 0 → Follows first (charge a o f t) (charge l k g t) gs os
unfolding charge
charged_follows first a l gs os k o g f t h below here c fewer =
    record {
      load_time = h.load_time;
      counter_size = raised_by_length a.counters f.limits a.counters ∙ h.counter_size ∙ sym (raised_by_length l.counters g.limits l.counters);
      count_size = length-set l.counts k _ ∙ h.count_size;
      lower = raised_lower a.counters l.counters f.limits g.limits h.counter_size h.lower c.naming;
      rising = h.rising;
      origin = λ j x e. let r = h.origin j x e in (r.0, r.1, r.2, r.3, r.4, counts j r.0 r.2 r.5 (eqb j k) refl);
    }
  where
    apart : (j p : ℕ) → get_elem? os j ≡ some p → j ≢ k → p ≢ o
    apart j p e n q = pick (ltb j k) refl
      where
        pick : (b : Bool) → ltb j k ≡ b → ⊥
        pick true d = let r = h.rising j k p o (ltb-true j k d) e here in omega arith
        pick false d = let m = ltb-false j k d in let r = h.rising k j o p (omega arith) here e in omega arith

    counts : (j p : ℕ) → get_elem? os j ≡ some p → get_or a.counts p 0 ≤ get_or l.counts j 0 → (b : Bool) → eqb j k ≡ b → get_or (set a.counts o (get_or a.counts o 0 + 1)) p 0 ≤ get_or (set l.counts k (get_or l.counts k 0 + 1)) j 0
    counts j p e m true d =
        let q = eqb-true j k d in
        let e' : get_elem? os k ≡ some p = rw q at e in
        let w : p ≡ o = cc in
        let x = set_at_most a.counts o (get_or a.counts o 0 + 1) in
        let z = h.count_size in
        rw (q, w, get_or-set_same l.counts k (get_or l.counts k 0 + 1) 0 (omega arith)) (omega arith)
    counts j p e m false d =
        let n : j ≢ k = eqb-false j k d in
        rw (get_or-set_other a.counts o p (get_or a.counts o 0 + 1) 0 (apart j p e n), get_or-set_other l.counts k j (get_or l.counts k 0 + 1) 0 n) m

-- Narrowing: each new group has a hint, whose source it narrows; sources rise.
narrows_at : (old : List Group) (low : ℕ) (ns : List Group) (hs : List Hint) (k : ℕ) (n : Group) → narrows_from old low ns hs ≡ true → get_elem? ns k ≡ some n
    → (h : Hint) × (g : Group) × (get_elem? hs k ≡ some h) × (get_elem? old h.source ≡ some g) × (group_narrows n h.actions g ≡ true)
unfolding narrows_from
narrows_at old low [] hs k n e d = absurd (never (cc))
narrows_at old low (x ∷ xs) [] k n e d = absurd (false≢true e)
narrows_at old low (x ∷ xs) (i ∷ is) zero n e d = named (get_elem? old i.source) refl (search conj)
  where
    named : (o : Option Group) → get_elem? old i.source ≡ o → narrows_source x i.actions o ≡ true → (h : Hint) × (g : Group) × (get_elem? (i ∷ is) 0 ≡ some h) × (get_elem? old h.source ≡ some g) × (group_narrows n h.actions g ≡ true)
    named none q f = absurd (false≢true f)
    named (some o) q f = let b : x ≡ n = cc in (i, o, refl, q, rw (← b) f)
narrows_at old low (x ∷ xs) (i ∷ is) (suc k) n e d = narrows_at old (suc i.source) xs is k n (search conj) d

hint_at : (old : List Group) (low : ℕ) (ns : List Group) (hs : List Hint) (k : ℕ) (h : Hint) → narrows_from old low ns hs ≡ true → get_elem? hs k ≡ some h
    → (g : Group) × (get_elem? old h.source ≡ some g) × (low ≤ h.source)
unfolding narrows_from
hint_at old low [] [] k h e d = absurd (never (cc))
hint_at old low [] (i ∷ is) k h e d = absurd (false≢true e)
hint_at old low (x ∷ xs) [] k h e d = absurd (never (cc))
hint_at old low (x ∷ xs) (i ∷ is) zero h e d = named (get_elem? old i.source) refl (search conj)
  where
    named : (o : Option Group) → get_elem? old i.source ≡ o → narrows_source x i.actions o ≡ true → (g : Group) × (get_elem? old h.source ≡ some g) × (low ≤ h.source)
    named none q f = absurd (false≢true f)
    named (some o) q f = let b : i ≡ h = cc in (o, rw (← b) q, rw (← b) (leb-true low i.source (search conj)))
hint_at old low (x ∷ xs) (i ∷ is) (suc k) h e d =
    let r = hint_at old (suc i.source) xs is k h (search conj) d in
    let m = leb-true low i.source (search conj) in
    (r.0, r.1, omega arith)

sources_rise : (old : List Group) (low : ℕ) (ns : List Group) (hs : List Hint) (i j : ℕ) (x y : Hint) → narrows_from old low ns hs ≡ true → i < j → get_elem? hs i ≡ some x → get_elem? hs j ≡ some y → x.source < y.source
unfolding narrows_from
sources_rise old low [] [] i j x y e l p q = absurd (never (cc))
sources_rise old low [] (h ∷ hs) i j x y e l p q = absurd (false≢true e)
sources_rise old low (n ∷ ns) [] i j x y e l p q = absurd (false≢true e)
sources_rise old low (n ∷ ns) (h ∷ hs) zero zero x y e l p q = absurd (omega arith)
sources_rise old low (n ∷ ns) (h ∷ hs) zero (suc j) x y e l p q =
    let b : h ≡ x = cc in
    let r = hint_at old (suc h.source) ns hs j y (search conj) q in
    rw (← b) r.2
sources_rise old low (n ∷ ns) (h ∷ hs) (suc i) zero x y e l p q = absurd (omega arith)
sources_rise old low (n ∷ ns) (h ∷ hs) (suc i) (suc j) x y e l p q = sources_rise old (suc h.source) ns hs i j x y (search conj) (omega arith) p q

-- an element of a mapped list, and what a list reads where an element stands
mapped_at : {A B : Type 0} (f : A → B) (xs : List A) (i : ℕ) (y : B) → get_elem? (map f xs) i ≡ some y → (x : A) × (get_elem? xs i ≡ some x) × (f x ≡ y)
mapped_at f [] i y e = absurd (never (cc))
mapped_at f (x ∷ xs) zero y e = (x, refl, cc)
mapped_at f (x ∷ xs) (suc i) y e = mapped_at f xs i y e

map_at : {A B : Type 0} (f : A → B) (xs : List A) (i : ℕ) (x : A) → get_elem? xs i ≡ some x → get_elem? (map f xs) i ≡ some (f x)
map_at f [] i x e = absurd (never (cc))
map_at f (y ∷ ys) zero x e = let b : y ≡ x = cc in rw b
map_at f (y ∷ ys) (suc i) x e = map_at f ys i x e

get_d_there : (xs : List ℕ) (i x : ℕ) → get_elem? xs i ≡ some x → get_or xs i 0 ≡ x
get_d_there [] i x e = absurd (never (cc))
get_d_there (y ∷ ys) zero x e = cc
get_d_there (y ∷ ys) (suc i) x e = get_d_there ys i x e

narrowed_follows : (first : List Group) (a l : Ledger) (gs : List Group) (os : List ℕ) (ns : List Group) (hs : List Hint) → Follows first a l gs os → narrows gs ns hs ≡ true → length hs ≤ groups_max → Follows first a (recounted l (carried l.counts hs)) ns (map (λ h. get_or os h.source 0) hs)
narrowed_follows first a l gs os ns hs f e b =
    record {
      load_time = f.load_time;
      counter_size = f.counter_size;
      count_size = carried_sized today l.counts hs b;
      lower = f.lower;
      rising = rises;
      origin = λ k n d. narrowed_origin k n (narrows_at gs 0 ns hs k n e d);
    }
  where
    -- the origin of a hint's source
    from : (k : ℕ) (h : Hint) → get_elem? hs k ≡ some h → (x : ℕ) × (get_elem? os h.source ≡ some x)
    from k h d =
        let r = hint_at gs 0 ns hs k h e d in
        let o = f.origin h.source r.0 r.1 in
        (o.0, o.2)

    rises : (i j x y : ℕ) → i < j → get_elem? (map (λ h. get_or os h.source 0) hs) i ≡ some x → get_elem? (map (λ h. get_or os h.source 0) hs) j ≡ some y → x < y
    rises i j x y l p q =
        let u = mapped_at (λ h. get_or os h.source 0) hs i x p in
        let v = mapped_at (λ h. get_or os h.source 0) hs j y q in
        let s = from i u.0 u.1 in
        let t = from j v.0 v.1 in
        let m = sources_rise gs 0 ns hs i j u.0 v.0 e l u.1 v.1 in
        let w = f.rising u.0.source v.0.source s.0 t.0 m s.1 t.1 in
        let c = get_d_there os u.0.source s.0 s.1 in
        let d = get_d_there os v.0.source t.0 t.1 in
        omega (arith, u.2, v.2)

    narrowed_origin : (k : ℕ) (n : Group) → (h : Hint) × (g : Group) × (get_elem? hs k ≡ some h) × (get_elem? gs h.source ≡ some g) × (group_narrows n h.actions g ≡ true)
        → (o : ℕ) × (x : Group) × (get_elem? (map (λ h. get_or os h.source 0) hs) k ≡ some o) × (get_elem? first o ≡ some x) × Covers n x × (get_or a.counts o 0 ≤ get_or (carried l.counts hs) k 0)
    narrowed_origin k n r =
        let o = f.origin r.0.source r.1 r.3 in
        let w = map_at (λ h. get_or os h.source 0) hs k r.0 r.2 in
        let c = get_d_there os r.0.source o.0 o.2 in
        let z = carried_at l.counts (groups_max - length hs) hs k r.0 r.2 in
        (o.0, o.1, w ∙ ap some c, o.3, covers_narrow n r.0.actions r.1 o.1 r.4 o.4, rw z o.5)

-- a clear and a load keep it following, too
clear_follows : (first : List Group) (a l : Ledger) (gs : List Group) (os : List ℕ) (c : ℕ) → Follows first a l gs os → Follows first (cleared a c) (cleared l c) gs os
clear_follows first a l gs os c f =
    record {
      load_time = f.load_time;
      counter_size = length-set a.counters c 0 ∙ f.counter_size ∙ sym (length-set l.counters c 0);
      count_size = f.count_size;
      lower = λ i. both i (eqb i c) refl;
      rising = f.rising;
      origin = f.origin;
    }
  where
    both : (i : ℕ) (b : Bool) → eqb i c ≡ b → get_or (set a.counters c 0) i 0 ≤ get_or (set l.counters c 0) i 0
    both i true e = let x = set_at_most a.counters c 0 in rw (eqb-true i c e) (omega arith)
    both i false e =
        let n : i ≢ c = eqb-false i c e in
        rw (get_or-set_other a.counters c i 0 0 n, get_or-set_other l.counters c i 0 0 n) (f.lower i)

load_follows : (first : List Group) (a l : Ledger) (gs : List Group) (os : List ℕ) (t : ℕ) → Follows first a l gs os → Follows first (loaded_at a t) (loaded_at l t) gs os
load_follows first a l gs os t f =
    record {
      load_time = refl;
      counter_size = f.counter_size;
      count_size = length-replicate {A = ℕ} groups_max 0;
      lower = f.lower;
      rising = f.rising;
      origin = λ k g e. let r = f.origin k g e in (r.0, r.1, r.2, r.3, r.4, rw (zero_at groups_max r.0) (omega arith));
    }

clear_done : (l : Ledger) (c : ℕ) → ltb c counters_max ≡ true → (clear l c).ledger ≡ cleared l c
unfolding clear
clear_done l c e = rw e

module _ (first : List Group) where
  -- One call, given what comes after it: `go` has what is to hold of the account then.
  module _ (a : Ledger) (s : State) (os : List ℕ) (f : Follows first a s.ledger (acl_of s.acl) os) (next : Ledger → Type 0) where
    -- what is to hold after a call, if the account still follows
    abbrev Goes : Call → Outcome → Type 0
    Goes c o = (b : Ledger) (ps : List ℕ) → Follows first b o.ledger (acl_of (in_force s.acl (replacement s.acl c) o.answer)) ps → next b

    -- a permit of the group at a place is put down to its origin, and the account goes on following
    put_permit : (c : Call) (k : ℕ) (g : Group) (counts : List ℕ) → Permits s c k g counts
        → ((b : Ledger) → Follows first b (charge s.ledger k g (request_asked c).time) (acl_of s.acl) os → next b)
        → PutDownTo first a (km0_given c) (request_asked c) next
    put_permit c k g counts p go =
        let q = request_asked c in
        let o = f.origin k g p.there in
        let b = (acl_fits s.acl p.sound.file).groups in
        let m = there_below (acl_of s.acl) k g p.there in (
          o.0,
          o.1,
          o.3,
          grants_first first a s.ledger (km0_given c) q k o.0 g o.1 f.load_time f.lower o.4 o.5 p.sound.known p.granting,
          go _ (charged_follows first a s.ledger (acl_of s.acl) os k o.0 g o.1 q.time f (omega arith) o.2 o.4 o.5),
        )

    -- the account with the group counts that the call leaves
    put_way : (c : Call) (k : ℕ) (g : Group) (counts : List ℕ) → Way s.acl (charge s.ledger k g (request_asked c).time).counts c counts → Permits s c k g counts → is_expansion c ≡ false
        → Goes c (permitted k (recounted (charge s.ledger k g (request_asked c).time) counts))
        → PutDownTo first a (km0_given c) (request_asked c) next
    put_way c k g counts (uses km0 req) p d go = put_permit c k g counts p (λ b h. go b os h)
    put_way c k g counts (reduces km0 req new hints t few) p d go =
        put_permit c k g counts p (λ b h. go b _ (narrowed_follows first b _ (acl_of s.acl) os (acl_of new) (hints_of hints) h t few))
    put_way c k g counts (expands km0 req new u) p d go = absurd (false≢true (sym d))

    put_call : (c : Call) (o : Outcome) → Comes s c o → ((k : ℕ) → o.answer ≡ permit k → is_expansion c ≡ false) → Goes c o → PutDown first a c next o.answer
    put_call c o (refuses n near z) d go = go a os f
    put_call c o (loads t) d go = go _ os (load_follows first a s.ledger (acl_of s.acl) os t f)
    put_call c o (zeroes n e) d go = rw (clear_done a n e) (go _ os (clear_follows first a s.ledger (acl_of s.acl) os n f))
    put_call c o (permits k g counts z p) d go = put_way c k g counts p.sound.way p (d k refl) go

  put_down : (a : Ledger) (s : State) (os : List ℕ) (cs : List Call) → Follows first a s.ledger (acl_of s.acl) os → EveryPermit (λ s c. is_expansion c ≡ false) s cs → AllPutDown first a s cs
  unfolding after
  put_down a s os [] f d = tt
  put_down a s os (c ∷ cs) f d =
      put_call a s os f (λ b. AllPutDown first b (after s c) cs) c (outcome s c) (comes s c) d.0 (λ b ps g. put_down b (after s c) ps cs g d.1)

-- the places of a list, each its own origin
up_to : ℕ → ℕ → List ℕ
up_to from zero = []
up_to from (suc n) = from ∷ up_to (suc from) n

up_to_at : (from n i : ℕ) → i < n → get_elem? (up_to from n) i ≡ some (from + i)
unfolding up_to
up_to_at from zero i h = absurd (omega arith)
up_to_at from (suc n) zero h = ap some (omega arith)
up_to_at from (suc n) (suc i) h = up_to_at (suc from) n i (omega arith) ∙ ap some (omega arith)

up_to_below : (from n i x : ℕ) → get_elem? (up_to from n) i ≡ some x → (i < n) × (x ≡ from + i)
unfolding up_to
up_to_below from zero i x e = absurd (never (cc))
up_to_below from (suc n) zero x e = let b : from ≡ x = cc in (omega arith, omega arith)
up_to_below from (suc n) (suc i) x e = let r = up_to_below (suc from) n i x e in (omega arith, omega arith)

-- Request m. From a load, make any calls, refused ones too, of which no expansion is permitted; each gets the ledger last handed back and the ACL in
-- force. Each permit can be put down to a group of the first ACL that admits it, is certified by what was presented, and is unspent under an account
-- that starts from the readings at that load, obeys the same clears and reloads, and counts only these permits.
pub narrowing_never_buys_uses : (ledger : Ledger) (time : ℕ) (acl : Bytes) (calls : List Call)
    → let start : State = record { ledger = (load ledger time).ledger; acl = acl } in
    EveryPermit (λ s c. is_expansion c ≡ false) start calls → AllPutDown (acl_of acl) (load ledger time).ledger start calls
narrowing_never_buys_uses ledger time acl calls d =
    put_down (acl_of acl) (loaded_at ledger time) (record { ledger = loaded_at ledger time; acl = acl }) (up_to 0 (length (acl_of acl))) calls start d
  where
    start : Follows (acl_of acl) (loaded_at ledger time) (loaded_at ledger time) (acl_of acl) (up_to 0 (length (acl_of acl)))
    start =
        record {
          load_time = refl;
          counter_size = refl;
          count_size = length-replicate {A = ℕ} groups_max 0;
          lower = λ c. omega arith;
          rising = λ i j x y h p q. let r = up_to_below 0 _ i x p in let s = up_to_below 0 _ j y q in omega arith;
          origin = λ k g e.
              (k, g, up_to_at 0 (length (acl_of acl)) k (there_below (acl_of acl) k g e) ∙ ap some (omega arith), e, covers_self g, omega arith);
        }

-- So it is for any requests, clears, reloads and narrowings.
pub no_expansion : (s : State) (calls : List Call) → Every (λ c. is_expansion c ≡ false) calls → EveryPermit (λ s c. is_expansion c ≡ false) s calls
no_expansion s [] h = tt
no_expansion s (c ∷ cs) h = (λ k e. h.0, no_expansion (after s c) cs h.1)
