-- "Files accepted before must be read unchanged.": a gate with larger tables answers a call whose files were accepted before as the smaller one did, on the ledger
-- carried over, and returns the smaller one's ledger carried over. Two wrong products that this rules out: one
-- whose larger tables shift the counters, and one whose narrowing carries counts over from past the old table.
use Prim.Native.Nat.{ℕ, zero, suc, ◌+◌, ◌-◌, ◌≤◌, ◌<◌}
use native.Mathlib.Omega.{arith}
use mathlib.Core.Path.{◌≡◌, refl, sym, ◌∙◌, ap, ap₂}
use mathlib.Core.List.{List, [], ◌∷◌, ◌++◌, map, append_assoc}
use mathlib.Core.Option.{Option, none, some}
use mathlib.Core.Bool.{Bool, true, false, ◌&&◌}
use lib.ListN.{length, get_or, set, replicate, length-set}
use lib.Dec.{eqb, ltb}
use borrow.Author.Tests.{eqb-true, ltb-true, lt-ltb}
use Rattle.rules.specs.Sizes.{Capacity, today, acl_records_under}
use Rattle.rules.specs.Numbers.{bad_length, malformed, too_many}
use Rattle.std.specs.Prelude.{if◌then◌else◌}
use Rattle.rules.specs.Basics.{Bytes, all, Every, byte, kind, scan, records, fits, file_fault}
use Rattle.rules.specs.Layout.{counter_under, limit_under}
use Rattle.rules.specs.Acl.{Limit, limit_of, limits_of, Group, groups_of, acl_of, AclState, acl_start, blobfile_record, placed_under, in_place_under, has_room_under, after_record, record_fault_under, acl_end, acl_fault_under, acl_file_fault_under}
use Rattle.rules.specs.Request.{Request, request_of, Hint, hints_of}
use Rattle.rules.specs.Ledger.{Ledger, raised, raised_by, charge}
use Rattle.rules.specs.Grant.{group_admits, limit_left, limits_left}
use Rattle.rules.specs.Narrow.{narrows}
use Rattle.rules.specs.Gate.{Outcome, Lowest, group, lowest, early, Judgement, granted, denied, too_early, admits_certified, grants, or_else, judge, permitted, finished, outcome_unless, settle}
use Rattle.rules.proofs.Laws.{and_left, and_right, and_both, every_at, unless_passed, or_next_first, or_next_next, fault_none_every, there_below}
use Rattle.rules.proofs.Places.{same_count}
use Rattle.rules.proofs.Judging.{ungranted}
use Rattle.theorems.specs.Demands.{Call, requesting, loading, clearing, narrowing, expanding, State, outcome, replacement, in_force, after, after_all, replies}
use Rattle.theorems.specs.Capacity.{base, NoSmaller, SizedUnder, CounterWithin, AclFitsUnder, request_files_under, narrow_files_under, expand_files_under, carried_under, narrowed_under, expanded_under, outcome_under, carried_over, state_carried_over, outcome_carried_over, AcceptedUnder, after_under, after_all_under, replies_under, AllAcceptedUnder}
use Rattle.theorems.proofs.Larger.{today_outcome, hints_few, fits_more, reader_grows, base_smaller}
use Rattle.theorems.proofs.Tables.{sized_under}
use Rattle.theorems.proofs.Permit.{granted_is}

ruleset conj = (and_left, and_right, and_both)

-- Tables with zeros behind them: every place reads as before.
reads_same : (xs : List ℕ) (n i : ℕ) → get_or (xs ++ replicate n 0) i 0 ≡ get_or xs i 0
reads_same [] zero i = refl
reads_same [] (suc n) zero = refl
reads_same [] (suc n) (suc i) = reads_same [] n i
reads_same (x ∷ xs) n zero = refl
reads_same (x ∷ xs) n (suc i) = reads_same xs n i

-- a place of the table is set as before
sets_same : (xs ys : List ℕ) (i v : ℕ) → i < length xs → set (xs ++ ys) i v ≡ set xs i v ++ ys
sets_same [] ys i v h = absurd (omega arith)
sets_same (x ∷ xs) ys zero v h = refl
sets_same (x ∷ xs) ys (suc i) v h = ap (λ (zs : List ℕ). x ∷ zs) (sets_same xs ys i v (omega arith))

zeros_append : (m n : ℕ) → ◌≡◌ {A = List ℕ} (replicate m 0 ++ replicate n 0) (replicate (m + n) 0)
zeros_append zero n = let e : n ≡ 0 + n = omega arith in ap (λ (j : ℕ). replicate j 0) e
zeros_append (suc m) n =
    let e : suc (m + n) ≡ suc m + n = omega arith in
    ap (λ (zs : List ℕ). 0 ∷ zs) (zeros_append m n) ∙ ap (λ (j : ℕ). replicate j 0) e

-- The judgement reads nothing but times and places of the tables.
record ReadsAlike (l m : Ledger) : Type 0 where
  counts : (i : ℕ) → get_or l.counts i 0 ≡ get_or m.counts i 0
  counters : (i : ℕ) → get_or l.counters i 0 ≡ get_or m.counters i 0
  loaded : l.loaded ≡ m.loaded
  last : l.last ≡ m.last

limit_alike : (a b : List ℕ) → ((i : ℕ) → get_or a i 0 ≡ get_or b i 0) → (own elapsed : ℕ) (m : Limit) → limit_left a own elapsed m ≡ limit_left b own elapsed m
unfolding limit_left
limit_alike a b h own elapsed m = rw (h m.counter)

limits_alike : (a b : List ℕ) → ((i : ℕ) → get_or a i 0 ≡ get_or b i 0) → (own elapsed : ℕ) (ms : List Limit) → limits_left a own elapsed ms ≡ limits_left b own elapsed ms
unfolding all
limits_alike a b h own elapsed [] = refl
limits_alike a b h own elapsed (m ∷ ms) = ap₂ ◌&&◌ (limit_alike a b h own elapsed m) (limits_alike a b h own elapsed ms)

module _ (l m : Ledger) (h : ReadsAlike l m) (km0 : Bytes) (q : Request) where
  grants_alike : (place : ℕ) (g : Group) → grants l km0 q place g ≡ grants m km0 q place g
  grants_alike place g =
      rw (h.counts place, h.loaded, limits_alike l.counters m.counters h.counters (get_or m.counts place 0) (q.time - m.loaded) g.limits)

  lowest_alike : (place : ℕ) (gs : List Group) → lowest (grants l km0 q) place gs ≡ lowest (grants m km0 q) place gs
  unfolding lowest
  lowest_alike place [] = refl
  lowest_alike place (g ∷ gs) = ap₂ (λ (u : Bool) (r : Lowest). if u then group place g else r) (grants_alike place g) (lowest_alike (suc place) gs)

  judge_alike : (gs : List Group) → judge l km0 gs q ≡ judge m km0 gs q
  unfolding judge
  judge_alike gs =
      ap₂ (λ (t : Bool) (r : Lowest). if t then denied early else or_else r granted (ungranted (lowest (λ place. admits_certified km0 q) 0 gs) (lowest (λ place. group_admits km0 q) 0 gs)))
      (ap₂ (λ (a b : ℕ). too_early (record { counts = []; counters = []; loaded = a; last = b }) q) h.loaded h.last) (lowest_alike 0 gs)

-- An ACL that is read without fault under some sizes fits them. A record in its place, for which there is room:
good_record : (z : Capacity) (s : AclState) (r : Bytes) → record_fault_under z s r ≡ none → (in_place_under z s r ≡ true) × (has_room_under z s r ≡ true)
unfolding record_fault_under
good_record z s r e =
    let w = fault_none_every _ e in
    (unless_passed (in_place_under z s r) malformed w.0, unless_passed (has_room_under z s r) too_many w.1.0)

-- a limit record is well laid out
abbrev LimitGood : Capacity → Bytes → Type 0
LimitGood z r = eqb (kind r) 2 ≡ true → limit_under z r ≡ true

limit_good : (z : Capacity) (s : AclState) (r : Bytes) → in_place_under z s r ≡ true → LimitGood z r
unfolding in_place_under placed_under blobfile_record
limit_good z s r e k = pick s.file_due e (eqb-true (kind r) 2 k)
  where
    pick : (b : Bool) → (if b then blobfile_record r else placed_under z s r) ≡ true → kind r ≡ 2 → limit_under z r ≡ true
    pick true e q = let t = eqb-true (kind r) 15 (search conj) in absurd (omega arith)
    pick false e q = and_left (limit_under z r) _ (rw q at e)

limits_good : (z : Capacity) (s : AclState) (rs : List Bytes) → scan (record_fault_under z) after_record acl_end s rs ≡ none → Every (LimitGood z) rs
unfolding scan
limits_good z s [] e = tt
limits_good z s (r ∷ rs) e =
    (limit_good z s r (good_record z s r (or_next_first (record_fault_under z s r) _ e)).0, limits_good z (after_record s r) rs (or_next_next (record_fault_under z s r) _ e))

limit_within : (z : Capacity) (r : Bytes) → limit_under z r ≡ true → CounterWithin z (limit_of r)
unfolding limit_under counter_under
limit_within z r e q = let d : counter_under z (byte 4 r) (byte 5 r) ≡ true = search conj in ltb-true (byte 5 r) z.counters (rw q at d)

limits_within : (z : Capacity) (rs : List Bytes) → Every (LimitGood z) rs → Every (CounterWithin z) (limits_of rs)
unfolding limits_of
limits_within z [] h = tt
limits_within z (r ∷ rs) h = pick (eqb (kind r) 2) refl (limits_within z rs h.1)
  where
    pick : (b : Bool) → eqb (kind r) 2 ≡ b → Every (CounterWithin z) (limits_of rs) → Every (CounterWithin z) (limits_of (r ∷ rs))
    pick true e f = rw e (limit_within z r (h.0 e), f)
    pick false e f = rw e tt

groups_within : (z : Capacity) (rs : List Bytes) → Every (LimitGood z) rs → Every (λ g. Every (CounterWithin z) g.limits) (groups_of rs)
unfolding groups_of
groups_within z [] h = tt
groups_within z (r ∷ rs) h = pick (eqb (kind r) 1) refl (groups_within z rs h.1)
  where
    pick : (b : Bool) → eqb (kind r) 1 ≡ b → Every (λ g. Every (CounterWithin z) g.limits) (groups_of rs) → Every (λ g. Every (CounterWithin z) g.limits) (groups_of (r ∷ rs))
    pick true e f = rw e (limits_within z rs h.1, f)
    pick false e f = rw e f

after_group : (s : AclState) (r : Bytes) → eqb (kind r) 1 ≡ true → (after_record s r).groups ≡ s.groups + 1
unfolding after_record
after_group s r e = rw e

group_room : (z : Capacity) (s : AclState) (r : Bytes) → eqb (kind r) 1 ≡ true → has_room_under z s r ≡ true → s.groups < z.groups
unfolding has_room_under
group_room z s r q e = ltb-true s.groups z.groups (rw q at e)

groups_few : (z : Capacity) (s : AclState) (rs : List Bytes) → scan (record_fault_under z) after_record acl_end s rs ≡ none → s.groups ≤ z.groups → s.groups + length (groups_of rs) ≤ z.groups
unfolding scan groups_of
groups_few z s [] e h = omega arith
groups_few z s (r ∷ rs) e h =
    pick (eqb (kind r) 1) refl (good_record z s r (or_next_first (record_fault_under z s r) _ e)).1 (groups_few z (after_record s r) rs (or_next_next (record_fault_under z s r) _ e))
  where
    pick : (b : Bool) → eqb (kind r) 1 ≡ b → has_room_under z s r ≡ true → ((after_record s r).groups ≤ z.groups → (after_record s r).groups + length (groups_of rs) ≤ z.groups) → s.groups + length (groups_of (r ∷ rs)) ≤ z.groups
    pick true q room f =
        let a = after_group s r q in
        let b = group_room z s r q room in
        let c = f (omega arith) in
        rw q (omega arith)
    pick false q room f =
        let a = same_count s r q in
        let c = f (omega arith) in
        rw q (omega arith)

-- the length and the records of a file without fault
file_sound : (z : Capacity) (file : Bytes) → acl_file_fault_under z file ≡ none → (fits (acl_records_under z) file ≡ true) × (acl_fault_under z (records file) ≡ none)
unfolding file_fault
file_sound z file e = let w = fault_none_every _ e in (unless_passed (fits (acl_records_under z) file) bad_length w.0, w.1.0)

-- An ACL without fault under some sizes fits tables of these sizes.
pub acl_fits_under : (z : Capacity) (file : Bytes) → acl_file_fault_under z file ≡ none → AclFitsUnder z (acl_of file)
unfolding acl_fault_under
acl_fits_under z file e =
    let t = (file_sound z file e).1 in
    let a = groups_few z acl_start (records file) t (omega arith) in
    record { groups = omega arith; counters = groups_within z (records file) (limits_good z acl_start (records file) t) }

-- The charge, on tables with zeros behind them.
raised_same : (b n : ℕ) (before : List ℕ) (ms : List Limit) (now : List ℕ) → Every (λ m. m.sort ≡ 2 → m.counter < b) ms → length now ≡ b
    → raised_by (before ++ replicate n 0) ms (now ++ replicate n 0) ≡ raised_by before ms now ++ replicate n 0
unfolding raised_by
raised_same b n before [] now h k = refl
raised_same b n before (m ∷ ms) now h k = pick (eqb m.sort 2) refl (λ (x : List ℕ) t. raised_same b n before ms x h.1 t)
  where
    pick : (t : Bool) → eqb m.sort 2 ≡ t → ((x : List ℕ) → length x ≡ b → raised_by (before ++ replicate n 0) ms (x ++ replicate n 0) ≡ raised_by before ms x ++ replicate n 0)
        → raised_by (before ++ replicate n 0) (m ∷ ms) (now ++ replicate n 0) ≡ raised_by before (m ∷ ms) now ++ replicate n 0
    pick true e f =
        let c = h.0 (eqb-true m.sort 2 e) in
        let v = get_or before m.counter 0 + 1 in
        let d : raised (before ++ replicate n 0) m.counter (now ++ replicate n 0) ≡ set now m.counter v ++ replicate n 0 =
        ap (λ (x : ℕ). set (now ++ replicate n 0) m.counter (x + 1)) (reads_same before n m.counter) ∙ sets_same now (replicate n 0) m.counter v (omega arith) in
        rw (e, d) (f (set now m.counter v) (length-set now m.counter v ∙ k))
    pick false e f = rw e (f now k)

module _ (small large : Capacity) (more : NoSmaller small large) where
  charge_same : (l : Ledger) (k : ℕ) (g : Group) (time : ℕ) → SizedUnder small l → k < small.groups → Every (CounterWithin small) g.limits
      → charge (carried_over small large l) k g time ≡ carried_over small large (charge l k g time)
  unfolding charge
  charge_same l k g time h below within =
      let n = h.groups in
      let zs : List ℕ = replicate (large.groups - small.groups) 0 in
      ap₂ (λ (x y : List ℕ). record { counts = x; counters = y; loaded = l.loaded; last = time })
      (ap (λ (x : ℕ). set (l.counts ++ zs) k (x + 1)) (reads_same l.counts (large.groups - small.groups) k) ∙ sets_same l.counts zs k (get_or l.counts k 0 + 1) (omega arith))
      (raised_same small.counters (large.counters - small.counters) l.counters g.limits l.counters within h.named)

  reads_carried : (l : Ledger) → ReadsAlike (carried_over small large l) l
  reads_carried l =
      record {
        counts = reads_same l.counts (large.groups - small.groups);
        counters = reads_same l.counters (large.counters - small.counters);
        loaded = refl;
        last = refl;
      }

  -- the outcome of a judged call is carried over, if that of its permit is
  settled_same : (l : Ledger) → SizedUnder small l → (fault : Option ℕ) (km0 : Bytes) (gs : List Group) (q : Request) → AclFitsUnder small gs
      → (onSmall onLarge : ℕ → Ledger → Outcome) → ((k : ℕ) (m : Ledger) → onLarge k (carried_over small large m) ≡ outcome_carried_over small large (onSmall k m))
      → outcome_unless (carried_over small large l) fault (settle (carried_over small large l) q.time onLarge (judge (carried_over small large l) km0 gs q))
      ≡ outcome_carried_over small large (outcome_unless l fault (settle l q.time onSmall (judge l km0 gs q)))
  settled_same l h fault km0 gs q fit onSmall onLarge same =
      ap (λ (j : Judgement). outcome_unless (carried_over small large l) fault (settle (carried_over small large l) q.time onLarge j))
      (judge_alike (carried_over small large l) l (reads_carried l) km0 q gs)
      ∙ pick fault (judge l km0 gs q) refl
    where
      pick : (o : Option ℕ) (j : Judgement) → judge l km0 gs q ≡ j
          → outcome_unless (carried_over small large l) o (settle (carried_over small large l) q.time onLarge j) ≡ outcome_carried_over small large (outcome_unless l o (settle l q.time onSmall j))
      pick (some f) j e = refl
      pick none (denied d) e = refl
      pick none (granted k g) e =
          let t = (granted_is l km0 gs q k g e).0 in
          let b = there_below gs k g t in
          let n = fit.groups in
          ap (onLarge k) (charge_same l k g q.time h (omega arith) (every_at (λ x. Every (CounterWithin small) x.limits) gs k g fit.counters t))
          ∙ same k (charge l k g q.time)

  -- The files of a call have the same first fault under both sizes.
  request_files_same : (km0 acl req : Bytes) → acl_file_fault_under small acl ≡ none → request_files_under large km0 acl req ≡ request_files_under small km0 acl req
  request_files_same km0 acl req e =
      let a = file_sound small acl e in
      let b = file_sound large acl (reader_grows small large more acl e) in
      rw (a.0, a.1, b.0, b.1)

  narrow_files_same : (km0 acl req new hints : Bytes) → acl_file_fault_under small acl ≡ none → acl_file_fault_under small new ≡ none → fits small.groups hints ≡ true
      → narrow_files_under large km0 acl req new hints ≡ narrow_files_under small km0 acl req new hints
  narrow_files_same km0 acl req new hints e d h =
      let a = file_sound small acl e in
      let b = file_sound large acl (reader_grows small large more acl e) in
      let c = file_sound small new d in
      let f = file_sound large new (reader_grows small large more new d) in
      let g = fits_more small.groups large.groups hints more.groups h in
      rw (a.0, a.1, b.0, b.1, c.0, c.1, f.0, f.1, g, h)

  expand_files_same : (km0 acl req new : Bytes) → acl_file_fault_under small acl ≡ none → acl_file_fault_under small new ≡ none → expand_files_under large km0 acl req new ≡ expand_files_under small km0 acl req new
  expand_files_same km0 acl req new e d =
      let a = file_sound small acl e in
      let b = file_sound large acl (reader_grows small large more acl e) in
      let c = file_sound small new d in
      let f = file_sound large new (reader_grows small large more new d) in
      rw (a.0, a.1, b.0, b.1, c.0, c.1, f.0, f.1)

  -- the counts that a replacement leaves
  zeros_same : ◌≡◌ {A = List ℕ} (replicate large.groups 0) (replicate small.groups 0 ++ replicate (large.groups - small.groups) 0)
  zeros_same =
      let g = more.groups in
      let e : large.groups ≡ small.groups + (large.groups - small.groups) = omega arith in
      ap (λ (n : ℕ). replicate n 0) e ∙ sym (zeros_append small.groups (large.groups - small.groups))

  sources_same : (counts : List ℕ) (n : ℕ) (hints : List Hint) → map (λ h. get_or (counts ++ replicate n 0) h.source 0) hints ≡ map (λ h. get_or counts h.source 0) hints
  sources_same counts n [] = refl
  sources_same counts n (h ∷ hs) = ap₂ ◌∷◌ (reads_same counts n h.source) (sources_same counts n hs)

  carried_same : (counts : List ℕ) (hints : List Hint) → length hints ≤ small.groups
      → carried_under large (counts ++ replicate (large.groups - small.groups) 0) hints ≡ carried_under small counts hints ++ replicate (large.groups - small.groups) 0
  carried_same counts hints h =
      let g = more.groups in
      let e : large.groups - length hints ≡ small.groups - length hints + (large.groups - small.groups) = omega arith in
      ap₂ (λ (x y : List ℕ). x ++ y) (sources_same counts (large.groups - small.groups) hints)
      (ap (λ (n : ℕ). replicate n 0) e ∙ sym (zeros_append (small.groups - length hints) (large.groups - small.groups)))
      ∙ sym (append_assoc (map (λ h. get_or counts h.source 0) hints) (replicate (small.groups - length hints) 0) (replicate (large.groups - small.groups) 0))

  narrowed_same : (l : Ledger) (old new : List Group) (hints : List Hint) → length hints ≤ small.groups → (k : ℕ) (m : Ledger)
      → narrowed_under large (carried_over small large l) old new hints k (carried_over small large m) ≡ outcome_carried_over small large (narrowed_under small l old new hints k m)
  narrowed_same l old new hints few k m = pick (narrows old new hints) refl
    where
      pick : (b : Bool) → narrows old new hints ≡ b → narrowed_under large (carried_over small large l) old new hints k (carried_over small large m) ≡ outcome_carried_over small large (narrowed_under small l old new hints k m)
      pick true e =
          rw e
          (ap (λ (x : List ℕ). permitted k (record { counts = x; counters = m.counters ++ replicate (large.counters - small.counters) 0; loaded = m.loaded; last = m.last }))
          (carried_same m.counts hints few))
      pick false e = rw e

  expanded_same : (k : ℕ) (m : Ledger) → expanded_under large k (carried_over small large m) ≡ outcome_carried_over small large (expanded_under small k m)
  expanded_same k m =
      ap (λ (x : List ℕ). permitted k (record { counts = x; counters = m.counters ++ replicate (large.counters - small.counters) 0; loaded = m.loaded; last = m.last })) zeros_same

-- A call whose files were accepted under the smaller sizes, on a ledger of these sizes carried over: the same answer, and the ledger that the gate with the smaller
-- tables returns, carried over.
pub unchanged_under : (small large : Capacity) → NoSmaller small large → (s : State) (c : Call) → SizedUnder small s.ledger → AcceptedUnder small s.acl c
    → outcome_under large (state_carried_over small large s) c ≡ outcome_carried_over small large (outcome_under small s c)
unfolding outcome_under
unchanged_under small large more s (requesting km0 req) h e =
    rw (request_files_same small large more km0 s.acl req e)
    (settled_same small large more s.ledger h (request_files_under small km0 s.acl req) km0 (acl_of s.acl) (request_of req) (acl_fits_under small s.acl e) permitted permitted (λ k m. refl))
unchanged_under small large more s (loading time) h e =
    ap (λ (x : List ℕ). finished (record { counts = x; counters = s.ledger.counters ++ replicate (large.counters - small.counters) 0; loaded = time; last = time })) (zeros_same small large more)
unchanged_under small large more s (clearing counter) h e =
    let n = h.named in
    let m = more.counters in
    let a : ltb counter large.counters ≡ true = lt-ltb counter large.counters (omega arith) in
    let b : ltb counter small.counters ≡ true = lt-ltb counter small.counters e in
    rw (a, b)
    (ap (λ (x : List ℕ). finished (record { counts = s.ledger.counts ++ replicate (large.groups - small.groups) 0; counters = x; loaded = s.ledger.loaded; last = s.ledger.last }))
    (sets_same s.ledger.counters (replicate (large.counters - small.counters) 0) counter 0 (omega arith)))
unchanged_under small large more s (narrowing km0 req new hints) h e =
    rw (narrow_files_same small large more km0 s.acl req new hints e.0 e.1 e.2)
    (settled_same small large more s.ledger h (narrow_files_under small km0 s.acl req new hints) km0 (acl_of s.acl) (request_of req) (acl_fits_under small s.acl e.0)
    (narrowed_under small s.ledger (acl_of s.acl) (acl_of new) (hints_of hints)) (narrowed_under large (carried_over small large s.ledger) (acl_of s.acl) (acl_of new) (hints_of hints))
    (narrowed_same small large more s.ledger (acl_of s.acl) (acl_of new) (hints_of hints) (hints_few small.groups hints e.2)))
unchanged_under small large more s (expanding km0 req new) h e =
    rw (expand_files_same small large more km0 s.acl req new e.0 e.1)
    (settled_same small large more s.ledger h (expand_files_under small km0 s.acl req new) km0 (acl_of s.acl) (request_of req) (acl_fits_under small s.acl e.0)
    (expanded_under small) (expanded_under large) (expanded_same small large more))

-- "Files accepted before must be read unchanged.": today's gate answers as that of document 01's sizes did, on a ledger of these sizes carried over.
pub read_unchanged : (s : State) (c : Call) → SizedUnder base s.ledger → AcceptedUnder base s.acl c
    → outcome (state_carried_over base today s) c ≡ outcome_carried_over base today (outcome_under base s c)
read_unchanged s c h e = sym (today_outcome (state_carried_over base today s) c) ∙ unchanged_under base today base_smaller s c h e

-- the state after a call, too
after_unchanged : (s : State) (c : Call) → SizedUnder base s.ledger → AcceptedUnder base s.acl c → after (state_carried_over base today s) c ≡ state_carried_over base today (after_under base s c)
unfolding after
after_unchanged s c h e =
    ap (λ (o : Outcome). let t : State = record { ledger = o.ledger; acl = in_force s.acl (replacement s.acl c) o.answer } in t) (read_unchanged s c h e)

-- Every sequence of such calls has the same answers, and the state after it is that of the smaller tables, carried over.
pub all_unchanged : (s : State) (cs : List Call) → SizedUnder base s.ledger → AllAcceptedUnder base s cs
    → (replies (state_carried_over base today s) cs ≡ replies_under base s cs)
    × (after_all (state_carried_over base today s) cs ≡ state_carried_over base today (after_all_under base s cs))
unfolding after_all after_all_under replies_under
all_unchanged s [] h e = (refl, refl)
all_unchanged s (c ∷ cs) h e =
    let r = all_unchanged (after_under base s c) cs (sized_under base s c h) e.1 in
    let a = after_unchanged s c h e.0 in (
      ap₂ ◌∷◌ (ap (λ (o : Outcome). o.answer) (read_unchanged s c h e.0)) (ap (λ (t : State). replies t cs) a ∙ r.0),
      ap (λ (t : State). after_all t cs) a ∙ r.1,
    )
