-- An ACL that is read without fault fits the tables: at most 64 groups, 4 limits and 8 actions each, counters 0 to 255, at most one limit of sort 1
-- and one of sort 3, no counter twice. Two wrong products that this rules out: a reader that takes a 65th group, and one that takes counter 256.
use Prim.Native.Nat.{ℕ, zero, suc, ◌+◌, ◌*◌, ◌≤◌, ◌<◌}
use native.Mathlib.Omega.{arith}
use native.Mathlib.Nat.{zero-add}
use mathlib.Core.Path.{◌≡◌, refl, sym, ◌∙◌, ap}
use mathlib.Core.Logic.{◌≢◌}
use mathlib.Core.List.{List, [], ◌∷◌, ◌++◌}
use mathlib.Core.Option.{none, some}
use mathlib.Core.Bool.{Bool, true, false, not, ◌&&◌, false≢true}
use lib.ListN.{length, get_or, get_elem?, take, length-append}
use lib.Seq.{drop-cons}
use lib.Dec.{eqb, ltb}
use borrow.Author.Tests.{eqb-true, eqb-false, eq-eqb, ne_eqb, leb-true, ltb-true, not-true}
use Rattle.rules.specs.Sizes.{groups_max, limits_max, actions_max, counters_max}
use Rattle.rules.specs.Numbers.{malformed, too_many}
use Rattle.rules.specs.Basics.{Bytes, any, Every, number_from, part, byte, kind, record_fault, scan, records}
use Rattle.rules.specs.Layout.{counter_under, counter_of_sort, limit_under, limit_laid_out}
use Rattle.rules.specs.Acl.{Limit, limit_of, limits_of, actions_of, group_of, groups_of, acl_of, AclState, limit_key, among, limit_in_place, in_place, has_room_under, has_room, after_record, record_fault_under, acl_record_fault, acl_end, acl_start, acl_fault_under, acl_fault}
use Rattle.rules.proofs.Laws.{never, and_left, and_right, and_both, not_both, or_right, every_at, unless_passed, or_next_first, or_next_next, fault_none_every}
use Rattle.rules.proofs.Rows.{records_sized}
use Rattle.rules.proofs.Places.{limit_placed, same_count}
use Rattle.rules.specs.Fits.{LimitFits, Apart, GroupFits, AclFits}

ruleset conj = (and_left, and_right, and_both)

-- reading goes on without fault from a place
abbrev Reads : AclState → List Bytes → Type 0
Reads s rs = scan acl_record_fault after_record acl_end s rs ≡ none

abbrev Whole : List Bytes → Type 0
Whole rs = Every (λ r. length r ≡ 64) rs

-- a record without fault is in place, and there is room for it
good_record : (s : AclState) (r : Bytes) → acl_record_fault s r ≡ none → (in_place s r ≡ true) × (has_room s r ≡ true)
unfolding record_fault_under record_fault
good_record s r e =
    let w = fault_none_every _ e in
    (unless_passed (in_place s r) malformed w.0, unless_passed (has_room s r) too_many w.1.0)

-- reading goes on after a record without fault
first_record_lem : (s : AclState) (r : Bytes) (rs : List Bytes) → Reads s (r ∷ rs) → (in_place s r ≡ true) × (has_room s r ≡ true) × Reads (after_record s r) rs
unfolding scan
first_record_lem s r rs e =
    let g = good_record s r (or_next_first (acl_record_fault s r) _ e) in
    (g.0, g.1, or_next_next (acl_record_fault s r) _ e)

-- A limit's sort and counter as one number.
abbrev key_of : Limit → ℕ
key_of m = m.sort * 256 + m.counter

key_is : (r : Bytes) → length r ≡ 64 → limit_key r ≡ key_of (limit_of r)
unfolding number_from
key_is r h =
    let a : part 4 2 r ≡ byte 4 r ∷ byte 5 r ∷ [] = ap (take 2) (drop-cons r 4 0 (omega arith) ∙ ap (λ (l : Bytes). get_or r 4 0 ∷ l) (drop-cons r 5 0 (omega arith))) in
    ap (number_from 0) a ∙ ap (λ (n : ℕ). n * 256 + byte 5 r) (zero-add (byte 4 r))

-- what the layout of a limit says
limit_fits : (r : Bytes) → limit_laid_out r ≡ true → LimitFits (limit_of r)
unfolding limit_under counter_under
limit_fits r e =
    record {
      lowest_sort = leb-true 1 (byte 4 r) (search conj);
      highest_sort = leb-true (byte 4 r) 3 (search conj);
      named = λ q. let d : counter_of_sort (byte 4 r) (byte 5 r) ≡ true = search conj in ltb-true (byte 5 r) counters_max (rw q at d);
      unnamed = λ q. let d : counter_of_sort (byte 4 r) (byte 5 r) ≡ true = search conj in eqb-true (byte 5 r) 0 (rw (ne_eqb (byte 4 r) 2 q) at d);
    }

-- limits whose numbers are new after given ones
abbrev Fresh : List ℕ → List Limit → Type 0
Fresh keys [] = Unit {0}
Fresh keys (m ∷ ms) = (among (key_of m) keys ≡ false) × Fresh (keys ++ (key_of m ∷ [])) ms

-- what a limit record in its place says
limit_record : (s : AclState) (r : Bytes) → kind r ≡ 2 → in_place s r ≡ true → has_room s r ≡ true
    → LimitFits (limit_of r) × (among (limit_key r) s.limits ≡ false) × (length s.limits < limits_max)
unfolding has_room_under limit_in_place
limit_record s r q e d =
    let a = limit_placed s r q e in
    let b : limit_in_place s (limit_key r) ≡ true = and_right (limit_laid_out r) _ a in
    let c : not (among (limit_key r) s.limits) ≡ true = and_right (ltb 0 s.groups && eqb s.actions 0) _ b in
    (limit_fits r (and_left _ _ a), not-true _ c, ltb-true (length s.limits) limits_max (rw q at d))

-- the state after a limit
after_limit : (s : AclState) (r : Bytes) → kind r ≡ 2 → ((after_record s r).limits ≡ s.limits ++ (limit_key r ∷ [])) × ((after_record s r).actions ≡ s.actions)
unfolding after_record
after_limit s r q = rw q (refl, refl)

-- the limits read from a place on, after those that are read already
limits_fit : (s : AclState) (rs : List Bytes) → Whole rs → Reads s rs → length s.limits ≤ limits_max
    → (length s.limits + length (limits_of rs) ≤ limits_max) × Every LimitFits (limits_of rs) × Fresh s.limits (limits_of rs)
unfolding limits_of
limits_fit s [] w e h = (omega arith, tt, tt)
limits_fit s (r ∷ rs) w e h = pick (eqb (kind r) 2) refl (limits_fit (after_record s r) rs w.1)
  where
    pick : (b : Bool) → eqb (kind r) 2 ≡ b
        → (Reads (after_record s r) rs → length (after_record s r).limits ≤ limits_max
        → (length (after_record s r).limits + length (limits_of rs) ≤ limits_max) × Every LimitFits (limits_of rs) × Fresh (after_record s r).limits (limits_of rs))
        → (length s.limits + length (limits_of (r ∷ rs)) ≤ limits_max) × Every LimitFits (limits_of (r ∷ rs)) × Fresh s.limits (limits_of (r ∷ rs))
    pick true q f =
        let k = eqb-true (kind r) 2 q in
        let a = first_record_lem s r rs e in
        let l = limit_record s r k a.0 a.1 in
        let t = (after_limit s r k).0 in
        let n : length (after_record s r).limits ≡ length s.limits + 1 = rw t (length-append s.limits (limit_key r ∷ [])) in
        let z = f a.2 (omega (arith, l.2)) in
        let y : Fresh (s.limits ++ (limit_key r ∷ [])) (limits_of rs) = rw t at z.2 in
        let key = key_is r w.0 in
        rw q (omega (arith, z.0), (l.0, z.1), (rw key at l.1, rw key at y))
    pick false q f = rw q (omega arith, tt, tt)

-- the actions of a group, likewise
after_action : (s : AclState) (r : Bytes) → eqb (kind r) 1 ≡ false → eqb (kind r) 2 ≡ false → eqb (kind r) 15 ≡ false → (after_record s r).actions ≡ s.actions + 1
unfolding after_record
after_action s r p q t = rw (p, q, t)

action_room : (s : AclState) (r : Bytes) → eqb (kind r) 1 ≡ false → eqb (kind r) 2 ≡ false → eqb (kind r) 15 ≡ false → has_room s r ≡ true → s.actions < actions_max
unfolding has_room_under
action_room s r p q t e = ltb-true s.actions actions_max (rw (p, q, t) at e)

-- "Kind 15 does not count as an action."
after_file : (s : AclState) (r : Bytes) → eqb (kind r) 1 ≡ false → eqb (kind r) 2 ≡ false → eqb (kind r) 15 ≡ true → (after_record s r).actions ≡ s.actions
unfolding after_record
after_file s r p q t = rw (p, q, t)

actions_fit : (s : AclState) (rs : List Bytes) → Reads s rs → s.actions ≤ actions_max → s.actions + length (actions_of rs) ≤ actions_max
unfolding actions_of
actions_fit s [] e h = omega arith
actions_fit s (r ∷ rs) e h = pick (eqb (kind r) 1) refl (eqb (kind r) 2) refl (eqb (kind r) 15) refl (first_record_lem s r rs e) (actions_fit (after_record s r) rs)
  where
    pick : (b : Bool) → eqb (kind r) 1 ≡ b → (c : Bool) → eqb (kind r) 2 ≡ c → (d : Bool) → eqb (kind r) 15 ≡ d
        → (in_place s r ≡ true) × (has_room s r ≡ true) × Reads (after_record s r) rs
        → (Reads (after_record s r) rs → (after_record s r).actions ≤ actions_max → (after_record s r).actions + length (actions_of rs) ≤ actions_max)
        → s.actions + length (actions_of (r ∷ rs)) ≤ actions_max
    pick true p c q d t a f = rw p (omega arith)
    pick false p true q d t a f =
        let k = (after_limit s r (eqb-true (kind r) 2 q)).1 in
        let z = f a.2 (omega arith) in
        rw (p, q) (omega arith)
    pick false p false q true t a f =
        let k = after_file s r p q t in
        let z = f a.2 (omega arith) in
        rw (p, q, t) (omega arith)
    pick false p false q false t a f =
        let k = after_action s r p q t in
        let room = action_room s r p q t a.1 in
        let z = f a.2 (omega arith) in
        rw (p, q, t) (omega arith)

-- Limits that are new one after the other are apart.
among_kept : (k : ℕ) (keys more : List ℕ) → among k keys ≡ true → among k (keys ++ more) ≡ true
unfolding among any
among_kept k [] more e = absurd (false≢true e)
among_kept k (x ∷ xs) more e = pick (eqb x k) refl (among_kept k xs more)
  where
    pick : (b : Bool) → eqb x k ≡ b → (among k xs ≡ true → among k (xs ++ more) ≡ true) → among k (x ∷ xs ++ more) ≡ true
    pick true q f = rw q
    pick false q f = rw q (f (rw q at e))

among_last : (k : ℕ) (keys : List ℕ) → among k (keys ++ (k ∷ [])) ≡ true
unfolding among any
among_last k [] = rw (eq-eqb k k refl)
among_last k (x ∷ xs) = or_right (eqb x k) _ (among_last k xs)

-- a number met before is not new again
fresh_not : (k : ℕ) (keys : List ℕ) (ms : List Limit) (j : ℕ) (n : Limit) → Fresh keys ms → among k keys ≡ true → get_elem? ms j ≡ some n → key_of n ≢ k
fresh_not k keys [] j n h a e = absurd (never (cc))
fresh_not k keys (m ∷ ms) zero n h a e = λ q. let b : m ≡ n = cc in not_both (among k keys) a (rw (← q, ← b) h.0)
fresh_not k keys (m ∷ ms) (suc j) n h a e = fresh_not k (keys ++ (key_of m ∷ [])) ms j n h.1 (among_kept k keys (key_of m ∷ []) a) e

fresh_apart : (keys : List ℕ) (ms : List Limit) (i j : ℕ) (m n : Limit) → Fresh keys ms → i < j → get_elem? ms i ≡ some m → get_elem? ms j ≡ some n → key_of n ≢ key_of m
fresh_apart keys [] i j m n h l d e = absurd (never (cc))
fresh_apart keys (x ∷ xs) i zero m n h l d e = absurd (omega arith)
fresh_apart keys (x ∷ xs) zero (suc j) m n h l d e =
    let b : x ≡ m = cc in fresh_not (key_of m) (keys ++ (key_of x ∷ [])) xs j n h.1 (rw b (among_last (key_of m) keys)) e
fresh_apart keys (x ∷ xs) (suc i) (suc j) m n h l d e = fresh_apart (keys ++ (key_of x ∷ [])) xs i j m n h.1 (omega arith) d e

-- limits that fit, with numbers new one after the other: of one sort they are of sort 2, and name two counters
limits_apart : (ms : List Limit) → Every LimitFits ms → Fresh [] ms → Apart ms
limits_apart ms f h i j m n l d e s = pick (eqb m.sort 2) refl
  where
    a : LimitFits m
    a = every_at LimitFits ms i m f d

    b : LimitFits n
    b = every_at LimitFits ms j n f e

    differ : m.counter ≢ n.counter
    differ q = fresh_apart [] ms i j m n h l d e (rw (s, q))

    pick : (t : Bool) → eqb m.sort 2 ≡ t → (m.sort ≡ 2) × (m.counter ≢ n.counter)
    pick true q = (eqb-true m.sort 2 q, differ)
    pick false q =
        let x = a.unnamed (eqb-false m.sort 2 q) in
        let y = b.unnamed (λ z. eqb-false m.sort 2 q (s ∙ z)) in
        absurd (differ (x ∙ sym y))

-- the state after a group record
after_group : (s : AclState) (r : Bytes) → eqb (kind r) 1 ≡ true → ((after_record s r).groups ≡ s.groups + 1) × ((after_record s r).limits ≡ []) × ((after_record s r).actions ≡ 0)
unfolding after_record
after_group s r q = rw q (refl, refl, refl)

group_room : (s : AclState) (r : Bytes) → eqb (kind r) 1 ≡ true → has_room s r ≡ true → s.groups < groups_max
unfolding has_room_under
group_room s r q e = ltb-true s.groups groups_max (rw q at e)

-- a group whose record was read just before the rest
group_fits : (s : AclState) (r : Bytes) (rs : List Bytes) → s.limits ≡ [] → s.actions ≡ 0 → Whole rs → Reads s rs → GroupFits (group_of r rs)
group_fits s r rs p q w e =
    let n : length s.limits ≡ 0 = ap length p in
    let l = limits_fit s rs w e (omega arith) in
    let a = actions_fit s rs e (omega arith) in
    record {
      limits = omega (arith, l.0);
      actions = omega arith;
      each = l.1;
      apart = limits_apart (limits_of rs) l.1 (rw p at l.2);
    }

groups_fit : (s : AclState) (rs : List Bytes) → Whole rs → Reads s rs → s.groups ≤ groups_max → (s.groups + length (groups_of rs) ≤ groups_max) × Every GroupFits (groups_of rs)
unfolding groups_of
groups_fit s [] w e h = (omega arith, tt)
groups_fit s (r ∷ rs) w e h = pick (eqb (kind r) 1) refl (first_record_lem s r rs e) (groups_fit (after_record s r) rs w.1)
  where
    pick : (b : Bool) → eqb (kind r) 1 ≡ b → (in_place s r ≡ true) × (has_room s r ≡ true) × Reads (after_record s r) rs
        → (Reads (after_record s r) rs → (after_record s r).groups ≤ groups_max → ((after_record s r).groups + length (groups_of rs) ≤ groups_max) × Every GroupFits (groups_of rs))
        → (s.groups + length (groups_of (r ∷ rs)) ≤ groups_max) × Every GroupFits (groups_of (r ∷ rs))
    pick true q a f =
        let k = after_group s r q in
        let room = group_room s r q a.1 in
        let z = f a.2 (omega (arith, k.0)) in
        rw q (omega (arith, k.0, z.0), (group_fits (after_record s r) r rs k.1 k.2 w.1 a.2, z.1))
    pick false q a f =
        let k = same_count s r q in
        let z = f a.2 (omega arith) in
        rw q (omega (arith, z.0), z.1)

-- The ACL of a file without fault fits.
pub acl_fits : (file : Bytes) → acl_fault (records file) ≡ none → AclFits (acl_of file)
unfolding acl_fault_under
acl_fits file e =
    let r = groups_fit acl_start (records file) (records_sized file) e (omega arith) in
    record { groups = omega (arith, r.0); each = r.1 }
