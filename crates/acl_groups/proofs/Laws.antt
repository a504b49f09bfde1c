-- The turns of the loops of this crate, and what the parts of a group say in the definitions' terms.
use Prim.Native.Nat.{ℕ, zero, suc, ◌+◌, ◌-◌, ◌*◌, ◌/◌, ◌≤◌, ◌<◌}
use native.Mathlib.Omega.{arith}
use native.Mathlib.Nat.{add-zero}
use mathlib.Core.Path.{◌≡◌, refl, sym, ◌∙◌, ap}
use mathlib.Core.List.{List, [], ◌∷◌, map}
use mathlib.Core.Option.{some}
use mathlib.Core.Bool.{Bool, true, false, ◌||◌, false≢true}
use borrow.Author.Tests.{leb-true, leb-false, eqb-true, eqb-false, eq-eqb, ne_eqb}
use lib.ListN.{length, take, drop, get_or, length-drop, drop_of_length-le}
use lib.Seq.{drop-nil, drop-drop, get_or-drop, get_or-take}
use lib.Dec.{leb, eqb}
use Rattle.std.specs.Prelude.{if◌then◌else◌, cond}
use Rattle.std.specs.List.{prefix_len}
use Rattle.std.proofs.lemmas.List.Sums.{prefix_len-le-length}
use Rattle.std.specs.Prelude as option
use Rattle.rules.specs.Basics.{Bytes, part, kind, chunks, records, records_from}
use Rattle.rules.specs.Acl.{Limit, limit_of, limits_of, blobfile_rule_of, blobfile_rule_next, action_of, actions_of, group_of, groups_of}
use Rattle.rules.specs.Request.{blobfile_of, blobfile_next}
use Rattle.rules.proofs.Rows.{rows_at, rows_end, rows_start, rows_rest, kind_at, lent_rest, lent_rest_lem, first, no_rows}
use Rattle.record_fields.proofs.Walks.{left_at, left_none}
use Rattle.acl_groups.specs.Parts.{passed_over, part_offset, action_offset, group_offset, actions_from, action_read, group_read, NextPart, NextAction, GroupAt, FromGroup, GroupBody, blobfile_record, FileRecord}

or_not_left : (a b : Bool) → (a || b) ≡ false → a ≡ false
or_not_left true b e = e
or_not_left false b e = refl

or_not_right : (a b : Bool) → (a || b) ≡ false → b ≡ false
or_not_right true b e = absurd (false≢true (sym e))
or_not_right false b e = e

-- A record that is passed over begins no group.
over_no_group : (k : ℕ) → passed_over k ≡ true → k ≡ 1 → ⊥
over_no_group k e d = false≢true (ap passed_over (sym d) ∙ e)

-- The record at an offset: the actions from there on, the groups, the next group or action, the next action.
module _ (s : Bytes) (i : ℕ) (h : 64 ≤ length s - i) where
  pub acts_group : get_or s i 0 ≡ 1 → actions_of (records_from s i) ≡ []
  unfolding actions_of
  acts_group e = ap actions_of (rows_at s i h) ∙ rw (kind_at s i, eq-eqb (get_or s i 0) 1 e)

  pub acts_here : (get_or s i 0 ≡ 1 → ⊥) → passed_over (get_or s i 0) ≡ false → actions_of (records (drop i s)) ≡ actions_from s i
  unfolding actions_of records_from
  acts_here n p =
      ap actions_of (rows_at s i h)
      ∙ rw (kind_at s i, ne_eqb (get_or s i 0) 1 n, or_not_left (eqb (get_or s i 0) 2) (eqb (get_or s i 0) 15) p, or_not_right (eqb (get_or s i 0) 2) (eqb (get_or s i 0) 15) p)

  place_group : get_or s i 0 ≡ 1 → action_offset (records_from s i) i (length s) ≡ length s
  unfolding action_offset
  place_group e = ap (λ (z : List Bytes). action_offset z i (length s)) (rows_at s i h) ∙ rw (kind_at s i, eq-eqb (get_or s i 0) 1 e)

  place_action : (get_or s i 0 ≡ 1 → ⊥) → passed_over (get_or s i 0) ≡ false → action_offset (records_from s i) i (length s) ≡ i
  unfolding action_offset
  place_action n p = ap (λ (z : List Bytes). action_offset z i (length s)) (rows_at s i h) ∙ rw (kind_at s i, ne_eqb (get_or s i 0) 1 n, p)

  part_stands : passed_over (get_or s i 0) ≡ false → part_offset (records_from s i) i ≡ i
  unfolding part_offset
  part_stands p = ap (λ (z : List Bytes). part_offset z i) (rows_at s i h) ∙ rw (kind_at s i, p)

  module _ (p : passed_over (get_or s i 0) ≡ true) where
    pub acts_over : actions_of (records_from s i) ≡ actions_of (records_from s (i + 64))
    unfolding actions_of
    acts_over =
        ap actions_of (rows_at s i h)
        ∙ rw (kind_at s i, ne_eqb (get_or s i 0) 1 (over_no_group (get_or s i 0) p))
        (pick (eqb (get_or s i 0) 2) (eqb (get_or s i 0) 15) (actions_of (records_from s (i + 64))) (action_of (part i 64 s) (blobfile_rule_next (records_from s (i + 64))) ∷ actions_of (records_from s (i + 64))) p)
      where
        pick : {A : Type 0} (a b : Bool) (x y : A) → (a || b) ≡ true → (if a then x else if b then x else y) ≡ x
        pick true b x y e = refl
        pick false true x y e = refl
        pick false false x y e = absurd (false≢true e)

    pub groups_over : groups_of (records_from s i) ≡ groups_of (records_from s (i + 64))
    unfolding groups_of
    groups_over = ap groups_of (rows_at s i h) ∙ rw (kind_at s i, ne_eqb (get_or s i 0) 1 (over_no_group (get_or s i 0) p))

    place_over : action_offset (records_from s i) i (length s) ≡ action_offset (records_from s (i + 64)) (i + 64) (length s)
    unfolding action_offset
    place_over =
        ap (λ (z : List Bytes). action_offset z i (length s)) (rows_at s i h)
        ∙ rw (kind_at s i, ne_eqb (get_or s i 0) 1 (over_no_group (get_or s i 0) p), p)

    part_over : part_offset (records_from s i) i ≡ part_offset (records_from s (i + 64)) (i + 64)
    unfolding part_offset
    part_over = ap (λ (z : List Bytes). part_offset z i) (rows_at s i h) ∙ rw (kind_at s i, p)

-- The next group or action, by its offset: the record there is passed over, or the answer is there.
module _ (s : Bytes) (at r : ℕ) (l : at ≤ length s) (e : r ≡ part_offset (records_from s at) at) where
  part_stays : r ≡ at → (64 ≤ length s - at → passed_over (get_or s at 0) ≡ false) → NextPart s at r
  unfolding records_from
  part_stays q f =
      record {
        exact = e;
        place = ap (λ (k : ℕ). action_offset (records (drop k s)) k (length s)) q;
        actions = ap (λ (k : ℕ). actions_of (records (drop k s))) q;
        groups = ap (λ (k : ℕ). groups_of (records (drop k s))) q;
        later = omega arith;
        inside = omega arith;
        stands = λ k. ap (λ (j : ℕ). passed_over (get_or s j 0)) q ∙ f (omega arith);
      }

  part_passed : (h : 64 ≤ length s - at) → passed_over (get_or s at 0) ≡ true → NextPart s (at + 64) r → NextPart s at r
  unfolding records_from
  part_passed h p m =
      let k = m.later in
      record {
        exact = e;
        place = m.place ∙ sym (place_over s at h p);
        actions = m.actions ∙ sym (acts_over s at h p);
        groups = m.groups ∙ sym (groups_over s at h p);
        later = omega arith;
        inside = m.inside;
        stands = m.stands;
      }

  part_step : (b t : Bool) → leb 64 (length s - at) ≡ b → passed_over (get_or s at 0) ≡ t
      → (64 ≤ length s - at → r ≡ part_offset (records_from s (at + 64)) (at + 64) → NextPart s (at + 64) r)
      → NextPart s at r
  unfolding part_offset
  part_step false t b p more =
      let h = leb-false 64 (length s - at) b in
      part_stays (e ∙ ap (λ (z : List Bytes). part_offset z at) (rows_end s at h)) (λ k. absurd (omega arith))
  part_step true false b p more = let h = leb-true 64 (length s - at) b in part_stays (e ∙ part_stands s at h p) (λ k. p)
  part_step true true b p more = let h = leb-true 64 (length s - at) b in part_passed h p (more h (e ∙ part_over s at h p))

part_from : (n : ℕ) (s : Bytes) (at r : ℕ) → length s - at < n * 64 → at ≤ length s → r ≡ part_offset (records_from s at) at → NextPart s at r
part_from zero s at r k l e = absurd (omega arith)
part_from (suc n) s at r k l e =
    part_step s at r l e (leb 64 (length s - at)) (passed_over (get_or s at 0)) refl refl (λ h d. part_from n s (at + 64) r (omega arith) (omega arith) d)

pub part_found : (s : Bytes) (xs : List Bytes) (at r : ℕ) → at ≤ length s → xs ≡ records (lent_rest s at) → r ≡ part_offset xs at → NextPart s at r
part_found s xs at r l d e =
    part_from (suc (length s)) s at r (omega arith) l (e ∙ ap (λ (z : List Bytes). part_offset z at) (d ∙ rows_rest s at))

-- how far the first part is from the start, and so its offset
pub first_offset : (rs : List Bytes) (at : ℕ) → at + prefix_len (λ r. passed_over (kind r)) rs * 64 ≡ part_offset rs at
unfolding part_offset
first_offset [] at = omega arith
first_offset (r ∷ rs) at = first_here (passed_over (kind r)) (prefix_len (λ z. passed_over (kind z)) rs) (part_offset rs (at + 64)) at (sym (first_offset rs (at + 64)))
  where
    first_here : (t : Bool) (n x at : ℕ) → x ≡ at + 64 + n * 64 → at + cond t (1 + n) 0 * 64 ≡ (if t then x else at)
    first_here true n x at e = omega arith
    first_here false n x at e = omega arith

-- the records of a file, counted
chunks_count : (n : ℕ) (s : Bytes) → length (chunks n s) ≡ n
unfolding chunks
chunks_count zero s = refl
chunks_count (suc n) s = ap suc (chunks_count n (drop 64 s))

pub rows_count : (s : Bytes) → length (records s) ≡ length s / 64
unfolding records
rows_count s = chunks_count (length s / 64) s

-- what is passed over is within the file
pub passed_within : (s : Bytes) (xs : List Bytes) (at n : ℕ) → at ≤ length s → xs ≡ records (lent_rest s at) → n ≡ prefix_len (λ r. passed_over (kind r)) xs → at + n * 64 ≤ length s
passed_within s xs at n l d e =
    let k = prefix_len-le-length (λ r. passed_over (kind r)) xs in
    let c : length xs ≡ length (drop at s) / 64 = ap length d ∙ rows_count (lent_rest s at) ∙ ap (λ (z : Bytes). length z / 64) (lent_rest_lem s at) in
    omega (arith, length-drop at s)

-- The next action: the next group or action, unless that is a group.
pub no_actions_left : (s : Bytes) → actions_of (records (drop (length s) s)) ≡ []
unfolding actions_of
no_actions_left s = ap actions_of (no_rows (drop (length s) s) (omega (arith, length-drop (length s) s)))

module _ (s : Bytes) (at i : ℕ) (e : NextPart s at i) where
  at_end_lem : action_offset (records_from s i) i (length s) ≡ length s → actions_of (records_from s i) ≡ [] → NextAction s at (length s)
  unfolding records_from
  at_end_lem p n =
      let l = e.later in
      let k = e.inside in
      record {
        exact = sym p ∙ e.place;
        same = no_actions_left s ∙ sym n ∙ e.actions;
        later = omega arith;
        inside = omega arith;
        action = λ h. absurd (omega arith);
      }

  pub next_none : length s - i < 64 → NextAction s at (length s)
  unfolding action_offset actions_of
  next_none h = at_end_lem (ap (λ (z : List Bytes). action_offset z i (length s)) (rows_end s i h)) (ap actions_of (rows_end s i h))

  pub next_group : 64 ≤ length s - i → get_or s i 0 ≡ 1 → NextAction s at (length s)
  next_group h k = at_end_lem (place_group s i h k) (acts_group s i h k)

  pub next_here : 64 ≤ length s - i → (get_or s i 0 ≡ 1 → ⊥) → NextAction s at i
  unfolding records_from
  next_here h n =
      let p = e.stands h in
      record {
        exact = sym (place_action s i h n p) ∙ e.place;
        same = e.actions;
        later = e.later;
        inside = e.inside;
        action = λ k. acts_here s i h n p;
      }

-- A loop up to a group, over the records from the byte `at` on: where group `left` of those from the i-th on begins.
module _ (xs : List Bytes) (at i left end x : ℕ) (inv : group_offset left (drop i xs) (at + i * 64) end ≡ x) where
  place_from : ℕ → ℕ
  place_from n = group_offset n (drop (i + 1) xs) (at + (i + 1) * 64) end

  next_place : (n : ℕ) → group_offset n (drop (i + 1) xs) (at + i * 64 + 64) end ≡ x → place_from n ≡ x
  unfolding place_from
  next_place n e = let k : at + (i + 1) * 64 ≡ at + i * 64 + 64 = omega arith in ap (λ (j : ℕ). group_offset n (drop (i + 1) xs) j end) k ∙ e

  module _ (h : i < length xs) where
    pub place_skip : (kind (get_or xs i []) ≡ 1 → ⊥) → group_offset left (drop (i + 1) xs) (at + (i + 1) * 64) end ≡ x
    unfolding group_offset place_from
    place_skip n =
        next_place left (sym (ap (λ (z : List Bytes). group_offset left z (at + i * 64) end) (left_at xs i h) ∙ rw (ne_eqb (kind (get_or xs i [])) 1 n)) ∙ inv)

    module _ (e : kind (get_or xs i []) ≡ 1) where
      pub place_next : (left ≡ 0 → ⊥) → group_offset (left - 1) (drop (i + 1) xs) (at + (i + 1) * 64) end ≡ x
      unfolding group_offset place_from
      place_next n =
          next_place (left - 1) (sym (ap (λ (z : List Bytes). group_offset left z (at + i * 64) end) (left_at xs i h) ∙ rw (eq-eqb (kind (get_or xs i [])) 1 e, ne_eqb left 0 n)) ∙ inv)

      pub place_here : left ≡ 0 → at + i * 64 ≡ x
      unfolding group_offset
      place_here n =
          sym (ap (λ (z : List Bytes). group_offset left z (at + i * 64) end) (left_at xs i h) ∙ rw (eq-eqb (kind (get_or xs i [])) 1 e, eq-eqb left 0 n)) ∙ inv

  pub place_none : length xs ≤ i → end ≡ x
  unfolding group_offset
  place_none h = sym (ap (λ (z : List Bytes). group_offset left z (at + i * 64) end) (left_none xs i h)) ∙ inv

-- A group, by its offset: the record there begins it, or an earlier one, or none.
module _ (s : Bytes) (at : ℕ) (h : 64 ≤ length s - at) where
  module _ (n : get_or s at 0 ≡ 1 → ⊥) where
    groups_skip : groups_of (records_from s at) ≡ groups_of (records_from s (at + 64))
    unfolding groups_of
    groups_skip = ap groups_of (rows_at s at h) ∙ rw (kind_at s at, ne_eqb (get_or s at 0) 1 n)

    offset_skip : (g : ℕ) → group_offset g (records_from s at) at (length s) ≡ group_offset g (records_from s (at + 64)) (at + 64) (length s)
    unfolding group_offset
    offset_skip g = ap (λ (z : List Bytes). group_offset g z at (length s)) (rows_at s at h) ∙ rw (kind_at s at, ne_eqb (get_or s at 0) 1 n)

  module _ (e : get_or s at 0 ≡ 1) where
    groups_begin : groups_of (records_from s at) ≡ group_of (part at 64 s) (records_from s (at + 64)) ∷ groups_of (records_from s (at + 64))
    unfolding groups_of
    groups_begin = ap groups_of (rows_at s at h) ∙ rw (kind_at s at, eq-eqb (get_or s at 0) 1 e)

    offset_next : (g : ℕ) → group_offset (suc g) (records_from s at) at (length s) ≡ group_offset g (records_from s (at + 64)) (at + 64) (length s)
    unfolding group_offset
    offset_next g =
        let k : suc g - 1 ≡ g = omega arith in
        ap (λ (z : List Bytes). group_offset (suc g) z at (length s)) (rows_at s at h)
        ∙ rw (kind_at s at, eq-eqb (get_or s at 0) 1 e, ne_eqb (suc g) 0 (λ x. omega arith))
        (ap (λ (j : ℕ). group_offset j (records_from s (at + 64)) (at + 64) (length s)) k)

    offset_here : group_offset 0 (records_from s at) at (length s) ≡ at
    unfolding group_offset
    offset_here = ap (λ (z : List Bytes). group_offset 0 z at (length s)) (rows_at s at h) ∙ rw (kind_at s at, eq-eqb (get_or s at 0) 1 e)

group_step : (s : Bytes) (at r : ℕ) (b t : Bool) (g : ℕ) → at ≤ length s → r ≡ group_offset g (records_from s at) at (length s) → leb 64 (length s - at) ≡ b → eqb (get_or s at 0) 1 ≡ t
    → ((g' : ℕ) → 64 ≤ length s - at → r ≡ group_offset g' (records_from s (at + 64)) (at + 64) (length s) → GroupAt s (at + 64) g' r)
    → GroupAt s at g r
unfolding records_from group_offset groups_of
group_step s at r false t g l e b k more =
    let h = leb-false 64 (length s - at) b in
    let q : r ≡ length s = e ∙ ap (λ (z : List Bytes). group_offset g z at (length s)) (rows_end s at h) in
    let z : groups_of (records (drop r s)) ≡ [] = ap groups_of (rows_end s r (omega arith)) in
    record {
      exact = e;
      same = z ∙ sym (drop-nil g) ∙ ap (λ (y : List Bytes). drop g (groups_of y)) (sym (rows_end s at h));
      inside = omega arith;
      head = λ h. absurd (omega arith);
    }
group_step s at r true false g l e b k more =
    let h = leb-true 64 (length s - at) b in
    let n = eqb-false (get_or s at 0) 1 k in
    let m = more g h (e ∙ offset_skip s at h n g) in
    record { exact = e; same = m.same ∙ ap (drop g) (sym (groups_skip s at h n)); inside = m.inside; head = m.head }
group_step s at r true true zero l e b k more =
    let h = leb-true 64 (length s - at) b in
    let q : r ≡ at = e ∙ offset_here s at h (eqb-true (get_or s at 0) 1 k) in
    record {
      exact = e;
      same = ap (λ (j : ℕ). groups_of (records (drop j s))) q;
      inside = omega arith;
      head = λ h. ap (λ (j : ℕ). get_or s j 0) q ∙ eqb-true (get_or s at 0) 1 k;
    }
group_step s at r true true (suc g) l e b k more =
    let h = leb-true 64 (length s - at) b in
    let d = eqb-true (get_or s at 0) 1 k in
    let m = more g h (e ∙ offset_next s at h d g) in
    record { exact = e; same = m.same ∙ ap (drop (suc g)) (sym (groups_begin s at h d)); inside = m.inside; head = m.head }

group_from : (n : ℕ) (s : Bytes) (at g r : ℕ) → length s - at < n * 64 → at ≤ length s → r ≡ group_offset g (records_from s at) at (length s) → GroupAt s at g r
group_from zero s at g r k l e = absurd (omega arith)
group_from (suc n) s at g r k l e =
    group_step s at r (leb 64 (length s - at)) (eqb (get_or s at 0) 1) g l e refl refl (λ g' h d. group_from n s (at + 64) g' r (omega arith) (omega arith) d)

pub group_found : (s : Bytes) (xs : List Bytes) (at g r : ℕ) → at ≤ length s → xs ≡ records (lent_rest s at) → r ≡ group_offset g xs at (length s) → GroupAt s at g r
group_found s xs at g r l d e =
    group_from (suc (length s)) s at g r (omega arith) l (e ∙ ap (λ (z : List Bytes). group_offset g z at (length s)) (d ∙ rows_rest s at))

-- the part from there on: its first record begins a group
pub begins : (s : Bytes) (from g r : ℕ) → GroupAt s from g r → 64 ≤ length (lent_rest s r) → get_or (lent_rest s r) 0 0 ≡ 1
begins s from g r e l =
    ap (λ (z : Bytes). get_or z 0 0) (lent_rest_lem s r) ∙ get_or-drop r s 0 0 ∙ ap (λ (n : ℕ). get_or s n 0) (add-zero r) ∙ e.head (omega (arith, length-drop r s, ap length (lent_rest_lem s r)))

pub from_place : (s : Bytes) (g r : ℕ) → GroupAt s 0 g r → FromGroup s g (lent_rest s r)
unfolding records_from
from_place s g r e = record { exact = lent_rest_lem s r ∙ ap (λ (n : ℕ). drop n s) e.exact; same = ap groups_of (rows_rest s r) ∙ e.same; head = begins s 0 g r e }

-- The records after a group's first one.
module _ (acl : Bytes) (g : ℕ) (r : Bytes) (e : FromGroup acl g r) where
  pub body_none : length r < 64 → GroupBody acl g []
  unfolding groups_of limits_of
  body_none h =
      let n : records [] ≡ [] = no_rows [] (omega arith) in
      let z : drop g (groups_of (records acl)) ≡ [] = sym e.same ∙ ap groups_of (no_rows r h) in
      record { exact = sym (drop_of_length-le r {i = 64} (omega arith)) ∙ ap (drop 64) e.exact; limits = rw (n, z) }

  pub body_some : 64 ≤ length r → GroupBody acl g (take (length r - 64) (drop 64 r))
  unfolding groups_of
  body_some h =
      let b : records (take (length r - 64) (drop 64 r)) ≡ records_from r 64 = rows_rest r 64 in
      let k : eqb (kind (take 64 r)) 1 ≡ true = eq-eqb (kind (take 64 r)) 1 (get_or-take 64 r 0 0 (omega arith) ∙ e.head h) in
      let f : records r ≡ take 64 r ∷ records_from r 64 = sym (rows_start r) ∙ rows_at r 0 (omega arith) in
      let z : drop g (groups_of (records acl)) ≡ group_of (take 64 r) (records_from r 64) ∷ groups_of (records_from r 64) = sym e.same ∙ ap groups_of f ∙ rw k in
      record { exact = lent_rest_lem r 64 ∙ ap (drop 64) e.exact; limits = rw (b, z) }

-- The next action and the next group, as a walk takes them off the front: nothing is left, or a record and the file after it.
module _ (s : Bytes) (r : ℕ) (l : length (lent_rest s r) < 64) where
  pub actions_out : NextAction s 0 r → actions_of (records s) ≡ []
  unfolding actions_of
  actions_out n = sym n.same ∙ ap actions_of (no_rows (drop r s) (omega (arith, ap length (lent_rest_lem s r))))

  pub groups_out : GroupAt s 0 0 r → groups_of (records s) ≡ []
  unfolding groups_of
  groups_out g = sym g.same ∙ ap groups_of (no_rows (drop r s) (omega (arith, ap length (lent_rest_lem s r))))

module _ (s x y : Bytes) (r : ℕ) (a : x ≡ take 64 (lent_rest s r)) (b : y ≡ drop 64 (lent_rest s r)) (l : length y + 64 ≡ length (lent_rest s r)) where
  split_room : 64 ≤ length s - r
  split_room = omega (arith, length-drop r s, ap length (lent_rest_lem s r))

  split_first : x ≡ part r 64 s
  split_first = a ∙ ap (take 64) (lent_rest_lem s r)

  split_rest : y ≡ drop (r + 64) s
  split_rest = b ∙ ap (drop 64) (lent_rest_lem s r) ∙ drop-drop 64 r s

  pub action_next : NextAction s 0 r → actions_of (records s) ≡ action_read x y ∷ actions_of (records y)
  action_next n = rw (split_first, split_rest) (sym n.same ∙ n.action split_room)

  pub group_next : GroupAt s 0 0 r → groups_of (records s) ≡ group_read x y ∷ groups_of (records y)
  unfolding records_from
  group_next g = rw (split_first, split_rest) (sym g.same ∙ groups_begin s r split_room (g.head split_room))

-- the limits, as the first records
pub first_limits_read : (rs : List Bytes) → map limit_of (take (prefix_len (λ r. eqb (kind r) 2) rs) rs) ≡ limits_of rs
unfolding limits_of
first_limits_read [] = refl
first_limits_read (r ∷ rs) = first_read (eqb (kind r) 2) (prefix_len (λ z. eqb (kind z) 2) rs) (first_limits_read rs)
  where
    first_read : (t : Bool) (n : ℕ) → map limit_of (take n rs) ≡ limits_of rs → map limit_of (take (cond t (1 + n) 0) (r ∷ rs)) ≡ (if t then limit_of r ∷ limits_of rs else [])
    first_read true n e = let k : 1 + n ≡ suc n = omega arith in rw k (ap (λ (l : List Limit). limit_of r ∷ l) e)
    first_read false n e = refl

-- The record of kind 15 that comes next.
module _ (rest : Bytes) where
  pub file_short : length rest < 64 → FileRecord rest option.None
  unfolding blobfile_rule_next blobfile_next blobfile_record
  file_short h =
      let n : records rest ≡ [] = no_rows rest h in
      record { exact = sym (ap blobfile_record n); file = sym (ap blobfile_rule_next n); blob = sym (ap blobfile_next n) }

  module _ (b : Bytes) (e : b ≡ take 64 rest) (h : 64 ≤ length rest) where
    pub file_other : (kind b ≡ 15 → ⊥) → FileRecord rest option.None
    unfolding blobfile_rule_next blobfile_next blobfile_record
    file_other n =
        let k : eqb (kind (take 64 rest)) 15 ≡ false = ne_eqb (kind (take 64 rest)) 15 (λ d. n (ap kind e ∙ d)) in
        record {
          exact = sym (ap blobfile_record (first rest h) ∙ rw k);
          file = sym (ap blobfile_rule_next (first rest h) ∙ rw k);
          blob = sym (ap blobfile_next (first rest h) ∙ rw k);
        }

    pub file_found : kind b ≡ 15 → FileRecord rest (option.Some b)
    unfolding blobfile_rule_next blobfile_next blobfile_record
    file_found d =
        let k : eqb (kind (take 64 rest)) 15 ≡ true = eq-eqb (kind (take 64 rest)) 15 (sym (ap kind e) ∙ d) in
        record {
          exact = ap some e ∙ sym (ap blobfile_record (first rest h) ∙ rw k);
          file = ap (λ (z : Bytes). some (blobfile_rule_of z)) e ∙ sym (ap blobfile_rule_next (first rest h) ∙ rw k);
          blob = ap (λ (z : Bytes). some (blobfile_of z)) e ∙ sym (ap blobfile_next (first rest h) ∙ rw k);
        }

-- Loops over the records that follow a group's first one: the limits, and the actions, of what is left from the i-th on.
module _ (xs : List Bytes) (i : ℕ) where
  pub limits_at : i < length xs → kind (get_or xs i []) ≡ 2 → limits_of (drop i xs) ≡ limit_of (get_or xs i []) ∷ limits_of (drop (i + 1) xs)
  unfolding limits_of
  limits_at h e = ap limits_of (left_at xs i h) ∙ rw (eq-eqb (kind (get_or xs i [])) 2 e)

  pub limits_over : i < length xs → (kind (get_or xs i []) ≡ 2 → ⊥) → limits_of (drop i xs) ≡ []
  unfolding limits_of
  limits_over h n = ap limits_of (left_at xs i h) ∙ rw (ne_eqb (kind (get_or xs i [])) 2 n)

  pub limits_none : length xs ≤ i → limits_of (drop i xs) ≡ []
  unfolding limits_of
  limits_none h = ap limits_of (left_none xs i h)
