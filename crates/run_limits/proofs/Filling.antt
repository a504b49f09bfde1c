-- The limits that a row is made of, one after the other, and the rows of a table.
use Prim.Native.Nat.{ℕ, zero, suc, ◌+◌, ◌-◌, ◌*◌, ◌≤◌, ◌<◌, min}
use native.Mathlib.Omega.{arith}
use native.Mathlib.Numerals.{add-one}
use mathlib.Core.Path.{◌≡◌, refl, sym, ◌∙◌, ap}
use mathlib.Core.List.{List, [], ◌∷◌, ◌++◌, append-nil, append_assoc}
use mathlib.Core.Option.{none, some}
use mathlib.Core.Bool.{Bool, true, false}
use borrow.Author.Tests.{eq-eqb, ne_eqb, eqb-true, eqb-false}
use lib.ListN.{length, take, drop, get_or, get_elem?, set}
use lib.Seq.{get_or-set_same, get_or-set_other, take-suc-set, get_or-take}
use lib.Dec.{eqb}
use Rattle.rules.specs.Sizes.{limits_max, full_count}
use Rattle.std.specs.Prelude.{if◌then◌else◌}
use Rattle.rules.specs.Basics.{Bytes, Every, part, kind, records}
use Rattle.rules.specs.Acl.{Limit, limit_of, limits_of, group_of, acl_of, acl_fault}
use Rattle.rules.specs.Fits.{GroupFits}
use Rattle.rules.proofs.Laws.{never}
use Rattle.rules.proofs.Rows.{lent_rest, lent_rest_lem}
use Rattle.rules.proofs.AclSizes.{acl_fits}
use Rattle.record_fields.proofs.Walks as walks
use Rattle.run_form.specs.Places.{Offsets}
use Rattle.run_limits.specs.declared.row.Row.{Row}
use Rattle.run_limits.specs.Rows.{no_end, ended_bound, ended_last, bound_with, last_with, named_word, bound_of, last_of, named_of, words_of, IsUnlimited, Limited, IsRow, row_at}

-- A limit by its sort: of the own count, of a counter, of the seconds since load.
module _ (sort maximum : ℕ) where
  pub own_bound : (bound : ℕ) → sort ≡ 1 → min bound maximum ≡ bound_with bound sort maximum
  unfolding bound_with
  own_bound bound e = sym (rw (eq-eqb sort 1 e))

  pub own_last : (last : ℕ) → sort ≡ 1 → last ≡ last_with last sort maximum
  unfolding last_with
  own_last last e = sym (rw (eq-eqb sort 1 e))

  pub named_bound : (bound : ℕ) → sort ≡ 2 → bound ≡ bound_with bound sort maximum
  unfolding bound_with
  named_bound bound e = sym (rw e)

  pub named_last : (last : ℕ) → sort ≡ 2 → last ≡ last_with last sort maximum
  unfolding last_with
  named_last last e = sym (rw e)

  module _ (m : sort ≡ 1 → ⊥) (n : sort ≡ 2 → ⊥) where
    pub timed_bound : (bound : ℕ) → ended_bound bound maximum ≡ bound_with bound sort maximum
    unfolding bound_with
    timed_bound bound = sym (rw (ne_eqb sort 1 m, ne_eqb sort 2 n))

    pub timed_last : (last : ℕ) → ended_last last maximum ≡ last_with last sort maximum
    unfolding last_with
    timed_last last = sym (rw (ne_eqb sort 1 m, ne_eqb sort 2 n))

pub unnamed_words : (ws : List ℕ) (m : Limit) → (m.sort ≡ 2 → ⊥) → ws ≡ ws ++ named_of (m ∷ [])
unfolding named_of
unnamed_words ws m n = sym (ap (λ (b : Bool). ws ++ (if b then named_word m.counter m.maximum ∷ [] else [])) (ne_eqb m.sort 2 n) ∙ append-nil ws)

pub named_words : (ws : List ℕ) (n x : ℕ) (m : Limit) → m.sort ≡ 2 → n < length ws → x ≡ m.maximum → x ≤ full_count → take (n + 1) (set ws n (x * 256 + m.counter)) ≡ take n ws ++ named_of (m ∷ [])
unfolding named_of named_word
named_words ws n x m e h d f =
    let w : min m.maximum full_count * 256 + m.counter ≡ x * 256 + m.counter = omega arith in
    rw (add-one n) (take-suc-set ws n (x * 256 + m.counter) h) ∙ sym (ap (λ (b : Bool). take n ws ++ (if b then (min m.maximum full_count * 256 + m.counter) ∷ [] else [])) (eq-eqb m.sort 2 e) ∙ ap (λ (v : ℕ). take n ws ++ (v ∷ [])) w)

-- A bound is at most what it is without limits.
bound_small : (x sort maximum : ℕ) → x ≤ full_count → bound_with x sort maximum ≤ full_count
unfolding bound_with
bound_small x sort maximum h = pick (eqb sort 1) (eqb sort 2) (eqb maximum 0)
  where
    pick : (a b c : Bool) → (if a then min x maximum else if b then x else if c then 0 else x) ≤ full_count
    pick true b c = omega arith
    pick false true c = omega arith
    pick false false true = omega arith
    pick false false false = omega arith

last_small : (x sort maximum : ℕ) → x ≤ no_end → last_with x sort maximum ≤ no_end
unfolding last_with
last_small x sort maximum h = pick (eqb sort 1) (eqb sort 2) (eqb maximum 0)
  where
    pick : (a b c : Bool) → (if a then x else if b then x else if c then 0 else min x (maximum - 1)) ≤ no_end
    pick true b c = omega arith
    pick false true c = omega arith
    pick false false true = omega arith
    pick false false false = omega arith

bound_most : (ms : List Limit) → bound_of ms ≤ full_count
unfolding bound_of
bound_most [] = omega arith
bound_most (m ∷ ms) = bound_small (bound_of ms) m.sort m.maximum (bound_most ms)

last_most : (ms : List Limit) → last_of ms ≤ no_end
unfolding last_of
last_most [] = omega arith
last_most (m ∷ ms) = last_small (last_of ms) m.sort m.maximum (last_most ms)

-- A limit may be taken with those before it or with those after it.
bound_moves : (x y sort maximum : ℕ) → min (bound_with x sort maximum) y ≡ min x (bound_with y sort maximum)
unfolding bound_with
bound_moves x y sort maximum = pick (eqb sort 1) (eqb sort 2) (eqb maximum 0)
  where
    pick : (a b c : Bool) → min (if a then min x maximum else if b then x else if c then 0 else x) y ≡ min x (if a then min y maximum else if b then y else if c then 0 else y)
    pick true b c = omega arith
    pick false true c = refl
    pick false false true = omega arith
    pick false false false = refl

last_moves : (x y sort maximum : ℕ) → min (last_with x sort maximum) y ≡ min x (last_with y sort maximum)
unfolding last_with
last_moves x y sort maximum = pick (eqb sort 1) (eqb sort 2) (eqb maximum 0)
  where
    pick : (a b c : Bool) → min (if a then x else if b then x else if c then 0 else min x (maximum - 1)) y ≡ min x (if a then y else if b then y else if c then 0 else min y (maximum - 1))
    pick true b c = refl
    pick false true c = refl
    pick false false true = omega arith
    pick false false false = omega arith

named_all : (ms ns : List Limit) → named_of (ms ++ ns) ≡ named_of ms ++ named_of ns
unfolding named_of
named_all [] ns = refl
named_all (m ∷ ms) ns = pick (eqb m.sort 2) (named_all ms ns)
  where
    pick : (b : Bool) → named_of (ms ++ ns) ≡ named_of ms ++ named_of ns
        → (if b then named_word m.counter m.maximum ∷ named_of (ms ++ ns) else named_of (ms ++ ns)) ≡ (if b then named_word m.counter m.maximum ∷ named_of ms else named_of ms) ++ named_of ns
    pick true i = ap (λ (ws : List ℕ). named_word m.counter m.maximum ∷ ws) i
    pick false i = i

-- How far the reading of a group's limits is: some of them are left.
pub record Reading (row : Row) (ms left : List Limit) : Type 0 where
  pub bound : min row.bound (bound_of left) ≡ bound_of ms
  pub last : min row.last (last_of left) ≡ last_of ms
  pub words : words_of row ++ named_of left ≡ named_of ms
  pub few : row.named + length left ≤ limits_max
  pub bound_fits : row.bound ≤ full_count
  pub last_fits : row.last ≤ no_end

pub reading_start : (row : Row) (ms : List Limit) → IsUnlimited row → length ms ≤ limits_max → Reading row ms ms
reading_start row ms u f =
    let b = bound_most ms in
    let l = last_most ms in
    let x = u.bound in
    let y = u.last in
    let n = u.none in
    record {
      bound = omega arith;
      last = omega arith;
      words = ap (λ (k : ℕ). take k row.words ++ named_of ms) n;
      few = omega arith;
      bound_fits = omega arith;
      last_fits = omega arith;
    }

pub reading_done : (row : Row) (ms left : List Limit) → Reading row ms left → left ≡ [] → IsRow row ms
unfolding bound_of last_of named_of
reading_done row ms left r e =
    let x : min row.bound full_count ≡ bound_of ms = rw e at r.bound in
    let y : min row.last no_end ≡ last_of ms = rw e at r.last in
    let w : words_of row ++ [] ≡ named_of ms = rw e at r.words in
    let b = r.bound_fits in
    let l = r.last_fits in
    record { bound = omega arith; last = omega arith; words = sym (append-nil (words_of row)) ∙ w }

module _ (row : Row) (ms left : List Limit) (m : Limit) (rest : List Limit) (r : Reading row ms left) (e : left ≡ m ∷ rest) where
  here : Reading row ms (m ∷ rest)
  here = rw e at r

  pub reading_room : row.named < limits_max
  reading_room = let f : row.named + length (m ∷ rest) ≤ limits_max = here.few in omega arith

  pub reading_next : (next : Row) → Limited row m next → Reading next ms rest
  unfolding bound_of last_of
  reading_next next l =
      let f : row.named + length (m ∷ rest) ≤ limits_max = here.few in
      let o = l.one in
      record {
        bound = rw l.bound (bound_moves row.bound (bound_of rest) m.sort m.maximum ∙ here.bound);
        last = rw l.last (last_moves row.last (last_of rest) m.sort m.maximum ∙ here.last);
        words = rw l.words (append_assoc (words_of row) (named_of (m ∷ [])) (named_of rest) ∙ ap (λ (ws : List ℕ). words_of row ++ ws) (sym (named_all (m ∷ []) rest)) ∙ here.words);
        few = omega arith;
        bound_fits = rw l.bound (bound_small row.bound m.sort m.maximum here.bound_fits);
        last_fits = rw l.last (last_small row.last m.sort m.maximum here.last_fits);
      }

-- The limits of records, by the loop over them.
module _ (rs : List Bytes) (i : ℕ) where
  pub limits_none : length rs ≤ i → limits_of (drop i rs) ≡ []
  unfolding limits_of
  limits_none h = ap limits_of (walks.left_none rs i h)

  module _ (h : i < length rs) where
    pub limits_step : get_or (get_or rs i []) 0 0 ≡ 2 → limits_of (drop i rs) ≡ limit_of (get_or rs i []) ∷ limits_of (drop (i + 1) rs)
    unfolding limits_of
    limits_step e = ap limits_of (walks.left_at rs i h) ∙ rw (eq-eqb (kind (get_or rs i [])) 2 e)

    pub limits_stop : (get_or (get_or rs i []) 0 0 ≡ 2 → ⊥) → limits_of (drop i rs) ≡ []
    unfolding limits_of
    limits_stop n = ap limits_of (walks.left_at rs i h) ∙ rw (ne_eqb (kind (get_or rs i [])) 2 n)

-- the rows of the first groups
pub record RowsTo (acl : Bytes) (bodies : List ℕ) (rows : List Row) (k : ℕ) : Type 0 where
  pub filled : (j : ℕ) → j < k → IsRow (row_at rows j) (limits_of (records (drop (get_or bodies j 0) acl)))

pub rows_none : (acl : Bytes) (bodies : List ℕ) (rows : List Row) → RowsTo acl bodies rows 0
rows_none acl bodies rows = record { filled = λ j h. absurd (omega arith) }

pub rows_next : (acl : Bytes) (bodies : List ℕ) (rows : List Row) (k : ℕ) (row : Row) → RowsTo acl bodies rows k → k < length rows → IsRow row (limits_of (records (drop (get_or bodies k 0) acl)))
    → RowsTo acl bodies (set rows k row) (k + 1)
rows_next acl bodies rows k row r l i = record { filled = λ j h. pick j h (eqb j k) refl }
  where
    pick : (j : ℕ) → j < k + 1 → (b : Bool) → eqb j k ≡ b → IsRow (row_at (set rows k row) j) (limits_of (records (drop (get_or bodies j 0) acl)))
    pick j h true q = let s : j ≡ k = eqb-true j k q in rw (s, get_or-set_same rows k row _ l) i
    pick j h false q =
        let s : j ≡ k → ⊥ = eqb-false j k q in
        rw (get_or-set_other rows k j row _ s) (r.filled j (omega arith))

-- every element, and one of them
every_at : {A : Type 0} (P : A → Type 0) (xs : List A) (k : ℕ) (x : A) → Every P xs → get_elem? xs k ≡ some x → P x
every_at P [] zero x h e = absurd (never (cc))
every_at P [] (suc k) x h e = every_at P [] k x h e
every_at P (y ∷ ys) zero x h e = let q : y ≡ x = cc in rw (← q) h.0
every_at P (y ∷ ys) (suc k) x h e = every_at P ys k x h.1 e

-- an offset of the table is within the file
pub body_inside : (acl : Bytes) (bodies : List ℕ) (n k : ℕ) → Offsets acl bodies → k < length (take n bodies) → get_or (take n bodies) k 0 ≤ length acl
body_inside acl bodies n k o h = rw (taken n bodies k h) (o.inside.each k)
  where
    taken : (n : ℕ) (xs : List ℕ) (k : ℕ) → k < length (take n xs) → get_or (take n xs) k 0 ≡ get_or xs k 0
    taken zero xs k h = absurd (omega arith)
    taken (suc n) [] k h = refl
    taken (suc n) (x ∷ xs) zero h = refl
    taken (suc n) (x ∷ xs) (suc k) h = taken n xs k (omega arith)

-- The groups of an ACL without fault.
module _ (acl : Bytes) (bodies : List ℕ) (sound : acl_fault (records acl) ≡ none) (o : Offsets acl bodies) where
  pub group_fits : (k : ℕ) → k < length (acl_of acl) → GroupFits (group_of (part (get_or bodies k 0 - 64) 64 acl) (records (drop (get_or bodies k 0) acl)))
  group_fits k h = every_at GroupFits (acl_of acl) k _ (acl_fits acl sound).each (o.filled k h).there

  -- the k-th of the first n offsets: what is there
  module _ (n k : ℕ) (h : k < n) (e : n ≡ length (acl_of acl)) where
    body_at : records (lent_rest acl (get_or (take n bodies) k 0)) ≡ records (drop (get_or bodies k 0) acl)
    body_at = ap (λ (i : ℕ). records (lent_rest acl i)) (get_or-take n bodies k 0 h) ∙ ap records (lent_rest_lem acl (get_or bodies k 0))

    pub body_few : length (limits_of (records (lent_rest acl (get_or (take n bodies) k 0)))) ≤ limits_max
    body_few = rw body_at (group_fits k (omega arith)).limits

    pub body_row : (row : Row) → IsRow row (limits_of (records (lent_rest acl (get_or (take n bodies) k 0)))) → IsRow row (limits_of (records (drop (get_or bodies k 0) acl)))
    body_row row i = rw body_at at i
