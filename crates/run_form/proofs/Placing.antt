-- The turns of the loop that fills the table of places.
use Prim.Native.Nat.{ℕ, zero, suc, ◌+◌, ◌-◌, ◌*◌, ◌/◌, ◌≤◌, ◌<◌}
use native.Mathlib.Omega.{arith}
use native.Mathlib.Numerals.{add-one}
use mathlib.Core.Path.{◌≡◌, refl, sym, ◌∙◌, ap}
use mathlib.Core.List.{List, [], ◌∷◌}
use mathlib.Core.Option.{some}
use mathlib.Core.Bool.{Bool, true, false}
use borrow.Author.Tests.{eq-eqb, ne_eqb, eqb-true, eqb-false, ltb-true, ltb-false}
use lib.ListN.{length, take, drop, get_or, get_elem?, set, length-set, length-drop}
use lib.Seq.{drop-drop, get_or-set_same, get_or-set_other}
use lib.Dec.{eqb, ltb}
use Rattle.rules.specs.Sizes.{groups_max}
use Rattle.rules.specs.Basics.{Bytes, part, chunks, records, records_from}
use Rattle.rules.specs.Acl.{group_of, groups_of, acl_of}
use Rattle.rules.proofs.Laws.{there_below, chunks_length}
use Rattle.rules.proofs.Rows.{rows_start, rows_at, rows_end, kind_at}
use Rattle.run_form.specs.Places.{offsets_from, Inside, OffsetAt, Offsets}

-- The records of a file by their numbers: record i begins at the byte i * 64.
chunks_at : (n : ℕ) (s : Bytes) (i : ℕ) → i < n → get_or (chunks n s) i [] ≡ part (i * 64) 64 s
unfolding chunks
chunks_at zero s i h = absurd (omega arith)
chunks_at (suc n) s zero h = refl
chunks_at (suc n) s (suc i) h =
    let e : 64 + i * 64 ≡ suc i * 64 = omega arith in
    chunks_at n (drop 64 s) i (omega arith) ∙ ap (take 64) (drop-drop (i * 64) 64 s ∙ ap (λ (k : ℕ). drop k s) e)

records_at : (s : Bytes) (i : ℕ) → i < length (records s) → get_or (records s) i [] ≡ part (i * 64) 64 s
unfolding records
records_at s i h = chunks_at (length s / 64) s i (let n = chunks_length (length s / 64) s in omega arith)

record_inside : (s : Bytes) (i : ℕ) → i < length (records s) → 64 ≤ length s - i * 64
unfolding records
record_inside s i h = let n = chunks_length (length s / 64) s in omega arith

records_done : (s : Bytes) (i : ℕ) → length (records s) ≤ i → length s - i * 64 < 64
unfolding records
records_done s i h = let n = chunks_length (length s / 64) s in omega arith

-- How far filling is: g groups are found, the others are those of the records from the byte `at` on.
pub record Filling (acl : Bytes) (bodies : List ℕ) (g at : ℕ) : Type 0 where
  pub sized : length bodies ≡ groups_max
  pub few : length (acl_of acl) ≤ groups_max
  pub inside : Inside acl bodies
  pub left : drop g (acl_of acl) ≡ groups_of (records_from acl at)
  pub filled : (k : ℕ) → k < g → OffsetAt acl k (get_or bodies k 0)

filling_start : (acl : Bytes) (bodies : List ℕ) → length bodies ≡ groups_max → Inside acl bodies → length (acl_of acl) ≤ groups_max → Filling acl bodies 0 0
filling_start acl bodies n i f =
    record {
      sized = n;
      few = f;
      inside = i;
      left = sym (ap groups_of (rows_start acl));
      filled = λ k h. absurd (omega arith);
    }

-- what is left after some elements, and the first of them
first_left : {A : Type 0} (xs : List A) (g : ℕ) (y : A) (ys : List A) → drop g xs ≡ y ∷ ys → (g < length xs) × ((get_elem? xs g ≡ some y) × (drop (g + 1) xs ≡ ys))
first_left [] zero y ys e = absurd (omega (arith, ap length e))
first_left [] (suc g) y ys e = absurd (omega (arith, ap length e))
first_left (x ∷ xs) zero y ys e = let a : x ≡ y = cc in let b : xs ≡ ys = cc in (omega arith, (ap some a, b))
first_left (x ∷ xs) (suc g) y ys e = let r = first_left xs g y ys e in (omega (arith, r.0), (r.1.0, rw add-one (rw add-one at r.1.1)))

module _ (acl : Bytes) (bodies : List ℕ) (g at : ℕ) (f : Filling acl bodies g at) where
  filling_done : length acl - at < 64 → Offsets acl bodies
  unfolding groups_of
  filling_done h =
      let e : drop g (acl_of acl) ≡ [] = f.left ∙ ap groups_of (rows_end acl at h) in
      let n : length (acl_of acl) ≤ g = omega (arith, ap length e, length-drop g (acl_of acl)) in
      record {
        sized = f.sized;
        inside = f.inside;
        filled = λ k l. f.filled k (omega arith);
      }

  filling_count : length acl - at < 64 → g ≡ length (acl_of acl)
  unfolding groups_of
  filling_count h =
      let e : drop g (acl_of acl) ≡ [] = f.left ∙ ap groups_of (rows_end acl at h) in
      let n : length (acl_of acl) ≤ g = omega (arith, ap length e, length-drop g (acl_of acl)) in
      pick (ltb (length (acl_of acl)) g) refl n
    where
      pick : (b : Bool) → ltb (length (acl_of acl)) g ≡ b → length (acl_of acl) ≤ g → g ≡ length (acl_of acl)
      pick true q n = let l = there_below (acl_of acl) (length (acl_of acl)) _ (f.filled (length (acl_of acl)) (ltb-true (length (acl_of acl)) g q)).there in absurd (omega arith)
      pick false q n = let l = ltb-false (length (acl_of acl)) g q in omega arith

  filling_skip : 64 ≤ length acl - at → (get_or acl at 0 ≡ 1 → ⊥) → Filling acl bodies g (at + 64)
  unfolding groups_of
  filling_skip h n =
      record {
        sized = f.sized;
        few = f.few;
        inside = f.inside;
        left = f.left ∙ ap groups_of (rows_at acl at h) ∙ rw (kind_at acl at, ne_eqb (get_or acl at 0) 1 n);
        filled = f.filled;
      }

  module _ (h : 64 ≤ length acl - at) (e : get_or acl at 0 ≡ 1) where
    one_more : drop g (acl_of acl) ≡ group_of (part at 64 acl) (records_from acl (at + 64)) ∷ groups_of (records_from acl (at + 64))
    unfolding groups_of
    one_more = f.left ∙ ap groups_of (rows_at acl at h) ∙ rw (kind_at acl at, eq-eqb (get_or acl at 0) 1 e)

    found : (g < length (acl_of acl)) × ((get_elem? (acl_of acl) g ≡ some (group_of (part at 64 acl) (records_from acl (at + 64)))) × (drop (g + 1) (acl_of acl) ≡ groups_of (records_from acl (at + 64))))
    found = first_left (acl_of acl) g (group_of (part at 64 acl) (records_from acl (at + 64))) (groups_of (records_from acl (at + 64))) one_more

    filling_room : g < groups_max
    filling_room = let a = found.0 in let b = f.few in omega arith

    body_here : OffsetAt acl g (at + 64)
    unfolding records_from
    body_here = let m : at + 64 - 64 ≡ at = omega arith in record { after = omega arith; there = found.1.0 ∙ ap (λ (n : ℕ). some (group_of (part n 64 acl) (records (drop (at + 64) acl)))) (sym m) }

    filling_next : Filling acl (set bodies g (at + 64)) (g + 1) (at + 64)
    filling_next =
        record {
          sized = length-set bodies g (at + 64) ∙ f.sized;
          few = f.few;
          inside = record { each = λ k. within k (eqb k g) refl };
          left = found.1.1;
          filled = λ k l. pick k l (eqb k g) refl;
        }
      where
        sized : g < length bodies
        sized = let a = filling_room in let b = f.sized in omega arith

        within : (k : ℕ) (b : Bool) → eqb k g ≡ b → get_or (set bodies g (at + 64)) k 0 ≤ length acl
        within k true q = rw (eqb-true k g q, get_or-set_same bodies g (at + 64) 0 sized) (omega arith)
        within k false q =
            let n : k ≡ g → ⊥ = eqb-false k g q in
            rw (get_or-set_other bodies g k (at + 64) 0 n) (f.inside.each k)

        pick : (k : ℕ) → k < g + 1 → (b : Bool) → eqb k g ≡ b → OffsetAt acl k (get_or (set bodies g (at + 64)) k 0)
        pick k l true q =
            let i : k ≡ g = eqb-true k g q in
            rw (i, get_or-set_same bodies g (at + 64) 0 sized) body_here
        pick k l false q =
            let n : k ≡ g → ⊥ = eqb-false k g q in
            rw (get_or-set_other bodies g k (at + 64) 0 n) (f.filled k (omega arith))

-- The table as it is put: what is left of the records leads to the whole file's.
module _ (acl : Bytes) (bodies whole : List ℕ) (g at : ℕ) (p : offsets_from bodies g at (records_from acl at) ≡ whole) where
  put_done : length acl - at < 64 → bodies ≡ whole
  unfolding offsets_from
  put_done h = sym (ap (offsets_from bodies g at) (rows_end acl at h)) ∙ p

  put_skip : 64 ≤ length acl - at → (get_or acl at 0 ≡ 1 → ⊥) → offsets_from bodies g (at + 64) (records_from acl (at + 64)) ≡ whole
  unfolding offsets_from
  put_skip h n = sym (ap (offsets_from bodies g at) (rows_at acl at h) ∙ rw (kind_at acl at, ne_eqb (get_or acl at 0) 1 n)) ∙ p

  put_next : 64 ≤ length acl - at → get_or acl at 0 ≡ 1 → offsets_from (set bodies g (at + 64)) (g + 1) (at + 64) (records_from acl (at + 64)) ≡ whole
  unfolding offsets_from
  put_next h e = sym (ap (offsets_from bodies g at) (rows_at acl at h) ∙ rw (kind_at acl at, eq-eqb (get_or acl at 0) 1 e)) ∙ p

-- Both, where the loop over the records is at record i.
pub record Placing (acl : Bytes) (rows : List Bytes) (bodies whole : List ℕ) (g i : ℕ) : Type 0 where
  pub rows_are : rows ≡ records acl
  pub filling : Filling acl bodies g (i * 64)
  pub put : offsets_from bodies g (i * 64) (records_from acl (i * 64)) ≡ whole

pub placing_start : (acl : Bytes) (rows : List Bytes) (bodies : List ℕ) → rows ≡ records acl → length bodies ≡ groups_max → Inside acl bodies → length (acl_of acl) ≤ groups_max
    → Placing acl rows bodies (offsets_from bodies 0 0 (records acl)) 0 0
placing_start acl rows bodies r n i f = record { rows_are = r; filling = filling_start acl bodies n i f; put = ap (offsets_from bodies 0 0) (rows_start acl) }

module _ (acl : Bytes) (rows : List Bytes) (bodies whole : List ℕ) (g i : ℕ) (p : Placing acl rows bodies whole g i) where
  pub placing_done : length rows ≤ i → Offsets acl bodies × (bodies ≡ whole) × (g ≡ length (acl_of acl))
  placing_done h =
      let e = records_done acl i (rw p.rows_are at h) in
      (filling_done acl bodies g (i * 64) p.filling e, put_done acl bodies whole g (i * 64) p.put e, filling_count acl bodies g (i * 64) p.filling e)

  module _ (h : i < length rows) where
    here : i < length (records acl)
    here = rw p.rows_are at h

    kind_here : get_or (get_or rows i []) 0 0 ≡ get_or acl (i * 64) 0
    kind_here = rw p.rows_are (ap (λ (r : Bytes). get_or r 0 0) (records_at acl i here) ∙ kind_at acl (i * 64))

    pub placing_skip : (get_or (get_or rows i []) 0 0 ≡ 1 → ⊥) → Placing acl rows bodies whole g (i + 1)
    placing_skip n =
        let at : (i + 1) * 64 ≡ i * 64 + 64 = omega arith in
        let m : get_or acl (i * 64) 0 ≡ 1 → ⊥ = λ e. n (kind_here ∙ e) in
        record {
          rows_are = p.rows_are;
          filling = rw at (filling_skip acl bodies g (i * 64) p.filling (record_inside acl i here) m);
          put = rw at (put_skip acl bodies whole g (i * 64) p.put (record_inside acl i here) m);
        }

    module _ (e : get_or (get_or rows i []) 0 0 ≡ 1) where
      pub placing_room : g < groups_max
      placing_room = filling_room acl bodies g (i * 64) p.filling (record_inside acl i here) (sym kind_here ∙ e)

      pub placing_next : Placing acl rows (set bodies g ((i + 1) * 64)) whole (g + 1) (i + 1)
      placing_next =
          let at : (i + 1) * 64 ≡ i * 64 + 64 = omega arith in
          record {
            rows_are = p.rows_are;
            filling = rw at (filling_next acl bodies g (i * 64) p.filling (record_inside acl i here) (sym kind_here ∙ e));
            put = rw at (put_next acl bodies whole g (i * 64) p.put (record_inside acl i here) (sym kind_here ∙ e));
          }
