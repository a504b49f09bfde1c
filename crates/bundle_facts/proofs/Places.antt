-- The turns of the loop that fills the table of offsets, and what an offset says.
use Prim.Native.Nat.{ℕ, zero, suc, ◌+◌, ◌-◌, ◌*◌, ◌/◌, ◌≤◌, ◌<◌}
use native.Mathlib.Omega.{arith}
use mathlib.Core.Path.{◌≡◌, refl, sym, ◌∙◌, ap}
use mathlib.Core.List.{List, [], ◌∷◌}
use mathlib.Core.Option.{Option, none, some}
use mathlib.Core.Bool.{Bool, true, false, ◌&&◌}
use borrow.Author.Tests.{eqb-true, eqb-false, eq-eqb, ne_eqb, ltb-true, ltb-false}
use lib.ListN.{length, get_or, take, drop, set, replicate, length-set, length-replicate, get_or-replicate}
use lib.Seq.{drop-drop, get_or-set_same, get_or-set_other}
use lib.Dec.{eqb, ltb}
use Rattle.std.specs.Prelude.{if◌then◌else◌}
use Rattle.rules.specs.Basics.{Bytes, part, kind, byte, or_next, chunks, records}
use Rattle.rules.specs.Bundle.{first_record, numbered, policy_record}
use Rattle.rules.proofs.Laws.{chunks_length}
use Rattle.record_fields.proofs.Walks.{left_at, left_none}
use Rattle.bundle_facts.specs.Places.{entries, unasked, entry_of, entered, noted, noted_from, offsets_of, ending_at, OffsetOf, Filling, Found}

-- An entry is one of the table's.
pub entry_below : (k n i : ℕ) → i ≡ entry_of k n → i < entries
unfolding entry_of
entry_below k n i e = rw e (pick (eqb k 10) (ltb n 16) refl (eqb k 11) (ltb n 8) refl (eqb k 12))
  where
    pick : (a b : Bool) → ltb n 16 ≡ b → (c d : Bool) → ltb n 8 ≡ d → (f : Bool) → (if a && b then n else if c && d then 16 + n else if f then 24 else unasked) < entries
    pick true true p c d q f = let h = ltb-true n 16 p in omega arith
    pick true false p true true q f = let h = ltb-true n 8 q in omega arith
    pick true false p true false q true = omega arith
    pick true false p true false q false = omega arith
    pick true false p false d q true = omega arith
    pick true false p false d q false = omega arith
    pick false b p true true q f = let h = ltb-true n 8 q in omega arith
    pick false b p true false q true = omega arith
    pick false b p true false q false = omega arith
    pick false b p false d q true = omega arith
    pick false b p false d q false = omega arith

-- The records of a file by their numbers: where each begins.
chunk_at : (m n : ℕ) (s : Bytes) → n < m → get_or (chunks m s) n [] ≡ part (n * 64) 64 s
unfolding chunks
chunk_at zero n s h = absurd (omega arith)
chunk_at (suc m) zero s h = refl
chunk_at (suc m) (suc n) s h =
    let k : n * 64 + 64 ≡ suc n * 64 = omega arith in
    chunk_at m n (drop 64 s) (omega arith) ∙ ap (take 64) (drop-drop (n * 64) 64 s) ∙ ap (λ (i : ℕ). part i 64 s) (omega arith)

pub record_is : (s : Bytes) (n : ℕ) → n < length (records s) → get_or (records s) n [] ≡ part (n * 64) 64 s
unfolding records
record_is s n h = chunk_at (length s / 64) n s (rw (chunks_length (length s / 64) s) at h)

pub record_fits : (s : Bytes) (n : ℕ) → n < length (records s) → n * 64 + 64 ≤ length s
unfolding records
record_fits s n h = let k = rw (chunks_length (length s / 64) s) at h in omega arith

-- One offset, when a record is passed: an offset that is found stays; another is what is left, or this record.
module _ (s : Bytes) (i end : ℕ) (left : List Bytes) (p : OffsetOf s i end left) where
  place_found : (rest : List Bytes) → (end ≡ 0 → ⊥) → OffsetOf s i end rest
  unfolding ending_at
  place_found rest n =
      record {
        least = p.least;
        most = p.most;
        first = let q = ne_eqb end 0 n in rw q (rw q at p.first);
      }

  place_passed : (r : Bytes) (rest : List Bytes) → left ≡ r ∷ rest → entered i r ≡ false → OffsetOf s i end rest
  unfolding first_record
  place_passed r rest e t =
      record {
        least = p.least;
        most = p.most;
        first = sym (ap (λ (l : List Bytes). or_next (ending_at s end) (first_record (entered i) l)) e ∙ rw t) ∙ p.first;
      }

module _ (s : Bytes) (i at : ℕ) (left : List Bytes) (p : OffsetOf s i 0 left) where
  place_here : (r : Bytes) (rest : List Bytes) → at + 64 ≤ length s → r ≡ part at 64 s → left ≡ r ∷ rest → entered i r ≡ true → OffsetOf s i (at + 64) rest
  unfolding ending_at first_record
  place_here r rest h k e t =
      let m : at + 64 - 64 ≡ at = omega arith in
      let f : some r ≡ first_record (entered i) (records s) = sym (ap (λ (l : List Bytes). first_record (entered i) l) e ∙ rw t) ∙ p.first in
      record {
        least = λ z. omega arith;
        most = h;
        first = rw (ne_eqb (at + 64) 0 (λ z. omega arith), m, ← k) f;
      }

-- The table: nothing is found at first.
pub filling_start : (s : Bytes) (rs : List Bytes) (places : List ℕ) → rs ≡ records s → places ≡ replicate entries 0 → Filling s places (drop 0 rs)
unfolding ending_at
filling_start s rs places w e =
    rw (e, w) (record {
      sized = length-replicate {A = ℕ} entries 0;
      each = λ i h. rw (get_or-replicate {A = ℕ} entries i 0 0 (omega arith)) (nothing i);
    })
  where
    nothing : (i : ℕ) → OffsetOf s i 0 (records s)
    nothing i = record { least = λ z. omega arith; most = omega arith; first = refl }

pub filling_done : (s : Bytes) (places : List ℕ) (rs : List Bytes) (n : ℕ) → Filling s places (drop n rs) → length rs ≤ n → Found s places
filling_done s places rs n f h = let e = left_none rs n h in rw e at f

-- One turn: record n, whose entry is j.
module _ (s : Bytes) (rs : List Bytes) (w : rs ≡ records s) (n : ℕ) (h : n < length rs) where
  below : n < length (records s)
  below = rw w at h

  pub end_fits : n * 64 + 64 ≤ length s
  end_fits = record_fits s n below

  here_is : get_or rs n [] ≡ part (n * 64) 64 s
  here_is = ap (λ (l : List Bytes). get_or l n []) w ∙ record_is s n below

  end_is : (n + 1) * 64 ≡ n * 64 + 64
  end_is = omega arith

  module _ (places : List ℕ) (j : ℕ) (e : j ≡ entry_of (get_or (get_or rs n []) 0 0) (get_or (get_or rs n []) 4 0)) where
    of_entry : (i : ℕ) → entered i (get_or rs n []) ≡ eqb j i
    unfolding entered
    of_entry i = rw e

    module _ (f : Filling s places (drop n rs)) where
      passed : (i end : ℕ) → OffsetOf s i end (drop n rs) → (j ≡ i → ⊥) → OffsetOf s i end (drop (n + 1) rs)
      passed i end p k = place_passed s i end (drop n rs) p (get_or rs n []) (drop (n + 1) rs) (left_at rs n h) (of_entry i ∙ ne_eqb j i k)

      pub filling_kept : (get_or places j 0 ≡ 0 → ⊥) → Filling s places (drop (n + 1) rs)
      filling_kept z = record { sized = f.sized; each = λ i l. pick i l (eqb j i) refl }
        where
          pick : (i : ℕ) → i < unasked → (b : Bool) → eqb j i ≡ b → OffsetOf s i (get_or places i 0) (drop (n + 1) rs)
          pick i l true q =
              let d : j ≡ i = eqb-true j i q in
              place_found s i (get_or places i 0) (drop n rs) (f.each i l) (drop (n + 1) rs) (rw d at z)
          pick i l false q = passed i (get_or places i 0) (f.each i l) (eqb-false j i q)

      pub filling_put : get_or places j 0 ≡ 0 → Filling s (set places j ((n + 1) * 64)) (drop (n + 1) rs)
      filling_put z =
          rw end_is (record {
            sized = length-set places j (n * 64 + 64) ∙ f.sized;
            each = λ i l. pick i l (eqb j i) refl;
          })
        where
          pick : (i : ℕ) → i < unasked → (b : Bool) → eqb j i ≡ b → OffsetOf s i (get_or (set places j (n * 64 + 64)) i 0) (drop (n + 1) rs)
          pick i l true q =
              let d : j ≡ i = eqb-true j i q in
              let k : get_or places i 0 ≡ 0 = rw d at z in
              rw (d, get_or-set_same places i (n * 64 + 64) 0 (let m = f.sized in omega arith))
              (place_here s i (n * 64) (drop n rs) (rw k at (f.each i l)) (get_or rs n []) (drop (n + 1) rs) end_fits here_is (left_at rs n h) (of_entry i ∙ q))
          pick i l false q =
              let k : i ≡ j → ⊥ = λ d. eqb-false j i q (sym d) in
              rw (get_or-set_other places j i (n * 64 + 64) 0 k) (passed i (get_or places i 0) (f.each i l) (eqb-false j i q))

    module _ (v : noted_from places (n * 64) (drop n rs) ≡ offsets_of s) where
      one_noted : noted_from (noted places j (n * 64 + 64)) (n * 64 + 64) (drop (n + 1) rs) ≡ offsets_of s
      unfolding noted_from
      one_noted =
          ap (λ (i : ℕ). noted_from (noted places i (n * 64 + 64)) (n * 64 + 64) (drop (n + 1) rs)) e
          ∙ sym (ap (noted_from places (n * 64)) (left_at rs n h))
          ∙ v

      pub noted_kept : (get_or places j 0 ≡ 0 → ⊥) → noted_from places ((n + 1) * 64) (drop (n + 1) rs) ≡ offsets_of s
      unfolding noted
      noted_kept k =
          let q : noted places j (n * 64 + 64) ≡ places = rw (ne_eqb (get_or places j 0) 0 k) in
          rw end_is (rw q at one_noted)

      pub noted_put : get_or places j 0 ≡ 0 → noted_from (set places j ((n + 1) * 64)) ((n + 1) * 64) (drop (n + 1) rs) ≡ offsets_of s
      unfolding noted
      noted_put z =
          let q : noted places j (n * 64 + 64) ≡ set places j (n * 64 + 64) = rw (eq-eqb (get_or places j 0) 0 z) in
          rw end_is (rw q at one_noted)

-- The table as it is noted: what is left of the records leads to the bundle's.
pub noted_start : (s : Bytes) (rs : List Bytes) (places : List ℕ) → rs ≡ records s → places ≡ replicate entries 0 → noted_from places (0 * 64) (drop 0 rs) ≡ offsets_of s
noted_start s rs places w e = rw (e, w)

pub noted_done : (s : Bytes) (places : List ℕ) (rs : List Bytes) (n : ℕ) → noted_from places (n * 64) (drop n rs) ≡ offsets_of s → length rs ≤ n → places ≡ offsets_of s
unfolding noted_from
noted_done s places rs n v h = sym (ap (noted_from places (n * 64)) (left_none rs n h)) ∙ v

-- What the offset of an entry says.
or_none : (o : Option Bytes) → or_next o none ≡ o
or_none none = refl
or_none (some r) = refl

module _ (s : Bytes) (places : List ℕ) (f : Found s places) (i : ℕ) (h : i < unasked) where
  first_is : ending_at s (get_or places i 0) ≡ first_record (entered i) (records s)
  unfolding first_record
  first_is = sym (or_none (ending_at s (get_or places i 0))) ∙ (f.each i h).first

  pub entered_none : get_or places i 0 ≡ 0 → none ≡ first_record (entered i) (records s)
  unfolding ending_at
  entered_none z = let e : ending_at s (get_or places i 0) ≡ none = rw (eq-eqb (get_or places i 0) 0 z) in sym e ∙ first_is

  pub entered_some : (r : Bytes) → (get_or places i 0 ≡ 0 → ⊥) → r ≡ part (get_or places i 0 - 64) 64 s → some r ≡ first_record (entered i) (records s)
  unfolding ending_at
  entered_some r n k =
      let e : ending_at s (get_or places i 0) ≡ some (part (get_or places i 0 - 64) 64 s) = rw (ne_eqb (get_or places i 0) 0 n) in
      ap some k ∙ sym e ∙ first_is

-- The entries by kind and number.
past_facts : (c d : Bool) (m n : ℕ) → n < 16 → eqb (if c then 16 + m else if d then 24 else unasked) n ≡ false
past_facts true d m n h = ne_eqb (16 + m) n (λ e. omega arith)
past_facts false true m n h = ne_eqb 24 n (λ e. omega arith)
past_facts false false m n h = ne_eqb 25 n (λ e. omega arith)

fact_entry : (k m n : ℕ) → n < 16 → eqb (entry_of k m) n ≡ (eqb k 10 && eqb m n)
unfolding entry_of
fact_entry k m n h = pick (eqb k 10) refl (ltb m 16) refl
  where
    pick : (a : Bool) → eqb k 10 ≡ a → (b : Bool) → ltb m 16 ≡ b → eqb (entry_of k m) n ≡ (eqb k 10 && eqb m n)
    pick true q true p = rw (q, p)
    pick true q false p =
        let l = ltb-false m 16 p in
        rw (q, p, ne_eqb m n (λ e. omega arith)) (past_facts (eqb k 11 && ltb m 8) (eqb k 12) m n h)
    pick false q b p = rw q (past_facts (eqb k 11 && ltb m 8) (eqb k 12) m n h)

eqb_shift : (m n : ℕ) → eqb (16 + m) (16 + n) ≡ eqb m n
eqb_shift m n = pick (eqb m n) refl
  where
    pick : (b : Bool) → eqb m n ≡ b → eqb (16 + m) (16 + n) ≡ b
    pick true q = let e = eqb-true m n q in eq-eqb (16 + m) (16 + n) (omega arith)
    pick false q = ne_eqb (16 + m) (16 + n) (λ e. eqb-false m n q (omega arith))

past_signatures : (d : Bool) (n : ℕ) → n < 8 → eqb (if d then 24 else unasked) (16 + n) ≡ false
past_signatures true n h = ne_eqb 24 (16 + n) (λ e. omega arith)
past_signatures false n h = ne_eqb 25 (16 + n) (λ e. omega arith)

signature_entry : (k m n : ℕ) → n < 8 → eqb (entry_of k m) (16 + n) ≡ (eqb k 11 && eqb m n)
unfolding entry_of
signature_entry k m n h = pick (eqb k 10) refl (ltb m 16) refl (eqb k 11) refl (ltb m 8) refl
  where
    pick : (a : Bool) → eqb k 10 ≡ a → (b : Bool) → ltb m 16 ≡ b → (c : Bool) → eqb k 11 ≡ c → (d : Bool) → ltb m 8 ≡ d → eqb (entry_of k m) (16 + n) ≡ (eqb k 11 && eqb m n)
    pick true q true p c u d v =
        let e = eqb-true k 10 q in
        let l = ltb-true m 16 p in
        rw (q, p, ne_eqb k 11 (λ z. omega arith)) (ne_eqb m (16 + n) (λ z. omega arith))
    pick true q false p c u d v = let e = eqb-true k 10 q in rw (q, p, ne_eqb k 11 (λ z. omega arith)) (past_signatures (eqb k 12) n h)
    pick false q b p true u true v = rw (q, u, v) (eqb_shift m n)
    pick false q b p true u false v =
        let l = ltb-false m 8 v in
        rw (q, u, v, ne_eqb m n (λ e. omega arith)) (past_signatures (eqb k 12) n h)
    pick false q b p false u d v = rw (q, u) (past_signatures (eqb k 12) n h)

policy_entry : (k m : ℕ) → eqb (entry_of k m) 24 ≡ eqb k 12
unfolding entry_of
policy_entry k m = pick (eqb k 10) refl (ltb m 16) refl (eqb k 11) refl (ltb m 8) refl (eqb k 12) refl
  where
    last : (f : Bool) → eqb (if f then 24 else unasked) 24 ≡ f
    last true = refl
    last false = refl

    pick : (a : Bool) → eqb k 10 ≡ a → (b : Bool) → ltb m 16 ≡ b → (c : Bool) → eqb k 11 ≡ c → (d : Bool) → ltb m 8 ≡ d → (f : Bool) → eqb k 12 ≡ f → eqb (entry_of k m) 24 ≡ eqb k 12
    pick true q true p c u d v f w =
        let e = eqb-true k 10 q in
        let l = ltb-true m 16 p in
        rw (q, p, ne_eqb k 12 (λ z. omega arith)) (ne_eqb m 24 (λ z. omega arith))
    pick true q false p c u d v f w = let e = eqb-true k 10 q in rw (q, p, ne_eqb k 11 (λ z. omega arith), ne_eqb k 12 (λ z. omega arith))
    pick false q b p true u true v f w =
        let e = eqb-true k 11 u in
        let l = ltb-true m 8 v in
        rw (q, u, v, ne_eqb k 12 (λ z. omega arith)) (ne_eqb (16 + m) 24 (λ z. omega arith))
    pick false q b p true u false v f w = let e = eqb-true k 11 u in rw (q, u, v, ne_eqb k 12 (λ z. omega arith))
    pick false q b p false u d v f w = rw (q, u) (last (eqb k 12))

-- a test that says the same of every record finds the same record
same_first : (p q : Bytes → Bool) (rs : List Bytes) → ((r : Bytes) → p r ≡ q r) → first_record p rs ≡ first_record q rs
unfolding first_record
same_first p q [] e = refl
same_first p q (r ∷ rs) e = rw (e r, same_first p q rs e)

pub first_fact : (n : ℕ) (rs : List Bytes) → n < 16 → first_record (entered n) rs ≡ first_record (numbered 10 n) rs
unfolding entered numbered
first_fact n rs h = same_first (entered n) (numbered 10 n) rs (λ r. fact_entry (kind r) (byte 4 r) n h)

pub first_signature : (n : ℕ) (rs : List Bytes) → n < 8 → first_record (entered (16 + n)) rs ≡ first_record (numbered 11 n) rs
unfolding entered numbered
first_signature n rs h = same_first (entered (16 + n)) (numbered 11 n) rs (λ r. signature_entry (kind r) (byte 4 r) n h)

pub first_policy : (rs : List Bytes) → first_record (entered 24) rs ≡ first_record policy_record rs
unfolding entered policy_record
first_policy rs = same_first (entered 24) policy_record rs (λ r. policy_entry (kind r) (byte 4 r))
