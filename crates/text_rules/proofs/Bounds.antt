-- How much a request file, a bundle and files of single records can hold, for any weight of their records. With weight 1 each these are numbers of
-- records, and with the lengths of lines, the longest texts.
use Prim.Native.Nat.{ℕ, zero, suc, ◌+◌, ◌-◌, ◌*◌, ◌≤◌, ◌<◌}
use native.Mathlib.Omega.{arith}
use mathlib.Core.Path.{◌≡◌, refl, ap}
use mathlib.Core.Logic.{◌⊎◌, inl, inr}
use mathlib.Core.Option.{none}
use mathlib.Core.Bool.{Bool, true, false, ◌&&◌, false≢true}
use lib.Dec.{eqb, leb, ltb}
use borrow.Author.Tests.{eqb-true, leb-true, ltb-true, le-ltb, lt-ltb, eq-eqb, ne_eqb}
use Rattle.rules.specs.Sizes.{certificates_max, delegations_max, listed_max}
use Rattle.rules.specs.Numbers.{malformed, too_many}
use Rattle.std.specs.Prelude.{if◌then◌else◌}
use Rattle.rules.specs.Basics.{Bytes, implies, byte, kind, record_fault}
use Rattle.rules.specs.Layout.{between, certificate_laid_out, delegation_laid_out, blobfile_request_laid_out, fact_laid_out, signature_laid_out}
use Rattle.rules.specs.Acl.{announces_blobfile}
use Rattle.rules.specs.Request.{request_laid_out, blobfile_request_record, certificate_record, delegation_record, PresentedCounts, presented_start, certificate_fault, delegation_fault, presented_record_fault, after_presented}
use Rattle.rules.specs.Bundle.{order_of, listed_order, BundleState, bundle_record_laid_out, in_order, bundle_in_place, bundle_has_room, bundle_record_fault, listed_after, after_bundle_record}
use Rattle.rules.proofs.Laws.{and_left, and_right, and_both, unless_passed, fault_none_every}
use Rattle.text_rules.specs.Kinds.{RequestState, request_due, blob_file_due, presenting, request_state_fault, after_request_record}
use Rattle.text_rules.proofs.Digits.{below_or_not}

ruleset conj = (and_left, and_right, and_both)

-- a record that is good where it stands, and for which there is room
pub fault_passed : (good room : Bool) → record_fault good room ≡ none → (good ≡ true) × (room ≡ true)
unfolding record_fault
fault_passed good room e =
    let h = fault_none_every _ e in
    (unless_passed good malformed h.0, unless_passed room too_many h.1.0)

one_less : (m n x : ℕ) → n < m → (m - n) * x ≡ x + (m - (n + 1)) * x
one_less m n x h = let e : m - n ≡ suc (m - (n + 1)) = omega arith in rw e (omega arith)

-- Records that each stand by themselves.
pub each_spent : (good : Bytes → Bool) (most w n : ℕ) (r : Bytes) → record_fault (good r) (ltb n most) ≡ none → w + (most - (n + 1)) * w ≤ (most - n) * w
each_spent good most w n r e =
    let p = fault_passed (good r) (ltb n most) e in
    let l = one_less most n w (ltb-true n most p.1) in
    omega arith

-- A request's records. A request record is of kind 6, 7 or 8:
pub three_kinds : (r : Bytes) → request_laid_out r ≡ true → (kind r ≡ 6) ⊎ (kind r ≡ 7) ⊎ (kind r ≡ 8)
unfolding request_laid_out
three_kinds r e = pick (eqb (kind r) 6) refl (eqb (kind r) 7) refl (eqb (kind r) 8) refl
  where
    pick : (a : Bool) → eqb (kind r) 6 ≡ a → (b : Bool) → eqb (kind r) 7 ≡ b → (c : Bool) → eqb (kind r) 8 ≡ c → (kind r ≡ 6) ⊎ (kind r ≡ 7) ⊎ (kind r ≡ 8)
    pick true p b q c s = inl (eqb-true (kind r) 6 p)
    pick false p true q c s = inr (inl (eqb-true (kind r) 7 q))
    pick false p false q true s = inr (inr (eqb-true (kind r) 8 s))
    pick false p false q false s = absurd (false≢true (rw (p, q, s) at e))

-- what follows it is a certificate or a delegation that is not one too many
pub record Presented (c : PresentedCounts) (r : Bytes) : Type 0 where
  pub which : ((kind r ≡ 9) × (certificate_laid_out r ≡ true) × (c.certificates < certificates_max)) ⊎ ((kind r ≡ 14) × (delegation_laid_out r ≡ true) × (c.delegations < delegations_max))

certificate_laid : (r : Bytes) → certificate_record r ≡ true → certificate_laid_out r ≡ true
unfolding certificate_record
certificate_laid r e = and_right (eqb (kind r) 9) (certificate_laid_out r) e

delegation_laid : (r : Bytes) → delegation_record r ≡ true → (kind r ≡ 14) × (delegation_laid_out r ≡ true)
unfolding delegation_record
delegation_laid r e = (eqb-true (kind r) 14 (and_left (eqb (kind r) 14) (delegation_laid_out r) e), and_right (eqb (kind r) 14) (delegation_laid_out r) e)

pub presented_is : (c : PresentedCounts) (r : Bytes) → presented_record_fault c r ≡ none → Presented c r
unfolding presented_record_fault certificate_fault delegation_fault
presented_is c r e = pick (eqb (kind r) 9) refl
  where
    pick : (b : Bool) → eqb (kind r) 9 ≡ b → Presented c r
    pick true p =
        let k = eqb-true (kind r) 9 p in
        let f : record_fault (certificate_record r && eqb c.delegations 0) (ltb c.certificates certificates_max) ≡ none = rw p at e in
        let g = fault_passed (certificate_record r && eqb c.delegations 0) (ltb c.certificates certificates_max) f in
        let a = and_left (certificate_record r) (eqb c.delegations 0) g.0 in
        record { which = inl (k, certificate_laid r a, ltb-true c.certificates certificates_max g.1) }
    pick false p =
        let f : record_fault (delegation_record r) (ltb c.delegations delegations_max) ≡ none = rw p at e in
        let g = fault_passed (delegation_record r) (ltb c.delegations delegations_max) f in
        record { which = inr ((delegation_laid r g.0).0, (delegation_laid r g.0).1, ltb-true c.delegations delegations_max g.1) }

module _ (q f c d : ℕ) where
  -- what a record weighs, by its kind
  unfoldable pub request_weight : Bytes → ℕ
  request_weight r =
      if eqb (kind r) 9 then c
      else if eqb (kind r) 14 then d
      else if eqb (kind r) 15 then f
      else q

  abbrev presented_room : PresentedCounts → ℕ
  presented_room p = (certificates_max - p.certificates) * c + (delegations_max - p.delegations) * d

  -- what can still come
  abbrev pub request_room : RequestState → ℕ
  request_room request_due = q + f + presented_room presented_start
  request_room blob_file_due = f + presented_room presented_start
  request_room (presenting p) = presented_room p

  first_weight : (r : Bytes) → request_laid_out r ≡ true → request_weight r ≡ q
  unfolding request_weight
  first_weight r e = pick (three_kinds r e)
    where
      pick : (kind r ≡ 6) ⊎ (kind r ≡ 7) ⊎ (kind r ≡ 8) → request_weight r ≡ q
      pick (inl k) = rw k
      pick (inr (inl k)) = rw k
      pick (inr (inr k)) = rw k

  after_most : (b : Bool) → request_room (if b then blob_file_due else presenting presented_start) ≤ f + presented_room presented_start
  after_most true = omega arith
  after_most false = omega arith

  pub request_spent : (s : RequestState) (r : Bytes) → request_state_fault s r ≡ none → request_weight r + request_room (after_request_record s r) ≤ request_room s
  unfolding request_weight blobfile_request_record after_presented
  request_spent request_due r e =
      let w = first_weight r (unless_passed (request_laid_out r) malformed e) in
      let m = after_most (announces_blobfile r) in
      omega arith
  request_spent blob_file_due r e =
      let p = unless_passed (blobfile_request_record r) malformed e in
      let k = eqb-true (kind r) 15 (and_left (eqb (kind r) 15) (blobfile_request_laid_out r) p) in
      rw k (omega arith)
  request_spent (presenting p) r e = pick (presented_is p r e).which
    where
      pick : ((kind r ≡ 9) × (certificate_laid_out r ≡ true) × (p.certificates < certificates_max)) ⊎ ((kind r ≡ 14) × (delegation_laid_out r ≡ true) × (p.delegations < delegations_max)) → request_weight r + request_room (presenting (after_presented p r)) ≤ request_room (presenting p)
      pick (inl h) =
          let k = h.0 in
          let l = one_less certificates_max p.certificates c h.2 in
          rw k (omega arith)
      pick (inr h) =
          let k = h.0 in
          let l = one_less delegations_max p.delegations d h.2 in
          rw k (omega arith)

-- A bundle's records: where their orders lie
pub data Ordered (o : ℕ) : Type 0 where
  a_field : 2561 ≤ o → o < 2574 → Ordered o
  a_listed : o ≡ listed_order → Ordered o
  a_signature : 2817 ≤ o → o < 2823 → Ordered o
  a_policy : o ≡ 3072 → Ordered o

pub ordered : (r : Bytes) → bundle_record_laid_out r ≡ true → Ordered (order_of r)
unfolding bundle_record_laid_out order_of fact_laid_out signature_laid_out
ordered r e = pick (eqb (kind r) 10) refl (eqb (kind r) 11) refl (eqb (kind r) 12) refl
  where
    pick : (a : Bool) → eqb (kind r) 10 ≡ a → (b : Bool) → eqb (kind r) 11 ≡ b → (c : Bool) → eqb (kind r) 12 ≡ c → Ordered (order_of r)
    pick true p b q c s =
        let k = eqb-true (kind r) 10 p in
        let f : fact_laid_out r ≡ true = rw p at e in
        let g : between 1 14 (byte 4 r) ≡ true = search conj in
        let low = leb-true 1 (byte 4 r) (and_left (leb 1 (byte 4 r)) (leb (byte 4 r) 14) g) in
        let high = leb-true (byte 4 r) 14 (and_right (leb 1 (byte 4 r)) (leb (byte 4 r) 14) g) in
        rw k (either (byte 4 r) low high (below_or_not (byte 4 r) 14))
      where
        either : (n : ℕ) → 1 ≤ n → n ≤ 14 → (n < 14) ⊎ (14 ≤ n) → Ordered (10 * 256 + n)
        either n low high (inl l) = a_field (omega arith) (omega arith)
        either n low high (inr l) = a_listed (omega arith)
    pick false p true q c s =
        let k = eqb-true (kind r) 11 q in
        let f : signature_laid_out r ≡ true = rw (p, q) at e in
        let g : between 1 6 (byte 4 r) ≡ true = search conj in
        let low = leb-true 1 (byte 4 r) (and_left (leb 1 (byte 4 r)) (leb (byte 4 r) 6) g) in
        let high = leb-true (byte 4 r) 6 (and_right (leb 1 (byte 4 r)) (leb (byte 4 r) 6) g) in
        rw k (a_signature (omega arith) (omega arith))
    pick false p false q true s = rw s (a_policy refl)
    pick false p false q false s = absurd (false≢true (rw (p, q, s) at e))

-- a record in order comes after the last, or is field 14 again
in_order_lem : (last o : ℕ) → in_order last o ≡ true → (last < o) ⊎ ((last ≡ listed_order) × (o ≡ listed_order))
in_order_lem last o e = pick (ltb last o) refl
  where
    pick : (b : Bool) → ltb last o ≡ b → (last < o) ⊎ ((last ≡ listed_order) × (o ≡ listed_order))
    pick true p = inl (ltb-true last o p)
    pick false p =
        let f : (eqb last listed_order && eqb o listed_order) ≡ true = rw p at e in
        inr (eqb-true last listed_order (and_left (eqb last listed_order) (eqb o listed_order) f), eqb-true o listed_order (and_right (eqb last listed_order) (eqb o listed_order) f))

-- bundle records weighed by their order: what may still come after the last record
module _ (w : ℕ → ℕ) where
  abbrev range_room : ℕ → ℕ → ℕ → ℕ
  range_room last low zero = 0
  range_room last low (suc n) = (if ltb last low then w low else 0) + range_room last (low + 1) n

  place_falls : (last order low : ℕ) → last ≤ order → (if ltb order low then w low else 0) ≤ (if ltb last low then w low else 0)
  place_falls last order low l = pick (below_or_not order low) (below_or_not last low)
    where
      pick : (order < low) ⊎ (low ≤ order) → (last < low) ⊎ (low ≤ last) → (if ltb order low then w low else 0) ≤ (if ltb last low then w low else 0)
      pick (inl a) (inl b) = rw (lt-ltb order low a, lt-ltb last low b) (omega arith)
      pick (inl a) (inr b) = absurd (omega arith)
      pick (inr a) b = rw (le-ltb order low a) (omega arith)

  range_falls : (last order low n : ℕ) → last ≤ order → range_room order low n ≤ range_room last low n
  range_falls last order low zero l = omega arith
  range_falls last order low (suc n) l =
      let a = place_falls last order low l in
      let i = range_falls last order (low + 1) n l in
      omega arith

  range_spent : (last order low n : ℕ) → last < order → low ≤ order → order < low + n → w order + range_room order low n ≤ range_room last low n
  range_spent last order low zero l a b = absurd (omega arith)
  range_spent last order low (suc n) l a b = pick (below_or_not low order) (range_spent last order (low + 1) n l)
    where
      pick : (low < order) ⊎ (order ≤ low) → (low + 1 ≤ order → order < low + 1 + n → w order + range_room order (low + 1) n ≤ range_room last (low + 1) n) → w order + range_room order low (suc n) ≤ range_room last low (suc n)
      pick (inl c) g =
          let i = g (omega arith) (omega arith) in
          let p = place_falls last order low (omega arith) in
          omega arith
      pick (inr c) g =
          let e : low ≡ order = omega arith in
          let i = range_falls last order (low + 1) n (omega arith) in
          let j : range_room order (order + 1) n ≤ range_room last (order + 1) n = rw e at i in
          rw (e, le-ltb order order (omega arith), lt-ltb last order l) (omega arith)

  -- what can still come: fields 1 to 13, signatures, the policy, and field 14
  abbrev pub bundle_room : BundleState → ℕ
  bundle_room s =
      range_room s.last 2561 13 + range_room s.last 2817 6 + range_room s.last 3072 1 + (listed_max - s.listed_count) * w listed_order

  module _ (last n o : ℕ) (i : in_order last o ≡ true) where
    abbrev spent_at : ℕ → Type 0
    spent_at m = w o + bundle_room (record { last = o; listed_count = m }) ≤ bundle_room (record { last = last; listed_count = n })

    listed_spent : o ≡ listed_order → n < listed_max → spent_at (n + 1)
    listed_spent e l =
        let x = one_less listed_max n (w listed_order) l in
        let le : last ≤ o = pick (in_order_lem last o i) in
        let a = range_falls last o 2561 13 le in
        let b = range_falls last o 2817 6 le in
        let c = range_falls last o 3072 1 le in
        let y : w o ≡ w listed_order = ap w e in
        omega arith
      where
        pick : (last < o) ⊎ ((last ≡ listed_order) × (o ≡ listed_order)) → last ≤ o
        pick (inl l) = omega arith
        pick (inr h) = let p = h.0 in let q = h.1 in omega arith

    after_last : (o ≡ listed_order → ⊥) → last < o
    after_last other = pick (in_order_lem last o i)
      where
        pick : (last < o) ⊎ ((last ≡ listed_order) × (o ≡ listed_order)) → last < o
        pick (inl l) = l
        pick (inr h) = absurd (other h.1)

    field_spent : 2561 ≤ o → o < 2574 → spent_at n
    field_spent a b =
        let l = after_last (λ q. omega arith) in
        let x = range_spent last o 2561 13 l a b in
        let y = range_falls last o 2817 6 (omega arith) in
        let z = range_falls last o 3072 1 (omega arith) in
        omega arith

    signature_spent : 2817 ≤ o → o < 2823 → spent_at n
    signature_spent a b =
        let l = after_last (λ q. omega arith) in
        let x = range_falls last o 2561 13 (omega arith) in
        let y = range_spent last o 2817 6 l a b in
        let z = range_falls last o 3072 1 (omega arith) in
        omega arith

    policy_spent : o ≡ 3072 → spent_at n
    policy_spent e =
        let l = after_last (λ q. omega arith) in
        let x = range_falls last o 2561 13 (omega arith) in
        let y = range_falls last o 2817 6 (omega arith) in
        let z = range_spent last o 3072 1 l (omega arith) (omega arith) in
        omega arith

    placed_spent : Ordered o → implies (eqb o listed_order) (ltb n listed_max) ≡ true → spent_at (if eqb o listed_order then n + 1 else n)
    placed_spent (a_field a b) h = rw (ne_eqb o listed_order (λ q. omega arith)) (field_spent a b)
    placed_spent (a_listed e) h =
        let t = eq-eqb o listed_order e in
        let l : ltb n listed_max ≡ true = rw t at h in
        rw t (listed_spent e (ltb-true n listed_max l))
    placed_spent (a_signature a b) h = rw (ne_eqb o listed_order (λ q. omega arith)) (signature_spent a b)
    placed_spent (a_policy e) h = rw (ne_eqb o listed_order (λ q. omega arith)) (policy_spent e)

  pub bundle_spent : (s : BundleState) (r : Bytes) → bundle_record_fault s r ≡ none → w (order_of r) + bundle_room (after_bundle_record s r) ≤ bundle_room s
  unfolding bundle_record_fault bundle_in_place bundle_has_room listed_after
  bundle_spent s r e =
      let g = fault_passed (bundle_in_place s.last r) (bundle_has_room s.listed_count r) e in
      let a = and_left (bundle_record_laid_out r) (in_order s.last (order_of r)) g.0 in
      let i = and_right (bundle_record_laid_out r) (in_order s.last (order_of r)) g.0 in
      placed_spent s.last s.listed_count (order_of r) i (ordered r a) g.1
