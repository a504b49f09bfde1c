-- A request file by its first record and the rest, and the fault of one certificate or hint by what the tests answered.
use Prim.Native.Nat.{ℕ, zero, suc, ◌+◌, ◌-◌, ◌*◌, ◌/◌, ◌%◌, ◌≤◌, ◌<◌}
use native.Mathlib.Omega.{arith}
use mathlib.Core.Path.{◌≡◌, refl, sym, ◌∙◌, ap}
use mathlib.Core.List.{List, [], ◌∷◌, ◌++◌}
use mathlib.Core.Option.{Option, none, some}
use mathlib.Core.Bool.{Bool, true, false, ◌&&◌}
use lib.ListN.{length, take, drop, get_or, length-drop, length-append}
use lib.Seq.{take-add, take_at, drop_at, drop-drop, length-take-le}
use lib.Dec.{eqb, ltb}
use borrow.Author.Tests.{eq-eqb, ne_eqb, eqb-true}
use Rattle.rules.specs.Sizes.{certificates_max, delegations_max}
use Rattle.rules.specs.Numbers.{malformed, too_many}
use Rattle.std.specs.Prelude.{if◌then◌else◌}
use Rattle.rules.specs.Basics.{Bytes, number, kind, flag, unless, records, or_next, first_fault, record_fault, scan, records_from}
use Rattle.rules.specs.Request.{Certificate, certificate_of, certificates_of, delegations_of, certificate_record, delegation_record, PresentedCounts, certificate_fault, delegation_fault, presented_record_fault, after_presented, presented_end, presented_fault, blobfile_request_record, blobfile_follows, presented_after, request_fault, request_from, request_of, hint_record, hint_fault}
use Rattle.rules.specs.Layout.{delegation_laid_out, blobfile_request_laid_out}
use Rattle.rules.proofs.Laws.{and_left, and_right, not_both, unless_passed, or_next_first, or_next_next, fault_none_every}
use Rattle.request_reader.specs.Following.{following_fault}
use Rattle.request_reader.specs.Parts.{Parted}
use Rattle.record_fields.proofs.Walks.{scan_stop, scan_next, bad_record, full_record, sound_record}
use Rattle.rules.proofs.Rows.{first, no_rows, rows_rest, rows_lent, rows_end, lent_record, lent_rest, lent_record_lem, kind_at}

-- the first record and what follows
request_rows : (s : Bytes) → 64 ≤ length s → records s ≡ take 64 s ∷ records (drop 64 s)
request_rows s h = first s h

-- a part after the first 64 bytes: there are so many
pub enough : (n k : ℕ) → n + 64 ≡ k → 64 ≤ k
enough n k e = omega arith

-- a fault and none after it
next_none : {F : Type 0} (o : Option F) → or_next o none ≡ o
next_none none = refl
next_none (some f) = refl

module _ (first : Bytes → Bool) (s : Bytes) where
  pub request_missing : length s < 64 → some malformed ≡ request_fault first (records s)
  unfolding request_fault
  request_missing h = sym (ap (request_fault first) (no_rows s h))

  pub request_bad : (r : Bool) → 64 ≤ length s → r ≡ first (take 64 s) → r ≡ false → some malformed ≡ request_fault first (records s)
  unfolding request_fault first_fault
  request_bad r h e n = sym (ap (request_fault first) (request_rows s h) ∙ rw (sym e ∙ n))

  pub request_rest : (r : Bool) (x : Option ℕ) → 64 ≤ length s → r ≡ first (take 64 s) → r ≡ true
      → x ≡ following_fault (take 64 s) (records (drop 64 s)) → x ≡ request_fault first (records s)
  unfolding request_fault following_fault first_fault
  request_rest r x h e n p =
      let rest = records (drop 64 s) in
      let f = presented_fault (presented_after (take 64 s) rest) in
      let d : or_next f none ≡ f = next_none f in
      p ∙ sym (ap (request_fault first) (request_rows s h) ∙ rw (sym e ∙ n, d))

-- What follows a request record, by the flag that the code read.
module _ (r s : Bytes) (f : Bool) (e : f ≡ flag 6 r) where
  pub following_plain : (x : Option ℕ) → f ≡ false → x ≡ presented_fault (records s) → x ≡ following_fault r (records s)
  unfolding following_fault
  following_plain x n p = p ∙ sym (rw (sym e ∙ n))

  pub following_missing : f ≡ true → length s < 64 → some malformed ≡ following_fault r (records s)
  unfolding following_fault blobfile_follows
  following_missing n h = sym (ap (following_fault r) (no_rows s h) ∙ rw (sym e ∙ n))

  module _ (n : f ≡ true) (h : 64 ≤ length s) (b : Bool) (d : b ≡ blobfile_request_record (take 64 s)) where
    pub following_bad : b ≡ false → some malformed ≡ following_fault r (records s)
    unfolding following_fault blobfile_follows
    following_bad k = sym (ap (following_fault r) (request_rows s h) ∙ rw (sym e ∙ n, sym d ∙ k))

    pub following_file : (x : Option ℕ) → b ≡ true → x ≡ presented_fault (records (drop 64 s)) → x ≡ following_fault r (records s)
    unfolding following_fault blobfile_follows
    following_file x k p = p ∙ sym (ap (following_fault r) (request_rows s h) ∙ rw (sym e ∙ n, sym d ∙ k))

-- The turns of the loop over certificates and delegations, after n of the one and m of the other.
module _ (rs : List Bytes) (i n m : ℕ) (x : Option ℕ)
    (inv : scan presented_record_fault after_presented presented_end (record { certificates = n; delegations = m }) (drop i rs) ≡ x)
    (more : i < length rs) where
  abbrev Counts : PresentedCounts
  Counts = record { certificates = n; delegations = m }

  module _ (e : kind (get_or rs i []) ≡ 9) (r : Bool) (d : r ≡ certificate_record (get_or rs i [])) where
    certificate_is : presented_record_fault Counts (get_or rs i []) ≡ record_fault (certificate_record (get_or rs i []) && eqb m 0) (ltb n certificates_max)
    unfolding presented_record_fault certificate_fault
    certificate_is = rw (eq-eqb (kind (get_or rs i [])) 9 e)

    good : (r && eqb m 0) ≡ (certificate_record (get_or rs i []) && eqb m 0)
    good = ap (λ (b : Bool). b && eqb m 0) d

    pub certificate_bad : (r && eqb m 0) ≡ false → some malformed ≡ x
    certificate_bad h = scan_stop _ _ _ rs i _ x inv _ more (bad_record _ _ _ _ certificate_is good h)

    pub certificate_full : (r && eqb m 0) ≡ true → ltb n certificates_max ≡ false → some too_many ≡ x
    certificate_full h k = scan_stop _ _ _ rs i _ x inv _ more (full_record _ _ _ _ certificate_is good _ refl h k)

    pub certificate_sound : (r && eqb m 0) ≡ true → ltb n certificates_max ≡ true
        → scan presented_record_fault after_presented presented_end (record { certificates = n + 1; delegations = m }) (drop (i + 1) rs) ≡ x
    unfolding after_presented
    certificate_sound h k =
        scan_next _ _ _ rs i _ x inv _ more (sound_record _ _ _ _ certificate_is good _ refl h k)
        (sym (rw (eq-eqb (kind (get_or rs i [])) 9 e)))

  module _ (e : kind (get_or rs i []) ≡ 9 → ⊥) (r : Bool) (d : r ≡ delegation_record (get_or rs i [])) where
    delegation_is : presented_record_fault Counts (get_or rs i []) ≡ record_fault (delegation_record (get_or rs i [])) (ltb m delegations_max)
    unfolding presented_record_fault delegation_fault
    delegation_is = rw (ne_eqb (kind (get_or rs i [])) 9 e)

    pub delegation_bad : r ≡ false → some malformed ≡ x
    delegation_bad h = scan_stop _ _ _ rs i _ x inv _ more (bad_record _ _ _ _ delegation_is d h)

    pub delegation_full : r ≡ true → ltb m delegations_max ≡ false → some too_many ≡ x
    delegation_full h k = scan_stop _ _ _ rs i _ x inv _ more (full_record _ _ _ _ delegation_is d _ refl h k)

    pub delegation_sound : r ≡ true → ltb m delegations_max ≡ true
        → scan presented_record_fault after_presented presented_end (record { certificates = n; delegations = m + 1 }) (drop (i + 1) rs) ≡ x
    unfolding after_presented
    delegation_sound h k =
        scan_next _ _ _ rs i _ x inv _ more (sound_record _ _ _ _ delegation_is d _ refl h k)
        (sym (rw (ne_eqb (kind (get_or rs i [])) 9 e)))

-- The fault of a hint.
module _ (r : Bytes) (a : Bool) (e : a ≡ hint_record r) where
  pub hint_bad : a ≡ false → hint_fault r ≡ some malformed
  unfolding hint_fault
  hint_bad h = rw (sym e ∙ h)

  pub hint_sound : a ≡ true → hint_fault r ≡ none
  unfolding hint_fault
  hint_sound h = rw (sym e ∙ h)

-- What a request says.
module _ (s : Bytes) where
  pub time_none : length s < 64 → 0 ≡ (request_of s).time
  unfolding request_from
  time_none h = sym (ap (λ (l : List Bytes). (request_from l).time) (no_rows s h))

  pub time_some : (x : ℕ) → 64 ≤ length s → x ≡ number 56 8 (take 64 s) → x ≡ (request_of s).time
  unfolding request_from
  time_some x h e = e ∙ sym (ap (λ (l : List Bytes). (request_from l).time) (request_rows s h))

-- Where the delegations begin. The search goes back from the end: from a byte on there are delegations alone.
module _ (s : Bytes) where
  pub none_past : certificates_of (records_from s (length s - length s % 64)) ≡ []
  unfolding certificates_of
  none_past = ap certificates_of (rows_end s (length s - length s % 64) (omega arith))

  pub none_earlier : (at : ℕ) → certificates_of (records_from s at) ≡ [] → 64 ≤ at → at ≤ length s → get_or s (at - 64) 0 ≡ 14 → certificates_of (records_from s (at - 64)) ≡ []
  unfolding certificates_of
  none_earlier at inv h k e =
      let d : at - 64 + 64 ≡ at = omega arith in
      ap certificates_of (rows_lent s (at - 64) (omega arith))
      ∙ rw (lent_record_lem s (at - 64), kind_at s (at - 64), e, d) inv

-- a file as its first n records and the rest
first_rows : (n : ℕ) (bs : Bytes) → n * 64 ≤ length bs → records bs ≡ records (take (n * 64) bs) ++ records (drop (n * 64) bs)
first_rows zero bs h = rw (no_rows [] (omega arith))
first_rows (suc n) bs h =
    let k : suc n * 64 ≡ 64 + n * 64 = omega arith in
    let l = length-take-le 64 bs (omega arith) in
    let t : take (suc n * 64) bs ≡ take 64 bs ++ take (n * 64) (drop 64 bs) = ap (λ (m : ℕ). take m bs) k ∙ take-add 64 (n * 64) bs in
    let d : drop (n * 64) (drop 64 bs) ≡ drop (suc n * 64) bs = drop-drop (n * 64) 64 bs ∙ ap (λ (m : ℕ). drop m bs) (sym k) in
    let i = first_rows n (drop 64 bs) (omega (arith, length-drop 64 bs)) in
    let f = first (take 64 bs ++ take (n * 64) (drop 64 bs)) (omega (arith, l, length-append (take 64 bs) (take (n * 64) (drop 64 bs)))) in
    let g : records (take (suc n * 64) bs) ≡ take 64 bs ∷ records (take (n * 64) (drop 64 bs)) =
    ap records t ∙ f ∙ rw (take_at (take 64 bs) (take (n * 64) (drop 64 bs)) 64 l, drop_at (take 64 bs) (take (n * 64) (drop 64 bs)) 64 l) in
    first bs (omega arith) ∙ ap (λ (rs : List Bytes). take 64 bs ∷ rs) (i ∙ ap (λ (b : Bytes). records (take (n * 64) (drop 64 bs)) ++ records b) d) ∙ sym (ap (λ (rs : List Bytes). rs ++ records (drop (suc n * 64) bs)) g)

-- certificates after which there is none
certificates_append : (xs ys : List Bytes) → certificates_of ys ≡ [] → certificates_of (xs ++ ys) ≡ certificates_of xs
unfolding certificates_of
certificates_append [] ys e = e
certificates_append (x ∷ xs) ys e = ap (λ (l : List Certificate). if eqb (kind x) 9 then certificate_of x ∷ l else l) (certificates_append xs ys e)

-- A record without fault that is no delegation comes where none was read
other_record : (n m : ℕ) (r : Bytes) → presented_record_fault (record { certificates = n; delegations = m }) r ≡ none → eqb (kind r) 14 ≡ false → m ≡ 0
unfolding presented_record_fault certificate_fault delegation_fault record_fault delegation_record
other_record n m r e d = pick (eqb (kind r) 9) refl
  where
    pick : (b : Bool) → eqb (kind r) 9 ≡ b → m ≡ 0
    pick true k = eqb-true m 0 (and_right (certificate_record r) (eqb m 0) (unless_passed _ malformed (fault_none_every _ (rw k at e)).0))
    pick false k = absurd (not_both (eqb (kind r) 14) (and_left (eqb (kind r) 14) (delegation_laid_out r) (unless_passed _ malformed (fault_none_every _ (rw k at e)).0)) d)

-- all delegations come after it
delegations_after : (n m : ℕ) (xs : List Bytes) (r : Bytes) (ys : List Bytes)
    → scan presented_record_fault after_presented presented_end (record { certificates = n; delegations = m }) (xs ++ r ∷ ys) ≡ none → eqb (kind r) 14 ≡ false
    → (m ≡ 0) × (delegations_of (xs ++ r ∷ ys) ≡ delegations_of ys)
unfolding scan after_presented delegations_of
delegations_after n m [] r ys e d = (other_record n m r (or_next_first _ _ e) d, rw d)
delegations_after n m (x ∷ xs) r ys e d =
    pick (eqb (kind x) 9) refl (λ f. delegations_after (n + 1) m xs r ys f d) (λ f. (delegations_after n (m + 1) xs r ys f d).0)
  where
    counts : PresentedCounts
    counts = record { certificates = n; delegations = m }

    rest : scan presented_record_fault after_presented presented_end (after_presented counts x) (xs ++ r ∷ ys) ≡ none
    rest = or_next_next (presented_record_fault counts x) (scan presented_record_fault after_presented presented_end (after_presented counts x) (xs ++ r ∷ ys)) e

    pick : (b : Bool) → eqb (kind x) 9 ≡ b
        → (scan presented_record_fault after_presented presented_end (record { certificates = n + 1; delegations = m }) (xs ++ r ∷ ys) ≡ none → (m ≡ 0) × (delegations_of (xs ++ r ∷ ys) ≡ delegations_of ys))
        → (scan presented_record_fault after_presented presented_end (record { certificates = n; delegations = m + 1 }) (xs ++ r ∷ ys) ≡ none → m + 1 ≡ 0)
        → (m ≡ 0) × (delegations_of (x ∷ xs ++ r ∷ ys) ≡ delegations_of ys)
    pick true k f g =
        let i = f (rw k at rest) in
        let t : eqb (kind x) 14 ≡ false = rw (eqb-true (kind x) 9 k) in
        (i.0, rw t i.1)
    pick false k f g = absurd (let z = g (rw k at rest) in omega arith)

-- the same where a record of kind 15 comes first
delegations_follow : (q : Bytes) (xs : List Bytes) (r : Bytes) (ys : List Bytes) → following_fault q (xs ++ r ∷ ys) ≡ none → eqb (kind r) 14 ≡ false → delegations_of (xs ++ r ∷ ys) ≡ delegations_of ys
unfolding following_fault presented_fault blobfile_follows blobfile_request_record delegations_of
delegations_follow q xs r ys e d = pick (flag 6 q) xs refl e
  where
    pick : (b : Bool) (zs : List Bytes) → flag 6 q ≡ b → following_fault q (zs ++ r ∷ ys) ≡ none → delegations_of (zs ++ r ∷ ys) ≡ delegations_of ys
    pick false zs k f = (delegations_after 0 0 zs r ys (rw k at f) d).1
    pick true [] k f = rw d
    pick true (z ∷ zs) k f =
        let g : or_next (unless (blobfile_request_record z) malformed) (presented_fault (zs ++ r ∷ ys)) ≡ none = rw k at f in
        let t = and_left (eqb (kind z) 15) (blobfile_request_laid_out z) (unless_passed (blobfile_request_record z) malformed (or_next_first _ _ g)) in
        let o : eqb (kind z) 14 ≡ false = rw (eqb-true (kind z) 15 t) in
        rw o (delegations_after 0 0 zs r ys (or_next_next (unless (blobfile_request_record z) malformed) _ g) d).1

-- the records after the first, before an offset and from there on
module _ (s : Bytes) (at : ℕ) (h : 64 ≤ at) (m : at % 64 ≡ 0) (l : at ≤ length s) where
  rows_parted : records_from s 64 ≡ records (take (at - 64) (drop 64 s)) ++ records_from s at
  unfolding records_from
  rows_parted =
      let n = (at - 64) / 64 in
      let k : n * 64 ≡ at - 64 = omega arith in
      let q : 64 + (at - 64) ≡ at = omega arith in
      first_rows n (drop 64 s) (omega (arith, length-drop 64 s))
      ∙ rw (k, drop-drop (at - 64) 64 s, q)

  parted_certificates : certificates_of (records_from s at) ≡ [] → certificates_of (records (take (at - 64) (drop 64 s))) ≡ (request_of s).certificates
  unfolding request_from records_from
  parted_certificates e =
      sym (certificates_append _ _ e) ∙ sym (ap certificates_of rows_parted) ∙ sym (ap (λ (l : List Bytes). (request_from l).certificates) (first s (omega arith)))

  parted_delegations : delegations_of (records_from s at) ≡ delegations_of (records_from s 64) → delegations_of (records (lent_rest s at)) ≡ (request_of s).delegations
  unfolding request_from records_from
  parted_delegations e = ap delegations_of (rows_rest s at) ∙ e ∙ sym (ap (λ (l : List Bytes). (request_from l).delegations) (first s (omega arith)))

-- the search ends at a record of another kind, or at the request record
pub parted_here : (s : Bytes) (at : ℕ) → certificates_of (records_from s at) ≡ [] → 64 < at → at % 64 ≡ 0 → at ≤ length s → (get_or s (at - 64) 0 ≡ 14 → ⊥) → following_fault (take 64 s) (records (drop 64 s)) ≡ none → Parted s at
unfolding records_from
parted_here s at c h m l n e =
    let xs = records (take (at - 64 - 64) (drop 64 s)) in
    let d : at - 64 + 64 ≡ at = omega arith in
    let p : records_from s 64 ≡ xs ++ lent_record s (at - 64) ∷ records_from s at =
    rows_parted s (at - 64) (omega arith) (omega arith) (omega arith)
    ∙ ap (λ (rs : List Bytes). xs ++ rs) (rows_lent s (at - 64) (omega arith) ∙ ap (λ (i : ℕ). lent_record s (at - 64) ∷ records_from s i) d) in
    let k : eqb (kind (lent_record s (at - 64))) 14 ≡ false = ap (λ (r : Bytes). eqb (kind r) 14) (lent_record_lem s (at - 64)) ∙ rw (kind_at s (at - 64), ne_eqb (get_or s (at - 64) 0) 14 n) in
    let f = delegations_follow (take 64 s) xs (lent_record s (at - 64)) (records_from s at) (sym (ap (following_fault (take 64 s)) p) ∙ e) k in
    record {
      later = omega arith;
      inside = l;
      certificates = parted_certificates s at (omega arith) m l c;
      delegations = parted_delegations s at (omega arith) m l (sym f ∙ sym (ap delegations_of p));
    }

pub parted_all : (s : Bytes) (at : ℕ) → certificates_of (records_from s at) ≡ [] → 64 ≤ at → at ≤ 64 → at % 64 ≡ 0 → at ≤ length s → Parted s at
parted_all s at c h g m l =
    let z : at ≡ 64 = omega arith in
    record {
      later = h;
      inside = l;
      certificates = parted_certificates s at h m l c;
      delegations = parted_delegations s at h m l (ap (λ (i : ℕ). delegations_of (records_from s i)) z);
    }
