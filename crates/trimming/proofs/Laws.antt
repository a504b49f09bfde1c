-- The turns of the loops of this crate: both lengths, the trimmed ACL.
use Prim.Native.Nat.{ℕ, zero, suc, ◌+◌, ◌-◌, ◌*◌, ◌≤◌, ◌<◌, ◌/◌, ◌%◌}
use native.Mathlib.Omega.{arith}
use mathlib.Core.Path.{◌≡◌, refl, sym, ◌∙◌, ap, ap₂}
use mathlib.Core.List.{List, [], ◌∷◌, ◌++◌}
use mathlib.Core.Bool.{Bool, true, false}
use lib.ListN.{length, get_or, take, drop, length-append, length-drop}
use lib.Dec.{eqb}
use borrow.Rule.Slice.PartMut.{put_mid}
use Rattle.std.specs.Int.{bytes_high_first}
use Rattle.std.specs.Prelude.{Option, Some, None, if◌then◌else◌}
use Rattle.rules.specs.Sizes.{record_bytes}
use Rattle.rules.specs.Basics.{Bytes, Every, number, kind, records, joined}
use Rattle.rules.specs.Bundle.{Policy, policy_of}
use Rattle.rules.specs.Trim.{kept_bits, with_bits, trimmed_from, hints_from, trimmed_acl}
use Rattle.rules.specs.Written.{big_endian}
use Rattle.rules.proofs.Rows.{records_sized, lent_rest_lem}
use Rattle.record_fields.proofs.Walks.{left_at, left_none}
use Rattle.subject.specs.Writing.{overwritten}
use Rattle.trim_records.specs.declared.Kept.{Kept}
use Rattle.trim_records.specs.declared.Kept.TheVariants.{Whole, Fewer}
use Rattle.trim_records.specs.Fates.{on_record, size_of, left_of, kept_after, checked_after}
use Rattle.trim_records.proofs.Laws.{left_size, record_turn}
use Rattle.trim_hints.proofs.Written.{Writing, writing_start, writing_room, writing_next, writing_done}
use Rattle.trimming.specs.Trimming.{hint_size}

-- each record of a file has record_bytes bytes
sized_at : (xs : List Bytes) (k : ℕ) → Every (λ x. length x ≡ record_bytes) xs → k < length xs → length (get_or xs k []) ≡ record_bytes
sized_at [] k e h = absurd (omega arith)
sized_at (x ∷ xs) zero e h = e.0
sized_at (x ∷ xs) (suc k) e h = sized_at xs k e.1 (omega arith)

record_whole : (acl : Bytes) (xs : List Bytes) (k : ℕ) → xs ≡ records acl → k < length xs → length (get_or xs k []) ≡ record_bytes
record_whole acl xs k w h = sized_at xs k (rw w (records_sized acl)) h

-- One record of the ACL: what is left of it, and what is left of the rest.
module _ (b : List Bytes) (xs : List Bytes) (k : ℕ) (checked kept : Bool) where
  acl_turn : (fate : Option Kept) → k < length xs → fate ≡ on_record b checked kept (get_or xs k [])
      → joined (trimmed_from b checked kept (drop k xs))
      ≡ left_of b fate (get_or xs k []) ++ joined (trimmed_from b (checked_after b checked (get_or xs k [])) (kept_after fate kept (get_or xs k [])) (drop (k + 1) xs))
  acl_turn fate h e =
      ap (λ (rs : List Bytes). joined (trimmed_from b checked kept rs)) (left_at xs k h)
      ∙ record_turn b checked kept (get_or xs k []) (drop (k + 1) xs) fate e

  acl_end : length xs ≤ k → joined (trimmed_from b checked kept (drop k xs)) ≡ []
  unfolding trimmed_from joined
  acl_end h = ap (λ (rs : List Bytes). joined (trimmed_from b checked kept rs)) (left_none xs k h)

-- Both lengths: what was counted, and what is left to count.
pub record Measuring (b : List Bytes) (acl : Bytes) (checked kept : Bool) (rs : List Bytes) (n m : ℕ) : Type 0 where
  pub place : ℕ
  pub bytes : n + length (joined (trimmed_from b checked kept rs)) ≡ length (trimmed_acl b acl)
  pub hints : m + length (hints_from b place rs) * record_bytes ≡ length (hints_from b 0 (records acl)) * record_bytes

pub measure_start : (b : List Bytes) (acl : Bytes) (xs : List Bytes) → xs ≡ records acl → Measuring b acl false true (drop 0 xs) 0 0
unfolding trimmed_acl
measure_start b acl xs w = rw w (record { place = 0; bytes = omega arith; hints = omega arith })

-- how many hints a record and those after it give rise to
module _ (b : List Bytes) (place : ℕ) (r : Bytes) (rs : List Bytes) where
  group_hint : eqb (kind r) 1 ≡ true → length (hints_from b place (r ∷ rs)) ≡ suc (length (hints_from b (place + 1) rs))
  unfolding hints_from
  group_hint e = rw e

  no_hint : eqb (kind r) 1 ≡ false → length (hints_from b place (r ∷ rs)) ≡ length (hints_from b place rs)
  unfolding hints_from
  no_hint e = rw e

module _ (b : List Bytes) (place m total : ℕ) (r : Bytes) (rs : List Bytes) (inv : m + length (hints_from b place (r ∷ rs)) * record_bytes ≡ total) where
  hints_counted : (t : Bool) → eqb (kind r) 1 ≡ t → m + (if t then record_bytes else 0) + length (hints_from b (if t then place + 1 else place) rs) * record_bytes ≡ total
  hints_counted true e = let d = group_hint b place r rs e in omega (arith, inv)
  hints_counted false e = let d = no_hint b place r rs e in omega (arith, inv)

module _ (b : List Bytes) (acl : Bytes) (xs : List Bytes) (k n m : ℕ) (checked kept : Bool) (inv : Measuring b acl checked kept (drop k xs) n m) where
  pub measure_next : xs ≡ records acl → (fate : Option Kept) (size hint : ℕ) (checked' kept' : Bool) → k < length xs → fate ≡ on_record b checked kept (get_or xs k [])
      → size ≡ size_of fate → hint ≡ hint_size (get_or xs k []) → kept' ≡ kept_after fate kept (get_or xs k []) → checked' ≡ checked_after b checked (get_or xs k [])
      → Measuring b acl checked' kept' (drop (k + 1) xs) (n + size) (m + hint)
  unfolding hint_size
  measure_next w fate size hint checked' kept' h e s d z c =
      let here : Bytes = get_or xs k [] in
      let rest : Bytes = joined (trimmed_from b (checked_after b checked here) (kept_after fate kept here) (drop (k + 1) xs)) in
      let l = ap length (acl_turn b xs k checked kept fate h e) ∙ length-append (left_of b fate here) rest in
      let y = left_size b fate here (record_whole acl xs k w h) in
      let i = inv.bytes in
      let j : m + length (hints_from b inv.place (here ∷ drop (k + 1) xs)) * record_bytes ≡ length (hints_from b 0 (records acl)) * record_bytes =
      ap (λ (rs : List Bytes). m + length (hints_from b inv.place rs) * record_bytes) (sym (left_at xs k h)) ∙ inv.hints in
      record {
        place = if eqb (kind here) 1 then inv.place + 1 else inv.place;
        bytes = rw (z, c) (omega arith);
        hints = rw d (hints_counted b inv.place m _ here (drop (k + 1) xs) j (eqb (kind here) 1) refl);
      }

  pub measure_acl : length xs ≤ k → n ≡ length (trimmed_acl b acl)
  measure_acl h = let i = inv.bytes in let e = ap length (acl_end b xs k checked kept h) in omega arith

  pub measure_hints : length xs ≤ k → m ≡ length (hints_from b 0 (records acl)) * record_bytes
  unfolding hints_from
  measure_hints h = let i = inv.hints in let e = ap (λ (rs : List Bytes). length (hints_from b inv.place rs)) (left_none xs k h) in omega arith

-- A record with other bits, over the front of a buffer: the record, and two bytes of it anew.
bits_written : (n h l : ℕ) (r d : Bytes) → h ≡ n / 256 → l ≡ n % 256 → length r ≡ record_bytes → put_mid 4 2 (overwritten r d) (h ∷ l ∷ []) ≡ overwritten (with_bits n r) d
unfolding overwritten with_bits big_endian
bits_written n h l [] d p q w = absurd (omega arith)
bits_written n h l (x0 ∷ []) d p q w = absurd (omega arith)
bits_written n h l (x0 ∷ x1 ∷ []) d p q w = absurd (omega arith)
bits_written n h l (x0 ∷ x1 ∷ x2 ∷ []) d p q w = absurd (omega arith)
bits_written n h l (x0 ∷ x1 ∷ x2 ∷ x3 ∷ []) d p q w = absurd (omega arith)
bits_written n h l (x0 ∷ x1 ∷ x2 ∷ x3 ∷ x4 ∷ []) d p q w = absurd (omega arith)
bits_written n h l (x0 ∷ x1 ∷ x2 ∷ x3 ∷ x4 ∷ x5 ∷ rest) d p q w = rw (p, q)

high_byte : (n : ℕ) → n < 65536 → n / 256 % 256 ≡ n / 256
high_byte n h = omega arith

pub fewer_put : (b : List Bytes) (policy : Policy) (n m : ℕ) (r d e s : Bytes) → n < 65536 → length r ≡ record_bytes → policy ≡ policy_of b → m ≡ number 4 2 r → n ≡ kept_bits policy m → e ≡ overwritten r d
    → s ≡ bytes_high_first 2 n → put_mid 4 2 e s ≡ overwritten (with_bits (kept_bits (policy_of b) (number 4 2 r)) r) d
fewer_put b policy n m r d e s f w z q p h g =
    ap₂ (put_mid 4 2) h g
    ∙ bits_written n (n / 256 % 256) (n % 256) r d (high_byte n f) refl w
    ∙ ap (λ (k : ℕ). overwritten (with_bits k r) d) (p ∙ ap₂ kept_bits z q)

-- What is left of a record, by the case that the code met.
module _ (b : List Bytes) (fate : Option Kept) (r d e : Bytes) where
  pub put_copied : (k : Kept) → fate ≡ Some k → k ≡ Whole → e ≡ overwritten r d → e ≡ overwritten (left_of b fate r) d
  unfolding left_of
  put_copied k t w h = rw (t, w) h

  pub put_fewer : (k : Kept) → fate ≡ Some k → k ≡ Fewer → e ≡ overwritten (with_bits (kept_bits (policy_of b) (number 4 2 r)) r) d → e ≡ overwritten (left_of b fate r) d
  unfolding left_of
  put_fewer k t w h = rw (t, w) h

  pub put_nothing : fate ≡ None → e ≡ d → e ≡ overwritten (left_of b fate r) d
  unfolding left_of overwritten
  put_nothing t h = rw t h

-- The trimmed ACL: room for what is left of a record, and one record more.
module _ (b : List Bytes) (acl old new : Bytes) (xs : List Bytes) (k to : ℕ) (checked kept : Bool)
    (inv : Writing (trimmed_acl b acl) old new (joined (trimmed_from b checked kept (drop k xs))) to) (fits : length (trimmed_acl b acl) ≤ length old) where
  abbrev here : Bytes
  here = get_or xs k []

  pub acl_done : length xs ≤ k → new ≡ overwritten (trimmed_acl b acl) old
  acl_done h = writing_done (trimmed_acl b acl) old new (joined (trimmed_from b checked kept (drop k xs))) to inv fits (acl_end b xs k checked kept h)

  module _ (w : xs ≡ records acl) (h : k < length xs) (fate : Option Kept) (d : fate ≡ on_record b checked kept here) where
    abbrev more : Bytes
    more = joined (trimmed_from b (checked_after b checked here) (kept_after fate kept here) (drop (k + 1) xs))

    pub acl_room : length new ≡ length old → size_of fate ≤ length (take (length new - to) (drop to new))
    acl_room s =
        let l = writing_room (trimmed_acl b acl) old new (joined (trimmed_from b checked kept (drop k xs))) to inv fits in
        let t = ap length (acl_turn b xs k checked kept fate h d) ∙ length-append (left_of b fate here) more in
        let z = left_size b fate here (record_whole acl xs k w h) in
        let r = ap length (lent_rest_lem new to) ∙ length-drop to new in
        omega (arith, l, t, z, r)

    pub acl_next : (size : ℕ) (e : Bytes) (checked' kept' : Bool) → size ≡ size_of fate → e ≡ overwritten (left_of b fate here) (take (length new - to) (drop to new))
        → kept' ≡ kept_after fate kept here → checked' ≡ checked_after b checked here
        → Writing (trimmed_acl b acl) old (take to new ++ (e ++ drop (length new - to) (drop to new))) (joined (trimmed_from b checked' kept' (drop (k + 1) xs))) (to + size)
    acl_next size e checked' kept' s q z c =
        rw (z, c)
        (writing_next (trimmed_acl b acl) old new (joined (trimmed_from b checked kept (drop k xs))) to inv fits
        (left_of b fate here) more e size (acl_turn b xs k checked kept fate h d) (s ∙ sym (left_size b fate here (record_whole acl xs k w h))) q)

pub acl_first : (b : List Bytes) (acl old : Bytes) (xs : List Bytes) → xs ≡ records acl → Writing (trimmed_acl b acl) old old (joined (trimmed_from b false true (drop 0 xs))) 0
unfolding trimmed_acl
acl_first b acl old xs w = rw w (writing_start (trimmed_acl b acl) old)
