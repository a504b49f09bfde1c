-- Records of a file one after the other: laws for loops over them. `at` is the byte at which the next record begins.
use Prim.Native.Nat.{ℕ, zero, suc, ◌≤◌, ◌<◌, ◌+◌, ◌-◌, ◌*◌, ◌/◌}
use native.Mathlib.Omega.{arith}
use native.Mathlib.Nat.{add-sub_cancel_left, add-zero}
use mathlib.Core.Path.{◌≡◌, refl, sym, ◌∙◌, ap}
use mathlib.Core.List.{List, [], ◌∷◌}
use mathlib.Core.Option.{Option, none, some}
use mathlib.Core.Bool.{Bool, true, false, not}
use borrow.Author.Tests.{not-true, not-false}
use lib.ListN.{length, take, drop, get_or, length-drop}
use lib.Seq.{drop-drop, take_all, length-take-le, get_or-take, get_or-drop}
use Rattle.rules.specs.Numbers.{malformed, too_many}
use Rattle.rules.specs.Basics.{Bytes, Every, part, chunks, records, records_from, first_fault, record_fault}
use Rattle.rules.specs.Request.{wanted_of, blobfile_next, request_from, request_of}

pub rows_start : (s : Bytes) → records_from s 0 ≡ records s
unfolding records_from
rows_start s = refl

fuel : (n : ℕ) → 64 ≤ n → n / 64 ≡ suc ((n - 64) / 64)
fuel n h = omega arith

no_fuel : (n : ℕ) → n < 64 → n / 64 ≡ zero
no_fuel n h = omega arith

pub first : (s : Bytes) → 64 ≤ length s → records s ≡ take 64 s ∷ records (drop 64 s)
unfolding records chunks
first s h = ap (λ (n : ℕ). chunks n s) (fuel (length s) h) ∙ ap (λ (n : ℕ). take 64 s ∷ chunks (n / 64) (drop 64 s)) (sym (length-drop 64 s))

pub no_rows : (s : Bytes) → length s < 64 → records s ≡ []
unfolding records chunks
no_rows s h = ap (λ (n : ℕ). chunks n s) (no_fuel (length s) h)

-- what a request file asks for, by its first record and what follows it
pub wanted_first : (s rest : Bytes) → rest ≡ drop 64 s → 64 ≤ length s → wanted_of (take 64 s) (blobfile_next (records rest)) ≡ (request_of s).wanted
unfolding request_from
wanted_first s rest p h =
    ap (λ (r : Bytes). wanted_of (take 64 s) (blobfile_next (records r))) p ∙ sym (ap (λ (l : List Bytes). (request_from l).wanted) (first s h))

-- one record, and the rest
pub rows_at : (s : Bytes) (at : ℕ) → 64 ≤ length s - at → records_from s at ≡ part at 64 s ∷ records_from s (at + 64)
unfolding records_from
rows_at s at h = first (drop at s) (omega (arith, length-drop at s)) ∙ ap (λ (l : Bytes). part at 64 s ∷ records l) (drop-drop 64 at s)

-- no record is left
pub rows_end : (s : Bytes) (at : ℕ) → length s - at < 64 → records_from s at ≡ []
unfolding records_from
rows_end s at h = no_rows (drop at s) (omega (arith, length-drop at s))

-- each record has 64 bytes
chunks_sized : (n : ℕ) (bs : Bytes) → n * 64 ≤ length bs → Every (λ r. length r ≡ 64) (chunks n bs)
unfolding chunks
chunks_sized zero bs h = tt
chunks_sized (suc n) bs h = (length-take-le 64 bs (omega arith), chunks_sized n (drop 64 bs) (omega (arith, length-drop 64 bs)))

pub records_sized : (s : Bytes) → Every (λ r. length r ≡ 64) (records s)
unfolding records
records_sized s = chunks_sized (length s / 64) s (omega arith)

-- a record as code lends it, `&s[at..at + 64]`, and the rest of a file, `&s[at..]`
abbrev pub lent_record : Bytes → ℕ → Bytes
lent_record s at = take (at + 64 - at) (drop at s)

abbrev pub lent_rest : Bytes → ℕ → Bytes
lent_rest s at = take (length s - at) (drop at s)

pub lent_record_lem : (s : Bytes) (at : ℕ) → lent_record s at ≡ part at 64 s
lent_record_lem s at = ap (λ (k : ℕ). take k (drop at s)) (add-sub_cancel_left at 64)

pub lent_rest_lem : (s : Bytes) (at : ℕ) → lent_rest s at ≡ drop at s
lent_rest_lem s at = take_all (length s - at) (drop at s) (omega (arith, length-drop at s))

pub rows_rest : (s : Bytes) (at : ℕ) → records (lent_rest s at) ≡ records_from s at
unfolding records_from
rows_rest s at = ap records (lent_rest_lem s at)

pub rows_lent : (s : Bytes) (at : ℕ) → 64 ≤ length s - at → records_from s at ≡ lent_record s at ∷ records_from s (at + 64)
rows_lent s at h = rows_at s at h ∙ ap (λ (r : Bytes). r ∷ records_from s (at + 64)) (sym (lent_record_lem s at))

-- the first byte of the record at a place
pub kind_at : (s : Bytes) (at : ℕ) → get_or (part at 64 s) 0 0 ≡ get_or s at 0
kind_at s at = get_or-take 64 (drop at s) 0 0 (omega arith) ∙ get_or-drop at s 0 0 ∙ ap (λ (n : ℕ). get_or s n 0) (add-zero at)

-- "within one record 2 before 3": a record's fault, by what two tests of the code answered, `if !f(..)`
module _ (x : Option ℕ) (good room r : Bool) (is : x ≡ record_fault good room) (e : r ≡ good) where
  pub bad_record : not r ≡ true → x ≡ some malformed
  unfolding record_fault first_fault
  bad_record h = is ∙ rw (sym e ∙ not-true r h)

  pub full_record : (t : Bool) → t ≡ room → not r ≡ false → not t ≡ true → x ≡ some too_many
  unfolding record_fault first_fault
  full_record t d h k = is ∙ rw (sym e ∙ not-false r h, sym d ∙ not-true t k)

  pub sound_record : (t : Bool) → t ≡ room → not r ≡ false → not t ≡ false → x ≡ none
  unfolding record_fault first_fault
  sound_record t d h k = is ∙ rw (sym e ∙ not-false r h, sym d ∙ not-false t k)
