-- A record is its parts, one after another; what each part is by the record's layout.
use Prim.Native.Nat.{ℕ, zero, suc, ◌+◌, ◌^◌, ◌≤◌, ◌<◌}
use native.Mathlib.Omega.{arith}
use mathlib.Core.Path.{◌≡◌, refl, sym, ◌∙◌, ap, ap₂}
use mathlib.Core.List.{List, [], ◌∷◌, ◌++◌, flatten}
use mathlib.Core.Bool.{true, false}
use lib.ListN.{length, take, drop, replicate, length-drop, take-append-drop, drop_of_length-le}
use lib.Seq.{length-take-le, take-nil, drop-drop, drop-cons}
use lib.Dec.{eqb}
use borrow.Author.Tests.{eqb-true}
use Rattle.rules.specs.Sizes.{record_bytes}
use Rattle.rules.specs.Basics.{Bytes, Every, all_zero, number_from, within, part, number, byte, blank, kind, flag}
use Rattle.rules.specs.Layout.{header, zero_unless}
use Rattle.rules.proofs.Laws.{and_left, and_right, and_both}
use Rattle.text_rules.specs.Decoding.{bytes_of, of_bits, headed}
use Rattle.text_rules.specs.Listing.{Octet, IsRecord}
use Rattle.text_rules.proofs.Digits.{bytes_of_number, number_below}
use Rattle.text_rules.proofs.Bits.{bits_from, bits_of, within_below}

-- Parts of these lengths, from a place on.
abbrev pub cut_from : ℕ → List ℕ → Bytes → List Bytes
cut_from off [] r = []
cut_from off (n ∷ ns) r = part off n r ∷ cut_from (off + n) ns r

-- the end of the last of them
abbrev pub end_from : ℕ → List ℕ → ℕ
end_from off [] = off
end_from off (n ∷ ns) = end_from (off + n) ns

pub cut_whole : (ns : List ℕ) (off : ℕ) (r : Bytes) → length r ≤ end_from off ns → flatten (cut_from off ns r) ≡ drop off r
unfolding flatten
cut_whole [] off r h = sym (drop_of_length-le r h)
cut_whole (n ∷ ns) off r h =
    ap (λ (x : Bytes). part off n r ++ x) (cut_whole ns (off + n) r h ∙ sym (drop-drop n off r)) ∙ take-append-drop n (drop off r)

module _ (P : ℕ → Type 0) where
  pub every_take : (n : ℕ) (xs : Bytes) → Every P xs → Every P (take n xs)
  every_take zero xs h = tt
  every_take (suc n) [] h = tt
  every_take (suc n) (x ∷ xs) h = (h.0, every_take n xs h.1)

  pub every_drop : (n : ℕ) (xs : Bytes) → Every P xs → Every P (drop n xs)
  every_drop zero xs h = h
  every_drop (suc n) [] h = tt
  every_drop (suc n) (x ∷ xs) h = every_drop n xs h.1

zeros_all : (xs : Bytes) (n : ℕ) → length xs ≡ n → all_zero xs ≡ true → xs ≡ replicate n 0
unfolding all_zero
zeros_all [] zero l e = refl
zeros_all [] (suc n) l e = absurd (omega arith)
zeros_all (x ∷ xs) zero l e = absurd (omega arith)
zeros_all (x ∷ xs) (suc n) l e =
    ap₂ ◌∷◌ (eqb-true x 0 (and_left (eqb x 0) (all_zero xs) e)) (zeros_all xs n (omega arith) (and_right (eqb x 0) (all_zero xs) e))

zero_number : (xs : Bytes) → all_zero xs ≡ true → number_from 0 xs ≡ 0
unfolding all_zero number_from
zero_number [] e = refl
zero_number (x ∷ xs) e =
    let z = eqb-true x 0 (and_left (eqb x 0) (all_zero xs) e) in
    rw z (zero_number xs (and_right (eqb x 0) (all_zero xs) e))

zero_take : (k n : ℕ) (xs : Bytes) → k ≤ n → all_zero (take n xs) ≡ true → all_zero (take k xs) ≡ true
unfolding all_zero
zero_take zero n xs l e = refl
zero_take (suc k) zero xs l e = absurd (omega arith)
zero_take (suc k) (suc n) [] l e = refl
zero_take (suc k) (suc n) (x ∷ xs) l e =
    and_both (eqb x 0) (all_zero (take k xs)) (and_left (eqb x 0) (all_zero (take n xs)) e) (zero_take k n xs (omega arith) (and_right (eqb x 0) (all_zero (take n xs)) e))

zero_drop : (i k n : ℕ) (xs : Bytes) → i + k ≤ n → all_zero (take n xs) ≡ true → all_zero (take k (drop i xs)) ≡ true
unfolding all_zero
zero_drop zero k n xs l e = zero_take k n xs (omega arith) e
zero_drop (suc i) k zero xs l e = absurd (omega arith)
zero_drop (suc i) k (suc n) [] l e = rw (take-nil k)
zero_drop (suc i) k (suc n) (x ∷ xs) l e = zero_drop i k n xs (omega arith) (and_right (eqb x 0) (all_zero (take n xs)) e)

-- a part of a part that is zero
pub blank_within : (off n i k : ℕ) (r : Bytes) → i + k ≤ n → blank off n r ≡ true → blank (off + i) k r ≡ true
blank_within off n i k r l e = rw (drop-drop i off r) at (zero_drop i k n (drop off r) l e)

first_four : (r : Bytes) → 2 ≤ length r → part 0 4 r ≡ byte 0 r ∷ byte 1 r ∷ part 2 2 r
first_four [] h = absurd (omega arith)
first_four (a ∷ []) h = absurd (omega arith)
first_four (a ∷ b ∷ r) h = refl

-- a field that a flag announces
pub zero_unless_lem : (f off n : ℕ) (r : Bytes) → zero_unless f off n r ≡ true → flag f r ≡ false → blank off n r ≡ true
unfolding zero_unless
zero_unless_lem f off n r e d = rw d at e

module _ (r : Bytes) (h : IsRecord r) where
  pub part_length : (off n : ℕ) → off + n ≤ record_bytes → length (part off n r) ≡ n
  part_length off n l = let w = h.whole in length-take-le n (drop off r) (omega (arith, length-drop off r))

  pub part_octets : (off n : ℕ) → Every Octet (part off n r)
  part_octets off n = every_take Octet n (drop off r) (every_drop Octet off r h.octets)

  pub number_part : (off n : ℕ) → off + n ≤ record_bytes → bytes_of n (number off n r) ≡ part off n r
  number_part off n l = bytes_of_number n (part off n r) (part_length off n l) (part_octets off n)

  pub number_fits : (off n : ℕ) → off + n ≤ record_bytes → number off n r < 256 ^ n
  number_fits off n l = number_below n (part off n r) (part_length off n l) (part_octets off n)

  pub blank_part : (off n : ℕ) → off + n ≤ record_bytes → blank off n r ≡ true → part off n r ≡ replicate n 0
  blank_part off n l e = zeros_all (part off n r) n (part_length off n l) e

  pub blank_number : (off n : ℕ) → blank off n r ≡ true → number off n r ≡ 0
  blank_number off n e = zero_number (part off n r) e

  -- a number of two bytes, of whose bits none is set but those below bit m
  pub bits_part : (off m : ℕ) → off + 2 ≤ record_bytes → number off 2 r < 2 ^ m → bytes_of 2 (of_bits (bits_from 0 m (number off 2 r))) ≡ part off 2 r
  bits_part off m l f = ap (bytes_of 2) (bits_of m (number off 2 r) f) ∙ number_part off 2 l

  -- a part of one byte
  pub byte_part : (off : ℕ) → off < record_bytes → part off 1 r ≡ byte off r ∷ []
  byte_part off l = let w = h.whole in ap (take 1) (drop-cons r off 0 (omega arith))

  pub byte_number : (off : ℕ) → off < record_bytes → byte off r ≡ number off 1 r
  unfolding number_from
  byte_number off l = rw (byte_part off l) (omega arith)

  pub blank_byte : (off : ℕ) → off < record_bytes → blank off 1 r ≡ true → byte off r ≡ 0
  blank_byte off l e = byte_number off l ∙ blank_number off 1 e

  pub byte_bytes : (off : ℕ) → off < record_bytes → bytes_of 1 (byte off r) ≡ part off 1 r
  byte_bytes off l = ap (bytes_of 1) (byte_number off l) ∙ number_part off 1 (omega arith)

  pub byte_fits : (off : ℕ) → off < record_bytes → byte off r < 256
  byte_fits off l = rw (byte_number off l) (number_fits off 1 (omega arith))

  -- "Byte 0 is the kind, byte 1 zero, bytes 2-3 flags.", of which none is set but those listed, all below bit m
  pub header_part : (k listed m j : ℕ) → kind r ≡ k → header listed r ≡ true → listed < 2 ^ m → m + j ≡ 16 → headed k (bits_from 0 m (number 2 2 r)) ≡ part 0 4 r
  unfolding header headed
  header_part k listed m j e d l s =
      let w = h.whole in
      let z = eqb-true (byte 1 r) 0 (and_left (eqb (byte 1 r) 0) (within 16 (number 2 2 r) listed) d) in
      let f : number 2 2 r < 2 ^ (m + j) = rw s (number_fits 2 2 (omega arith)) in
      let b = within_below j m (number 2 2 r) listed (omega arith) f (and_right (eqb (byte 1 r) 0) (within 16 (number 2 2 r) listed) d) l in
      rw (bits_part 2 m (omega arith) b, first_four r (omega arith), e, z)
