-- The header by its bytes: where no flag of byte 2 is listed, that byte is zero.
use Prim.Native.Nat.{ℕ, ◌≤◌, ◌<◌, ◌+◌, ◌*◌}
use native.Mathlib.Omega.{arith}
use mathlib.Core.Path.{◌≡◌, refl, sym, ◌∙◌, ap}
use mathlib.Core.Bool.{Bool, true, false, ◌&&◌}
use lib.ListN.{length}
use lib.Bits.{bit_and, and_le_r}
use lib.Dec.{eqb}
use lib.Seq.{drop-cons}
use borrow.Author.Tests.{eqb-true, eqb-false, ne_eqb}
use Rattle.rules.specs.Basics.{Bytes, all_zero, within, byte, blank}
use Rattle.rules.specs.Layout.{header}
use Rattle.record_fields.proofs.Laws.{and_assoc, and_true, number_two}
use Rattle.record_fields.proofs.Subsets.{subset_and}

-- a number of two bytes, of which only bits of the lower one are listed
within_low : (hi lo listed : ℕ) → hi < 256 → lo < 256 → listed < 256 → within 16 (hi * 256 + lo) listed ≡ (eqb hi 0 && within 16 lo listed)
within_low hi lo listed h l b = pick (eqb hi 0) refl
  where
    pick : (t : Bool) → eqb hi 0 ≡ t → within 16 (hi * 256 + lo) listed ≡ (eqb hi 0 && within 16 lo listed)
    pick true e =
        let p = eqb-true hi 0 e in
        let q : hi * 256 + lo ≡ lo = omega arith in
        rw (e, q) refl
    pick false e =
        let p = eqb-false hi 0 e in
        let q = and_le_r (hi * 256 + lo) listed in
        rw e (sym (subset_and 16 (hi * 256 + lo) listed (omega arith))
        ∙ ne_eqb (bit_and (hi * 256 + lo) listed) (hi * 256 + lo) (λ z. p (omega arith)))

two_bytes : (s : Bytes) → 3 ≤ length s → blank 1 2 s ≡ (eqb (byte 1 s) 0 && eqb (byte 2 s) 0)
unfolding all_zero
two_bytes s h = rw (drop-cons s 1 0 (omega arith), drop-cons s 2 0 (omega arith)) (ap (λ (t : Bool). eqb (byte 1 s) 0 && t) (and_true (eqb (byte 2 s) 0)))

pub header_bytes_lem : (s : Bytes) (listed : ℕ) (z w : Bool) → listed < 256 → 4 ≤ length s → ((i : ℕ) → byte i s < 256) → z ≡ blank 1 2 s → w ≡ within 16 (byte 3 s) listed → (z && w) ≡ header listed s
unfolding header
header_bytes_lem s listed z w b h f p q =
    rw (p, q, two_bytes s (omega arith))
    (and_assoc (eqb (byte 1 s) 0) (eqb (byte 2 s) 0) (within 16 (byte 3 s) listed)
    ∙ ap (λ (t : Bool). eqb (byte 1 s) 0 && t)
    (sym (within_low (byte 2 s) (byte 3 s) listed (f 2) (f 3) b)
    ∙ ap (λ (n : ℕ). within 16 n listed) (number_two s 2 (byte 2 s * 256 + byte 3 s) (omega arith) refl)))
