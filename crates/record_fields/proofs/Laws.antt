-- Laws of bytes and numbers, each proved once over the offset and the length: the turns of the loops, and a number from its halves.
use Prim.Native.Nat.{ℕ, suc, ◌≤◌, ◌<◌, ◌-◌, ◌+◌, ◌*◌, ◌^◌}
use native.Mathlib.Nat.{add-zero, zero-add, zero-mul, mul-one, mul_comm, mul_assoc, add-mul, add_assoc, pow-suc, add-sub_cancel_left}
use native.Mathlib.Numerals.{add-one}
use native.Mathlib.Omega.{arith}
use mathlib.Core.Path.{◌≡◌, refl, sym, ◌∙◌, ap}
use mathlib.Core.Bool.{Bool, true, false, ◌&&◌}
use mathlib.Core.List.{[], ◌∷◌, ◌++◌}
use lib.ListN.{length, take, drop, get_or, length-drop, drop_of_length-le}
use lib.Dec.{eqb}
use lib.Seq.{drop-cons, take-add, drop-drop, length-take-le}
use Rattle.rules.specs.Basics.{Bytes, all_zero, same, number_from, part, number, blank}

-- One byte of what is left.
zero_at : (s : Bytes) (i : ℕ) → i < length s → all_zero (drop i s) ≡ (eqb (get_or s i 0) 0 && all_zero (drop (i + 1) s))
unfolding all_zero
zero_at s i h = rw (add-one, drop-cons s i 0)

same_at : (a b : Bytes) (i : ℕ) → i < length a → i < length b → same (drop i a) (drop i b) ≡ (eqb (get_or a i 0) (get_or b i 0) && same (drop (i + 1) a) (drop (i + 1) b))
unfolding same
same_at a b i h k = rw (add-one, drop-cons a i 0, drop-cons b i 0)

pub and_false : (a : Bool) → (a && false) ≡ false
and_false true = refl
and_false false = refl

pub and_true : (a : Bool) → (a && true) ≡ a
and_true true = refl
and_true false = refl

pub and_assoc : (a b c : Bool) → ((a && b) && c) ≡ (a && (b && c))
and_assoc true b c = refl
and_assoc false b c = refl

-- The turns of a loop that joins the answers of all bytes: so far, and what is left.
module _ (s : Bytes) (i : ℕ) (r : Bool) (inv : (r && all_zero (drop i s)) ≡ all_zero s) where
  pub zero_next : i < length s → ((r && eqb (get_or s i 0) 0) && all_zero (drop (i + 1) s)) ≡ all_zero s
  zero_next h = and_assoc r _ _ ∙ ap (λ (t : Bool). r && t) (sym (zero_at s i h)) ∙ inv

  pub zero_done : length s ≤ i → r ≡ all_zero s
  unfolding all_zero
  zero_done h = sym (and_true r) ∙ (rw (drop_of_length-le s {i = i} h) at inv)

module _ (a b : Bytes) (i : ℕ) (r : Bool) (inv : (r && same (drop i a) (drop i b)) ≡ same a b) (e : length a ≡ length b) where
  pub same_next : i < length a → ((r && eqb (get_or a i 0) (get_or b i 0)) && same (drop (i + 1) a) (drop (i + 1) b)) ≡ same a b
  same_next h = and_assoc r _ _ ∙ ap (λ (t : Bool). r && t) (sym (same_at a b i h (omega arith))) ∙ inv

  pub same_done : length a ≤ i → r ≡ same a b
  unfolding same
  same_done h = sym (and_true r) ∙ (rw (drop_of_length-le a {i = i} h, drop_of_length-le b {i = i} (omega arith)) at inv)

pub same_length : (a b : Bytes) → (length a ≡ length b → ⊥) → false ≡ same a b
unfolding same
same_length [] [] h = absurd (h refl)
same_length [] (y ∷ b) h = refl
same_length (x ∷ a) [] h = refl
same_length (x ∷ a) (y ∷ b) h = sym (ap (λ (t : Bool). eqb x y && t) (sym (same_length a b (λ e. h (ap suc e)))) ∙ and_false (eqb x y))

-- a part as code lends it, `&s[off..off + len]`
pub lent : (s : Bytes) (off len : ℕ) → take (off + len - off) (drop off s) ≡ part off len s
lent s off len = ap (λ (k : ℕ). take k (drop off s)) (add-sub_cancel_left off len)

pub blank_lent : (s : Bytes) (off len : ℕ) (r : Bool) → r ≡ all_zero (take (off + len - off) (drop off s)) → r ≡ blank off len s
blank_lent s off len r e = e ∙ ap all_zero (lent s off len)

-- Numbers: a part in two, m and n bytes long.
from_append : (k : ℕ) (xs ys : Bytes) → number_from k (xs ++ ys) ≡ number_from (number_from k xs) ys
unfolding number_from
from_append k [] ys = refl
from_append k (x ∷ xs) ys = from_append (k * 256 + x) xs ys

from_shift : (k : ℕ) (ys : Bytes) → number_from k ys ≡ k * 256 ^ length ys + number_from 0 ys
unfolding number_from
from_shift k [] = simp (mul-one, add-zero)
from_shift k (y ∷ ys) =
    let p : (k * 256 + y) * 256 ^ length ys ≡ k * 256 ^ suc (length ys) + (0 * 256 + y) * 256 ^ length ys =
    simp (pow-suc, add-mul, mul_assoc, zero-mul, zero-add, mul_comm 256 (256 ^ length ys)) in
    from_shift (k * 256 + y) ys
    ∙ ap (λ (n : ℕ). n + number_from 0 ys) p
    ∙ add_assoc _ _ _
    ∙ ap (λ (n : ℕ). k * 256 ^ suc (length ys) + n) (sym (from_shift (0 * 256 + y) ys))

pub number_join : (s : Bytes) (at m n : ℕ) → at + m + n ≤ length s → number at (m + n) s ≡ number at m s * 256 ^ n + number (at + m) n s
number_join s at m n h =
    ap (number_from 0) (take-add m n (drop at s) ∙ ap (λ (l : Bytes). part at m s ++ take n l) (drop-drop m at s))
    ∙ from_append 0 (part at m s) (part (at + m) n s)
    ∙ from_shift (number at m s) (part (at + m) n s)
    ∙ ap (λ (k : ℕ). number at m s * 256 ^ k + number (at + m) n s) (length-take-le n (drop (at + m) s) (omega (arith, length-drop (at + m) s)))

number_one : (s : Bytes) (at : ℕ) → at < length s → number at 1 s ≡ get_or s at 0
unfolding number_from
number_one s at h = rw (drop-cons s at 0) (omega arith)

pub number_two : (s : Bytes) (at r : ℕ) → at + 2 ≤ length s → r ≡ get_or s at 0 * 256 + get_or s (at + 1) 0 → r ≡ number at 2 s
number_two s at r h e = omega (arith, number_join s at 1 1 (omega arith), number_one s at (omega arith), number_one s (at + 1) (omega arith))

pub number_four : (s : Bytes) (at r : ℕ) → at + 4 ≤ length s → r ≡ get_or s at 0 * 16777216 + get_or s (at + 1) 0 * 65536 + get_or s (at + 2) 0 * 256 + get_or s (at + 3) 0 → r ≡ number at 4 s
number_four s at r h e =
    let f : at + 2 + 1 ≡ at + 3 = omega arith in
    omega (arith, number_join s at 2 2 (omega arith), number_two s at _ (omega arith) refl, number_two s (at + 2) _ (omega arith) refl, ap (λ (k : ℕ). get_or s k 0) f)
