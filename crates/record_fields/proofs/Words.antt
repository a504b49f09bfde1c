-- Eight bytes at a time: a word's number is zero, or another's, exactly if its bytes are; the turns of the loops over words.
use Prim.Native.Nat.{ℕ, zero, suc, ◌≤◌, ◌<◌, ◌-◌, ◌+◌, ◌*◌}
use native.Mathlib.Omega.{arith}
use mathlib.Core.Path.{◌≡◌, refl, sym, ◌∙◌, ap, ap₂}
use mathlib.Core.Bool.{Bool, true, false, ◌&&◌}
use mathlib.Core.List.{[], ◌∷◌, ◌++◌}
use lib.ListN.{length, take, drop, get_or, length-drop, take-append-drop}
use lib.Dec.{eqb}
use lib.Seq.{take_all, drop-drop, length-take-le, get_or-drop}
use borrow.Author.Tests.{eqb-true, eqb-false, eq-eqb, ne_eqb}
use Rattle.rules.specs.Basics.{Bytes, Every, all_zero, same, number_from, part, blank}
use Rattle.record_fields.specs.Words.{little_number, LittleEndian}
use Rattle.rules.proofs.Laws.{and_right, same_eq, same_refl}
use Rattle.std.specs.Int.{from_le_bytes, from_be_bytes}
use Rattle.std.proofs.Common.{w64}
use Rattle.record_fields.proofs.Laws.{and_false, and_true, and_assoc}

-- A word's number and its bytes.
zero_word_number : (bs : Bytes) → eqb (little_number bs) 0 ≡ all_zero bs
unfolding little_number all_zero
zero_word_number [] = refl
zero_word_number (b ∷ bs) = pick (eqb b 0) refl (all_zero bs) refl (zero_word_number bs)
  where
    pick : (t : Bool) → eqb b 0 ≡ t → (u : Bool) → all_zero bs ≡ u → eqb (little_number bs) 0 ≡ all_zero bs → eqb (b + little_number bs * 256) 0 ≡ (eqb b 0 && all_zero bs)
    pick true e true f h = let p = eqb-true b 0 e in let q = eqb-true (little_number bs) 0 (h ∙ f) in rw (e, f) (eq-eqb (b + little_number bs * 256) 0 (omega arith))
    pick true e false f h = let p = eqb-true b 0 e in let q = eqb-false (little_number bs) 0 (h ∙ f) in rw (e, f) (ne_eqb (b + little_number bs * 256) 0 (λ z. q (omega arith)))
    pick false e u f h = let p = eqb-false b 0 e in rw e (ne_eqb (b + little_number bs * 256) 0 (λ z. p (omega arith)))

same_word_number : (xs ys : Bytes) → length xs ≡ length ys → Every (λ b. b < 256) xs → Every (λ b. b < 256) ys → eqb (little_number xs) (little_number ys) ≡ same xs ys
unfolding little_number same
same_word_number [] [] l h k = refl
same_word_number [] (y ∷ ys) l h k = absurd (omega arith)
same_word_number (x ∷ xs) [] l h k = absurd (omega arith)
same_word_number (x ∷ xs) (y ∷ ys) l h k = pick (eqb x y) refl (same xs ys) refl (same_word_number xs ys (omega arith) h.1 k.1) h.0 k.0
  where
    pick : (t : Bool) → eqb x y ≡ t → (u : Bool) → same xs ys ≡ u → eqb (little_number xs) (little_number ys) ≡ same xs ys → x < 256 → y < 256 → eqb (x + little_number xs * 256) (y + little_number ys * 256) ≡ (eqb x y && same xs ys)
    pick true e true f m a b = let p = eqb-true x y e in let q = eqb-true (little_number xs) (little_number ys) (m ∙ f) in rw (e, f) (eq-eqb (x + little_number xs * 256) (y + little_number ys * 256) (omega arith))
    pick true e false f m a b = let p = eqb-true x y e in let q = eqb-false (little_number xs) (little_number ys) (m ∙ f) in rw (e, f) (ne_eqb (x + little_number xs * 256) (y + little_number ys * 256) (λ z. q (omega arith)))
    pick false e u f m a b = let p = eqb-false x y e in rw e (ne_eqb (x + little_number xs * 256) (y + little_number ys * 256) (λ z. p (omega arith)))

pub word_zero : (s : Bytes) (at n : ℕ) → LittleEndian (part at 8 s) n → eqb n 0 ≡ blank at 8 s
unfolding LittleEndian
word_zero s at n h = rw h.0 (zero_word_number (part at 8 s))

part_length : (s : Bytes) (at n : ℕ) → at + n ≤ length s → length (part at n s) ≡ n
part_length s at n h = length-take-le n (drop at s) (omega (arith, length-drop at s))

pub word_same : (a b : Bytes) (at m n : ℕ) → at + 8 ≤ length a → at + 8 ≤ length b → LittleEndian (part at 8 a) m → LittleEndian (part at 8 b) n → eqb m n ≡ same (part at 8 a) (part at 8 b)
unfolding LittleEndian
word_same a b at m n p q h k =
    rw (h.0, k.0) (same_word_number (part at 8 a) (part at 8 b) (part_length a at 8 p ∙ sym (part_length b at 8 q)) h.1 k.1)

-- Eight bytes that code takes from a place on, as an array.
module _ (s xs : Bytes) (at : ℕ) (h : at + 8 ≤ length s) (e : xs ≡ take 8 (take (length s - at) (drop at s))) where
  pub chunk_part : xs ≡ part at 8 s
  chunk_part = e ∙ ap (take 8) (take_all (length s - at) (drop at s) (omega (arith, length-drop at s)))

  pub chunk_length : length xs ≡ 8
  chunk_length = ap length chunk_part ∙ part_length s at 8 h

by_eight : (P : Bytes → Type 0) → ((a b c d e g h i : ℕ) → P (a ∷ b ∷ c ∷ d ∷ e ∷ g ∷ h ∷ i ∷ [])) → (xs : Bytes) → length xs ≡ 8 → P xs
by_eight P f [] l = absurd (omega arith)
by_eight P f (a ∷ []) l = absurd (omega arith)
by_eight P f (a ∷ b ∷ []) l = absurd (omega arith)
by_eight P f (a ∷ b ∷ c ∷ []) l = absurd (omega arith)
by_eight P f (a ∷ b ∷ c ∷ d ∷ []) l = absurd (omega arith)
by_eight P f (a ∷ b ∷ c ∷ d ∷ e ∷ []) l = absurd (omega arith)
by_eight P f (a ∷ b ∷ c ∷ d ∷ e ∷ g ∷ []) l = absurd (omega arith)
by_eight P f (a ∷ b ∷ c ∷ d ∷ e ∷ g ∷ h ∷ []) l = absurd (omega arith)
by_eight P f (a ∷ b ∷ c ∷ d ∷ e ∷ g ∷ h ∷ i ∷ []) l = f a b c d e g h i
by_eight P f (a ∷ b ∷ c ∷ d ∷ e ∷ g ∷ h ∷ i ∷ j ∷ k) l = absurd (omega arith)

big_number : (a b c d e g h i : ℕ) → from_be_bytes w64 (a ∷ b ∷ c ∷ d ∷ e ∷ g ∷ h ∷ i ∷ []) ≡ number_from 0 (a ∷ b ∷ c ∷ d ∷ e ∷ g ∷ h ∷ i ∷ [])
unfolding number_from
big_number a b c d e g h i = omega arith

pub big_eight : (xs : Bytes) → length xs ≡ 8 → from_be_bytes w64 xs ≡ number_from 0 xs
big_eight = by_eight (λ xs. from_be_bytes w64 xs ≡ number_from 0 xs) big_number

low_number : (a b c d e g h i : ℕ) → from_le_bytes w64 (a ∷ b ∷ c ∷ d ∷ e ∷ g ∷ h ∷ i ∷ []) ≡ little_number (a ∷ b ∷ c ∷ d ∷ e ∷ g ∷ h ∷ i ∷ [])
unfolding little_number
low_number a b c d e g h i = omega arith

little_number_eight : (xs : Bytes) → length xs ≡ 8 → from_le_bytes w64 xs ≡ little_number xs
little_number_eight = by_eight (λ xs. from_le_bytes w64 xs ≡ little_number xs) low_number

-- bytes of a run are bytes
take_fits : (n : ℕ) (ys : Bytes) → ((i : ℕ) → get_or ys i 0 < 256) → Every (λ b. b < 256) (take n ys)
take_fits zero ys h = tt
take_fits (suc n) [] h = tt
take_fits (suc n) (y ∷ ys) h = (h 0, take_fits n ys (λ i. h (suc i)))

pub little_eight : (s xs : Bytes) (at r : ℕ) → length xs ≡ 8 → xs ≡ part at 8 s → ((i : ℕ) → get_or s i 0 < 256) → r ≡ from_le_bytes w64 xs → LittleEndian (part at 8 s) r
unfolding LittleEndian
little_eight s xs at r l p h e =
    (e ∙ little_number_eight xs l ∙ ap little_number p, take_fits 8 (drop at s) (λ i. rw (get_or-drop at s i 0) (h (at + i))))

-- the next word's place
pub next_word : (k : ℕ) → 8 * (k + 1) ≡ 8 * k + 8
next_word k = omega arith

-- What a list's test says of its parts.
zero_append : (xs ys : Bytes) → all_zero (xs ++ ys) ≡ (all_zero xs && all_zero ys)
unfolding all_zero
zero_append [] ys = refl
zero_append (x ∷ xs) ys = ap (λ (t : Bool). eqb x 0 && t) (zero_append xs ys) ∙ sym (and_assoc (eqb x 0) (all_zero xs) (all_zero ys))

pub same_append : (vs ws xs ys : Bytes) → length vs ≡ length ws → same (vs ++ xs) (ws ++ ys) ≡ (same vs ws && same xs ys)
unfolding same
same_append [] [] xs ys l = refl
same_append [] (w ∷ ws) xs ys l = absurd (omega arith)
same_append (v ∷ vs) [] xs ys l = absurd (omega arith)
same_append (v ∷ vs) (w ∷ ws) xs ys l = ap (λ (t : Bool). eqb v w && t) (same_append vs ws xs ys (omega arith)) ∙ sym (and_assoc (eqb v w) (same vs ws) (same xs ys))

-- one word of what is left
zero_split : (s : Bytes) (i : ℕ) → all_zero (drop i s) ≡ (blank i 8 s && all_zero (drop (i + 8) s))
zero_split s i =
    sym (ap all_zero (take-append-drop 8 (drop i s)))
    ∙ zero_append (part i 8 s) (drop 8 (drop i s))
    ∙ ap (λ (l : Bytes). blank i 8 s && all_zero l) (drop-drop 8 i s)

same_split : (a b : Bytes) (i : ℕ) → i + 8 ≤ length a → i + 8 ≤ length b → same (drop i a) (drop i b) ≡ (same (part i 8 a) (part i 8 b) && same (drop (i + 8) a) (drop (i + 8) b))
same_split a b i h k =
    sym (ap₂ same (take-append-drop 8 (drop i a)) (take-append-drop 8 (drop i b)))
    ∙ same_append (part i 8 a) (part i 8 b) (drop 8 (drop i a)) (drop 8 (drop i b)) (part_length a i 8 h ∙ sym (part_length b i 8 k))
    ∙ ap₂ (λ (l m : Bytes). same (part i 8 a) (part i 8 b) && same l m) (drop-drop 8 i a) (drop-drop 8 i b)

-- what follows from a whole for its end
zero_drop : (s : Bytes) (k : ℕ) → all_zero s ≡ true → all_zero (drop k s) ≡ true
zero_drop s k e = and_right (all_zero (take k s)) (all_zero (drop k s)) (sym (zero_append (take k s) (drop k s)) ∙ ap all_zero (take-append-drop k s) ∙ e)

same_drop : (a b : Bytes) (k : ℕ) → same a b ≡ true → same (drop k a) (drop k b) ≡ true
same_drop a b k e = rw (same_eq a b e) (same_refl (drop k b))

-- a later end of the end from k on
drop_later : (s : Bytes) (k i : ℕ) → k ≤ i → drop (i - k) (drop k s) ≡ drop i s
drop_later s k i h = let e : k + (i - k) ≡ i = omega arith in drop-drop (i - k) k s ∙ ap (λ (n : ℕ). drop n s) e

-- the last eight bytes
last_word : (s : Bytes) (k : ℕ) → k + 8 ≡ length s → part k 8 s ≡ drop k s
last_word s k h = take_all 8 (drop k s) (omega (arith, length-drop k s))

-- a whole, an end of it, and a shorter end that is as the whole
squeeze : (whole end later : Bool) → (whole ≡ true → end ≡ true) → (end ≡ true → later ≡ true) → later ≡ whole → end ≡ whole
squeeze true end later f g e = f refl
squeeze false true later f g e = sym (g refl) ∙ e
squeeze false false later f g e = refl

-- The turns of the loops by words. They begin with the last word, which overlaps: so far, and what is left, is the whole's answer; and so far says no
-- more than the last word.
and_once : (a : Bool) → (a && a) ≡ a
and_once true = refl
and_once false = refl

below : (r q l : Bool) → (r && l) ≡ r → ((r && q) && l) ≡ (r && q)
below true true l e = e
below true false l e = refl
below false q l e = refl

-- an end of a whole
end_first : (whole end : Bool) → (whole ≡ true → end ≡ true) → (end && whole) ≡ whole
end_first true end f = and_true end ∙ f refl
end_first false end f = and_false end

-- so far r, which says no more than an end; a later end decides the rest
end_decides : (r whole end later : Bool) → (whole ≡ true → end ≡ true) → (end ≡ true → later ≡ true) → (r && end) ≡ r → (r && later) ≡ whole → r ≡ whole
end_decides true whole end later f g b e = sym b ∙ squeeze whole end later f g e
end_decides false whole end later f g b e = e

module _ (s : Bytes) (h : 8 ≤ length s) where
  -- the last word, of what is known of the whole
  zero_last : all_zero s ≡ true → blank (length s - 8) 8 s ≡ true
  zero_last z = ap all_zero (last_word s (length s - 8) (omega arith)) ∙ zero_drop s (length s - 8) z

  pub zero_words_start : (q : Bool) → q ≡ blank (length s - 8) 8 s → (q && all_zero s) ≡ all_zero s
  zero_words_start q e = ap (λ (t : Bool). t && all_zero s) e ∙ end_first (all_zero s) (blank (length s - 8) 8 s) zero_last

  pub zero_words_low : (q : Bool) → q ≡ blank (length s - 8) 8 s → (q && blank (length s - 8) 8 s) ≡ q
  zero_words_low q e = ap (λ (t : Bool). q && t) (sym e) ∙ and_once q

  module _ (i : ℕ) (r : Bool) (inv : (r && all_zero (drop i s)) ≡ all_zero s) (low : (r && blank (length s - 8) 8 s) ≡ r) where
    pub zero_words_next : (q : Bool) → q ≡ blank i 8 s → ((r && q) && all_zero (drop (i + 8) s)) ≡ all_zero s
    zero_words_next q e =
        and_assoc r q _ ∙ ap (λ (t : Bool). r && t) (ap (λ (t : Bool). t && all_zero (drop (i + 8) s)) e ∙ sym (zero_split s i)) ∙ inv

    pub zero_words_lower : (q : Bool) → ((r && q) && blank (length s - 8) 8 s) ≡ (r && q)
    zero_words_lower q = below r q (blank (length s - 8) 8 s) low

    pub zero_words_done : i ≤ length s → length s - i < 8 → r ≡ all_zero s
    zero_words_done l d =
        end_decides r (all_zero s) (blank (length s - 8) 8 s) (all_zero (drop i s)) zero_last
        (λ z. sym (ap all_zero (drop_later s (length s - 8) i (omega arith)))
        ∙ zero_drop (drop (length s - 8) s) (i - (length s - 8)) (sym (ap all_zero (last_word s (length s - 8) (omega arith))) ∙ z))
        low
        inv

-- the last words of two runs
abbrev pub same_last : Bytes → Bytes → Bool
same_last a b = same (part (length a - 8) 8 a) (part (length a - 8) 8 b)

module _ (a b : Bytes) (n : length a ≡ length b) (h : 8 ≤ length a) where
  last_words : same_last a b ≡ same (drop (length a - 8) a) (drop (length a - 8) b)
  last_words = ap₂ same (last_word a (length a - 8) (omega arith)) (last_word b (length a - 8) (omega arith))

  same_last_lem : same a b ≡ true → same_last a b ≡ true
  same_last_lem z = last_words ∙ same_drop a b (length a - 8) z

  pub same_words_start : (q : Bool) → q ≡ same_last a b → (q && same a b) ≡ same a b
  same_words_start q e = ap (λ (t : Bool). t && same a b) e ∙ end_first (same a b) (same_last a b) same_last_lem

  pub same_words_low : (q : Bool) → q ≡ same_last a b → (q && same_last a b) ≡ q
  same_words_low q e = ap (λ (t : Bool). q && t) (sym e) ∙ and_once q

  module _ (i : ℕ) (r : Bool) (inv : (r && same (drop i a) (drop i b)) ≡ same a b) (low : (r && same_last a b) ≡ r) where
    pub same_words_next : (q : Bool) → 8 ≤ length a - i → q ≡ same (part i 8 a) (part i 8 b) → ((r && q) && same (drop (i + 8) a) (drop (i + 8) b)) ≡ same a b
    same_words_next q g e =
        and_assoc r q _
        ∙ ap (λ (t : Bool). r && t) (ap (λ (t : Bool). t && same (drop (i + 8) a) (drop (i + 8) b)) e ∙ sym (same_split a b i (omega arith) (omega arith)))
        ∙ inv

    pub same_words_lower : (q : Bool) → ((r && q) && same_last a b) ≡ (r && q)
    same_words_lower q = below r q (same_last a b) low

    pub same_words_done : i ≤ length a → length a - i < 8 → r ≡ same a b
    same_words_done l d =
        end_decides r (same a b) (same_last a b) (same (drop i a) (drop i b)) same_last_lem
        (λ z. sym (ap₂ same (drop_later a (length a - 8) i (omega arith)) (drop_later b (length a - 8) i (omega arith)))
        ∙ same_drop (drop (length a - 8) a) (drop (length a - 8) b) (i - (length a - 8)) (sym last_words ∙ z))
        low
        inv
