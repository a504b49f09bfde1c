-- The turns of the loops over a text: a line's end, a word, a number's digits and a hash's, the bytes of a number.
use Rattle.std.proofs.lemmas.List.{ext_get_or, get_or_append_left, get_or-replicate}
use Rattle.std.proofs.Math.Seq.{get_or-append_right}
use lib.ListN.{get_or-eq_default}
use Rattle.std.specs.List.{position_or_len}
use Rattle.std.specs.Simd.{first_chunks}
use Rattle.std.specs.Int.{w64, to_be_bytes, bytes_high_first}
use Rattle.std.specs.Option.{unwrap_or}
use Rattle.text_rules.proofs.Digits.{below_or_not}
use Rattle.std.proofs.Common.{◌⊎◌, inl, inr, min, cond, ltb, Option, Some, None, List, replicate, ◌≡◌, ℕ, zero, suc, ◌+◌, ◌-◌, ◌*◌, ◌/◌, ◌%◌, ◌^◌, ◌<◌, ◌≤◌, Bool, true, false, not, ◌&&◌, ◌||◌, eqb, leb, [], ◌∷◌, ◌++◌, length, get_or, take, drop, sym, refl, ap, ◌∙◌, add-zero, add-one, drop-cons, arith, length-drop, drop_of_length-le, length-take, length-take-le, get_or-drop, take_all, get_or-take, drop-drop, le-leb}
use native.Mathlib.Nat.{div-add-mod, mod-mod, add-mul-mod_self_left}
use borrow.Author.Tests.{lt-leb, not-true, not-false, ltb-true, ltb-false}
use Rattle.rules.specs.Basics.{Bytes, same}
use Rattle.rules.specs.Layout.{between}
use Rattle.text_rules.specs.Decoding.{stands, hex_value, unhex, digits_of, decimal_from, bytes_of}
use Rattle.text_rules.specs.OtherDecoding.{bytes_here}
use Rattle.text_rules.specs.Listing.{lines_of, line_length}
use Rattle.text_rules.proofs.Digits.{unhex_length}
use Rattle.text_rules.proofs.Lines.{lines_next}
use Rattle.text_bytes.specs.Putting.{Put}
use Rattle.text_bytes.specs.Names.{words_of, NameEnds}
use Rattle.text_bytes.proofs.Laws.{put_as, Filled, filled_none, filled_piece, filled_all, left, piece_ends}
use Rattle.text_lexer.specs.declared.Cursor.{Cursor}
use Rattle.text_lexer.specs.Telling.{has_newline, Skipped, LineEnds, LineWithin, NumberAt, NameFound, one_here, past_one, place_in, past_name}
use Rattle.text_lexer.specs.Taking.{Advanced, Field}

-- A line's end: from `at` to i no byte is the newline.
pub line_ends : (t : Bytes) (at end : ℕ) → at < length t → at < end → end ≤ length t → end ≡ at + line_length (left t at) → LineEnds t at end
unfolding left
line_ends t at end h p l e =
    record { past = p; inside = l; first = e; lines = piece_ends lines_of line_length t at end (lines_next (drop at t) (omega (arith, length-drop at t))) e }

-- how far the next newline is
abbrev next_newline : Bytes → ℕ
next_newline t = position_or_len (λ c. eqb c 10) t

line_found : (t : Bytes) → next_newline t < length t → line_length t ≡ next_newline t + 1
unfolding line_length
line_found [] h = absurd (omega arith)
line_found (c ∷ t) h = pick (eqb c 10) refl (λ k. line_found t k) h
  where
    pick : (b : Bool) → eqb c 10 ≡ b → (next_newline t < length t → line_length t ≡ next_newline t + 1) → next_newline (c ∷ t) < length (c ∷ t) → line_length (c ∷ t) ≡ next_newline (c ∷ t) + 1
    pick true e f k = rw e refl
    pick false e f k =
        let m : 1 + next_newline t < length (c ∷ t) = rw e at k in
        let g = f (omega arith) in
        rw e (omega arith)

line_none : (t : Bytes) → length t ≤ next_newline t → line_length t ≡ length t
unfolding line_length
line_none [] h = refl
line_none (c ∷ t) h = pick (eqb c 10) refl (λ k. line_none t k) h
  where
    pick : (b : Bool) → eqb c 10 ≡ b → (length t ≤ next_newline t → line_length t ≡ length t) → length (c ∷ t) ≤ next_newline (c ∷ t) → line_length (c ∷ t) ≡ length (c ∷ t)
    pick true e f k =
        let m : length (c ∷ t) ≤ 0 = rw e at k in
        absurd (omega arith)
    pick false e f k =
        let m : length (c ∷ t) ≤ 1 + next_newline t = rw e at k in
        let g = f (omega arith) in
        rw e (omega arith)

-- what the search for the newline says, from a place on
abbrev pub Newline : Bytes → Option ℕ → Type 0
Newline t r = r ≡ cond (ltb (next_newline t) (length t)) (Some (next_newline t)) None

module _ (t : Bytes) (at i : ℕ) (h : at < length t) (p : Skipped t at i) where
  pub newline_found : (n : ℕ) → Newline (drop i t) (Some n) → LineEnds t at (i + n + 1)
  unfolding left
  newline_found n s = pick (ltb (next_newline (drop i t)) (length (drop i t))) refl s
    where
      pick : (b : Bool) → ltb (next_newline (drop i t)) (length (drop i t)) ≡ b → Some n ≡ cond b (Some (next_newline (drop i t))) None → LineEnds t at (i + n + 1)
      pick true e f =
          let m : n ≡ next_newline (drop i t) = cc in
          let k = line_found (drop i t) (ltb-true (next_newline (drop i t)) (length (drop i t)) e) in
          let q = p.rest in
          let u = p.past in
          let v = p.inside in
          let w = ltb-true (next_newline (drop i t)) (length (drop i t)) e in
          let d = length-drop i t in
          line_ends t at (i + n + 1) h (omega arith) (omega arith) (omega arith)
      pick false e f = cc

  pub newline_none : Newline (drop i t) None → LineEnds t at (length t)
  unfolding left
  newline_none s = pick (ltb (next_newline (drop i t)) (length (drop i t))) refl s
    where
      pick : (b : Bool) → ltb (next_newline (drop i t)) (length (drop i t)) ≡ b → None ≡ cond b (Some (next_newline (drop i t))) None → LineEnds t at (length t)
      pick true e f = cc
      pick false e f =
          let k = line_none (drop i t) (ltb-false (next_newline (drop i t)) (length (drop i t)) e) in
          let q = p.rest in
          let u = p.inside in
          let d = length-drop i t in
          line_ends t at (length t) h h (omega arith) (omega arith)

-- blocks without a newline
run_passed : (n : ℕ) (t : Bytes) → n ≤ length t → has_newline (take n t) ≡ false → line_length t ≡ n + line_length (drop n t)
unfolding line_length
run_passed zero t h e = omega arith
run_passed (suc n) [] h e = absurd (omega arith)
run_passed (suc n) (c ∷ t) h e = pick (eqb c 10) refl (λ k d. run_passed n t k d) e
  where
    pick : (b : Bool) → eqb c 10 ≡ b → (n ≤ length t → has_newline (take n t) ≡ false → line_length t ≡ n + line_length (drop n t)) → has_newline (take (suc n) (c ∷ t)) ≡ false → line_length (c ∷ t) ≡ suc n + line_length (drop n t)
    pick true a f d =
        let k : true ≡ false = rw a at d in
        cc
    pick false a f d =
        let g = f (omega arith) (rw a at d) in
        rw a (omega arith)

-- a newline among those bytes that are left
newline_at : (t : Bytes) (i : ℕ) → i < length t → has_newline (drop i t) ≡ (eqb (get_or t i 0) 10 || has_newline (drop (i + 1) t))
newline_at t i h = rw (add-one, drop-cons t i 0 h) refl

pub newline_more : (t : Bytes) (i : ℕ) (b : Bool) → i < length t → (b || has_newline (drop i t)) ≡ has_newline t → ((b || eqb (get_or t i 0) 10) || has_newline (drop (i + 1) t)) ≡ has_newline t
newline_more t i true h e = e
newline_more t i false h e = sym (newline_at t i h) ∙ e

pub newline_all : (t : Bytes) (i : ℕ) (b : Bool) → length t ≤ i → (b || has_newline (drop i t)) ≡ has_newline t → b ≡ has_newline t
newline_all t i true h e = e
newline_all t i false h e = rw (drop_of_length-le t {i = i} h) at e

-- of n blocks, those before the first with a newline
abbrev clear_blocks : ℕ → Bytes → ℕ
clear_blocks n t = position_or_len has_newline (first_chunks 16 n t)

blocks_passed : (n : ℕ) (t : Bytes) → 16 * n ≤ length t → (16 * clear_blocks n t ≤ length t) × (line_length t ≡ 16 * clear_blocks n t + line_length (drop (16 * clear_blocks n t) t))
blocks_passed zero t h = (omega arith, omega arith)
blocks_passed (suc n) t h = pick (has_newline (take 16 t)) refl (blocks_passed n (drop 16 t) (omega (arith, length-drop 16 t)))
  where
    k : ℕ
    k = clear_blocks n (drop 16 t)

    pick : (b : Bool) → has_newline (take 16 t) ≡ b → (16 * k ≤ length (drop 16 t)) × (line_length (drop 16 t) ≡ 16 * k + line_length (drop (16 * k) (drop 16 t)))
        → (16 * clear_blocks (suc n) t ≤ length t) × (line_length t ≡ 16 * clear_blocks (suc n) t + line_length (drop (16 * clear_blocks (suc n) t) t))
    pick true e f = rw e (omega arith, omega arith)
    pick false e f =
        let r = run_passed 16 t (omega arith) e in
        let d : drop (16 * k) (drop 16 t) ≡ drop (16 * (1 + k)) t = drop-drop (16 * k) 16 t ∙ ap (λ (m : ℕ). drop m t) (omega arith) in
        let g = f.0 in
        let q : line_length (drop 16 t) ≡ 16 * k + line_length (drop (16 * (1 + k)) t) = f.1 ∙ ap (λ (u : Bytes). 16 * k + line_length u) d in
        let l = length-drop 16 t in
        rw e (omega arith, omega arith)

clear_most : (n : ℕ) (t : Bytes) → clear_blocks n t ≤ n
clear_most zero t = omega arith
clear_most (suc n) t = pick (has_newline (take 16 t)) refl (clear_most n (drop 16 t))
  where
    pick : (b : Bool) → has_newline (take 16 t) ≡ b → clear_blocks n (drop 16 t) ≤ n → clear_blocks (suc n) t ≤ suc n
    pick true e f = rw e (omega arith)
    pick false e f = rw e (omega arith)

blocks_count : (n : ℕ) (t : Bytes) → length (first_chunks 16 n t) ≡ n
blocks_count zero t = refl
blocks_count (suc n) t = ap suc (blocks_count n (drop 16 t))

skipped_blocks : (t : Bytes) (at n : ℕ) (o : Option ℕ) → at ≤ length t → n ≡ (length t - at) / 16 → o ≡ cond (ltb (clear_blocks n (drop at t)) n) (Some (clear_blocks n (drop at t))) None → Skipped t at (at + 16 * unwrap_or o n)
skipped_blocks t at n o h e s = pick (ltb (clear_blocks n (drop at t)) n) refl
  where
    k : ℕ
    k = clear_blocks n (drop at t)

    skipped : (m : ℕ) → m ≡ k → Skipped t at (at + 16 * m)
    skipped m d =
        let l = length-drop at t in
        let b = blocks_passed n (drop at t) (omega arith) in
        let b0 = b.0 in
        let g : drop (16 * k) (drop at t) ≡ drop (at + 16 * k) t = drop-drop (16 * k) at t in
        let q : line_length (drop at t) ≡ 16 * k + line_length (drop (at + 16 * k) t) = b.1 ∙ ap (λ (u : Bytes). 16 * k + line_length u) g in
        rw d record { past = omega arith; inside = omega arith; rest = omega arith }

    pick : (b : Bool) → ltb k n ≡ b → Skipped t at (at + 16 * unwrap_or o n)
    pick true d =
        let u : o ≡ Some k = s ∙ rw d refl in
        skipped (unwrap_or o n) (ap (λ (x : Option ℕ). unwrap_or x n) u)
    pick false d =
        let a = ltb-false k n d in
        let b = clear_most n (drop at t) in
        let u : o ≡ None = s ∙ rw d refl in
        let v : n ≡ k = omega arith in
        skipped (unwrap_or o n) (ap (λ (x : Option ℕ). unwrap_or x n) u ∙ v)

pub skipped_chunks : (t : Bytes) (at : ℕ) (cs : List Bytes) (u : Bytes) (o : Option ℕ) (r : ℕ) → at ≤ length t → u ≡ drop at t → cs ≡ first_chunks 16 (length u / 16) u
    → o ≡ cond (ltb (position_or_len has_newline cs) (length cs)) (Some (position_or_len has_newline cs)) None → r ≡ unwrap_or o (length cs) → Skipped t at (at + 16 * r)
skipped_chunks t at cs u o r h eu ec eo er =
    let n : ℕ = length (drop at t) / 16 in
    let e : cs ≡ first_chunks 16 n (drop at t) = ec ∙ ap (λ (x : Bytes). first_chunks 16 (length x / 16) x) eu in
    let l : length cs ≡ n = ap length e ∙ blocks_count n (drop at t) in
    let s = rw (e, blocks_count n (drop at t)) at eo in
    rw (er, l) (skipped_blocks t at n o h (ap (λ (m : ℕ). m / 16) (length-drop at t)) s)

-- a line, as far as its first bytes show
pub within_whole : (most : ℕ) (t : Bytes) (at end : ℕ) → length t - at ≤ most → LineEnds t at end → LineWithin most t at end
within_whole most t at end h p =
    let e : take most (drop at t) ≡ drop at t = take_all most (drop at t) (omega (arith, length-drop at t)) in
    record { past = p.past; inside = p.inside; first = rw e p.first }

pub within_part : (most : ℕ) (t : Bytes) (at end : ℕ) → most < length t - at → LineEnds (take (at + most - at) (drop at t)) 0 end → LineWithin most t at (at + end)
within_part most t at end h p =
    let m : at + most - at ≡ most = omega arith in
    let q = rw m at p in
    let f = q.first in
    let k = q.past in
    let i = q.inside in
    record { past = omega arith; inside = omega (arith, length-take most (drop at t), length-drop at t); first = omega arith }

-- A word stands at the beginning of a text if its bytes do, and the byte after them ends it.
pub stands_short : (w t : Bytes) → length t < length w → false ≡ stands w t
unfolding stands
stands_short [] t h = absurd (omega arith)
stands_short (x ∷ w) [] h = refl
stands_short (x ∷ w) (y ∷ t) h = pick (eqb x y) (stands_short w t (omega arith))
  where
    pick : (b : Bool) → false ≡ stands w t → false ≡ (b && stands w t)
    pick true e = e
    pick false e = refl

stands_is : (w t : Bytes) → length w ≤ length t → stands w t ≡ (same w (take (length w) t) && leb (get_or t (length w) 0) 32)
unfolding stands same
stands_is [] t h = refl
stands_is (x ∷ w) [] h = absurd (omega arith)
stands_is (x ∷ w) (y ∷ t) h = pick (eqb x y) (stands_is w t (omega arith))
  where
    pick : (b : Bool) → stands w t ≡ (same w (take (length w) t) && leb (get_or t (length w) 0) 32) → (b && stands w t) ≡ ((b && same w (take (length w) t)) && leb (get_or t (length w) 0) 32)
    pick true e = e
    pick false e = refl

module _ (w t : Bytes) (b : Bool) (h : length w ≤ length t) (word_same : b ≡ same w (take (length w) t)) where
  pub stands_differs : b ≡ false → false ≡ stands w t
  stands_differs n = sym (stands_is w t h ∙ rw (← word_same, n))

  pub stands_ends : (c : ℕ) → b ≡ true → c ≡ get_or t (length w) 0 → leb c 32 ≡ stands w t
  stands_ends c n d = sym (stands_is w t h ∙ rw (← word_same, n, ← d))

-- Digits: none, or one and those after it.
digits_none : (l : Bytes) → between 48 57 (get_or l 0 0) ≡ false → digits_of l ≡ []
unfolding digits_of
digits_none [] e = refl
digits_none (c ∷ l) e = rw e

digits_one : (l : Bytes) → between 48 57 (get_or l 0 0) ≡ true → digits_of l ≡ get_or l 0 0 ∷ digits_of (drop 1 l)
unfolding digits_of
digits_one [] e = absurd (never e)
  where
    never : between 48 57 0 ≡ true → ⊥
    never d = let z : ◌≡◌ {A = ℕ} 0 1 = cc in omega arith
digits_one (c ∷ l) e = rw e

-- the digits from the i-th of the first bytes on
unfoldable pub digits_from : ℕ → Bytes → ℕ → Bytes
digits_from most t i = digits_of (drop i (take most t))

-- Sums modulo 2^64.
wrap_more : (a k : ℕ) → (a * 10 + k) % 2 ^ 64 ≡ (a % 2 ^ 64 * 10 + k) % 2 ^ 64
wrap_more a k =
    let d : 2 ^ 64 * (a / 2 ^ 64) + a % 2 ^ 64 ≡ a = div-add-mod a (2 ^ 64) in
    let e : a * 10 + k ≡ a % 2 ^ 64 * 10 + k + 2 ^ 64 * (a / 2 ^ 64 * 10) = omega arith in
    ap (λ (x : ℕ). x % 2 ^ 64) e ∙ add-mul-mod_self_left (a % 2 ^ 64 * 10 + k) (2 ^ 64) (a / 2 ^ 64 * 10)

-- digits after numbers that are one modulo 2^64
digits_wrap : (ds : Bytes) (a b : ℕ) → a % 2 ^ 64 ≡ b % 2 ^ 64 → decimal_from a ds % 2 ^ 64 ≡ decimal_from b ds % 2 ^ 64
unfolding decimal_from
digits_wrap [] a b e = e
digits_wrap (c ∷ ds) a b e =
    digits_wrap ds (a * 10 + (c - 48)) (b * 10 + (c - 48)) (wrap_more a (c - 48) ∙ ap (λ (x : ℕ). (x * 10 + (c - 48)) % 2 ^ 64) e ∙ sym (wrap_more b (c - 48)))

-- The first i bytes are digits, and n is the number that they write, modulo 2^64.
pub record Counted (most : ℕ) (t : Bytes) (n i : ℕ) : Type 0 where
  pub value : decimal_from n (digits_from most t i) % 2 ^ 64 ≡ decimal_from 0 (digits_of (take most t)) % 2 ^ 64
  pub digits : i + length (digits_from most t i) ≡ length (digits_of (take most t))
  pub small : n < 2 ^ 64

pub counted_none : (most : ℕ) (t : Bytes) → Counted most t 0 0
unfolding digits_from
counted_none most t = record { value = refl; digits = omega arith; small = omega arith }

-- no digit more
counted_stop : (most : ℕ) (t : Bytes) (n i : ℕ) → i ≤ most → digits_from most t i ≡ [] → Counted most t n i → NumberAt most t n i
unfolding decimal_from
counted_stop most t n i h d p =
    let l = ap length d in
    let m = p.digits in
    let s = p.small in
    let v : n % 2 ^ 64 ≡ decimal_from 0 (digits_of (take most t)) % 2 ^ 64 = ap (λ (ds : Bytes). decimal_from n ds % 2 ^ 64) (sym d) ∙ p.value in
    let w : n ≡ n % 2 ^ 64 = omega arith in
    record { value_is = w ∙ v; digits_are = omega arith; few = h }

module _ (most : ℕ) (t : Bytes) (n i c : ℕ) (h : i < most) (ec : c ≡ get_or t i 0) (p : Counted most t n i) where
  head_is : get_or (drop i (take most t)) 0 0 ≡ c
  head_is = get_or-drop i (take most t) 0 0 ∙ ap (λ (k : ℕ). get_or (take most t) k 0) (add-zero i) ∙ get_or-take most t i 0 h ∙ sym ec

  stop_is : between 48 57 c ≡ false → NumberAt most t n i
  unfolding digits_from
  stop_is e = counted_stop most t n i (omega arith) (digits_none (drop i (take most t)) (ap (between 48 57) head_is ∙ e)) p

  module _ (b : Bool) (eb : b ≡ between 48 57 c) where
    pub counted_stops : not b ≡ true → NumberAt most t n i
    counted_stops e = stop_is (sym eb ∙ not-true b e)

    pub counted_more : (m : ℕ) → not b ≡ false → m ≡ (n * 10 + (c - 48)) % 2 ^ 64 → Counted most t m (i + 1)
    unfolding digits_from decimal_from
    counted_more m e em =
        let d : digits_from most t i ≡ c ∷ digits_from most t (i + 1) =
        digits_one (drop i (take most t)) (ap (between 48 57) head_is ∙ sym eb ∙ not-false b e) ∙ ap (λ (x : ℕ). x ∷ digits_of (drop 1 (drop i (take most t)))) head_is
        ∙ ap (λ (x : Bytes). c ∷ digits_of x) (drop-drop 1 i (take most t)) in
        let g = p.digits in
        let a = ap length d in
        let z : m % 2 ^ 64 ≡ (n * 10 + (c - 48)) % 2 ^ 64 = ap (λ (x : ℕ). x % 2 ^ 64) em ∙ mod-mod (n * 10 + (c - 48)) (2 ^ 64) in
        record {
          value = digits_wrap (digits_from most t (i + 1)) m (n * 10 + (c - 48)) z ∙ sym (ap (λ (ds : Bytes). decimal_from n ds % 2 ^ 64) d) ∙ p.value;
          digits = omega arith;
          small = omega arith;
        }

pub counted_all : (most : ℕ) (t : Bytes) (n i : ℕ) → most ≤ i → i ≤ most → Counted most t n i → NumberAt most t n i
unfolding digits_from digits_of
counted_all most t n i h k p =
    let z : drop i (take most t) ≡ [] = drop_of_length-le (take most t) {i = i} (omega (arith, length-take most t)) in
    counted_stop most t n i k (ap digits_of z) p

-- the value of a digit, by the tests of the code
module _ (c : ℕ) where
  pub value_below : c < 48 → (0 ≡ hex_value c) × (0 < 16)
  unfolding hex_value
  value_below h = (sym (rw (lt-leb 48 c h, lt-leb 97 c (omega arith))), omega arith)

  pub value_decimal : 48 ≤ c → c ≤ 57 → (c - 48 ≡ hex_value c) × (c - 48 < 16)
  unfolding hex_value
  value_decimal h k = (sym (rw (le-leb 48 c h, le-leb c 57 k)), omega arith)

  pub value_between : 57 < c → c < 97 → (0 ≡ hex_value c) × (0 < 16)
  unfolding hex_value
  value_between h k = (sym (rw (le-leb 48 c (omega arith), lt-leb c 57 h, lt-leb 97 c k)), omega arith)

  pub value_letter : 57 < c → 97 ≤ c → c ≤ 102 → (c - 87 ≡ hex_value c) × (c - 87 < 16)
  unfolding hex_value
  value_letter h k l = (sym (rw (le-leb 48 c (omega arith), lt-leb c 57 h, le-leb 97 c k, le-leb c 102 l)), omega arith)

  pub value_above : 102 < c → (0 ≡ hex_value c) × (0 < 16)
  unfolding hex_value
  value_above h = (sym (rw (le-leb 48 c (omega arith), lt-leb c 57 (omega arith), le-leb 97 c (omega arith), lt-leb c 102 h)), omega arith)

-- The bytes of a number, from the greatest place on.
bytes_length : (n k : ℕ) → length (bytes_of k n) ≡ k
unfolding bytes_of
bytes_length n zero = refl
bytes_length n (suc k) = ap suc (bytes_length n k)

-- the lowest bytes of a number modulo 2^64
byte_wrap : (n k : ℕ) → k ≤ 7 → n % 2 ^ 64 / 256 ^ k % 256 ≡ n / 256 ^ k % 256
byte_wrap n k h = go k refl
  where
    go : (j : ℕ) → k ≡ j → n % 2 ^ 64 / 256 ^ k % 256 ≡ n / 256 ^ k % 256
    go zero e = rw e (omega arith)
    go (suc zero) e = rw e (omega arith)
    go (suc (suc zero)) e = rw e (omega arith)
    go (suc (suc (suc zero))) e = rw e (omega arith)
    go (suc (suc (suc (suc zero)))) e = rw e (omega arith)
    go (suc (suc (suc (suc (suc zero))))) e = rw e (omega arith)
    go (suc (suc (suc (suc (suc (suc zero)))))) e = rw e (omega arith)
    go (suc (suc (suc (suc (suc (suc (suc zero))))))) e = rw e (omega arith)
    go (suc (suc (suc (suc (suc (suc (suc (suc j)))))))) e = absurd (omega arith)

pub bytes_wrap : (n k : ℕ) → k ≤ 8 → bytes_of k (n % 2 ^ 64) ≡ bytes_of k n
unfolding bytes_of
bytes_wrap n zero h = refl
bytes_wrap n (suc k) h =
    ap (λ (b : ℕ). b ∷ bytes_of k (n % 2 ^ 64)) (byte_wrap n k (omega arith)) ∙ ap (λ (bs : Bytes). n / 256 ^ k % 256 ∷ bs) (bytes_wrap n k (omega arith))

high_first : (k n : ℕ) → bytes_high_first k n ≡ bytes_of k n
unfolding bytes_of
high_first zero n = refl
high_first (suc zero) n =
    let e : n % 256 ≡ n / 1 % 256 = omega arith in
    ap (λ (b : ℕ). b ∷ []) e
high_first (suc (suc k)) n = ap (λ (bs : Bytes). n / 256 ^ suc k % 256 ∷ bs) (high_first (suc k) n)

low_bytes : (n width : ℕ) → width ≤ 8 → take (8 - (8 - width)) (drop (8 - width) (to_be_bytes w64 n)) ≡ bytes_high_first width n
low_bytes n width h = go width refl
  where
    go : (j : ℕ) → width ≡ j → take (8 - (8 - width)) (drop (8 - width) (to_be_bytes w64 n)) ≡ bytes_high_first width n
    go zero e = rw e refl
    go (suc zero) e = rw e refl
    go (suc (suc zero)) e = rw e refl
    go (suc (suc (suc zero))) e = rw e refl
    go (suc (suc (suc (suc zero)))) e = rw e refl
    go (suc (suc (suc (suc (suc zero))))) e = rw e refl
    go (suc (suc (suc (suc (suc (suc zero)))))) e = rw e refl
    go (suc (suc (suc (suc (suc (suc (suc zero))))))) e = rw e refl
    go (suc (suc (suc (suc (suc (suc (suc (suc zero)))))))) e = rw e refl
    go (suc (suc (suc (suc (suc (suc (suc (suc (suc j))))))))) e = absurd (omega arith)

pub number_put : (n width at : ℕ) (bs old new : Bytes) (r : ℕ) → width ≤ 8 → bs ≡ to_be_bytes w64 n → Put (take (8 - (8 - width)) (drop (8 - width) bs)) at old new r → Field width (bytes_of width n) at old new r
number_put n width at bs old new r h e p =
    let q = put_as (ap (λ (x : Bytes). take (8 - (8 - width)) (drop (8 - width) x)) e ∙ low_bytes n width h ∙ high_first width n) p in
    let l = bytes_length n width in
    let f = q.end in
    record { written = q; ends = omega arith }

-- The bytes of a hash: as many of its digits as the text has, and zeros.
abbrev pub pair : Bytes → ℕ → ℕ
pair t j = hex_value (get_or t (2 * j) 0) * 16 + hex_value (get_or t (2 * j + 1) 0)

unhex_at : (k : ℕ) (t : Bytes) (j : ℕ) → j < k → get_or (unhex k t) j 0 ≡ pair t j
unfolding unhex
unhex_at zero t j h = absurd (omega arith)
unhex_at (suc k) t zero h = refl
unhex_at (suc k) t (suc j) h =
    let e : 2 * suc j ≡ 2 + 2 * j = omega arith in
    let d : 2 + 2 * j + 1 ≡ 2 + (2 * j + 1) = omega arith in
    unhex_at k (drop 2 t) j (omega arith) ∙ rw (get_or-drop 2 t (2 * j) 0, get_or-drop 2 t (2 * j + 1) 0, e, d) refl

module _ (text copy hash : Bytes) (n : ℕ) (en : n ≡ min (length text) 40) (ec : copy ≡ take n text) where
  digit_at : (i : ℕ) → i < 40 → get_or (copy ++ drop n (replicate 40 0)) i 0 ≡ get_or text i 0
  digit_at i h = pick (below_or_not i n)
    where
      l : length copy ≡ n
      l = ap length ec ∙ length-take-le n text (omega arith)

      pick : (i < n) ⊎ (n ≤ i) → get_or (copy ++ drop n (replicate 40 0)) i 0 ≡ get_or text i 0
      pick (inl a) = get_or_append_left copy (drop n (replicate 40 0)) 0 i (omega (arith, l)) ∙ ap (λ (x : Bytes). get_or x i 0) ec ∙ get_or-take n text i 0 a
      pick (inr a) =
          get_or-append_right copy (drop n (replicate 40 0)) i 0 (omega (arith, l)) ∙ get_or-drop n (replicate 40 0) (i - length copy) 0
          ∙ get_or-replicate 40 (n + (i - length copy)) 0 0 (omega (arith, l)) ∙ sym (get_or-eq_default text 0 {n = i} (omega arith))

  pub hash_read : length hash ≡ 20 → ((j : ℕ) → j < 20 → get_or hash j 0 ≡ pair (copy ++ drop n (replicate 40 0)) j) → hash ≡ unhex 20 text
  hash_read eh told =
      ext_get_or 0 hash (unhex 20 text) (eh ∙ sym (unhex_length 20 text))
      (λ j h. told j (omega arith) ∙ rw (digit_at (2 * j) (omega arith), digit_at (2 * j + 1) (omega arith)) refl ∙ sym (unhex_at 20 text j (omega arith)))

-- Names: none of those before a place of the row stands.
pub record Searched (names t : Bytes) (i index : ℕ) : Type 0 where
  pub place : index + place_in (words_of (drop i names)) t ≡ place_in (words_of names) t
  pub rest : past_name (words_of (drop i names)) t ≡ past_name (words_of names) t

pub searched_none : (names t : Bytes) → Searched names t 0 0
searched_none names t = record { place = omega arith; rest = refl }

module _ (names t : Bytes) (i index : ℕ) (p : Searched names t i index) where
  module _ (next : ℕ) (e : NameEnds names i next) (b : Bool) (eb : b ≡ stands (take (next - i) (drop i names)) t) where
    pub searched_here : b ≡ true → index ≤ i → i < length names → NameFound (words_of names) t (length names) index (next - i)
    unfolding place_in past_name
    searched_here y l h =
        let s : stands (take (next - i) (drop i names)) t ≡ true = sym eb ∙ y in
        let a : index + 0 ≡ place_in (words_of names) t = rw (e.words, s) at p.place in
        let r : drop (length (take (next - i) (drop i names))) t ≡ past_name (words_of names) t = rw (e.words, s) at p.rest in
        let m = e.inside in
        let k : length (take (next - i) (drop i names)) ≡ next - i = length-take-le (next - i) (drop i names) (omega (arith, length-drop i names)) in
        record { place_is = omega arith; rest_is = ap (λ (x : ℕ). drop x t) (sym k) ∙ r; few = omega arith; short = omega arith }

    pub searched_next : b ≡ false → Searched names t next (index + 1)
    unfolding place_in past_name
    searched_next n =
        let s : stands (take (next - i) (drop i names)) t ≡ false = sym eb ∙ n in
        let a : index + suc (place_in (words_of (drop next names)) t) ≡ place_in (words_of names) t = rw (e.words, s) at p.place in
        record { place = omega arith; rest = rw (e.words, s) at p.rest }

  pub searched_all : length names ≤ i → i ≤ length names → index ≤ i → NameFound (words_of names) t (length names) index 0
  unfolding place_in past_name words_of
  searched_all h k l =
      let z : drop i names ≡ [] = drop_of_length-le names {i = i} h in
      let a : index + 0 ≡ place_in (words_of names) t = rw z at p.place in
      record { place_is = omega arith; rest_is = rw z at p.rest; few = omega arith; short = omega arith }

-- Numbers that no word stands before: those that are left.
unfoldable pub bytes_left : Bytes → ℕ → ℕ → Bytes
bytes_left text at k = bytes_here k (drop at text)

left_here : (text : Bytes) (at next k : ℕ) → drop next text ≡ past_one (drop at text) → bytes_left text at (suc k) ≡ bytes_of 1 (one_here (drop at text)) ++ bytes_left text next k
unfolding bytes_left bytes_here one_here past_one
left_here text at next k e = rw e refl

here_length : (k : ℕ) (t : Bytes) → length (bytes_here k t) ≡ k
unfolding bytes_here bytes_of
here_length zero t = refl
here_length (suc k) t = ap suc (here_length k (drop (1 + length (digits_of (take 10 (drop 1 t)))) t))

module _ (text old : Bytes) (c : Cursor) (count : ℕ) where
  pub here_none : c.end + count ≤ length old → Filled (bytes_here count (drop c.at text)) (bytes_left text c.at count) c.end old old c.end
  unfolding bytes_left
  here_none h = filled_none (bytes_here count (drop c.at text)) old c.end (omega arith)

  pub here_byte : (mid now : Bytes) (d e : Cursor) (i : ℕ) → i < count → Filled (bytes_here count (drop c.at text)) (bytes_left text d.at (count - i)) c.end old mid d.end
      → Advanced text (past_one (drop d.at text)) 0 0 11 d e → Field 1 (bytes_of 1 (one_here (drop d.at text))) d.end mid now e.end
      → Filled (bytes_here count (drop c.at text)) (bytes_left text e.at (count - (i + 1))) c.end old now e.end
  here_byte mid now d e i h p a f =
      let m : count - i ≡ suc (count - (i + 1)) = omega arith in
      filled_piece (bytes_of 1 (one_here (drop d.at text))) (bytes_left text e.at (count - (i + 1))) (rw (m, left_here text d.at e.at (count - (i + 1)) a.place) at p) f.written

  pub here_all : (now : Bytes) (d : Cursor) (i : ℕ) → count ≤ i → Filled (bytes_here count (drop c.at text)) (bytes_left text d.at (count - i)) c.end old now d.end
      → Field count (bytes_here count (drop c.at text)) c.end old now d.end
  unfolding bytes_left bytes_here
  here_all now d i h p =
      let z : count - i ≡ 0 = omega arith in
      let q = filled_all (rw z at p) in
      let l = here_length count (drop c.at text) in
      let f = q.end in
      record { written = q; ends = omega arith }
