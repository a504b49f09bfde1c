-- Bytes put into a buffer: none, one, one text after the other, a whole piece by piece; the steps of a number's digits and of a hash's.
use Prim.Native.Nat.{ℕ, ◌+◌, ◌-◌, ◌*◌, ◌/◌, ◌%◌, ◌^◌, ◌≤◌, ◌<◌}
use native.Mathlib.Omega.{arith}
use native.Mathlib.Numerals.{add-one}
use native.Mathlib.Nat.{add-sub_cancel_left}
use mathlib.Core.Path.{◌≡◌, refl, sym, ◌∙◌, ap}
use mathlib.Core.List.{List, [], ◌∷◌, ◌++◌, append_assoc, append-nil}
use lib.ListN.{length, take, drop, get_or, length-append, length-drop, take-append-drop, drop_of_length-le}
use lib.Seq.{length-take-le, take_at, drop_at, drop-drop, drop-cons}
use borrow.Rule.Slice.PartMut.{put_mid, same_len_mid}
use Rattle.rules.specs.Basics.{Bytes}
use borrow.Author.Tests.{lt-ltb, le-ltb}
use Rattle.rules.specs.Day.{decimal}
use Rattle.text_rules.specs.Words.{hex_digit, hex}
use Rattle.text_rules.proofs.Digits.{decimal_one, decimal_more}
use Rattle.text_bytes.specs.Putting.{put, Put}

-- nothing put
pub put_none : (old : Bytes) (at : ℕ) → at ≤ length old → Put [] at old old at
unfolding put
put_none old at h =
    let e : at + 0 ≡ at = omega arith in
    record {
      bytes = sym (rw (e, append-nil) (take-append-drop at old));
      end = omega arith;
      same_length = refl;
      inside = h;
    }

-- a text copied into its place
pub put_copied : (t u old : Bytes) (at : ℕ) → at + length t ≤ length old → u ≡ t → Put t at old (put_mid at (at + length t - at) old u) (at + length t)
unfolding put
put_copied t u old at h e =
    let same : length (put_mid at (at + length t - at) old u) ≡ length old =
    same_len_mid at (at + length t - at) old u (rw (add-sub_cancel_left at (length t), e) (sym (length-take-le (length t) (drop at old) (omega (arith, length-drop at old))))) in
    record {
      bytes = rw (add-sub_cancel_left at (length t), e) (ap (λ (x : Bytes). take at old ++ (t ++ x)) (drop-drop (length t) at old) ∙ sym (append_assoc (take at old) t (drop (at + length t) old)));
      end = refl;
      same_length = same;
      inside = rw same h;
    }

-- one text after the other
put_more : (old t u : Bytes) (at : ℕ) → at + length t + length u ≤ length old → put u (at + length t) (put t at old) ≡ put (t ++ u) at old
unfolding put
put_more old t u at h =
    let p : Bytes = take at old ++ t in
    let n : ℕ = at + length t in
    let k : length (take at old) ≡ at = length-take-le at old (omega arith) in
    let l : length p ≡ n = length-append (take at old) t ∙ ap (λ (j : ℕ). j + length t) k in
    let a : take n (p ++ drop n old) ≡ p = take_at p (drop n old) n l in
    let b : drop (n + length u) (p ++ drop n old) ≡ drop (n + length u) old =
    sym (drop-drop (length u) n (p ++ drop n old)) ∙ ap (drop (length u)) (drop_at p (drop n old) n l) ∙ drop-drop (length u) n old in
    let m : n + length u ≡ at + length (t ++ u) = omega (arith, length-append t u) in
    ap (λ (x : Bytes). x ++ u ++ drop (n + length u) (p ++ drop n old)) a
    ∙ ap (λ (x : Bytes). p ++ u ++ x) b
    ∙ ap (λ (x : Bytes). x ++ drop (n + length u) old) (append_assoc (take at old) t u)
    ∙ ap (λ (j : ℕ). take at old ++ (t ++ u) ++ drop j old) m

pub put_then : (t u old mid new : Bytes) (at r s : ℕ) → Put t at old mid r → Put u r mid new s → s ≤ length old → Put (t ++ u) at old new s
put_then t u old mid new at r s p q h =
    let e = p.end in
    let f = q.end in
    let g = q.same_length ∙ p.same_length in
    let n : at + length t + length u ≤ length old = omega arith in
    record {
      bytes = q.bytes ∙ ap (put u r) p.bytes ∙ ap (λ (j : ℕ). put u j (put t at old)) e ∙ put_more old t u at n;
      end = omega (arith, length-append t u);
      same_length = g;
      inside = q.inside;
    }

-- what a line's function says of its calls
pub put_on : {t u old mid new : Bytes} {at r s : ℕ} → Put t at old mid r → Put u r mid new s → Put (t ++ u) at old new s
put_on {t} {u} {old} {mid} {new} {at} {r} {s} p q =
    let e = p.same_length in
    let f = q.same_length in
    let g = q.inside in
    put_then t u old mid new at r s p q (omega arith)

-- a text by another name
pub put_as : {t u old new : Bytes} {at r : ℕ} → t ≡ u → Put t at old new r → Put u at old new r
put_as e p = rw e at p

-- a buffer that begins with the text
pub put_front : {t old new : Bytes} {r : ℕ} → Put t 0 old new r → take r new ≡ t
unfolding put
put_front {t} {old} {new} {r} p =
    let e = p.end in
    ap (take r) p.bytes ∙ take_at t (drop (0 + length t) old) r (omega arith)

-- A whole is being put from a place on: what is done is put, and `rest` is left.
pub record Filled (whole rest : Bytes) (at : ℕ) (old now : Bytes) (end : ℕ) : Type 0 where
  pub done : Bytes
  pub sofar : Put done at old now end
  pub split : whole ≡ done ++ rest

pub filled_none : (whole old : Bytes) (at : ℕ) → at ≤ length old → Filled whole whole at old old at
filled_none whole old at h = record { done = []; sofar = put_none old at h; split = refl }

-- a piece of a text
module _ (more rest : Bytes) {whole old now : Bytes} {at end : ℕ} (p : Filled whole (more ++ rest) at old now end) where
  pub filled_room : at + length whole ≤ length old → end + length more ≤ length now
  filled_room h =
      let l = ap length p.split ∙ length-append p.done (more ++ rest) in
      let m = length-append more rest in
      let e = p.sofar.end in
      let s = p.sofar.same_length in
      omega arith

  pub filled_piece : {new : Bytes} {r : ℕ} → Put more end now new r → Filled whole rest at old new r
  filled_piece q = record { done = p.done ++ more; sofar = put_on p.sofar q; split = p.split ∙ sym (append_assoc p.done more rest) }

-- all of a text
pub filled_all : {whole old now : Bytes} {at end : ℕ} → Filled whole [] at old now end → Put whole at old now end
filled_all p = put_as (sym (append-nil p.done) ∙ sym p.split) p.sofar

-- what is left of a text, shut, so that a search reads the text and the place off it
unfoldable pub left : Bytes → ℕ → Bytes
left t i = drop i t

pub left_next : (t : Bytes) (i : ℕ) → i < length t → left t i ≡ get_or t i 0 ∷ left t (i + 1)
unfolding left
left_next t i h = rw (add-one, drop-cons t i 0)

pub left_none : (t : Bytes) (i : ℕ) → length t ≤ i → left t i ≡ []
unfolding left
left_none t i h = drop_of_length-le t h

-- A text in pieces (names, or lines), by the size of its first one.
-- a piece, and those after it
pub piece_ends : (pieces : Bytes → List Bytes) (size : Bytes → ℕ) (t : Bytes) (at end : ℕ)
    → pieces (left t at) ≡ take (size (left t at)) (left t at) ∷ pieces (drop (size (left t at)) (left t at)) → end ≡ at + size (left t at)
    → pieces (drop at t) ≡ take (end - at) (drop at t) ∷ pieces (drop end t)
unfolding left
piece_ends pieces size t at end next e =
    let n : size (drop at t) ≡ end - at = omega arith in
    let m : at + (end - at) ≡ end = omega arith in
    next ∙ ap (λ (k : ℕ). take k (drop at t) ∷ pieces (drop k (drop at t))) n
    ∙ ap (λ (x : Bytes). take (end - at) (drop at t) ∷ pieces x) (drop-drop (end - at) at t ∙ ap (λ (k : ℕ). drop k t) m)

-- a hash, two digits for each byte
unfoldable pub hex_left : Bytes → ℕ → Bytes
hex_left hash i = hex (left hash i)

module _ (hash old : Bytes) (at : ℕ) where
  pub hash_none : at + 2 * length hash ≤ length old → Filled (hex hash) (hex_left hash 0) at old old at
  unfolding hex_left left
  hash_none h = filled_none (hex hash) old at (omega arith)

  pub hash_byte : (mid now : Bytes) (i end last b : ℕ) → i < length hash → b ≡ get_or hash i 0 → Put (hex (b ∷ [])) end mid now last
      → Filled (hex hash) (hex_left hash i) at old mid end → Filled (hex hash) (hex_left hash (i + 1)) at old now last
  unfolding hex_left hex
  hash_byte mid now i end last b h e q p = filled_piece (hex (b ∷ [])) (hex_left hash (i + 1)) (rw (left_next hash i h, ← e) at p) q

  pub hash_all : (now : Bytes) (i end : ℕ) → length hash ≤ i → Filled (hex hash) (hex_left hash i) at old now end → Put (hex hash) at old now end
  unfolding hex_left hex
  hash_all now i end h p = filled_all (rw (left_none hash i h) at p)

-- two digits take two bytes, and leave the buffer's length
pub byte_end : (b i at end : ℕ) (old now : Bytes) (r : ℕ) → end ≡ at + 2 * i → Put (hex (b ∷ [])) end old now r → r ≡ at + 2 * (i + 1)
unfolding hex
byte_end b i at end old now r e p = let f = p.end in omega arith

pub put_kept : (t : Bytes) (at : ℕ) (old mid now : Bytes) (r : ℕ) → length mid ≡ length old → Put t at mid now r → length now ≡ length old
put_kept t at old mid now r e p = p.same_length ∙ e

pub byte_digits : (b x y : ℕ) (at : ℕ) (old now : Bytes) (r : ℕ) → x ≡ hex_digit (b / 16) → y ≡ hex_digit (b % 16) → Put (x ∷ y ∷ []) at old now r → Put (hex (b ∷ [])) at old now r
unfolding hex
byte_digits b x y at old now r ex ey p = rw (← ex, ← ey) p

pub digit_low : (d r : ℕ) → d < 10 → r ≡ 48 + d → r ≡ hex_digit d
unfolding hex_digit
digit_low d r h e = rw (lt-ltb d 10 h) e

pub digit_high : (d r : ℕ) → 10 ≤ d → r ≡ 87 + d → r ≡ hex_digit d
unfolding hex_digit
digit_high d r h e = rw (le-ltb d 10 h) e

-- A decimal number: one digit, or those of its tenth and one more.
pub decimal_room : (n : ℕ) → 10 ≤ n → n < 10 ^ 20 → length (decimal n) ≡ length (decimal (n / 10)) + 1
decimal_room n l h = ap length (decimal_more n l h) ∙ length-append (decimal (n / 10)) ((48 + n % 10) ∷ [])

pub one_inside : (n at m : ℕ) → n < 10 → at + length (decimal n) ≤ m → at + 1 ≤ m
one_inside n at m h l = let k : length (decimal n) ≡ 1 = ap length (decimal_one n h) in omega arith

pub put_one : (n : ℕ) (old now : Bytes) (at r : ℕ) → n < 10 → Put ((48 + n % 10) ∷ []) at old now r → Put (decimal n) at old now r
put_one n old now at r h p = rw (decimal_one n h) p

pub tenth_inside : (n at m : ℕ) → 10 ≤ n → n < 2 ^ 64 → at + length (decimal n) ≤ m → at + length (decimal (n / 10)) ≤ m
tenth_inside n at m h k l = let d = decimal_room n h (omega arith) in omega arith

pub ten_inside : (n at : ℕ) (old mid : Bytes) (end : ℕ) → 10 ≤ n → n < 2 ^ 64 → at + length (decimal n) ≤ length old → Put (decimal (n / 10)) at old mid end → end + 1 ≤ length mid
ten_inside n at old mid end h k l p =
    let d = decimal_room n h (omega arith) in
    let e = p.end in
    let s = p.same_length in
    omega arith

pub put_ten : (n : ℕ) (old mid now : Bytes) (at end r : ℕ) → 10 ≤ n → n < 2 ^ 64 → at + length (decimal n) ≤ length old → Put (decimal (n / 10)) at old mid end → Put ((48 + n % 10) ∷ []) end mid now r → Put (decimal n) at old now r
put_ten n old mid now at end r h k l p q =
    let d = decimal_room n h (omega arith) in
    let f = p.end in
    let g = q.end in
    rw (decimal_more n h (omega arith)) (put_then (decimal (n / 10)) ((48 + n % 10) ∷ []) old mid now at end r p q (omega arith))
