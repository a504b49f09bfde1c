-- A word and its value, where they are there: the room they take, and what was put. Names by their bits.
use Prim.Native.Nat.{ℕ, ◌+◌, ◌-◌, ◌*◌, ◌/◌, ◌%◌, ◌^◌, ◌≤◌, ◌<◌}
use native.Mathlib.Omega.{arith}
use native.Mathlib.Nat.{add-zero}
use mathlib.Core.Path.{◌≡◌, refl, sym, ◌∙◌, ap}
use mathlib.Core.Logic.{◌⊎◌, inl, inr}
use mathlib.Core.List.{List, [], ◌∷◌, ◌++◌, append-nil}
use mathlib.Core.Bool.{Bool, true, false}
use lib.ListN.{length, take, drop, get_or, length-drop, drop_of_length-le}
use lib.Seq.{drop-drop, get_or-drop}
use lib.Dec.{eqb}
use Rattle.rules.specs.Sizes.{hash_bytes}
use Rattle.rules.specs.Basics.{Bytes}
use Rattle.rules.specs.Day.{decimal}
use Rattle.text_rules.specs.Words.{hex}
use Rattle.text_rules.proofs.Digits.{below_or_not, decimal_length, hex_length}
use Rattle.text_bytes.specs.Putting.{Put, Held, text_if}
use Rattle.text_bytes.specs.Names.{words_of, NameEnds, name_at, names_text}
use Rattle.text_bytes.proofs.Laws.{put_none, put_on, put_as, Filled, filled_none, filled_piece, filled_all}

-- nothing, where the word is not there
pub held_not : (given : Bool) (word value : Bytes) (most at : ℕ) (old : Bytes) → given ≡ false → at + most ≤ length old → Held most (text_if given word value) at old old at
unfolding text_if
held_not given word value most at old e h = rw e record { written = put_none old at (omega arith); bound = omega arith }

-- the word alone
pub held_word : (given : Bool) (word : Bytes) (at : ℕ) (old new : Bytes) (r : ℕ) → given ≡ true → Put word at old new r → Held (length word) (text_if given word []) at old new r
unfolding text_if
held_word given word at old new r e p =
    let f = p.end in
    rw (e, append-nil) record { written = p; bound = omega arith }

-- the word and its value
held_both : (word value : Bytes) (k at : ℕ) (old mid new : Bytes) (end r : ℕ) → length value ≤ k → Put word at old mid end → Put value end mid new r → Held (length word + k) (word ++ value) at old new r
held_both word value k at old mid new end r l p q =
    let f = p.end in
    let g = q.end in
    record { written = put_on p q; bound = omega arith }

pub held_given : (given : Bool) (word value : Bytes) (most at : ℕ) (old new : Bytes) (r : ℕ) → given ≡ true → Held most (word ++ value) at old new r → Held most (text_if given word value) at old new r
unfolding text_if
held_given given word value most at old new r e p = rw e p

-- a number takes at most ten bytes
ten_digits : (n : ℕ) → n < 2 ^ 32 → length (decimal n) ≤ 10
ten_digits n h = decimal_length 9 n (omega arith)

pub number_inside : (word : Bytes) (n at : ℕ) (old mid : Bytes) (end : ℕ) → n < 2 ^ 32 → at + (length word + 10) ≤ length old → Put word at old mid end → end + length (decimal n) ≤ length mid
number_inside word n at old mid end b h p =
    let d = ten_digits n b in
    let e = p.end in
    let s = p.same_length in
    omega arith

pub held_number : (word : Bytes) (n at : ℕ) (old mid new : Bytes) (end r : ℕ) → n < 2 ^ 32 → Put word at old mid end → Put (decimal n) end mid new r → Held (length word + 10) (word ++ decimal n) at old new r
held_number word n at old mid new end r b p q = held_both word (decimal n) 10 at old mid new end r (ten_digits n b) p q

-- a hash forty
module _ (word hash : Bytes) (at : ℕ) (old mid : Bytes) (end : ℕ) (h : length hash ≡ hash_bytes) (p : Put word at old mid end) where
  pub hash_inside : at + (length word + 40) ≤ length old → end + 2 * length hash ≤ length mid
  hash_inside k =
      let e = p.end in
      let s = p.same_length in
      omega arith

  pub held_hash : (new : Bytes) (r : ℕ) → Put (hex hash) end mid new r → Held (length word + 40) (word ++ hex hash) at old new r
  held_hash new r q =
      let l = hex_length hash in
      held_both word (hex hash) 40 at old mid new end r (omega arith) p q

-- Names by their bits: those from a place of the row on.
unfoldable pub names_left : Bytes → ℕ → ℕ → Bytes
names_left names i n = names_text (words_of (drop i names)) n

module _ (names old : Bytes) (n at : ℕ) where
  pub names_none : at + length names ≤ length old → Filled (names_text (words_of names) n) (names_left names 0 n) at old old at
  unfolding names_left
  names_none h = filled_none (names_text (words_of names) n) old at (omega arith)

  pub names_word : (mid now : Bytes) (i next m end last most : ℕ) → NameEnds names i next
      → Held most (text_if (eqb (m % 2) 1) (take (next - i) (drop i names)) []) end mid now last
      → Filled (names_text (words_of names) n) (names_left names i m) at old mid end → Filled (names_text (words_of names) n) (names_left names next (m / 2)) at old now last
  unfolding names_left names_text
  names_word mid now i next m end last most e q p =
      filled_piece (text_if (eqb (m % 2) 1) (take (next - i) (drop i names)) []) (names_left names next (m / 2)) (rw e.words at p) q.written

  pub names_all : (now : Bytes) (i m end : ℕ) → length names ≤ i → end ≤ at + i → i ≤ length names → Filled (names_text (words_of names) n) (names_left names i m) at old now end
      → Held (length names) (names_text (words_of names) n) at old now end
  unfolding names_left names_text words_of
  names_all now i m end h k l p = record { written = filled_all (rw (drop_of_length-le names {i = i} h) at p); bound = omega arith }

words_none : length (words_of []) ≡ 0
unfolding words_of
words_none = refl

-- A name by its place: k names are passed.
pub record Skipped (names : Bytes) (k from : ℕ) : Type 0 where
  pub rest : words_of (drop from names) ≡ drop k (words_of names)

pub skipped_none : (names : Bytes) → Skipped names 0 0
skipped_none names = record { rest = refl }

module _ (names : Bytes) (i k from : ℕ) (h : i < length (words_of names)) (p : Skipped names k from) where
  pub skipped_inside : k ≤ i → from < length names
  skipped_inside l = pick (below_or_not from (length names))
    where
      pick : (from < length names) ⊎ (length names ≤ from) → from < length names
      pick (inl y) = y
      pick (inr n) = absurd (none_left n)
        where
          none_left : length names ≤ from → ⊥
          none_left y =
              let e : length (words_of (drop from names)) ≡ 0 = rw (drop_of_length-le names {i = from} y) words_none in
              let d = ap length p.rest in
              let c = length-drop k (words_of names) in
              omega arith

  pub skipped_next : (next : ℕ) → NameEnds names from next → k < i → Skipped names (k + 1) next
  skipped_next next e l =
      let d : drop k (words_of names) ≡ take (next - from) (drop from names) ∷ words_of (drop next names) = sym p.rest ∙ e.words in
      record { rest = sym (sym (drop-drop 1 k (words_of names)) ∙ ap (drop 1) d) }

  pub skipped_name : (end : ℕ) → NameEnds names from end → i ≤ k → k ≤ i → take (end - from) (drop from names) ≡ name_at names i
  unfolding name_at
  skipped_name end e l m =
      let n : k ≡ i = omega arith in
      let d : drop k (words_of names) ≡ take (end - from) (drop from names) ∷ words_of (drop end names) = sym p.rest ∙ e.words in
      sym (ap (λ (x : ℕ). get_or (words_of names) x []) (sym n ∙ sym (add-zero k)) ∙ sym (get_or-drop k (words_of names) 0 []) ∙ ap (λ (ws : List Bytes). get_or ws 0 []) d)

  pub skipped_room : (end at m : ℕ) → NameEnds names from end → i ≤ k → k ≤ i → at + length (name_at names i) ≤ m → at + length (take (end - from) (drop from names)) ≤ m
  skipped_room end at m e l n r = rw (skipped_name end e l n) r

  pub skipped_put : (end at : ℕ) (old new : Bytes) (r : ℕ) → NameEnds names from end → i ≤ k → k ≤ i → Put (take (end - from) (drop from names)) at old new r → Put (name_at names i) at old new r
  skipped_put end at old new r e l m q = put_as (skipped_name end e l m) q
