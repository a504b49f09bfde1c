-- Names out of a list, values that no name stands before, and times, written and read back.
use Prim.Native.Nat.{ℕ, zero, suc, ◌+◌, ◌*◌, ◌/◌, ◌%◌, ◌^◌, ◌<◌}
use Prim.Native.String.{String}
use native.Mathlib.Omega.{arith}
use mathlib.Core.Path.{◌≡◌, refl, sym, ◌∙◌, ap}
use mathlib.Core.List.{List, [], ◌∷◌, ◌++◌, append_assoc}
use mathlib.Core.Bool.{true, false≢true}
use lib.ListN.{length, drop}
use lib.Seq.{drop_at, drop-append_seam}
use Rattle.rules.specs.Sizes.{hash_bytes}
use Rattle.rules.specs.Basics.{Bytes, Every, all, ascii}
use Rattle.rules.specs.Day.{decimal}
use Rattle.rules.proofs.Laws.{and_left, and_right}
use Rattle.text_rules.specs.Words.{space, hex, Word, bare, with_number, spaced, words_text}
use Rattle.text_rules.specs.Decoding.{has_word, after_word, unhex, decimal_from, bytes_of}
use Rattle.text_rules.specs.OtherWords.{alone, name_at, numbers_text, with_numbers}
use Rattle.text_rules.specs.OtherDecoding.{place_of, after_name, hash_here, past_here, bytes_here, time_after}
use Rattle.text_rules.specs.Listing.{Octet}
use Rattle.text_rules.proofs.Digits.{decimal_digits, decimal_value, hex_back, hex_length}
use Rattle.text_rules.proofs.Words.{Begins, rest_begins, text_with, no_digit, stands_here, apart, apart_not, names_apart, number_within}

-- a name that is apart from all of a list is apart from the one at a place
apart_at : (name : String) (names : List String) (n : ℕ) → all (λ x. apart (spaced name) (spaced x)) names ≡ true → n < length names → apart (spaced name) (spaced (name_at n names)) ≡ true
unfolding all
apart_at name [] n e l = absurd (omega arith)
apart_at name (x ∷ xs) zero e l = and_left (apart (spaced name) (spaced x)) (all (λ y. apart (spaced name) (spaced y)) xs) e
apart_at name (x ∷ xs) (suc n) e l =
    apart_at name xs n (and_right (apart (spaced name) (spaced x)) (all (λ y. apart (spaced name) (spaced y)) xs) e) (omega arith)

-- A name out of a list is found, with its place and what follows it.
named : (names : List String) (n : ℕ) (t : Bytes) → names_apart names ≡ true → n < length names → Begins t → (place_of names (spaced (name_at n names) ++ t) ≡ n) × (after_name names (spaced (name_at n names) ++ t) ≡ t)
unfolding place_of after_name has_word
named [] n t e l b = absurd (omega arith)
named (x ∷ xs) zero t e l b =
    let s = stands_here (spaced x) t b in
    (rw s, rw s (drop-append_seam (spaced x) t))
named (x ∷ xs) (suc n) t e l b =
    let a = apart_at x xs n (and_left (all (λ y. apart (spaced x) (spaced y)) xs) (names_apart xs) e) (omega arith) in
    let s = apart_not (spaced x) (spaced (name_at n xs)) t a in
    let i = named xs n t (and_right (all (λ y. apart (spaced x) (spaced y)) xs) (names_apart xs) e) (omega arith) b in
    (rw s (ap suc i.0), rw s i.1)

module _ (names : List String) (n : ℕ) (ws : List Word) (e : names_apart names ≡ true) (l : n < length names) where
  pub name_first : place_of names (words_text (bare true (name_at n names) ∷ ws)) ≡ n
  name_first = ap (place_of names) (text_with (bare true (name_at n names)) ws refl) ∙ (named names n (words_text ws) e l (rest_begins ws)).0

  pub after_name_lem : after_name names (words_text (bare true (name_at n names) ∷ ws)) ≡ words_text ws
  after_name_lem = ap (after_name names) (text_with (bare true (name_at n names)) ws refl) ∙ (named names n (words_text ws) e l (rest_begins ws)).1

-- a value alone
alone_text : (v : Bytes) (ws : List Word) → words_text (alone v ∷ ws) ≡ space ∷ (v ++ words_text ws)
unfolding ascii
alone_text v ws = text_with (alone v) ws refl

-- the same for a hash
module _ (h : Bytes) (ws : List Word) (l : length h ≡ hash_bytes) where
  pub hash_alone : Every Octet h → hash_here (words_text (alone (hex h) ∷ ws)) ≡ h
  unfolding hash_here
  hash_alone o =
      ap (λ (t : Bytes). unhex hash_bytes (drop 1 t)) (alone_text (hex h) ws)
      ∙ ap (λ (n : ℕ). unhex n (hex h ++ words_text ws)) (sym l)
      ∙ hex_back h (words_text ws) o

  pub past_alone : past_here (words_text (alone (hex h) ∷ ws)) ≡ words_text ws
  unfolding past_here
  past_alone =
      let x = hex_length h in
      ap (drop (1 + 2 * hash_bytes)) (alone_text (hex h) ws) ∙ drop_at (space ∷ hex h) (words_text ws) (1 + 2 * hash_bytes) (omega arith)

-- Several numbers of one byte, before something that is no digit.
numbers_begin : (ns t : Bytes) → Begins t → Begins (numbers_text ns ++ t)
unfolding numbers_text
numbers_begin [] t b = b
numbers_begin (n ∷ ns) t b = refl

one_byte : (n : ℕ) → Octet n → bytes_of 1 (decimal_from 0 (decimal n)) ≡ n ∷ []
unfolding bytes_of
one_byte n o = let e : n / 256 ^ 0 % 256 ≡ n = omega arith in rw (decimal_value n (omega arith), e)

pub bytes_back : (ns t : Bytes) → Every Octet ns → Begins t → bytes_here (length ns) (numbers_text ns ++ t) ≡ ns
unfolding bytes_here numbers_text
bytes_back [] t h b = refl
bytes_back (n ∷ ns) t h b =
    let rest = numbers_text ns ++ t in
    let o = h.0 in
    let a : (decimal n ++ numbers_text ns) ++ t ≡ decimal n ++ rest = append_assoc (decimal n) (numbers_text ns) t in
    let d = decimal_digits 9 n rest (omega arith) (no_digit rest (numbers_begin ns t b)) in
    let p = drop_at (space ∷ decimal n) rest (1 + length (decimal n)) (omega arith) in
    rw (a, d, one_byte n o, p, bytes_back ns t h.1 b)

-- the same after a word
pub after_numbers : (name : String) (ns : Bytes) (ws : List Word) → after_word name (words_text (with_numbers true name ns ∷ ws)) ≡ numbers_text ns ++ words_text ws
unfolding after_word has_word
after_numbers name ns ws =
    let t = numbers_text ns ++ words_text ws in
    rw (text_with (with_numbers true name ns) ws refl, stands_here (spaced name) t (numbers_begin ns (words_text ws) (rest_begins ws))) (drop-append_seam (spaced name) t)

-- A time, the last word of a request.
pub time_first : (n : ℕ) → n < 256 ^ 8 → time_after (words_text (with_number true "time" n ∷ [])) ≡ n
unfolding time_after all
time_first n l = number_within "time" [] refl 19 true n (omega arith) (omega arith) (λ q. absurd (false≢true (sym q)))
