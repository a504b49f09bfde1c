-- A line's words, written and read back: each word that is there is found, with its value and what follows it, and one that is not there is not.
use Prim.Native.Nat.{ℕ, suc, ◌+◌, ◌*◌, ◌^◌, ◌<◌}
use Prim.Native.String.{String}
use native.Mathlib.Omega.{arith}
use mathlib.Core.Path.{◌≡◌, refl, sym, ◌∙◌, ap}
use mathlib.Core.List.{List, [], ◌∷◌, ◌++◌, append_assoc}
use mathlib.Core.Bool.{Bool, true, false, not, ◌&&◌, ◌||◌, false≢true}
use lib.ListN.{length, get_or, drop, replicate, length-append}
use lib.Seq.{drop_at, drop-append_seam}
use lib.Dec.{eqb, leb}
use borrow.Author.Tests.{leb-true, lt-leb, eq-eqb, not-true}
use Rattle.rules.specs.Sizes.{hash_bytes}
use Rattle.std.specs.Prelude.{if◌then◌else◌}
use Rattle.rules.specs.Basics.{Bytes, Every, all, bit}
use Rattle.rules.specs.Layout.{between}
use Rattle.rules.specs.Day.{decimal}
use Rattle.rules.proofs.Laws.{and_left, and_right, and_both}
use Rattle.text_rules.specs.Words.{space, hex, Word, bare, with_number, with_hash, spaced, word_text, words_text, permission_words}
use Rattle.text_rules.specs.Decoding.{stands, has_word, after_word, unhex, hash_after, after_hash, number_up_to, number_after, after_number, names_from}
use Rattle.text_rules.specs.Listing.{Octet}
use Rattle.text_rules.proofs.Digits.{decimal_digits, decimal_value, hex_back, hex_length}
use Rattle.text_rules.proofs.Bits.{bits_from}

-- the rest of a line begins with a space or the newline
abbrev pub Begins : Bytes → Type 0
Begins t = leb (get_or t 0 0) space ≡ true

pub rest_begins : (ws : List Word) → Begins (words_text ws)
unfolding words_text word_text
rest_begins [] = refl
rest_begins (w ∷ ws) = pick w.given refl (rest_begins ws)
  where
    pick : (b : Bool) → w.given ≡ b → Begins (words_text ws) → Begins (words_text (w ∷ ws))
    pick true e i = rw e refl
    pick false e i = rw e i

-- a line's text by its first word
pub text_with : (w : Word) (ws : List Word) → w.given ≡ true → words_text (w ∷ ws) ≡ spaced w.name ++ (w.value ++ words_text ws)
unfolding words_text word_text
text_with w ws e = ap (λ (b : Bool). (if b then spaced w.name ++ w.value else []) ++ words_text ws) e ∙ append_assoc (spaced w.name) w.value (words_text ws)

pub text_without : (w : Word) (ws : List Word) → w.given ≡ false → words_text (w ∷ ws) ≡ words_text ws
unfolding words_text word_text
text_without w ws e = rw e

-- so with no digit
pub no_digit : (t : Bytes) → Begins t → between 48 57 (get_or t 0 0) ≡ false
no_digit t e = let l = leb-true (get_or t 0 0) space e in rw (lt-leb 48 (get_or t 0 0) (omega arith))

-- A word that is there stands there.
pub stands_here : (w t : Bytes) → Begins t → stands w (w ++ t) ≡ true
unfolding stands
stands_here [] t e = e
stands_here (x ∷ w) t e = and_both (eqb x x) (stands w (w ++ t)) (eq-eqb x x refl) (stands_here w t e)

-- two words that no text begins with both: they differ in a byte, or the one ends where the other goes on
abbrev pub apart : Bytes → Bytes → Bool
apart [] [] = false
apart [] (y ∷ ys) = not (leb y space)
apart (x ∷ xs) [] = false
apart (x ∷ xs) (y ∷ ys) = not (eqb x y) || apart xs ys

pub apart_not : (w v t : Bytes) → apart w v ≡ true → stands w (v ++ t) ≡ false
unfolding stands
apart_not [] [] t e = absurd (false≢true e)
apart_not [] (y ∷ ys) t e = not-true (leb y space) e
apart_not (x ∷ xs) [] t e = absurd (false≢true e)
apart_not (x ∷ xs) (y ∷ ys) t e = pick (eqb x y) refl (apart_not xs ys t)
  where
    pick : (b : Bool) → eqb x y ≡ b → (apart xs ys ≡ true → stands xs (ys ++ t) ≡ false) → stands (x ∷ xs) ((y ∷ ys) ++ t) ≡ false
    pick true d f = rw d (f (rw d at e))
    pick false d f = rw d

-- a name that none of these words begins like
abbrev pub clear : String → List Word → Bool
clear name ws = all (λ w. apart (spaced name) (spaced w.name)) ws

pub absent : (name : String) (ws : List Word) → clear name ws ≡ true → has_word name (words_text ws) ≡ false
unfolding words_text has_word stands all
absent name [] e = refl
absent name (w ∷ ws) e =
    pick w.given refl (absent name ws (and_right (apart (spaced name) (spaced w.name)) (clear name ws) e))
  where
    pick : (b : Bool) → w.given ≡ b → has_word name (words_text ws) ≡ false → has_word name (words_text (w ∷ ws)) ≡ false
    pick true d i =
        ap (stands (spaced name)) (text_with w ws d)
        ∙ apart_not (spaced name) (spaced w.name) (w.value ++ words_text ws) (and_left (apart (spaced name) (spaced w.name)) (clear name ws) e)
    pick false d i = ap (stands (spaced name)) (text_without w ws d) ∙ i

-- The first of a line's words, when no other begins like it.
module _ (name : String) (ws : List Word) (e : clear name ws ≡ true) where
  has_first : (b : Bool) (value : Bytes) → Begins (value ++ words_text ws) → has_word name (words_text (record { given = b; name = name; value = value } ∷ ws)) ≡ b
  unfolding has_word
  has_first true value h =
      ap (stands (spaced name)) (text_with (record { given = true; name = name; value = value }) ws refl) ∙ stands_here (spaced name) (value ++ words_text ws) h
  has_first false value h = ap (has_word name) (text_without (record { given = false; name = name; value = value }) ws refl) ∙ absent name ws e

  pub has_bare : (b : Bool) → has_word name (words_text (bare b name ∷ ws)) ≡ b
  has_bare b = has_first b [] (rest_begins ws)

  pub has_numbered : (b : Bool) (n : ℕ) → has_word name (words_text (with_number b name n ∷ ws)) ≡ b
  has_numbered b n = has_first b (space ∷ decimal n) refl

  pub has_hashed : (b : Bool) (h : Bytes) → has_word name (words_text (with_hash b name h ∷ ws)) ≡ b
  has_hashed b h = has_first b (space ∷ hex h) refl

  -- what follows it
  pub after_bare : (b : Bool) → after_word name (words_text (bare b name ∷ ws)) ≡ words_text ws
  unfolding words_text word_text after_word
  after_bare true =
      rw (has_bare true)
      (ap (drop (length (spaced name))) (text_with (bare true name) ws refl) ∙ drop-append_seam (spaced name) (words_text ws))
  after_bare false = rw (has_bare false)

  -- its value, and what follows it
  value_at : (v : Bytes) → drop (length (spaced name) + 1) ((spaced name ++ (space ∷ v)) ++ words_text ws) ≡ v ++ words_text ws
  value_at v =
      ap (drop (length (spaced name) + 1)) (ap (λ (x : Bytes). x ++ words_text ws) (sym (append_assoc (spaced name) (space ∷ []) v)) ∙ append_assoc (spaced name ++ (space ∷ [])) v (words_text ws))
      ∙ drop_at (spaced name ++ (space ∷ [])) (v ++ words_text ws) (length (spaced name) + 1) (length-append (spaced name) (space ∷ []))

  value_past : (v : Bytes) (n : ℕ) → length v ≡ n → drop (length (spaced name) + 1 + n) ((spaced name ++ (space ∷ v)) ++ words_text ws) ≡ words_text ws
  value_past v n l =
      let a = length-append (spaced name) (space ∷ v) in
      drop_at (spaced name ++ (space ∷ v)) (words_text ws) (length (spaced name) + 1 + n) (omega arith)

  pub hash_first : (b : Bool) (h : Bytes) → length h ≡ hash_bytes → Every Octet h → (b ≡ false → h ≡ replicate hash_bytes 0) → hash_after name (words_text (with_hash b name h ∷ ws)) ≡ h
  unfolding words_text word_text hash_after
  hash_first true h l o z =
      rw (has_hashed true h, value_at (hex h)) (ap (λ (n : ℕ). unhex n (hex h ++ words_text ws)) (sym l) ∙ hex_back h (words_text ws) o)
  hash_first false h l o z = rw (has_hashed false h) (sym (z refl))

  pub after_hash_lem : (b : Bool) (h : Bytes) → length h ≡ hash_bytes → after_hash name (words_text (with_hash b name h ∷ ws)) ≡ words_text ws
  unfolding words_text word_text after_hash
  after_hash_lem true h l = let x = hex_length h in rw (has_hashed true h) (value_past (hex h) (2 * hash_bytes) (omega arith))
  after_hash_lem false h l = rw (has_hashed false h)

  pub number_within : (p : ℕ) (b : Bool) (n : ℕ) → n < 10 ^ suc p → n < 10 ^ 20 → (b ≡ false → n ≡ 0) → number_up_to (suc p) name (words_text (with_number b name n ∷ ws)) ≡ n
  unfolding words_text word_text
  number_within p true n l m z =
      rw (has_numbered true n, value_at (decimal n), decimal_digits p n (words_text ws) l (no_digit (words_text ws) (rest_begins ws))) (decimal_value n m)
  number_within p false n l m z = rw (has_numbered false n) (sym (z refl))

  pub number_first : (b : Bool) (n : ℕ) → n < 10 ^ 10 → (b ≡ false → n ≡ 0) → number_after name (words_text (with_number b name n ∷ ws)) ≡ n
  unfolding number_after
  number_first b n l z = number_within 9 b n l (omega arith) z

  pub after_number_lem : (b : Bool) (n : ℕ) → n < 10 ^ 10 → after_number name (words_text (with_number b name n ∷ ws)) ≡ words_text ws
  unfolding words_text word_text after_number
  after_number_lem true n l =
      rw (has_numbered true n, value_at (decimal n), decimal_digits 9 n (words_text ws) l (no_digit (words_text ws) (rest_begins ws)))
      (value_past (decimal n) (length (decimal n)) refl)
  after_number_lem false n l = rw (has_numbered false n)

-- The names of permissions: each apart from those after it.
abbrev pub names_apart : List String → Bool
names_apart [] = true
names_apart (name ∷ names) = all (λ n. apart (spaced name) (spaced n)) names && names_apart names

clear_names : (name : String) (b : ℕ) (names : List String) (n : ℕ) → all (λ x. apart (spaced name) (spaced x)) names ≡ true → clear name (permission_words b names n) ≡ true
unfolding all permission_words
clear_names name b [] n e = refl
clear_names name b (x ∷ xs) n e =
    and_both (apart (spaced name) (spaced x)) (clear name (permission_words (b + 1) xs n))
    (and_left (apart (spaced name) (spaced x)) (all (λ x. apart (spaced name) (spaced x)) xs) e)
    (clear_names name (b + 1) xs n (and_right (apart (spaced name) (spaced x)) (all (λ x. apart (spaced name) (spaced x)) xs) e))

pub names_back : (b : ℕ) (names : List String) (n : ℕ) → names_apart names ≡ true → names_from names (words_text (permission_words b names n)) ≡ bits_from b (length names) n
unfolding names_from permission_words
names_back b [] n e = refl
names_back b (name ∷ names) n e =
    let later = permission_words (b + 1) names n in
    let c = clear_names name (b + 1) names n (and_left (all (λ x. apart (spaced name) (spaced x)) names) (names_apart names) e) in
    rw (has_bare name later c (bit b n), after_bare name later c (bit b n), names_back (b + 1) names n (and_right (all (λ x. apart (spaced name) (spaced x)) names) (names_apart names) e))
