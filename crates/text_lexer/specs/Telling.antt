-- What stands in a text, by places and bytes. With the bytes of a name after a space these are the definitions of the crate listings.
use Rattle.std.specs.Prelude.{◌≡◌, ℕ, suc, ◌+◌, ◌*◌, ◌%◌, ◌^◌, ◌<◌, ◌≤◌, Bool, List, [], ◌∷◌, length, take, drop, replicate, eqb, slice_range, if◌then◌else◌}
use Rattle.std.specs.List.{list_any}
use Rattle.rules.specs.Sizes.{hash_bytes}
use Rattle.rules.specs.Basics.{Bytes}
use Rattle.text_rules.specs.Decoding.{stands, unhex, digits_max, digits_of, decimal_from}
use Rattle.text_rules.specs.Words.{newline}
use Rattle.text_rules.specs.Listing.{lines_of, line_length}

-- a newline among these bytes
abbrev pub has_newline : Bytes → Bool
has_newline t = list_any (λ c. eqb c newline) t

-- from an offset to another no byte is 10: the line goes on there
pub record Skipped (text : Bytes) (at i : ℕ) : Type 0 where
  pub past : at ≤ i
  pub inside : i ≤ length text
  pub rest : i + line_length (drop i text) ≡ at + line_length (drop at text)

-- the line that begins at a place ends at another
pub record LineEnds (text : Bytes) (at end : ℕ) : Type 0 where
  pub past : at < end
  pub inside : end ≤ length text
  pub first : end ≡ at + line_length (drop at text)
  pub lines : lines_of (drop at text) ≡ slice_range text at end ∷ lines_of (drop end text)

-- the line that begins at an offset ends at another, as far as its first bytes show
pub record LineWithin (most : ℕ) (text : Bytes) (at end : ℕ) : Type 0 where
  pub past : at < end
  pub inside : end ≤ length text
  pub first : end ≡ at + line_length (take most (drop at text))

-- the number that a text begins with, at most so many digits of it: its value modulo 2^64, and how many digits it has
pub record NumberAt (most : ℕ) (t : Bytes) (value digits : ℕ) : Type 0 where
  pub value_is : value ≡ decimal_from 0 (digits_of (take most t)) % 2 ^ 64
  pub digits_are : digits ≡ length (digits_of (take most t))
  pub few : digits ≤ most

-- what follows a word, where it stands
unfoldable pub past_word : Bytes → Bytes → Bytes
past_word w t = if stands w t then drop (length w) t else t

-- a word and its hash
unfoldable pub past_hash : Bytes → Bytes → Bytes
past_hash w t = if stands w t then drop (length w + 1 + 2 * hash_bytes) t else t

-- a word and its number of at most so many digits
abbrev pub past_digits : ℕ → Bytes → Bytes → Bytes
past_digits most w t = if stands w t then drop (length w + 1 + length (digits_of (take most (drop (length w + 1) t)))) t else t

-- the rest of a text after a word and its number of at most ten digits
unfoldable pub past_number : Bytes → Bytes → Bytes
past_number w t = past_digits digits_max w t

-- the hash that a word tells, or zeros
unfoldable pub hash_in : Bytes → Bytes → Bytes
hash_in w t = if stands w t then unhex hash_bytes (drop (length w + 1) t) else replicate hash_bytes 0

-- the number of at most so many digits that a word tells, or zero
abbrev pub digits_in : ℕ → Bytes → Bytes → ℕ
digits_in most w t = if stands w t then decimal_from 0 (digits_of (take most (drop (length w + 1) t))) else 0

-- the number after a word, of at most ten digits
unfoldable pub number_in : Bytes → Bytes → ℕ
number_in w t = digits_in digits_max w t

-- a number that no word stands before, and what follows it
unfoldable pub one_here : Bytes → ℕ
one_here t = decimal_from 0 (digits_of (take digits_max (drop 1 t)))

unfoldable pub past_one : Bytes → Bytes
past_one t = drop (1 + length (digits_of (take digits_max (drop 1 t)))) t

-- the place of the first of these names that stands, from 0
unfoldable pub place_in : List Bytes → Bytes → ℕ
place_in [] t = 0
place_in (w ∷ ws) t = if stands w t then 0 else suc (place_in ws t)

-- what follows it
unfoldable pub past_name : List Bytes → Bytes → Bytes
past_name [] t = t
past_name (w ∷ ws) t = if stands w t then drop (length w) t else past_name ws t

-- the name that a text begins with: its place, and how many bytes it has
pub record NameFound (names : List Bytes) (t : Bytes) (most place bytes : ℕ) : Type 0 where
  pub place_is : place ≡ place_in names t
  pub rest_is : drop bytes t ≡ past_name names t
  pub few : place ≤ most
  pub short : bytes ≤ most
