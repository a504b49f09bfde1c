-- Names in a row, each with a space before it: ` DuplicateHandle GetAppData ..`.
use Rattle.std.specs.Prelude.{ℕ, ◌-◌, ◌/◌, ◌%◌, ◌≤◌, ◌<◌, ◌≡◌, List, [], ◌∷◌, ◌++◌, length, take, drop, get_or, eqb, leb, if◌then◌else◌}
use Rattle.rules.specs.Basics.{Bytes}
use Rattle.text_rules.specs.Words.{space}
use Rattle.text_rules.specs.Listing.{onto_first}
use Rattle.text_bytes.specs.Putting.{text_if}

-- the names of a row, each with its space: a name ends before the next space, or with the row
unfoldable pub words_of : Bytes → List Bytes
words_of [] = []
words_of (c ∷ t) = if leb (get_or t 0 0) space then (c ∷ []) ∷ words_of t else onto_first c (words_of t)

-- the name that begins at a place ends at another
pub record NameEnds (names : Bytes) (at end : ℕ) : Type 0 where
  pub past : at < end
  pub inside : end ≤ length names
  pub words : words_of (drop at names) ≡ take (end - at) (drop at names) ∷ words_of (drop end names)

-- the name at a place of a row, the first at 0
unfoldable pub name_at : Bytes → ℕ → Bytes
name_at names i = get_or (words_of names) i []

-- the names whose bits are set in n, from bit 0 on
unfoldable pub names_text : List Bytes → ℕ → Bytes
names_text [] n = []
names_text (w ∷ ws) n = text_if (eqb (n % 2) 1) w [] ++ names_text ws (n / 2)
