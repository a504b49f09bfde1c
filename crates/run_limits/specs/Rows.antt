-- The limits of a group as a row: the bound of its own count, the last second since load at which it grants, and a word for each counter that its limits
-- name, with its maximum and its number.
use Rattle.std.specs.Prelude.{ℕ, ◌+◌, ◌-◌, ◌*◌, ◌/◌, ◌%◌, ◌≤◌, ◌<◌, min, List, [], ◌∷◌, ◌++◌, ◌≡◌, Bool, ◌&&◌, length, get_or, take, drop, eqb, leb, ltb, if◌then◌else◌}
use Rattle.std.proofs.Common.{lit≤}
use Rattle.rules.specs.Sizes.{groups_max, full_count}
use Rattle.rules.specs.Basics.{Bytes, Every, all, records}
use Rattle.rules.specs.Acl.{Limit, limits_of, acl_of}
use Rattle.rules.specs.Ledger.{raised}
use Rattle.run_limits.specs.declared.row.Row.{Row}

-- seconds without an end: no time since load is later
abbrev pub no_end : ℕ
no_end = 18446744073709551615

-- "elapsed seconds are below any sort 3 maximum": the bound of the own count and the last second, with one such limit more; no second is below a maximum of 0
abbrev pub ended_bound : ℕ → ℕ → ℕ
ended_bound bound maximum = if eqb maximum 0 then 0 else bound

abbrev pub ended_last : ℕ → ℕ → ℕ
ended_last last maximum = if eqb maximum 0 then 0 else min last (maximum - 1)

-- "its own count is below any sort 1 maximum": the bound of the own count, with one limit more
unfoldable pub bound_with : ℕ → ℕ → ℕ → ℕ
bound_with bound sort maximum = if eqb sort 1 then min bound maximum else if eqb sort 2 then bound else ended_bound bound maximum

-- the last second, with one limit more
unfoldable pub last_with : ℕ → ℕ → ℕ → ℕ
last_with last sort maximum = if eqb sort 1 then last else if eqb sort 2 then last else ended_last last maximum

-- "each counter named is below its maximum": the word of a counter; one that is full is below no maximum
unfoldable pub named_word : ℕ → ℕ → ℕ
named_word counter maximum = min maximum full_count * 256 + counter

-- the bound, the last second and the words of limits
unfoldable pub bound_of : List Limit → ℕ
bound_of [] = full_count
bound_of (m ∷ ms) = bound_with (bound_of ms) m.sort m.maximum

unfoldable pub last_of : List Limit → ℕ
last_of [] = no_end
last_of (m ∷ ms) = last_with (last_of ms) m.sort m.maximum

unfoldable pub named_of : List Limit → List ℕ
named_of [] = []
named_of (m ∷ ms) = if eqb m.sort 2 then named_word m.counter m.maximum ∷ named_of ms else named_of ms

-- the counter of a word is below its maximum
unfoldable pub word_left : List ℕ → ℕ → Bool
word_left counters word = ltb (get_or counters (word % 256) 0) (word / 256)

-- the words of a row
abbrev pub words_of : Row → List ℕ
words_of row = take row.named row.words

-- a group is unspent, by its row
unfoldable pub row_left : List ℕ → ℕ → ℕ → Row → Bool
row_left counters own elapsed row = ltb own row.bound && (leb elapsed row.last && all (word_left counters) (words_of row))

-- a row of no limits
pub record IsUnlimited (row : Row) : Type 0 where
  pub bound : row.bound ≡ full_count
  pub last : row.last ≡ no_end
  pub none : row.named ≡ 0

-- a row with one limit more
pub record Limited (row : Row) (m : Limit) (next : Row) : Type 0 where
  pub bound : next.bound ≡ bound_with row.bound m.sort m.maximum
  pub last : next.last ≡ last_with row.last m.sort m.maximum
  pub words : words_of next ≡ words_of row ++ named_of (m ∷ [])
  pub one : next.named ≤ row.named + 1

-- a row is that of limits
pub record IsRow (row : Row) (ms : List Limit) : Type 0 where
  pub bound : row.bound ≡ bound_of ms
  pub last : row.last ≡ last_of ms
  pub words : words_of row ≡ named_of ms

-- a row of a table
abbrev pub row_at : List Row → ℕ → Row
row_at rows k = get_or rows k (record { bound = 0; last = 0; named = 0; words = []; few = lit≤ tt })

-- each group of an ACL has its row; the table of offsets says where its limits begin
pub record Rows (acl : Bytes) (bodies : List ℕ) (rows : List Row) : Type 0 where
  pub sized : length rows ≡ groups_max
  pub filled : (k : ℕ) → k < length (acl_of acl) → IsRow (row_at rows k) (limits_of (records (drop (get_or bodies k 0) acl)))

-- "each named counter plus 1", by words
unfoldable pub raised_words : List ℕ → List ℕ → List ℕ → List ℕ
raised_words before [] now = now
raised_words before (w ∷ ws) now = raised_words before ws (raised before (w % 256) now)

-- no two words are of one counter
abbrev pub Distinct : List ℕ → Type 0
Distinct [] = Unit {0}
Distinct (w ∷ ws) = Every (λ v. v % 256 ≡ w % 256 → ⊥) ws × Distinct ws

-- words whose counters can be raised in place: none is full, and no two are the same
pub record Able (counters ws : List ℕ) : Type 0 where
  pub room : Every (λ w. get_or counters (w % 256) 0 < full_count) ws
  pub apart : Distinct ws
