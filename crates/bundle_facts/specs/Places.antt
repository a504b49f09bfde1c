-- A table of offsets in a bundle: where the records are that the desk asks for.
use Rattle.std.specs.Prelude.{ℕ, ◌+◌, ◌-◌, ◌≤◌, ◌<◌, ◌≡◌, List, [], ◌∷◌, Bool, ◌&&◌, length, get_or, set, replicate, eqb, ltb, if◌then◌else◌}
use Rattle.std.proofs.Math.Option.{Option, none, some}
use Rattle.rules.specs.Sizes.{record_bytes}
use Rattle.rules.specs.Basics.{Bytes, part, byte, kind, or_next, records}
use Rattle.rules.specs.Bundle.{first_record}

-- how many entries there are, and the last of them, of which nothing is asked
abbrev pub entries : ℕ
entries = 26

abbrev pub unasked : ℕ
unasked = 25

-- the entry of a record of a kind and number: the fields, the signatures, the policy
unfoldable pub entry_of : ℕ → ℕ → ℕ
entry_of k n =
    if eqb k 10 && ltb n 16 then n
    else if eqb k 11 && ltb n 8 then 16 + n
    else if eqb k 12 then 24
    else unasked

-- a record of an entry
unfoldable pub entered : ℕ → Bytes → Bool
entered i r = eqb (entry_of (kind r) (byte 4 r)) i

-- a table in which the end of a record of an entry is noted: the first of an entry counts
unfoldable pub noted : List ℕ → ℕ → ℕ → List ℕ
noted places i end = if eqb (get_or places i 0) 0 then set places i end else places

-- the offsets of all records, of which the first begins at a byte
unfoldable pub noted_from : List ℕ → ℕ → List Bytes → List ℕ
noted_from places at [] = places
noted_from places at (r ∷ rs) = noted_from (noted places (entry_of (kind r) (byte 4 r)) (at + record_bytes)) (at + record_bytes) rs

-- the table of a bundle: of each entry the byte at which its first record ends, 0 where there is none
abbrev pub offsets_of : Bytes → List ℕ
offsets_of s = noted_from (replicate entries 0) 0 (records s)

-- the record that ends at a byte; none ends at 0
unfoldable pub ending_at : Bytes → ℕ → Option Bytes
ending_at s end = if eqb end 0 then none else some (part (end - record_bytes) record_bytes s)

-- The offset of an entry: the first record of the entry ends there, or, where the offset is 0, is the first of those that are left.
pub record OffsetOf (s : Bytes) (i end : ℕ) (left : List Bytes) : Type 0 where
  pub least : 0 < end → record_bytes ≤ end
  pub most : end ≤ length s
  pub first : or_next (ending_at s end) (first_record (entered i) left) ≡ first_record (entered i) (records s)

-- a table, filled but for the records that are left
pub record Filling (s : Bytes) (places : List ℕ) (left : List Bytes) : Type 0 where
  pub sized : length places ≡ entries
  pub each : (i : ℕ) → i < unasked → OffsetOf s i (get_or places i 0) left

-- a table that is filled
abbrev pub Found : Bytes → List ℕ → Type 0
Found s places = Filling s places []
