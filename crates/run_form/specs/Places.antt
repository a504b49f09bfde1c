-- What a table of places in an ACL file says.
use Rattle.std.specs.Prelude.{ℕ, ◌+◌, ◌-◌, ◌≤◌, ◌<◌, List, [], ◌∷◌, ◌≡◌, length, get_or, set, drop, eqb, if◌then◌else◌}
use Rattle.std.proofs.Math.Option.{some}
use Rattle.std.proofs.Math.ListN.{get_elem?}
use Rattle.rules.specs.Sizes.{record_bytes, groups_max}
use Rattle.rules.specs.Basics.{Bytes, part, kind, records}
use Rattle.rules.specs.Acl.{group_of, acl_of}

-- a table in which the places of the groups are put, from number g on, of records of which the first begins at a byte; those past the last group stay
unfoldable pub offsets_from : List ℕ → ℕ → ℕ → List Bytes → List ℕ
offsets_from bodies g at [] = bodies
offsets_from bodies g at (r ∷ rs) =
    if eqb (kind r) 1 then offsets_from (set bodies g (at + record_bytes)) (g + 1) (at + record_bytes) rs
    else offsets_from bodies g (at + record_bytes) rs

-- every place of a table is in a file, or at its end
pub record Inside (acl : Bytes) (bodies : List ℕ) : Type 0 where
  pub each : (k : ℕ) → get_or bodies k 0 ≤ length acl

-- group k is before the byte b: its first record ends there, and its limits and actions follow
pub record OffsetAt (acl : Bytes) (k b : ℕ) : Type 0 where
  pub after : record_bytes ≤ b
  pub there : get_elem? (acl_of acl) k ≡ some (group_of (part (b - record_bytes) record_bytes acl) (records (drop b acl)))

-- a table of where each group's limits and actions begin
pub record Offsets (acl : Bytes) (bodies : List ℕ) : Type 0 where
  pub sized : length bodies ≡ groups_max
  pub inside : Inside acl bodies
  pub filled : (k : ℕ) → k < length (acl_of acl) → OffsetAt acl k (get_or bodies k 0)
