-- Parts of an ACL: the offset of one of its groups, and that of a group's next action.
use Rattle.std.specs.Prelude.{ℕ, ◌+◌, ◌-◌, ◌≤◌, ◌≡◌, List, [], ◌∷◌, Bool, false, ◌||◌, length, get_or, drop, eqb, if◌then◌else◌}
use Rattle.std.proofs.Math.Option.{Option, none, some}
use Rattle.std.specs.Prelude as option
use Rattle.rules.specs.Sizes.{record_bytes}
use Rattle.rules.specs.Basics.{Bytes, part, kind, records}
use Rattle.rules.specs.Acl.{Limit, limits_of, blobfile_rule_of, blobfile_rule_next, Action, action_of, actions_of, Group, group_of, groups_of}
use Rattle.rules.specs.Request.{blobfile_of, blobfile_next}

-- "2 limit"; "Kind 15 does not count as an action." Neither begins a group or an action.
abbrev pub passed_over : ℕ → Bool
passed_over k = eqb k 2 || eqb k 15

-- The offset of the next group or action among records, the first of which begins at the byte `at`; their end if there is none.
unfoldable pub part_offset : List Bytes → ℕ → ℕ
part_offset [] at = at
part_offset (r ∷ rs) at = if passed_over (kind r) then part_offset rs (at + record_bytes) else at

-- The offset of the next action among a group's records, the first of which begins at the byte `at`; the file's end if the group has no more.
unfoldable pub action_offset : List Bytes → ℕ → ℕ → ℕ
action_offset [] at end = end
action_offset (r ∷ rs) at end = if eqb (kind r) 1 then end else if passed_over (kind r) then action_offset rs (at + record_bytes) end else at

-- Where group g begins, of those among the records of which the first begins at the byte `at`; the file's end where there are fewer.
unfoldable pub group_offset : ℕ → List Bytes → ℕ → ℕ → ℕ
group_offset g [] at end = end
group_offset g (r ∷ rs) at end =
    if eqb (kind r) 1 then if eqb g 0 then at else group_offset (g - 1) rs (at + record_bytes) end
    else group_offset g rs (at + record_bytes) end

-- what the code has found, if anything, as the definitions read it
abbrev pub said : {A B : Type 0} → (A → B) → option.Option A → Option B
said f option.None = none
said f (option.Some x) = some (f x)

-- Each answer below is one offset, or one part of the file: `exact`. The other facts follow from it, and are those that callers use.

-- The action whose record begins at an offset, with the record of kind 15 that may follow it; then the actions after it.
abbrev pub action_from : Bytes → ℕ → Action
action_from s at = action_of (part at record_bytes s) (blobfile_rule_next (records (drop (at + record_bytes) s)))

abbrev pub actions_from : Bytes → ℕ → List Action
actions_from s at = action_from s at ∷ actions_of (records (drop (at + record_bytes) s))

-- The offset of the next group or action, from `at` on: the same groups and actions follow from there, and a record that begins there is that of a group
-- or is an action.
pub record NextPart (s : Bytes) (at r : ℕ) : Type 0 where
  pub exact : r ≡ part_offset (records (drop at s)) at
  pub place : action_offset (records (drop r s)) r (length s) ≡ action_offset (records (drop at s)) at (length s)
  pub actions : actions_of (records (drop r s)) ≡ actions_of (records (drop at s))
  pub groups : groups_of (records (drop r s)) ≡ groups_of (records (drop at s))
  pub later : at ≤ r
  pub inside : r ≤ length s
  pub stands : record_bytes ≤ length s - r → passed_over (get_or s r 0) ≡ false

-- The offset of a group's next action, from `at` on: the same actions follow from there, and a record that begins there is the first of them.
pub record NextAction (s : Bytes) (at r : ℕ) : Type 0 where
  pub exact : r ≡ action_offset (records (drop at s)) at (length s)
  pub same : actions_of (records (drop r s)) ≡ actions_of (records (drop at s))
  pub later : at ≤ r
  pub inside : r ≤ length s
  pub action : record_bytes ≤ length s - r → actions_of (records (drop r s)) ≡ actions_from s r

-- The offset of group g, of those from `at` on: the groups from there on are all but the first g, and a record that begins there is a group's.
pub record GroupAt (acl : Bytes) (at g r : ℕ) : Type 0 where
  pub exact : r ≡ group_offset g (records (drop at acl)) at (length acl)
  pub same : groups_of (records (drop r acl)) ≡ drop g (groups_of (records (drop at acl)))
  pub inside : r ≤ length acl
  pub head : record_bytes ≤ length acl - r → get_or acl r 0 ≡ 1

-- an ACL from its group g on
abbrev pub from_group : Bytes → ℕ → Bytes
from_group acl g = drop (group_offset g (records acl) 0 (length acl)) acl

-- the part of the file that is answered: the same groups, and the first record is that group's
pub record FromGroup (acl : Bytes) (g : ℕ) (r : Bytes) : Type 0 where
  pub exact : r ≡ from_group acl g
  pub same : groups_of (records r) ≡ drop g (groups_of (records acl))
  pub head : record_bytes ≤ length r → get_or r 0 0 ≡ 1

-- the limits of the first of some groups; none where there is no group
abbrev pub first_limits : List Group → List Limit
first_limits [] = []
first_limits (g ∷ gs) = g.limits

-- what follows the first record of group g: the limits there are the group's
pub record GroupBody (acl : Bytes) (g : ℕ) (r : Bytes) : Type 0 where
  pub exact : r ≡ drop record_bytes (from_group acl g)
  pub limits : limits_of (records r) ≡ first_limits (drop g (groups_of (records acl)))

-- an action, or a group, by its own record and the file that follows it
abbrev pub action_read : Bytes → Bytes → Action
action_read r rest = action_of r (blobfile_rule_next (records rest))

abbrev pub group_read : Bytes → Bytes → Group
group_read r rest = group_of r (records rest)

-- the first record of a file if it is of kind 15
unfoldable pub blobfile_record : List Bytes → Option Bytes
blobfile_record [] = none
blobfile_record (r ∷ rs) = if eqb (kind r) 15 then some r else none

-- that record: what it says of the action, or of the request, before it
pub record FileRecord (rest : Bytes) (r : option.Option Bytes) : Type 0 where
  pub exact : said (λ b. b) r ≡ blobfile_record (records rest)
  pub file : said blobfile_rule_of r ≡ blobfile_rule_next (records rest)
  pub blob : said blobfile_of r ≡ blobfile_next (records rest)
