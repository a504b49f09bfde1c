-- A hint as far as it is written, and what is asked of the records that are left of an ACL.
use Rattle.std.specs.Prelude.{Option, is_some, ℕ, ◌+◌, ◌≡◌, List, [], Bool, set, eqb, if◌then◌else◌}
use Rattle.std.proofs.Math.Option.{none}
use Rattle.rules.specs.Basics.{Bytes, kind, scan}
use Rattle.rules.specs.Acl.{AclState, acl_record_fault, after_record, acl_end}
use Rattle.rules.specs.Trim.{is_checked, kept_indices}
use Rattle.rules.specs.Written.{hint_bytes}
use Rattle.trim_records.specs.declared.Kept.{Kept}
use Rattle.trim_hints.specs.declared.Hint.{Hint}

-- a hint that names a group and no action yet
unfoldable pub begun_hint : ℕ → Hint
begun_hint source = record { bytes = hint_bytes source []; count = 0; place = 0 }

-- the hint after an action that stays: "a source action for each action of the new group"
abbrev pub named : Hint → Hint
named h = record { bytes = set h.bytes (8 + h.count) h.place; count = h.count + 1; place = h.place + 1 }

-- the hint after an action that is dropped
abbrev pub unnamed : Hint → Hint
unnamed h = record { bytes = h.bytes; count = h.count; place = h.place + 1 }

unfoldable pub action_hinted : Hint → Bool → Hint
action_hinted h kept = if kept then named h else unnamed h

-- the hint after a record that begins no group, which may be an action that is kept, changed or dropped
unfoldable pub record_hinted : Hint → Option Kept → Bytes → Hint
record_hinted h fate r = if eqb (kind r) 2 then h else if eqb (kind r) 15 then h else action_hinted h (is_some fate)

-- "naming each kept .. action by its old place": those of the group with a first record and the records that follow it
unfoldable pub places_of : List Bytes → Bytes → List Bytes → List ℕ
places_of b r rs = kept_indices b (is_checked b r) 0 rs

-- what is left of an ACL is read without fault, where so many groups have begun
pub record SoundFrom (rs : List Bytes) (groups : ℕ) : Type 0 where
  pub place : AclState
  pub sound : scan acl_record_fault after_record acl_end place rs ≡ none
  pub begun : place.groups ≡ groups
