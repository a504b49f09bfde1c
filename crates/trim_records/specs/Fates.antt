-- What stays of one record of an ACL, if anything, by a bundle's list of records b. proofs/Laws.antt says that this is what the trimmed ACL is made of.
use Rattle.std.specs.Prelude.{Option, Some, None, is_some, ℕ, List, [], Bool, not, ◌&&◌, eqb, if◌then◌else◌}
use Rattle.rules.specs.Sizes.{record_bytes}
use Rattle.rules.specs.Basics.{Bytes, bit, number, kind}
use Rattle.rules.specs.Bundle.{Policy, policy_of}
use Rattle.rules.specs.Desk.{class_of, policy_admits}
use Rattle.rules.specs.Trim.{kept_bits, with_bits, is_checked, action_passes}
use Rattle.trim_records.specs.declared.Kept.{Kept}
use Rattle.trim_records.specs.declared.Kept.TheVariants.{Whole, Fewer}

-- "drop every permission bit that fails ACLV3": a bit that is set and passes
unfoldable pub kept_bit : Policy → ℕ → ℕ → Bool
kept_bit policy bits b = bit b bits && policy_admits policy (class_of b)

-- "drop every permission bit that fails ACLV3 and every blob action, with its kind 15 record, that fails a WB or RB step; keep all else, an
-- OpPermissions action left with no bit too"
unfoldable pub on_action : List Bytes → Bool → Bytes → Option Kept
on_action b checked r =
    if not checked then Some Whole
    else if action_passes b r then Some Whole
    else if eqb (kind r) 3 then Some Fewer
    else None

-- "with its kind 15 record"
abbrev pub on_blobfile : Bool → Option Kept
on_blobfile kept = if kept then Some Whole else None

-- what stays of a record of any kind
unfoldable pub on_record : List Bytes → Bool → Bool → Bytes → Option Kept
on_record b checked kept r =
    if eqb (kind r) 1 then Some Whole
    else if eqb (kind r) 2 then Some Whole
    else if eqb (kind r) 15 then on_blobfile kept
    else on_action b checked r

-- the bytes that are left, by their number
abbrev pub size_of : Option Kept → ℕ
size_of None = 0
size_of (Some k) = record_bytes

-- the bytes that are left
unfoldable pub left_of : List Bytes → Option Kept → Bytes → Bytes
left_of b (Some Whole) r = r
left_of b (Some Fewer) r = with_bits (kept_bits (policy_of b) (number 4 2 r)) r
left_of b None r = []

-- whether the last action stayed, after a record
unfoldable pub kept_after : Option Kept → Bool → Bytes → Bool
kept_after fate kept r = if eqb (kind r) 1 then kept else if eqb (kind r) 2 then kept else is_some fate

-- whether actions are checked, after a record
unfoldable pub checked_after : List Bytes → Bool → Bytes → Bool
checked_after b checked r = if eqb (kind r) 1 then is_checked b r else checked
