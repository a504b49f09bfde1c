-- The trimming tool: document 02, request l. "Given a bundle and its ACL, produce an ACL, with hints naming each kept group and action by its old
-- place". Both are made in one pass over the ACL's records. In these definitions b is a bundle's list of records.
use Rattle.std.specs.Prelude.{ℕ, zero, suc, ◌+◌, ◌^◌, List, [], ◌∷◌, ◌++◌, Bool, true, false, not, ◌&&◌, ◌||◌, length, take, drop, eqb, leb, if◌then◌else◌}
use Rattle.std.proofs.Math.Option.{Option, none, some}
use Rattle.rules.specs.Numbers.{short_buffer}
use Rattle.rules.specs.Basics.{Bytes, implies, bit, kind, present, both_same, unless, first_fault, records, joined}
use Rattle.rules.specs.Acl.{permission_bits, action_of, certifier_of}
use Rattle.rules.specs.Subject.{written_over}
use Rattle.rules.specs.Written.{big_endian, hint_bytes}
use Rattle.rules.specs.Bundle.{field, Policy, policy_of}
use Rattle.rules.specs.Desk.{Step, class_of, policy_admits, action_failure, before_acl, desk_fault}

-- of the lowest k bits, those set that pass a test
unfoldable pub kept_below : ℕ → (ℕ → Bool) → ℕ → ℕ
kept_below zero p bits = 0
kept_below (suc k) p bits = kept_below k p bits + (if bit k bits && p k then 2 ^ k else 0)

-- "drop every permission bit that fails ACLV3": the bits that are left
abbrev pub kept_bits : Policy → ℕ → ℕ
kept_bits policy bits = kept_below 16 (λ p. policy_admits policy (class_of p)) bits

-- "3 OpPermissions: 4-5, sixteen bits": the record with other bits
unfoldable pub with_bits : ℕ → Bytes → Bytes
with_bits bits r = take 4 r ++ (big_endian 2 bits ++ drop 6 r)

-- "in groups the desk checks": by a group's record, "a group whose certifier equals a present field 4 .. is skipped"
unfoldable pub is_checked : List Bytes → Bytes → Bool
is_checked b r = not (both_same (field 4 b) (certifier_of r))

-- an action, by its record, fails none of ACLV3, WB and RB; none of them looks at blobfile
unfoldable pub action_passes : List Bytes → Bytes → Bool
action_passes b r = not (present (action_failure b (action_of r none)))

-- "drop .. every blob action .. that fails a WB or RB step; keep all else, an OpPermissions action left with no bit too": an action's record stays
unfoldable pub stays : List Bytes → Bool → Bytes → Bool
stays b checked r = implies checked (action_passes b r || eqb (kind r) 3)

-- the record of an action that stays: unchanged, or without the bits that fail
unfoldable pub trimmed_record : List Bytes → Bool → Bytes → Bytes
trimmed_record b checked r = if checked && not (action_passes b r) then with_bits (kept_bits (policy_of b) (permission_bits r)) r else r

-- a record before others, if it is kept
abbrev pub kept_before : Bool → Bytes → List Bytes → List Bytes
kept_before true r rs = r ∷ rs
kept_before false r rs = rs

-- the trimmed ACL's records, of records in a group which is checked or not; `kept` is whether the last action stayed, "with its kind 15
-- record"
unfoldable pub trimmed_from : List Bytes → Bool → Bool → List Bytes → List Bytes
trimmed_from b checked kept [] = []
trimmed_from b checked kept (r ∷ rs) =
    if eqb (kind r) 1 then r ∷ trimmed_from b (is_checked b r) kept rs
    else if eqb (kind r) 2 then r ∷ trimmed_from b checked kept rs
    else if eqb (kind r) 15 then kept_before kept r (trimmed_from b checked kept rs)
    else if stays b checked r then trimmed_record b checked r ∷ trimmed_from b checked true rs
    else trimmed_from b checked false rs

-- "naming each kept .. action by its old place": the places of a group's actions that stay, of the records up to the next group; `place` is the next
-- action's
unfoldable pub kept_indices : List Bytes → Bool → ℕ → List Bytes → List ℕ
kept_indices b checked place [] = []
kept_indices b checked place (r ∷ rs) =
    if eqb (kind r) 1 then []
    else if eqb (kind r) 2 then kept_indices b checked place rs
    else if eqb (kind r) 15 then kept_indices b checked place rs
    else if stays b checked r then place ∷ kept_indices b checked (place + 1) rs
    else kept_indices b checked (place + 1) rs

-- the hints' records, "naming each kept group .. by its old place": `place` is the next group's
unfoldable pub hints_from : List Bytes → ℕ → List Bytes → List Bytes
hints_from b place [] = []
hints_from b place (r ∷ rs) =
    if eqb (kind r) 1 then hint_bytes place (kept_indices b (is_checked b r) 0 rs) ∷ hints_from b (place + 1) rs
    else hints_from b place rs

-- the trimmed ACL's bytes
unfoldable pub trimmed_acl : List Bytes → Bytes → Bytes
trimmed_acl b acl = joined (trimmed_from b false true (records acl))

-- the hints' bytes
unfoldable pub trim_hints : List Bytes → Bytes → Bytes
trim_hints b acl = joined (hints_from b 0 (records acl))

-- What the tool answers: "the reply is both lengths", of the ACL and of the hints; a step before the ACL that fails; or the number of a refusal.
pub data TrimReply : Type 0 where
  trimmed : ℕ → ℕ → TrimReply
  untrimmed : Step → TrimReply
  unread : ℕ → TrimReply

-- "Refusals .. are reported as the desk reports them"
abbrev pub of_refusal : Option ℕ → Option TrimReply
of_refusal none = none
of_refusal (some f) = some (unread f)

-- "failing steps before the ACL" are reported as the desk reports them
abbrev pub of_step : Option Step → Option TrimReply
of_step none = none
of_step (some s) = some (untrimmed s)

-- both results fit their buffers
abbrev pub roomy : Bytes → Bytes → Bytes → Bytes → Bool
roomy bundle acl aclBuffer hintBuffer =
    leb (length (trimmed_acl (records bundle) acl)) (length aclBuffer) && leb (length (trim_hints (records bundle) acl)) (length hintBuffer)

-- The reply where nothing is written: "The tool judges by approach 2 whatever the policy names. Refusals and failing steps before the ACL are reported
-- as the desk reports them, KV3 and CSRL1 are not judged. If either buffer is short the answer is 9".
unfoldable pub trim_fault : Bytes → Bytes → Bytes → Bytes → Option TrimReply
trim_fault bundle acl aclBuffer hintBuffer =
    first_fault
    (of_refusal (desk_fault bundle acl)
    ∷ of_step (before_acl (records bundle))
    ∷ unless (roomy bundle acl aclBuffer hintBuffer) (unread short_buffer)
    ∷ [])

-- "otherwise the reply is both lengths"
abbrev pub trim_reply_unless : Option TrimReply → TrimReply → TrimReply
trim_reply_unless none reply = reply
trim_reply_unless (some f) reply = f

-- what the tool replies
unfoldable pub trim_reply : Bytes → Bytes → Bytes → Bytes → TrimReply
trim_reply bundle acl aclBuffer hintBuffer =
    trim_reply_unless (trim_fault bundle acl aclBuffer hintBuffer)
    (trimmed (length (trimmed_acl (records bundle) acl)) (length (trim_hints (records bundle) acl)))

-- the buffer lent for the ACL, after it: "on any of these both stay untouched, otherwise .. bytes past the results stay"
unfoldable pub trim_acl_buffer : Bytes → Bytes → Bytes → Bytes → Bytes
trim_acl_buffer bundle acl aclBuffer hintBuffer =
    written_over (trimmed_acl (records bundle) acl) aclBuffer (trim_fault bundle acl aclBuffer hintBuffer)

-- the buffer lent for the hints, after it
unfoldable pub trim_hint_buffer : Bytes → Bytes → Bytes → Bytes → Bytes
trim_hint_buffer bundle acl aclBuffer hintBuffer =
    written_over (trim_hints (records bundle) acl) hintBuffer (trim_fault bundle acl aclBuffer hintBuffer)
