-- The state of the ACL reader, and the result of reading records, in terms of the definitions.
use Rattle.std.specs.Prelude.{Result, Ok, Err, ℕ, zero, suc, ◌+◌, ◌/◌, ◌%◌, List, [], ◌∷◌, ◌++◌, Bool, false}
use Rattle.std.proofs.Math.Option.{Option, none, some}
use Rattle.rules.specs.Basics.{Bytes}
use Rattle.rules.specs.Acl.{AclState, acl_record_fault, after_record}
use Rattle.refusals.specs.Refusals.{refusal_number}
use Rattle.acl_reader.specs.declared.state.State.{State}
use Rattle.refusals.specs.declared.Refusal.{Refusal}

-- the lowest n parts of sixteen bits of a number, the lowest last
unfoldable pub keys_of : ℕ → ℕ → List ℕ
keys_of zero keys = []
keys_of (suc n) keys = keys_of n (keys / 65536) ++ (keys % 65536 ∷ [])

-- the lowest `limits` parts of the keys are those of the limits read
abbrev pub acl_state_as : State → AclState
acl_state_as p =
    record {
      groups = p.groups;
      is_open = p.opened;
      limits = keys_of p.limits p.keys;
      actions = p.actions;
      file_due = p.file_due;
    }

-- a group begun that is open or not, and an action added that announces kind 15 or not
abbrev pub begun_with : AclState → Bool → AclState
begun_with s is_open = record { groups = s.groups + 1; is_open = is_open; limits = []; actions = 0; file_due = false }

abbrev pub added_with : AclState → Bool → AclState
added_with s due = record { groups = s.groups; is_open = s.is_open; limits = s.limits; actions = s.actions + 1; file_due = due }

-- Reading records from a state on: the first fault, or the state after them.
pub data AclReading : Type 0 where
  stopped : ℕ → AclReading
  on : AclState → AclReading

-- the result by the fault of the next record, and the result of reading those after it
abbrev pub read_past : Option ℕ → AclReading → AclReading
read_past none x = x
read_past (some f) x = stopped f

unfoldable pub reading : AclState → List Bytes → AclReading
reading s [] = on s
reading s (r ∷ rs) = read_past (acl_record_fault s r) (reading (after_record s r) rs)

-- what the code answers
abbrev pub reading_as : Result State Refusal → AclReading
reading_as (Ok p) = on (acl_state_as p)
reading_as (Err r) = stopped (refusal_number r)
