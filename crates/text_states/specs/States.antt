-- The parser states of the files other than an ACL as one type, and what a record does to them.
use Rattle.std.specs.Prelude.{ℕ, ◌+◌, Bool, ltb, Result, Ok, Err, if◌then◌else◌}
use Rattle.std.proofs.Math.Option.{Option, none, some}
use Rattle.rules.specs.Sizes.{request_records, day_records, bundle_records, hint_records}
use Rattle.rules.specs.Basics.{Bytes}
use Rattle.rules.specs.Bundle.{BundleState, bundle_record_fault, after_bundle_record, bundle_end}
use Rattle.refusals.specs.Refusals.{refusal_number}
use Rattle.text_rules.specs.OtherWords.{record_line}
use Rattle.text_rules.specs.OtherDecoding.{record_of}
use Rattle.text_rules.specs.Kinds.{FileKind, RequestState, request_due, blob_file_due, presenting, request_state_fault, after_request_record, request_end, requests_kind, hints_kind}
use Rattle.refusals.specs.declared.Refusal.{Refusal}
use Rattle.refusals.specs.declared.Refusal.TheVariants.{Malformed, TooMany}
use Rattle.text_states.specs.declared.State.{State}
use Rattle.text_states.specs.declared.State.TheVariants as code

-- a state of one of the four readers
pub data AnyState : Type 0 where
  of_request : RequestState → AnyState
  of_requests : ℕ → AnyState
  of_bundle : BundleState → AnyState
  of_hints : ℕ → AnyState

abbrev pub state_fault : AnyState → Bytes → Option ℕ
state_fault (of_request s) r = request_state_fault s r
state_fault (of_requests n) r = requests_kind.fault n r
state_fault (of_bundle s) r = bundle_record_fault s r
state_fault (of_hints n) r = hints_kind.fault n r

abbrev pub state_after : AnyState → Bytes → AnyState
state_after (of_request s) r = of_request (after_request_record s r)
state_after (of_requests n) r = of_requests (requests_kind.after n r)
state_after (of_bundle s) r = of_bundle (after_bundle_record s r)
state_after (of_hints n) r = of_hints (hints_kind.after n r)

abbrev pub state_end : AnyState → Option ℕ
state_end (of_request s) = request_end s
state_end (of_requests n) = none
state_end (of_bundle s) = bundle_end s
state_end (of_hints n) = none

-- the greatest number of records
abbrev pub state_most : AnyState → ℕ
state_most (of_request s) = request_records
state_most (of_requests n) = day_records
state_most (of_bundle s) = bundle_records
state_most (of_hints n) = hint_records

-- the kind of file that begins in a state
abbrev pub kind_from : AnyState → FileKind AnyState
kind_from start =
    record {
      line = record_line;
      told = record_of;
      start = start;
      fault = state_fault;
      after = state_after;
      end = state_end;
      most = state_most start;
    }

-- the code's states
abbrev pub state_as : State → AnyState
state_as code.Request = of_request request_due
state_as code.Blobfile = of_request blob_file_due
state_as (code.Presented n m) = of_request (presenting (record { certificates = n; delegations = m }))
state_as (code.Requests n) = of_requests n
state_as (code.Bundle last n) = of_bundle (record { last = last; listed_count = n })
state_as (code.Hints n) = of_hints n

-- A record read in a state: stopped by its fault, or the state after it.
pub data Stepped : Type 0 where
  stopped : ℕ → Stepped
  on : AnyState → Stepped

abbrev pub past : Option ℕ → AnyState → Stepped
past none s = on s
past (some f) s = stopped f

unfoldable pub step_of : AnyState → Bytes → Stepped
step_of s r = past (state_fault s r) (state_after s r)

-- what the code answers: the state after the record, or its fault
abbrev pub step_as : Result State Refusal → Stepped
step_as (Ok s) = on (state_as s)
step_as (Err f) = stopped (refusal_number f)

-- one record more after n of them, of at most so many: how many there are with it
abbrev pub one_more : Bool → ℕ → ℕ → Result ℕ Refusal
one_more good n most = if good then (if ltb n most then Ok (n + 1) else Err TooMany) else Err Malformed
