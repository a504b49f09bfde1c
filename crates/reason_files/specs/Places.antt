-- Where the first fault of a file is, for each kind of file: its length, a record by its index, or its end.
use Rattle.std.specs.Prelude.{ℕ, Result, Ok, Err, suc, ◌+◌, List, [], ◌∷◌, length, if◌then◌else◌}
use Rattle.std.proofs.Math.Option.{Option, none, some}
use Rattle.rules.specs.Numbers.{bad_length}
use Rattle.rules.specs.Basics.{Bytes, records, fits}
use Rattle.refusals.specs.Refusals.{refusal_number}
use Rattle.text_rules.specs.Kinds.{FileKind, acl_kind, request_kind, requests_kind, bundle_kind, hints_kind}
use Rattle.text_files.specs.declared.Kind.{Kind}
use Rattle.text_files.specs.declared.Kind.TheVariants.{Acl, Request, Requests, Bundle, Hints}
use Rattle.reason_files.specs.declared.FilePlace as code
use Rattle.reason_files.specs.declared.FilePlace.TheVariants as by

-- Where a fault is: there is none; the length; a record, with the refusal and its index from 0; the end, with the refusal and the number of records.
pub data Place : Type 0 where
  sound : Place
  at_length : Place
  at_record : ℕ → ℕ → Place
  at_end : ℕ → ℕ → Place

-- the refusal there; that of a length is 1, "a file not whole records or over its greatest length"
abbrev pub place_refusal : Place → Option ℕ
place_refusal sound = none
place_refusal at_length = some bad_length
place_refusal (at_record f i) = some f
place_refusal (at_end f n) = some f

-- The fault of each record, read in the state that those before it lead to.
unfoldable pub record_faults : {S : Type 0} → FileKind S → S → List Bytes → List (Option ℕ)
record_faults k s [] = []
record_faults k s (r ∷ rs) = k.fault s r ∷ record_faults k (k.after s r) rs

-- the state that records lead to
unfoldable pub reached : {S : Type 0} → FileKind S → S → List Bytes → S
reached k s [] = s
reached k s (r ∷ rs) = reached k (k.after s r) rs

-- a record of an index with a fault, or what comes after it
abbrev pub record_or : Option ℕ → ℕ → Place → Place
record_or none i next = next
record_or (some f) i next = at_record f i

-- the first record with a fault, of records numbered from i; else what comes after them
unfoldable pub first_record : ℕ → List (Option ℕ) → Place → Place
first_record i [] next = next
first_record i (f ∷ fs) next = record_or f i (first_record (suc i) fs next)

-- the end of a file of n records: "a record is missing" or not
abbrev pub end_place : Option ℕ → ℕ → Place
end_place none n = sound
end_place (some f) n = at_end f n

-- of records numbered from i, read from a state on: the first with a fault, else the end
unfoldable pub records_place : {S : Type 0} → FileKind S → S → ℕ → List Bytes → Place
records_place k s i rs = first_record i (record_faults k s rs) (end_place (k.end (reached k s rs)) (i + length rs))

-- of a file: its length, then its records and its end
unfoldable pub file_place : {S : Type 0} → FileKind S → Bytes → Place
file_place k file = if fits k.most file then records_place k k.start 0 (records file) else at_length

-- by the kind of file
unfoldable pub place_in : Kind → Bytes → Place
place_in Acl file = file_place acl_kind file
place_in Request file = file_place request_kind file
place_in Requests file = file_place requests_kind file
place_in Bundle file = file_place bundle_kind file
place_in Hints file = file_place hints_kind file

-- the code's answer
abbrev pub place_as : Result (Unit {0}) code.FilePlace → Place
place_as (Ok x) = sound
place_as (Err by.Length) = at_length
place_as (Err (by.Record r i)) = at_record (refusal_number r) i
place_as (Err (by.End r n)) = at_end (refusal_number r) n
