-- The five kinds of file that have a text form: an ACL, a request with what is presented, requests that stand alone, a bundle, hints. Each is told by the
-- reader that finds its faults: what is wrong with a record in a state, the state after it, what is wrong with an end, the greatest number of records.
use Rattle.std.specs.Prelude.{ℕ, ◌+◌, List, Bool, ltb, if◌then◌else◌}
use Rattle.std.proofs.Math.Option.{Option, none, some}
use Rattle.rules.specs.Sizes.{acl_records, request_records, bundle_records, hint_records, day_records}
use Rattle.rules.specs.Numbers.{malformed}
use Rattle.rules.specs.Basics.{Bytes, unless, record_fault, scan, file_fault}
use Rattle.rules.specs.Acl.{AclState, acl_start, after_record, acl_record_fault, acl_end, announces_blobfile}
use Rattle.rules.specs.Request.{request_laid_out, stands_alone, blobfile_request_record, PresentedCounts, presented_start, presented_record_fault, after_presented, hint_record}
use Rattle.rules.specs.Bundle.{BundleState, bundle_start, bundle_record_fault, after_bundle_record, bundle_end}
use Rattle.text_rules.specs.Words.{line_of}
use Rattle.text_rules.specs.Decoding.{decoded}
use Rattle.text_rules.specs.OtherWords.{record_line}
use Rattle.text_rules.specs.OtherDecoding.{record_of}

-- A kind of file: a record's line and the record that a line tells, and the reader, whose states are of type S.
pub record FileKind (S : Type 0) : Type 0 where
  pub line : Bytes → Bytes
  pub told : Bytes → Bytes
  pub start : S
  pub fault : S → Bytes → Option ℕ
  pub after : S → Bytes → S
  pub end : S → Option ℕ
  pub most : ℕ

-- the first fault of a file's records, from a state on
abbrev pub fault_from : {S : Type 0} → FileKind S → S → List Bytes → Option ℕ
fault_from k s rs = scan k.fault k.after k.end s rs

-- the first fault of a file's records, from the first
abbrev pub records_fault : {S : Type 0} → FileKind S → List Bytes → Option ℕ
records_fault k rs = fault_from k k.start rs

-- a file by itself: its length, then its records
abbrev pub kind_fault : {S : Type 0} → FileKind S → Bytes → Option ℕ
kind_fault k file = file_fault k.most (records_fault k) file

-- An ACL. Its records are of the kinds 1 to 5 and 15, and `line_of` and `decoded` are for these.
abbrev pub acl_kind : FileKind AclState
acl_kind =
    record {
      line = line_of;
      told = decoded;
      start = acl_start;
      fault = acl_record_fault;
      after = after_record;
      end = acl_end;
      most = acl_records;
    }

-- Where reading a request file stands: before the request record, before the record of kind 15 that it announces, or after so many certificates and
-- delegations.
pub data RequestState : Type 0 where
  request_due : RequestState
  blob_file_due : RequestState
  presenting : PresentedCounts → RequestState

-- a record there
abbrev pub request_state_fault : RequestState → Bytes → Option ℕ
request_state_fault request_due r = unless (request_laid_out r) malformed
request_state_fault blob_file_due r = unless (blobfile_request_record r) malformed
request_state_fault (presenting c) r = presented_record_fault c r

-- where reading stands after it
abbrev pub after_request_record : RequestState → Bytes → RequestState
after_request_record request_due r = if announces_blobfile r then blob_file_due else presenting presented_start
after_request_record blob_file_due r = presenting presented_start
after_request_record (presenting c) r = presenting (after_presented c r)

-- "A missing request record .. gives 2"; "An end where kind 15 is due gives 2"
abbrev pub request_end : RequestState → Option ℕ
request_end request_due = some malformed
request_end blob_file_due = some malformed
request_end (presenting c) = none

-- A request: its record, its record of kind 15, certificates, delegations.
abbrev pub request_kind : FileKind RequestState
request_kind =
    record {
      line = record_line;
      told = record_of;
      start = request_due;
      fault = request_state_fault;
      after = after_request_record;
      end = request_end;
      most = request_records;
    }

-- Records that each stand by themselves: a state is how many were read. That there is room for one more is no test of a file, whose length was
-- asked first, but of a text.
abbrev pub each_kind : (Bytes → Bool) → ℕ → FileKind ℕ
each_kind good most =
    record {
      line = record_line;
      told = record_of;
      start = 0;
      fault = λ n r. record_fault (good r) (ltb n most);
      after = λ n r. n + 1;
      end = λ n. none;
      most = most;
    }

-- Requests that stand alone: "0 to 1,000 request records without certificates", a day's or a run's.
abbrev pub requests_kind : FileKind ℕ
requests_kind = each_kind stands_alone day_records

-- A bundle: facts, signature outcomes, a policy.
abbrev pub bundle_kind : FileKind BundleState
bundle_kind =
    record {
      line = record_line;
      told = record_of;
      start = bundle_start;
      fault = bundle_record_fault;
      after = after_bundle_record;
      end = bundle_end;
      most = bundle_records;
    }

-- Hints: "Hints grow to 64 records."
abbrev pub hints_kind : FileKind ℕ
hints_kind = each_kind hint_record hint_records
