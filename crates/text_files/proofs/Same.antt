-- One kind of file by the states of another: what is written and read is the same.
use Prim.Native.Nat.{ℕ, ◌+◌}
use mathlib.Core.Path.{◌≡◌, refl, ◌∙◌, ap}
use mathlib.Core.List.{List, [], ◌∷◌}
use mathlib.Core.Option.{Option}
use mathlib.Core.Bool.{not}
use Rattle.rules.specs.Numbers.{bad_length}
use Rattle.rules.specs.Basics.{Bytes, present, records, fits, unless, or_next, first_fault, scan, file_fault}
use Rattle.rules.specs.Bundle.{bundle_start}
use Rattle.text_rules.specs.OtherWords.{record_line}
use Rattle.text_rules.specs.OtherDecoding.{record_of}
use Rattle.text_rules.specs.Words.{text_by}
use Rattle.text_rules.specs.Kinds.{FileKind, request_due, records_fault, kind_fault, request_kind, requests_kind, bundle_kind, hints_kind}
use Rattle.text_rules.specs.Listing.{lines_of, as_written, good_in, fault_at_line, past_line, text_end, text_fault, bytes_by, reading_of, delivered_as, read_text, read_text_into, delivered, room_fault, writing_fault, write_text}
use Rattle.text_states.specs.States.{AnyState, of_request, of_requests, of_bundle, of_hints, state_fault, state_after, state_end, kind_from}

-- a kind whose lines are those of any record, read by the states of its own
module _ {S : Type 0} (i : S → AnyState) (start : S) (fault : S → Bytes → Option ℕ) (after : S → Bytes → S) (end : S → Option ℕ) (most : ℕ)
    (fault_is : (s : S) (r : Bytes) → state_fault (i s) r ≡ fault s r) (after_is : (s : S) (r : Bytes) → state_after (i s) r ≡ i (after s r)) (end_is : (s : S) → state_end (i s) ≡ end s)
    (most-is : (kind_from (i start)).most ≡ most) where
  abbrev k : FileKind S
  k = record { line = record_line; told = record_of; start = start; fault = fault; after = after; end = end; most = most }

  abbrev l : FileKind AnyState
  l = kind_from (i start)

  scan_same : (s : S) (rs : List Bytes) → scan state_fault state_after state_end (i s) rs ≡ scan fault after end s rs
  unfolding scan
  scan_same s [] = end_is s
  scan_same s (r ∷ rs) =
      ap (λ (o : Option ℕ). or_next o (scan state_fault state_after state_end (state_after (i s) r) rs)) (fault_is s r)
      ∙ ap (λ (t : AnyState). or_next (fault s r) (scan state_fault state_after state_end t rs)) (after_is s r)
      ∙ ap (or_next (fault s r)) (scan_same (after s r) rs)

  fault_same : (file : Bytes) → kind_fault l file ≡ kind_fault k file
  unfolding file_fault
  fault_same file =
      ap (λ (n : ℕ). first_fault (unless (fits n file) bad_length ∷ records_fault l (records file) ∷ [])) most-is
      ∙ ap (λ (o : Option ℕ). first_fault (unless (fits most file) bad_length ∷ o ∷ [])) (scan_same start (records file))

  pub write_same : (file buffer : Bytes) → write_text l file buffer ≡ write_text k file buffer
  unfolding write_text writing_fault
  write_same file buffer =
      ap (λ (o : Option ℕ). delivered (text_by record_line file) buffer (first_fault (o ∷ room_fault (text_by record_line file) buffer ∷ []))) (fault_same file)

  lines_same : (s : S) (n : ℕ) (ls : List Bytes) → scan (fault_at_line l) (past_line l) (text_end l) (record { place = i s; line = n }) ls ≡ scan (fault_at_line k) (past_line k) (text_end k) (record { place = s; line = n }) ls
  unfolding scan fault_at_line past_line text_end good_in as_written
  lines_same s n [] = ap (λ (o : Option ℕ). unless (not (present o)) n) (end_is s)
  lines_same s n (x ∷ ls) =
      rw (fault_is s (record_of x), after_is s (record_of x)) (ap (or_next (fault_at_line k (record { place = s; line = n }) x)) (lines_same (after s (record_of x)) (n + 1) ls))

  pub read_same : (text buffer : Bytes) → read_text_into l text buffer ≡ read_text_into k text buffer
  unfolding read_text_into read_text text_fault
  read_same text buffer =
      ap (λ (o : Option ℕ). delivered_as buffer (reading_of (bytes_by record_of text) o)) (lines_same start 1 (lines_of text))

-- the four kinds
pub write_request : (file buffer : Bytes) → write_text (kind_from (of_request request_due)) file buffer ≡ write_text request_kind file buffer
write_request = write_same of_request request_due request_kind.fault request_kind.after request_kind.end request_kind.most (λ s r. refl) (λ s r. refl) (λ s. refl) refl

pub read_request : (text buffer : Bytes) → read_text_into (kind_from (of_request request_due)) text buffer ≡ read_text_into request_kind text buffer
read_request = read_same of_request request_due request_kind.fault request_kind.after request_kind.end request_kind.most (λ s r. refl) (λ s r. refl) (λ s. refl) refl

pub write_requests : (file buffer : Bytes) → write_text (kind_from (of_requests 0)) file buffer ≡ write_text requests_kind file buffer
write_requests = write_same of_requests 0 requests_kind.fault requests_kind.after requests_kind.end requests_kind.most (λ s r. refl) (λ s r. refl) (λ s. refl) refl

pub read_requests : (text buffer : Bytes) → read_text_into (kind_from (of_requests 0)) text buffer ≡ read_text_into requests_kind text buffer
read_requests = read_same of_requests 0 requests_kind.fault requests_kind.after requests_kind.end requests_kind.most (λ s r. refl) (λ s r. refl) (λ s. refl) refl

pub write_bundle : (file buffer : Bytes) → write_text (kind_from (of_bundle bundle_start)) file buffer ≡ write_text bundle_kind file buffer
write_bundle = write_same of_bundle bundle_start bundle_kind.fault bundle_kind.after bundle_kind.end bundle_kind.most (λ s r. refl) (λ s r. refl) (λ s. refl) refl

pub read_bundle : (text buffer : Bytes) → read_text_into (kind_from (of_bundle bundle_start)) text buffer ≡ read_text_into bundle_kind text buffer
read_bundle = read_same of_bundle bundle_start bundle_kind.fault bundle_kind.after bundle_kind.end bundle_kind.most (λ s r. refl) (λ s r. refl) (λ s. refl) refl

pub write_hints : (file buffer : Bytes) → write_text (kind_from (of_hints 0)) file buffer ≡ write_text hints_kind file buffer
write_hints = write_same of_hints 0 hints_kind.fault hints_kind.after hints_kind.end hints_kind.most (λ s r. refl) (λ s r. refl) (λ s. refl) refl

pub read_hints : (text buffer : Bytes) → read_text_into (kind_from (of_hints 0)) text buffer ≡ read_text_into hints_kind text buffer
read_hints = read_same of_hints 0 hints_kind.fault hints_kind.after hints_kind.end hints_kind.most (λ s r. refl) (λ s r. refl) (λ s. refl) refl
