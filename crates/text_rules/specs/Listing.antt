-- A file's text: its lines, which of them are bad, what is read and written, and the two entry points. Document 02, requests b and i. All of it is said
-- once, over a kind of file (Kinds); an ACL's text is its listing, and has names of its own.
use Rattle.std.specs.Prelude.{ℕ, suc, ◌+◌, ◌<◌, ◌≡◌, Bool, true, false, not, ◌&&◌, length, eqb, leb, if◌then◌else◌}
use mathlib.Core.List.{List, [], ◌∷◌, ◌++◌, map, flatten}
use Rattle.std.proofs.Math.Option.{Option, none, some}
use Rattle.rules.specs.Sizes.{record_bytes}
use Rattle.rules.specs.Numbers.{malformed, short_buffer, not_listing}
use Rattle.rules.specs.Basics.{Bytes, Every, same, present, unless, first_fault, scan}
use Rattle.rules.specs.Subject.{written_over}
use Rattle.text_rules.specs.Words.{newline, text_by}
use Rattle.text_rules.specs.Decoding.{decoded}
use Rattle.text_rules.specs.Kinds.{FileKind, records_fault, kind_fault, acl_kind}

-- a byte put before the first line
abbrev pub onto_first : ℕ → List Bytes → List Bytes
onto_first c [] = (c ∷ []) ∷ []
onto_first c (l ∷ ls) = (c ∷ l) ∷ ls

-- The lines of a text, each with the byte 10 that ends it; what stands after the last byte 10, if anything does, is the last line.
unfoldable pub lines_of : Bytes → List Bytes
lines_of [] = []
lines_of (c ∷ t) = if eqb c newline then (c ∷ []) ∷ lines_of t else onto_first c (lines_of t)

-- the length of a text's first line, its byte 10 counted
unfoldable pub line_length : Bytes → ℕ
line_length [] = 0
line_length (c ∷ t) = if eqb c newline then 1 else suc (line_length t)

-- a line that is the written form of the record that it tells
unfoldable pub as_written : {S : Type 0} → FileKind S → Bytes → Bool
as_written k line = same (k.line (k.told line)) line

-- Where reading stands: the reader's state, and the next line's number.
pub record TextState (S : Type 0) : Type 0 where
  pub place : S
  pub line : ℕ

-- "the first such line's number, from 1"
abbrev pub text_start : {S : Type 0} → FileKind S → TextState S
text_start k = record { place = k.start; line = 1 }

-- "the written form of a record valid there": the record has no fault in this state of the reader
unfoldable pub good_in : {S : Type 0} → FileKind S → S → Bytes → Bool
good_in k s line = not (present (k.fault s (k.told line))) && as_written k line

-- the number of a line that is not
unfoldable pub fault_at_line : {S : Type 0} → FileKind S → TextState S → Bytes → Option ℕ
fault_at_line k s line = unless (good_in k s.place line) s.line

-- where reading stands after a line
unfoldable pub past_line : {S : Type 0} → FileKind S → TextState S → Bytes → TextState S
past_line k s line = record { place = k.after s.place (k.told line); line = s.line + 1 }

-- "An end where kind 15 is due gives .. in a listing, 15 and the next line's number.": so for every record that is missing at the end
unfoldable pub text_end : {S : Type 0} → FileKind S → TextState S → Option ℕ
text_end k s = unless (not (present (k.end s.place))) s.line

-- the number of the first bad line, if there is one
unfoldable pub text_fault : {S : Type 0} → FileKind S → Bytes → Option ℕ
text_fault k text = scan (fault_at_line k) (past_line k) (text_end k) (text_start k) (lines_of text)

-- the bytes that the lines of a text tell, a record for each
unfoldable pub bytes_by : (Bytes → Bytes) → Bytes → Bytes
bytes_by told text = flatten (map told (lines_of text))

-- What reading a text gives: a file's bytes, or the number of the first bad line.
pub data ListingReading : Type 0 where
  read_as : Bytes → ListingReading
  bad_line : ℕ → ListingReading

-- the result of reading a text, by the first bad line
abbrev pub reading_of : Bytes → Option ℕ → ListingReading
reading_of bytes none = read_as bytes
reading_of bytes (some n) = bad_line n

-- a text as a file
unfoldable pub read_text : {S : Type 0} → FileKind S → Bytes → ListingReading
read_text k text = reading_of (bytes_by k.told text) (text_fault k text)

-- What the entry points answer: "the reply is the result's length", a refusal's number, or "a new number 15 and the first such line's number".
pub data ListingReply : Type 0 where
  produced : ℕ → ListingReply
  refused_with : ℕ → ListingReply
  refused_at : ℕ → ℕ → ListingReply

-- a reply that is no length
abbrev pub is_refusal : ListingReply → Bool
is_refusal (produced n) = false
is_refusal (refused_with f) = true
is_refusal (refused_at f n) = true

-- a reply with the whole lent buffer afterwards
pub record Listed : Type 0 where
  pub reply : ListingReply
  pub buffer : Bytes

-- "then a short buffer gives 9"
abbrev pub room_fault : Bytes → Bytes → Option ℕ
room_fault result buffer = unless (leb (length result) (length buffer)) short_buffer

-- "On all these it stays untouched; else the reply is the result's length and bytes past it stay."
abbrev pub delivered : Bytes → Bytes → Option ℕ → Listed
delivered result buffer none = record { reply = produced (length result); buffer = written_over {F = ℕ} result buffer none }
delivered result buffer (some f) = record { reply = refused_with f; buffer = buffer }

-- "a bad ACL gives its own number; then a short buffer gives 9": so for every kind of file
unfoldable pub writing_fault : {S : Type 0} → FileKind S → Bytes → Bytes → Option ℕ
writing_fault k file buffer = first_fault (kind_fault k file ∷ room_fault (text_by k.line file) buffer ∷ [])

-- A file's text into a lent buffer.
unfoldable pub write_text : {S : Type 0} → FileKind S → Bytes → Bytes → Listed
write_text k file buffer = delivered (text_by k.line file) buffer (writing_fault k file buffer)

-- "A line that is not the written form of a record valid there gives a new number 15 and the first such line's number .. then a short buffer gives 9."
abbrev pub delivered_as : Bytes → ListingReading → Listed
delivered_as buffer (read_as bytes) = delivered bytes buffer (room_fault bytes buffer)
delivered_as buffer (bad_line n) = record { reply = refused_at not_listing n; buffer = buffer }

-- A text's file into a lent buffer.
unfoldable pub read_text_into : {S : Type 0} → FileKind S → Bytes → Bytes → Listed
read_text_into k text buffer = delivered_as buffer (read_text k text)

-- What the theorems speak of. A number that a byte holds:
abbrev pub Octet : ℕ → Type 0
Octet b = b < 256

-- a file's record: 64 bytes
pub record IsRecord (r : Bytes) : Type 0 where
  pub whole : length r ≡ record_bytes
  pub octets : Every Octet r

-- the first fault of records as far as they go: a file may go on after them
abbrev pub going_on : {S : Type 0} → FileKind S → S → List Bytes → Option ℕ
going_on k s rs = scan k.fault k.after (λ t. none) s rs

-- the first fault of records as far as they go, from the first
abbrev pub so_far : {S : Type 0} → FileKind S → List Bytes → Option ℕ
so_far k rs = going_on k k.start rs

-- The lines that follow those of records that are a file so far begin with a bad one: it is the line of no record with which they still are one. Where
-- no line follows, the end is bad: a record is missing.
abbrev pub BadAfter : {S : Type 0} → FileKind S → List Bytes → List Bytes → Type 0
BadAfter k before [] = records_fault k before ≡ some malformed
BadAfter k before (line ∷ later) = (r : Bytes) → IsRecord r → so_far k (before ++ r ∷ []) ≡ none → k.line r ≡ line → ⊥

-- "A line that is not the written form of a record valid there gives .. the first such line's number, from 1": line n of a text is the first bad one.
pub record FirstBad {S : Type 0} (k : FileKind S) (text : Bytes) (n : ℕ) : Type 0 where
  pub before : List Bytes
  pub later : List Bytes
  pub lines : lines_of text ≡ map k.line before ++ later
  pub count : n ≡ length before + 1
  pub records : Every IsRecord before
  pub valid : so_far k before ≡ none
  pub bad : BadAfter k before later

-- An ACL's text is its listing. What the code's contracts say of it, by the names of request b: the first bad line of a listing,
abbrev pub listing_fault : Bytes → Option ℕ
listing_fault = text_fault acl_kind

-- The bytes that the lines of a listing say.
abbrev pub listed_bytes : Bytes → Bytes
listed_bytes = bytes_by decoded

-- A listing as an ACL.
abbrev pub read_listing : Bytes → ListingReading
read_listing = read_text acl_kind

-- The two entry points: writes an ACL's listing into a lent buffer,
abbrev pub write_listing : Bytes → Bytes → Listed
write_listing = write_text acl_kind

-- and a listing's ACL into a lent buffer.
abbrev pub read_listing_into : Bytes → Bytes → Listed
read_listing_into = read_text_into acl_kind
