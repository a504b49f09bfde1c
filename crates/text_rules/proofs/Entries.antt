-- The two entry points, one after the other: what is written is read back, and what is read is written again; a refusal leaves the buffer. Two wrong
-- products that this rules out: a reader that clears the buffer before it refuses, and a writer that writes past the length that it answers.
use Prim.Native.Nat.{ℕ, ◌≤◌}
use mathlib.Core.Path.{◌≡◌, refl}
use mathlib.Core.Option.{Option, none, some}
use mathlib.Core.Bool.{true, false≢true}
use lib.ListN.{length, take, drop}
use lib.Seq.{take-append_seam}
use borrow.Author.Tests.{le-leb}
use Rattle.rules.specs.Basics.{Bytes, Every, first_fault}
use Rattle.rules.proofs.Laws.{never, fault_none_every}
use Rattle.text_rules.specs.Words.{text_by}
use Rattle.text_rules.specs.Kinds.{FileKind}
use Rattle.text_rules.specs.Listing.{ListingReading, read_as, bad_line, read_text, produced, is_refusal, room_fault, delivered, writing_fault, write_text, delivered_as, read_text_into, Octet}
use Rattle.text_rules.proofs.Reading.{Lawful, text_read_back, text_as_written}

-- what was delivered, if the reply is a length
delivered_is : (result buffer : Bytes) (o : Option ℕ) (n : ℕ) → (delivered result buffer o).reply ≡ produced n → (o ≡ none) × (take n (delivered result buffer o).buffer ≡ result)
delivered_is result buffer none n e =
    let q : length result ≡ n = cc in
    (refl, rw (← q) (take-append_seam result (drop (length result) buffer)))
delivered_is result buffer (some f) n e = absurd (never (cc))

room_enough : (result buffer : Bytes) → length result ≤ length buffer → room_fault result buffer ≡ none
room_enough result buffer l = rw (le-leb (length result) (length buffer) l)

delivered_stays : (result buffer : Bytes) (o : Option ℕ) → is_refusal (delivered result buffer o).reply ≡ true → (delivered result buffer o).buffer ≡ buffer
delivered_stays result buffer none e = absurd (false≢true e)
delivered_stays result buffer (some f) e = refl

module _ {S : Type 0} (k : FileKind S) where
  -- A refusal leaves the buffer as it was.
  pub write_refused : (file buffer : Bytes) → is_refusal (write_text k file buffer).reply ≡ true → (write_text k file buffer).buffer ≡ buffer
  unfolding write_text
  write_refused file buffer e = delivered_stays (text_by k.line file) buffer (writing_fault k file buffer) e

  pub read_refused : (text buffer : Bytes) → is_refusal (read_text_into k text buffer).reply ≡ true → (read_text_into k text buffer).buffer ≡ buffer
  unfolding read_text_into
  read_refused text buffer e = pick (read_text k text) e
    where
      pick : (r : ListingReading) → is_refusal (delivered_as buffer r).reply ≡ true → (delivered_as buffer r).buffer ≡ buffer
      pick (read_as file) e = delivered_stays file buffer (room_fault file buffer) e
      pick (bad_line m) e = refl

  module _ (law : Lawful k) where
    -- What was written is read back.
    pub write_then_read : (file b c : Bytes) (n : ℕ) → Every Octet file → (write_text k file b).reply ≡ produced n → length file ≤ length c → read_text_into k (take n (write_text k file b).buffer) c ≡ delivered file c none
    unfolding write_text read_text_into writing_fault
    write_then_read file b c n o e l =
        let d = delivered_is (text_by k.line file) b (writing_fault k file b) n e in
        let f = fault_none_every _ d.0 in
        rw (d.1, text_read_back k law file o f.0, room_enough file c l)

    -- What was read is written again.
    written_again : (text b c : Bytes) (n : ℕ) (r : ListingReading) → read_text k text ≡ r → (delivered_as b r).reply ≡ produced n → length text ≤ length c → write_text k (take n (delivered_as b r).buffer) c ≡ delivered text c none
    unfolding write_text writing_fault first_fault
    written_again text b c n (read_as file) d e l =
        let w = text_as_written k law text file d in
        let f = delivered_is file b (room_fault file b) n e in
        rw (f.1, w.0, w.1, room_enough text c l)
    written_again text b c n (bad_line m) d e l = absurd (never (cc))

    pub read_then_write : (text b c : Bytes) (n : ℕ) → (read_text_into k text b).reply ≡ produced n → length text ≤ length c → write_text k (take n (read_text_into k text b).buffer) c ≡ delivered text c none
    unfolding read_text_into
    read_then_write text b c n e l = written_again text b c n (read_text k text) refl e l
