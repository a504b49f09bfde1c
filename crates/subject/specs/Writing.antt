-- What the answers of this crate say, and bytes written over the front of a buffer.
use Rattle.std.specs.Prelude.{Result, Ok, Err, ℕ, [], ◌∷◌, ◌++◌, length, drop, eqb, leb}
use Rattle.std.proofs.Math.Option.{Option, some}
use Rattle.rules.specs.Numbers.{bad_length, short_buffer}
use Rattle.rules.specs.Basics.{Bytes, unless, first_fault}
use Rattle.rules.specs.Suites.{header_under}
use Rattle.rules.specs.Subject.{SubjectReply, written, unwritten, header_bytes, written_length, written_over}
use Rattle.refusals.specs.declared.Refusal.{Refusal}
use Rattle.refusals.specs.Refusals.{refusal_number}
use Rattle.suites.specs.declared.Suite.{Suite}
use Rattle.suites.specs.Calls.{suite_as}

-- a length, or the number of a refusal
abbrev pub subject_reply_as : Result ℕ Refusal → SubjectReply
subject_reply_as (Ok n) = written n
subject_reply_as (Err r) = unwritten (refusal_number r)

-- the header of a certificate under a suite
abbrev pub header_of : ℕ → Suite → Bytes
header_of certificate s = header_bytes (header_under certificate (some (suite_as s)))

-- new bytes over the front of old ones: what is past them is unchanged
unfoldable pub overwritten : Bytes → Bytes → Bytes
overwritten new old = new ++ drop (length new) old

-- A header, then hashes of a length: 1, "subject hashes of wrong length", then 9, "subject's buffer too short".
unfoldable pub headed_fault : Bytes → ℕ → Bytes → Bytes → Option ℕ
headed_fault header size hashes buffer =
    first_fault
    (unless (eqb (length hashes) size) bad_length
    ∷ unless (leb (length (header ++ hashes)) (length buffer)) short_buffer
    ∷ [])

-- the reply
unfoldable pub headed_reply : Bytes → ℕ → Bytes → Bytes → SubjectReply
headed_reply header size hashes buffer = written_length (length (header ++ hashes)) (headed_fault header size hashes buffer)

-- the buffer afterwards
unfoldable pub headed_buffer : Bytes → ℕ → Bytes → Bytes → Bytes
headed_buffer header size hashes buffer = written_over (header ++ hashes) buffer (headed_fault header size hashes buffer)
