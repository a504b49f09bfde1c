-- The letters of a replay script (docs/REPLAY.md) that write into one lent buffer, by their numbers, and the definition that each stands for.
use Rattle.std.specs.Prelude.{ℕ, eqb, if◌then◌else◌}
use Rattle.rules.specs.Basics.{Bytes}
use Rattle.rules.specs.Subject.{subject_buffer}
use Rattle.text_rules.specs.Listing.{write_listing, read_listing_into}
use Rattle.text_kinds.specs.Kinds.{text_kind, written_for, read_for}

-- S, W, T, V, U: the buffer after a subject, a listing that is written, one that is read, and a text of a numbered kind of file that is written or read
unfoldable pub buffer_after : ℕ → ℕ → ℕ → Bytes → Bytes → Bytes
buffer_after letter first second given buffer =
    if eqb letter 83 then subject_buffer first second given buffer
    else if eqb letter 87 then (write_listing given buffer).buffer
    else if eqb letter 84 then (read_listing_into given buffer).buffer
    else if eqb letter 86 then (written_for (text_kind first) given buffer).buffer
    else (read_for (text_kind first) given buffer).buffer
