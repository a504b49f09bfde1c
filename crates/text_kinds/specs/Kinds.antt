-- The kinds of file by their numbers in the header and in replay scripts, and what the entry points for texts answer for a number.
use Rattle.std.specs.Prelude.{ℕ, eqb, if◌then◌else◌, Result, Ok, Err}
use Rattle.std.proofs.Math.Option.{Option, none, some}
use Rattle.rules.specs.Numbers.{out_of_range}
use Rattle.rules.specs.Basics.{Bytes}
use Rattle.refusals.specs.declared.Refusal.{Refusal}
use Rattle.refusals.specs.declared.Refusal.TheVariants.{OutOfRange}
use Rattle.text_rules.specs.Listing.{Listed, refused_with}
use Rattle.text_files.specs.Entries.{written_as, read_as}
use Rattle.text_files.specs.declared.Kind.{Kind}
use Rattle.text_files.specs.declared.Kind.TheVariants.{Acl, Request, Requests, Bundle, Hints}

-- AKUBOLINFE_TEXT_ACL to AKUBOLINFE_TEXT_HINTS; no other number is a kind's
unfoldable pub text_kind : ℕ → Option Kind
text_kind n =
    if eqb n 0 then some Acl
    else if eqb n 1 then some Request
    else if eqb n 2 then some Requests
    else if eqb n 3 then some Bundle
    else if eqb n 4 then some Hints
    else none

-- the code's answer
abbrev pub known_kind : Option Kind → Result Kind Refusal
known_kind (some k) = Ok k
known_kind none = Err OutOfRange

-- an unknown kind is refused before anything else is checked
abbrev pub unknown_kind : Bytes → Listed
unknown_kind buffer = record { reply = refused_with out_of_range; buffer = buffer }

-- a file's text into a lent buffer
unfoldable pub written_for : Option Kind → Bytes → Bytes → Listed
written_for none file buffer = unknown_kind buffer
written_for (some k) file buffer = written_as k file buffer

-- a text's file into a lent buffer
unfoldable pub read_for : Option Kind → Bytes → Bytes → Listed
read_for none text buffer = unknown_kind buffer
read_for (some k) text buffer = read_as k text buffer
