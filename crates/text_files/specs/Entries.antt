-- What the entry points answer for each kind of file, as the definitions have it.
use Rattle.std.specs.Prelude as std
use Rattle.std.proofs.Math.Option.{Option, none, some}
use Rattle.rules.specs.Basics.{Bytes}
use Rattle.text_rules.specs.Kinds.{acl_kind, request_kind, requests_kind, bundle_kind, hints_kind}
use Rattle.text_rules.specs.Listing.{Listed, write_text, read_text_into}
use Rattle.text_acl.specs.Answers.{after_line}
use Rattle.text_states.specs.declared.State.{State}
use Rattle.text_states.specs.States.{AnyState, state_as, kind_from}
use Rattle.text_files.specs.declared.Kind.{Kind}
use Rattle.text_files.specs.declared.Kind.TheVariants.{Acl, Request, Requests, Bundle, Hints}

-- a file's text into a lent buffer
abbrev pub written_as : Kind → Bytes → Bytes → Listed
written_as Acl file buffer = write_text acl_kind file buffer
written_as Request file buffer = write_text request_kind file buffer
written_as Requests file buffer = write_text requests_kind file buffer
written_as Bundle file buffer = write_text bundle_kind file buffer
written_as Hints file buffer = write_text hints_kind file buffer

-- a text's file into a lent buffer
abbrev pub read_as : Kind → Bytes → Bytes → Listed
read_as Acl text buffer = read_text_into acl_kind text buffer
read_as Request text buffer = read_text_into request_kind text buffer
read_as Requests text buffer = read_text_into requests_kind text buffer
read_as Bundle text buffer = read_text_into bundle_kind text buffer
read_as Hints text buffer = read_text_into hints_kind text buffer

-- the state after a line, if the line is good
abbrev pub line_after : AnyState → Bytes → Option AnyState
line_after s line = after_line (kind_from s) s line

-- what the code answers
abbrev pub state_or : std.Option State → Option AnyState
state_or std.None = none
state_or (std.Some s) = some (state_as s)
