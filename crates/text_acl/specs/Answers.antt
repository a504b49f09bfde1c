-- What the entry points of listings answer, as the definitions have it.
use Rattle.std.specs.Prelude.{ℕ, ◌≡◌, length, Result, Ok, Err, if◌then◌else◌}
use Rattle.std.proofs.Math.Option.{Option, none, some}
use Rattle.rules.specs.Numbers.{not_listing}
use Rattle.rules.specs.Basics.{Bytes}
use Rattle.refusals.specs.Refusals.{refusal_number}
use Rattle.text_rules.specs.Kinds.{FileKind}
use Rattle.text_rules.specs.Listing.{lines_of, good_in, text_fault, ListingReply, produced, refused_with, refused_at, Listed}
use Rattle.text_acl.specs.declared.TextError.{TextError}
use Rattle.text_acl.specs.declared.TextError.TheVariants.{Refused, BadLine}

-- a length, a refusal's number, or number 15 with a line's number
abbrev pub listing_reply_as : Result ℕ TextError → ListingReply
listing_reply_as (Ok n) = produced n
listing_reply_as (Err (Refused r)) = refused_with (refusal_number r)
listing_reply_as (Err (BadLine n)) = refused_at not_listing n

-- a reply, and every byte of the lent buffer afterwards
pub record IsListed (is : Listed) (r : Result ℕ TextError) (after : Bytes) : Type 0 where
  pub reply : listing_reply_as r ≡ is.reply
  pub buffer : after ≡ is.buffer

-- the state after a good line; none after another
unfoldable pub after_line : {S : Type 0} → FileKind S → S → Bytes → Option S
after_line k s line = if good_in k s line then some (k.after s (k.told line)) else none

-- what the first pass over a text finds: the number of lines, or that of the first bad one
abbrev pub lines_for : ℕ → Option ℕ → Result ℕ TextError
lines_for count none = Ok count
lines_for count (some n) = Err (BadLine n)

unfoldable pub lines_found : {S : Type 0} → FileKind S → Bytes → Result ℕ TextError
lines_found k text = lines_for (length (lines_of text)) (text_fault k text)
