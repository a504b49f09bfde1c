-- The theorems of request b about an ACL and its listing: what holds of every kind of file, for this kind.
use Prim.Native.Nat.{ℕ, ◌+◌, ◌≤◌}
use mathlib.Core.Path.{◌≡◌}
use mathlib.Core.Option.{none, some}
use mathlib.Core.Bool.{Bool, true, false, not}
use Rattle.rules.specs.Sizes.{acl_records}
use Rattle.rules.specs.Numbers.{malformed}
use Rattle.rules.specs.Basics.{Bytes, Every, unless}
use Rattle.rules.specs.Acl.{acl_fault_under, acl_file_fault}
use Rattle.rules.proofs.Laws.{never}
use Rattle.text_rules.specs.Words.{listing_of}
use Rattle.text_rules.specs.Kinds.{acl_kind}
use Rattle.text_rules.specs.Listing.{read_as, bad_line, read_listing, Octet, FirstBad}
use Rattle.text_rules.proofs.Records.{decoded_line, decoded_record}
use Rattle.text_rules.proofs.Lines.{line_of_one}
use Rattle.text_rules.proofs.Reading.{Lawful, text_read_back, text_as_written, first_bad, bad_number}
use Rattle.text_rules.proofs.Room.{record_passed, acl_few}

pub acl_lawful : Lawful acl_kind
acl_lawful =
    record {
      back = λ s r h e. decoded_line s r h (record_passed s r e).0;
      whole = decoded_record;
      one = line_of_one;
      ends = λ s. due s.file_due;
      few = λ rs h e. acl_few rs e;
    }
  where
    due : (b : Bool) (f : ℕ) → unless (not b) malformed ≡ some f → f ≡ malformed
    due true f e = cc
    due false f e = absurd (never (cc))

-- "Every ACL's listing reads back to the same bytes."
pub listing_read_back : (file : Bytes) → Every Octet file → acl_file_fault file ≡ none → read_listing (listing_of file) ≡ read_as file
unfolding acl_fault_under
listing_read_back = text_read_back acl_kind acl_lawful

-- "Every listing accepted is the one that would be written for its ACL."
pub accepted_is_written : (text file : Bytes) → read_listing text ≡ read_as file → (acl_file_fault file ≡ none) × (listing_of file ≡ text) × Every Octet file
unfolding acl_fault_under
accepted_is_written = text_as_written acl_kind acl_lawful

-- "A line that is not the written form of a record valid there gives .. the first such line's number, from 1."; an end where kind 15 is due gives "the
-- next line's number".
pub first_bad_line : (text : Bytes) (n : ℕ) → read_listing text ≡ bad_line n → FirstBad acl_kind text n
first_bad_line = first_bad acl_kind acl_lawful

-- The number of a bad line is small: no ACL has more than `acl_records` records.
pub bad_line_bound : (text : Bytes) (n : ℕ) → read_listing text ≡ bad_line n → n ≤ acl_records + 1
bad_line_bound = bad_number acl_kind acl_lawful
