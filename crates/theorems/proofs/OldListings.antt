-- "Files accepted before must be read unchanged.", of listings: a text that was accepted under smaller tables is read to the same bytes. Two wrong products that this
-- rules out: a reader that takes a counter's number for another's, and one that refuses a line which it took before.
use Prim.Native.Nat.{ℕ}
use mathlib.Core.Path.{◌≡◌, refl, sym, ◌∙◌, ap}
use mathlib.Core.List.{List, [], ◌∷◌}
use mathlib.Core.Option.{Option, none, some}
use mathlib.Core.Bool.{true, not, ◌&&◌, false≢true}
use Rattle.rules.specs.Sizes.{Capacity, today}
use Rattle.rules.specs.Basics.{Bytes, present, same, scan}
use Rattle.rules.specs.Acl.{AclState, record_fault_under}
use Rattle.rules.proofs.Laws.{never, and_left, and_right, unless_passed, or_next_first, or_next_next}
use Rattle.text_rules.specs.Words.{line_of}
use Rattle.text_rules.specs.Decoding.{decoded}
use Rattle.text_rules.specs.Listing.{lines_of, TextState, text_start, as_written, good_in, fault_at_line, past_line, text_end, text_fault, bytes_by, read_as, reading_of, read_text, read_listing}
use Rattle.theorems.specs.Capacity.{base, NoSmaller, acl_kind_under, read_listing_under}
use Rattle.theorems.proofs.Larger.{record_more, base_smaller}

-- At today's sizes it is the reader of listings.
pub today_listing : (text : Bytes) → read_listing_under today text ≡ read_listing text
today_listing text = refl

-- A line that is good under some sizes is good under larger ones.
not_present : (o : Option ℕ) → not (present o) ≡ true → o ≡ none
not_present none e = refl
not_present (some n) e = absurd (false≢true e)

line_more : (small large : Capacity) → NoSmaller small large → (s : TextState AclState) (line : Bytes) → fault_at_line (acl_kind_under small) s line ≡ none → fault_at_line (acl_kind_under large) s line ≡ none
unfolding fault_at_line good_in as_written
line_more small large more s line e =
    let a = unless_passed (not (present (record_fault_under small s.place (decoded line))) && same (line_of (decoded line)) line) s.line e in
    let b = not_present _ (and_left (not (present (record_fault_under small s.place (decoded line)))) (same (line_of (decoded line)) line) a) in
    let c = record_more small large more s.place (decoded line) b in
    let d = and_right (not (present (record_fault_under small s.place (decoded line)))) (same (line_of (decoded line)) line) a in
    rw (c, d)

lines_more : (small large : Capacity) → NoSmaller small large → (s : TextState AclState) (lines : List Bytes)
    → scan (fault_at_line (acl_kind_under small)) (past_line (acl_kind_under small)) (text_end (acl_kind_under small)) s lines ≡ none
    → scan (fault_at_line (acl_kind_under large)) (past_line (acl_kind_under large)) (text_end (acl_kind_under large)) s lines ≡ none
unfolding scan past_line text_end
lines_more small large more s [] e = e
lines_more small large more s (line ∷ lines) e =
    rw (line_more small large more s line (or_next_first (fault_at_line (acl_kind_under small) s line) _ e))
    (lines_more small large more (past_line (acl_kind_under small) s line) lines (or_next_next (fault_at_line (acl_kind_under small) s line) _ e))

-- a text that is read as an ACL has no bad line, and the bytes are those that its lines say
read_is : (bytes file : Bytes) (o : Option ℕ) → reading_of bytes o ≡ read_as file → (o ≡ none) × (bytes ≡ file)
read_is bytes file none e = (refl, cc)
read_is bytes file (some n) e = absurd (never (cc))

pub listing_under : (small large : Capacity) → NoSmaller small large → (text file : Bytes) → read_listing_under small text ≡ read_as file → read_listing_under large text ≡ read_as file
unfolding read_text text_fault
listing_under small large more text file e =
    let r = read_is (bytes_by decoded text) file _ e in
    rw (lines_more small large more (text_start (acl_kind_under small)) (lines_of text) r.0) (ap read_as r.1)

-- A listing that was accepted under document 01's sizes is read to the same bytes.
pub listing_unchanged : (text file : Bytes) → read_listing_under base text ≡ read_as file → read_listing text ≡ read_as file
listing_unchanged text file e = sym (today_listing text) ∙ listing_under base today base_smaller text file e
