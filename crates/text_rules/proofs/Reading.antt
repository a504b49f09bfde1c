-- The theorems of request b, over any kind of file: "Every ACL's listing reads back to the same bytes, and every listing accepted is the one that would be
-- written for its ACL", and the first bad line. Two wrong products that they rule out: a writer that leaves a field out, and a reader that accepts two
-- spaces.
use Prim.Native.Nat.{ℕ, ◌+◌, ◌*◌, ◌%◌, ◌≤◌}
use native.Mathlib.Omega.{arith}
use mathlib.Core.Path.{◌≡◌, refl, sym, ◌∙◌, ap, ap₂}
use mathlib.Core.List.{List, [], ◌∷◌, ◌++◌, map, flatten}
use mathlib.Core.Option.{Option, none, some}
use mathlib.Core.Bool.{Bool, true, false, not, false≢true}
use lib.ListN.{length}
use lib.Dec.{eqb, leb}
use borrow.Author.Tests.{eqb-true, eq-eqb, le-leb}
use Rattle.rules.specs.Sizes.{record_bytes}
use Rattle.rules.specs.Numbers.{bad_length, malformed}
use Rattle.rules.specs.Basics.{Bytes, Every, present, records, fits, unless, first_fault, scan, file_fault}
use Rattle.rules.proofs.Laws.{never, and_left, and_right, not_both, same_eq, same_refl, unless_passed, or_next_first, or_next_next, fault_none_every}
use Rattle.text_rules.specs.Words.{text_by}
use Rattle.text_rules.specs.Kinds.{FileKind, fault_from, records_fault, kind_fault}
use Rattle.text_rules.specs.Listing.{lines_of, as_written, TextState, good_in, fault_at_line, past_line, text_end, text_fault, bytes_by, read_as, bad_line, reading_of, read_text, Octet, IsRecord, going_on, so_far, BadAfter, FirstBad}
use Rattle.text_rules.proofs.Digits.{every_append}
use Rattle.text_rules.proofs.Lines.{one_line, lines_of_flat, flat_lines}
use Rattle.text_rules.proofs.Files.{records_flat, records_all, flat_length, flat_records}

-- What the theorems ask of a kind of file. A record without fault is told by its line; what a line tells is a record; a record's line is one line; a
-- record that is missing at the end gives 2; no file, as far as it goes, has more than `most` records.
pub record Lawful {S : Type 0} (k : FileKind S) : Type 0 where
  pub back : (s : S) (r : Bytes) → IsRecord r → k.fault s r ≡ none → k.told (k.line r) ≡ r
  pub whole : (line : Bytes) → IsRecord (k.told line)
  pub one : (r : Bytes) → one_line (k.line r) ≡ true
  pub ends : (s : S) (f : ℕ) → k.end s ≡ some f → f ≡ malformed
  pub few : (rs : List Bytes) → Every IsRecord rs → so_far k rs ≡ none → length rs ≤ k.most

flat_octets : (rs : List Bytes) → Every IsRecord rs → Every Octet (flatten rs)
unfolding flatten
flat_octets [] h = tt
flat_octets (r ∷ rs) h = every_append Octet r (flatten rs) h.0.octets (flat_octets rs h.1)

absent_fault : (o : Option ℕ) → not (present o) ≡ true → o ≡ none
absent_fault none e = refl
absent_fault (some f) e = absurd (false≢true e)

read_as_lem : (bytes file : Bytes) (o : Option ℕ) → reading_of bytes o ≡ read_as file → (o ≡ none) × (bytes ≡ file)
read_as_lem bytes file none e = (refl, cc)
read_as_lem bytes file (some n) e = absurd (never (cc))

read_bad : (bytes : Bytes) (n : ℕ) (o : Option ℕ) → reading_of bytes o ≡ bad_line n → o ≡ some n
read_bad bytes n none e = absurd (never (cc))
read_bad bytes n (some m) e = cc

-- an end that is bad
bad_end : (o : Option ℕ) (n m : ℕ) → ((f : ℕ) → o ≡ some f → f ≡ malformed) → unless (not (present o)) n ≡ some m → (o ≡ some malformed) × (m ≡ n)
bad_end none n m g e = absurd (never (cc))
bad_end (some f) n m g e = (ap some (g f refl), cc)

module _ {S : Type 0} (k : FileKind S) where
  -- the first bad line, read on from a place
  abbrev lines_from : TextState S → List Bytes → Option ℕ
  lines_from s ls = scan (fault_at_line k) (past_line k) (text_end k) s ls

  -- where reading stands after records
  abbrev place_after : S → List Bytes → S
  place_after s [] = s
  place_after s (r ∷ rs) = place_after (k.after s r) rs

  -- what is bad at a place: the first of the lines, or the end
  abbrev BadAt : S → List Bytes → Type 0
  BadAt s [] = k.end s ≡ some malformed
  BadAt s (l ∷ ls) = good_in k s l ≡ false

  -- the first bad line, read on from a place and a number
  record BadFrom (s : S) (n : ℕ) (ls : List Bytes) (m : ℕ) : Type 0 where
    before : List Bytes
    later : List Bytes
    lines : ls ≡ map k.line before ++ later
    count : m ≡ length before + n
    records : Every IsRecord before
    valid : going_on k s before ≡ none
    bad : BadAt (place_after s before) later

  -- records without fault have none as far as they go
  pub passed_on : (s : S) (rs : List Bytes) → fault_from k s rs ≡ none → going_on k s rs ≡ none
  unfolding scan
  passed_on s [] e = refl
  passed_on s (r ∷ rs) e =
      let later = fault_from k (k.after s r) rs in
      rw (or_next_first (k.fault s r) later e) (passed_on (k.after s r) rs (or_next_next (k.fault s r) later e))

  last_passed : (s : S) (rs : List Bytes) (r : Bytes) → going_on k s (rs ++ r ∷ []) ≡ none → k.fault (place_after s rs) r ≡ none
  unfolding scan
  last_passed s [] r e = or_next_first (k.fault s r) none e
  last_passed s (x ∷ rs) r e = last_passed (k.after s x) rs r (or_next_next (k.fault s x) (going_on k (k.after s x) (rs ++ r ∷ [])) e)

  -- records that have no fault as far as they go have the fault of their end
  end_fault : (s : S) (rs : List Bytes) → going_on k s rs ≡ none → fault_from k s rs ≡ k.end (place_after s rs)
  unfolding scan
  end_fault s [] e = refl
  end_fault s (r ∷ rs) e =
      let later = going_on k (k.after s r) rs in
      rw (or_next_first (k.fault s r) later e) (end_fault (k.after s r) rs (or_next_next (k.fault s r) later e))

  -- a file without fault
  pub whole_file : (file : Bytes) → kind_fault k file ≡ none → (length file % record_bytes ≡ 0) × (records_fault k (records file) ≡ none)
  unfolding file_fault fits
  whole_file file e =
      let h = fault_none_every _ e in
      let f = unless_passed (fits k.most file) bad_length h.0 in
      (eqb-true (length file % record_bytes) 0 (and_left (eqb (length file % record_bytes) 0) (leb (length file) (k.most * record_bytes)) f), h.1.0)

  -- A good line is the written form of the record that it tells, which has no fault there.
  pub good_line_lem : (s : S) (line : Bytes) → good_in k s line ≡ true → (k.line (k.told line) ≡ line) × (k.fault s (k.told line) ≡ none)
  unfolding good_in as_written
  good_line_lem s line e =
      let valid = not (present (k.fault s (k.told line))) in
      (same_eq (k.line (k.told line)) line (and_right valid (as_written k line) e), absent_fault (k.fault s (k.told line)) (and_left valid (as_written k line) e))

  lines_told : (s : S) (n : ℕ) (ls : List Bytes) → lines_from (record { place = s; line = n }) ls ≡ none → (map k.line (map k.told ls) ≡ ls) × (fault_from k s (map k.told ls) ≡ none)
  unfolding scan fault_at_line past_line text_end
  lines_told s n [] e = (refl, absent_fault (k.end s) (unless_passed (not (present (k.end s))) n e))
  lines_told s n (l ∷ ls) e =
      let t = k.after s (k.told l) in
      let rest = lines_from (record { place = t; line = n + 1 }) ls in
      let g = good_line_lem s l (unless_passed (good_in k s l) n (or_next_first (unless (good_in k s l) n) rest e)) in
      let i = lines_told t (n + 1) ls (or_next_next (unless (good_in k s l) n) rest e) in
      (ap₂ ◌∷◌ g.0 i.0, rw g.1 i.1)

  module _ (law : Lawful k) where
    -- A record without fault: its line tells it, and is good there.
    line_good : (s : S) (r : Bytes) → IsRecord r → k.fault s r ≡ none → good_in k s (k.line r) ≡ true
    unfolding good_in as_written
    line_good s r h e = rw (law.back s r h e, e) (same_refl (k.line r))

    -- the lines of a file's records are good
    lines_good : (s : S) (n : ℕ) (rs : List Bytes) → Every IsRecord rs → fault_from k s rs ≡ none → (lines_from (record { place = s; line = n }) (map k.line rs) ≡ none) × (map k.told (map k.line rs) ≡ rs)
    unfolding scan text_end fault_at_line past_line
    lines_good s n [] h e = (rw e, refl)
    lines_good s n (r ∷ rs) h e =
        let later = fault_from k (k.after s r) rs in
        let p = or_next_first (k.fault s r) later e in
        let i = lines_good (k.after s r) (n + 1) rs h.1 (or_next_next (k.fault s r) later e) in
        let t = law.back s r h.0 p in
        (rw (line_good s r h.0 p, t) i.0, ap₂ ◌∷◌ t i.1)

    -- the lines that these are
    lines_one : (rs : List Bytes) → Every (λ l. one_line l ≡ true) (map k.line rs)
    lines_one [] = tt
    lines_one (r ∷ rs) = (law.one r, lines_one rs)

    -- "Every ACL's listing reads back to the same bytes."
    pub text_read_back : (file : Bytes) → Every Octet file → kind_fault k file ≡ none → read_text k (text_by k.line file) ≡ read_as file
    unfolding read_text text_fault bytes_by text_by
    text_read_back file o e =
        let w = whole_file file e in
        let g = lines_good k.start 1 (records file) (records_all file w.0 o) w.1 in
        rw (lines_of_flat (map k.line (records file)) (lines_one (records file)), g.0, g.1, records_flat file w.0)

    all_records : (ls : List Bytes) → Every IsRecord (map k.told ls)
    all_records [] = tt
    all_records (l ∷ ls) = (law.whole l, all_records ls)

    -- records without fault make a file without fault
    flat_file : (rs : List Bytes) → Every IsRecord rs → records_fault k rs ≡ none → kind_fault k (flatten rs) ≡ none
    unfolding file_fault fits first_fault
    flat_file rs h e =
        let l = flat_length rs h in
        let f = law.few rs h (passed_on k.start rs e) in
        let a = eq-eqb (length (flatten rs) % record_bytes) 0 (omega arith) in
        let b = le-leb (length (flatten rs)) (k.most * record_bytes) (omega arith) in
        rw (a, b, flat_records rs h, e)

    -- "Every listing accepted is the one that would be written for its ACL."
    pub text_as_written : (text file : Bytes) → read_text k text ≡ read_as file → (kind_fault k file ≡ none) × (text_by k.line file ≡ text) × Every Octet file
    unfolding read_text text_fault bytes_by text_by
    text_as_written text file e =
        let ls = lines_of text in
        let p = read_as_lem (bytes_by k.told text) file (text_fault k text) e in
        let g = lines_told k.start 1 ls p.0 in
        let h = all_records ls in
        let f : flatten (map k.told ls) ≡ file = p.1 in
        rw (← f) (flat_file (map k.told ls) h g.1, rw (flat_records (map k.told ls) h, g.0) (flat_lines text), flat_octets (map k.told ls) h)

    bad_from : (s : S) (n : ℕ) (ls : List Bytes) (m : ℕ) → lines_from (record { place = s; line = n }) ls ≡ some m → BadFrom s n ls m
    unfolding scan fault_at_line past_line text_end
    bad_from s n [] m e =
        let b = bad_end (k.end s) n m (law.ends s) e in
        let j = b.1 in
        record { before = []; later = []; lines = refl; count = omega arith; records = tt; valid = refl; bad = b.0 }
    bad_from s n (l ∷ ls) m e = pick (good_in k s l) refl (bad_from (k.after s (k.told l)) (n + 1) ls m)
      where
        pick : (b : Bool) → good_in k s l ≡ b → (lines_from (record { place = k.after s (k.told l); line = n + 1 }) ls ≡ some m → BadFrom (k.after s (k.told l)) (n + 1) ls m) → BadFrom s n (l ∷ ls) m
        pick false d f =
            let q : some n ≡ some m = rw d at e in
            let j : m ≡ n = cc in
            record { before = []; later = l ∷ ls; lines = refl; count = omega arith; records = tt; valid = refl; bad = d }
        pick true d f =
            let i = f (rw d at e) in
            let g = good_line_lem s l d in
            let c = i.count in
            record {
              before = k.told l ∷ i.before;
              later = i.later;
              lines = ap₂ ◌∷◌ (sym g.0) i.lines;
              count = omega arith;
              records = (law.whole l, i.records);
              valid = rw g.1 i.valid;
              bad = i.bad;
            }

    -- "A line that is not the written form of a record valid there gives .. the first such line's number, from 1."; an end where a record is missing
    -- gives "the next line's number".
    pub first_bad : (text : Bytes) (n : ℕ) → read_text k text ≡ bad_line n → FirstBad k text n
    unfolding read_text text_fault
    first_bad text n e =
        let f = bad_from k.start 1 (lines_of text) n (read_bad (bytes_by k.told text) n (text_fault k text) e) in
        record {
          before = f.before;
          later = f.later;
          lines = f.lines;
          count = f.count;
          records = f.records;
          valid = f.valid;
          bad = there f.before f.later f.valid f.bad;
        }
      where
        there : (before later : List Bytes) → so_far k before ≡ none → BadAt (place_after k.start before) later → BadAfter k before later
        there before [] v b = end_fault k.start before v ∙ b
        there before (l ∷ ls) v b = λ r h p q.
            not_both (good_in k (place_after k.start before) l)
            (rw q at (line_good (place_after k.start before) r h (last_passed k.start before r p))) b

    -- The number of a bad line is small: no file has more than `most` records.
    pub bad_number : (text : Bytes) (n : ℕ) → read_text k text ≡ bad_line n → n ≤ k.most + 1
    bad_number text n e =
        let f = first_bad text n e in
        let c = f.count in
        let l = law.few f.before f.records f.valid in
        omega arith
