-- The lines of a text one after the other, judged and decoded, and what reading answers: over any kind of file.
use Prim.Native.Nat.{ℕ, suc, ◌+◌, ◌-◌, ◌*◌, ◌/◌, ◌≤◌, ◌<◌}
use native.Mathlib.Omega.{arith}
use mathlib.Core.Path.{◌≡◌, refl, sym, ◌∙◌, ap}
use mathlib.Core.List.{List, [], ◌∷◌, ◌++◌, map, flatten}
use mathlib.Core.Option.{Option, none, some}
use mathlib.Core.Bool.{Bool, true, false}
use lib.ListN.{length, take, drop, length-drop, drop_of_length-le}
use lib.Seq.{take_all}
use borrow.Author.Tests.{le-leb, lt-leb}
use Rattle.rules.specs.Sizes.{record_bytes}
use Rattle.rules.specs.Basics.{Bytes, Every, same, present, unless, or_next, scan, records}
use Rattle.rules.specs.Acl.{AclState, after_record, acl_record_fault, acl_end}
use Rattle.rules.proofs.Laws.{never}
use Rattle.rules.proofs.Rows.{first, no_rows}
use Rattle.refusals.specs.Refusals.{refusal_number}
use Rattle.refusals.specs.declared.Refusal.{Refusal}
use Rattle.acl_reader.specs.declared.state.State.{State}
use Rattle.acl_reader.specs.Places.{stopped, on, read_past, reading, reading_as, acl_state_as}
use Rattle.std.specs.Prelude.{Result, Ok, Err, if◌then◌else◌}
use Rattle.refusals.specs.declared.Refusal.TheVariants.{ShortBuffer}
use Rattle.text_rules.specs.Words.{line_of}
use Rattle.text_rules.specs.Decoding.{decoded}
use Rattle.text_rules.specs.Kinds.{FileKind, acl_kind}
use Rattle.text_rules.specs.Listing.{lines_of, as_written, good_in, fault_at_line, past_line, text_end, text_fault, bytes_by, reading_of, read_text, produced, delivered_as, read_text_into, IsRecord}
use Rattle.text_rules.proofs.Records.{decoded_record}
use Rattle.text_rules.proofs.Files.{flat_length}
use Rattle.text_bytes.specs.Putting.{Put, Held}
use Rattle.text_bytes.proofs.Laws.{put_front, Filled, filled_none, filled_room, filled_piece, filled_all}
use Rattle.text_acl.specs.Answers.{IsListed, after_line, lines_for, lines_found}
use Rattle.text_acl.specs.declared.TextError.{TextError}
use Rattle.text_acl.specs.declared.TextError.TheVariants.{Refused, BadLine}
use Rattle.text_lexer.specs.Telling.{LineEnds}
use Rattle.text_acl.proofs.Writing.{put_over}

-- a record has 64 bytes
pub decoded_length : (line : Bytes) → length (decoded line) ≡ 64
decoded_length line = (decoded_record line).whole

-- a record in an array of its own
pub decoded_whole : (line old new : Bytes) (r : ℕ) → length new ≡ 64 → Put (decoded line) 0 old new r → new ≡ decoded line
decoded_whole line old new r l p =
    let e = p.end in
    let d = decoded_length line in
    sym (take_all r new (omega arith)) ∙ put_front p

-- a line in an array of its own
pub line_same : (w : ℕ) (t line old l : Bytes) (n : ℕ) (b : Bool) → Held w t 0 old line n → b ≡ same (take n line) l → b ≡ same t l
line_same w t line old l n b p e = rw (put_front p.written) at e

-- A record by itself, as the reader of ACLs reads it from a place: its fault, and the place after it.
module _ (s : AclState) (rec : Bytes) (h : length rec ≡ 64) where
  record_read : reading s (records rec) ≡ read_past (acl_record_fault s rec) (on (after_record s rec))
  unfolding reading
  record_read =
      let d : records (drop 64 rec) ≡ [] = no_rows (drop 64 rec) (omega (arith, length-drop 64 rec)) in
      let e : records rec ≡ rec ∷ [] = first rec (omega arith) ∙ rw (take_all 64 rec (omega arith), d) in
      ap (reading s) e

-- a line by the fault of its record: of one, it is bad; without, it is good if it is the written form
module _ {S : Type 0} (k : FileKind S) (s : S) (line rec : Bytes) (er : rec ≡ k.told line) where
  pub line_faulty : (f : ℕ) → k.fault s rec ≡ some f → none ≡ after_line k s line
  unfolding after_line good_in
  line_faulty f e = rw (← er, e) refl

  module _ (b : Bool) (eb : b ≡ same (k.line rec) line) (e : k.fault s rec ≡ none) where
    pub line_good : (q : S) → q ≡ k.after s rec → b ≡ true → some q ≡ after_line k s line
    unfolding after_line good_in as_written
    line_good q eq y = rw (← er, e, ← eb, y) (ap some eq)

    pub line_other : b ≡ false → none ≡ after_line k s line
    unfolding after_line good_in as_written
    line_other n = rw (← er, e, ← eb, n) refl

-- what the reader of ACLs answers of one record
read_fault : (q : Result State Refusal) (t : AclState) (x : Option ℕ) (r : Refusal) → q ≡ Err r → reading_as q ≡ read_past x (on t) → x ≡ some (refusal_number r)
read_fault q t x r d e = pick x (sym (ap reading_as d) ∙ e)
  where
    pick : (o : Option ℕ) → stopped (refusal_number r) ≡ read_past o (on t) → o ≡ some (refusal_number r)
    pick none c = absurd (never (cc))
    pick (some n) c = let i : n ≡ refusal_number r = cc in ap some i

read_place : (q : Result State Refusal) (t : AclState) (x : Option ℕ) (p : State) → q ≡ Ok p → reading_as q ≡ read_past x (on t) → (x ≡ none) × (acl_state_as p ≡ t)
read_place q t x p d e = pick x (sym (ap reading_as d) ∙ e)
  where
    pick : (o : Option ℕ) → on (acl_state_as p) ≡ read_past o (on t) → (o ≡ none) × (acl_state_as p ≡ t)
    pick none c = let i : acl_state_as p ≡ t = cc in (refl, i)
    pick (some n) c = absurd (never (cc))

module _ (s : AclState) (line rec : Bytes) (q : Result State Refusal) (er : rec ≡ decoded line) (h : length rec ≡ 64) (e : reading_as q ≡ reading s (records rec)) where
  pub acl_faulty : (r : Refusal) → q ≡ Err r → none ≡ after_line acl_kind s line
  acl_faulty r d = line_faulty acl_kind s line rec er (refusal_number r) (read_fault q (after_record s rec) (acl_record_fault s rec) r d (e ∙ record_read s rec h))

  module _ (p : State) (d : q ≡ Ok p) (b : Bool) (eb : b ≡ same (line_of rec) line) where
    pub acl_good : b ≡ true → some (acl_state_as p) ≡ after_line acl_kind s line
    acl_good y = let f = read_place q (after_record s rec) (acl_record_fault s rec) p d (e ∙ record_read s rec h) in line_good acl_kind s line rec er b eb f.0 (acl_state_as p) f.1 y

    pub acl_other : b ≡ false → none ≡ after_line acl_kind s line
    acl_other n = let f = read_place q (after_record s rec) (acl_record_fault s rec) p d (e ∙ record_read s rec h) in line_other acl_kind s line rec er b eb f.0 n

-- the lines from a place on
unfoldable pub lines_left : Bytes → ℕ → List Bytes
lines_left text at = lines_of (drop at text)

-- the next line as code lends it
abbrev pub lent_line : Bytes → ℕ → ℕ → Bytes
lent_line text at end = take (end - at) (drop at text)

no_lines : (text : Bytes) (at : ℕ) → length text ≤ at → lines_left text at ≡ []
unfolding lines_left lines_of
no_lines text at h = ap lines_of (drop_of_length-le text {i = at} h)

-- The first pass: what is left has the whole's answer.
module _ {S : Type 0} (k : FileKind S) where
  abbrev pub judging : Bytes → S → ℕ → ℕ → Option ℕ
  judging text s at line = scan (fault_at_line k) (past_line k) (text_end k) (record { place = s; line = line }) (lines_left text at)

  pub record LinesJudged (text : Bytes) (s : S) (at line : ℕ) : Type 0 where
    pub fault : judging text s at line ≡ text_fault k text
    pub count : line + length (lines_left text at) ≡ length (lines_of text) + 1

  pub judged_none : (text : Bytes) (s : S) → s ≡ k.start → LinesJudged text s 0 1
  unfolding text_fault lines_left
  judged_none text s e = record { fault = ap (λ (x : S). judging text x 0 1) e; count = omega arith }

  module _ (text : Bytes) (s : S) (at line n : ℕ) (en : LineEnds text at n) (p : LinesJudged text s at line) where
    step : or_next (unless (good_in k s (lent_line text at n)) line) (judging text (k.after s (k.told (lent_line text at n))) n (line + 1)) ≡ text_fault k text
    unfolding scan fault_at_line past_line lines_left
    step = sym (ap (scan (fault_at_line k) (past_line k) (text_end k) (record { place = s; line = line })) en.lines) ∙ p.fault

    pub judged_false : good_in k s (lent_line text at n) ≡ false → Err (BadLine line) ≡ lines_found k text
    unfolding lines_found
    judged_false g =
        let f : some line ≡ text_fault k text = rw g at step in
        rw (← f)

    pub judged_bad : none ≡ after_line k s (lent_line text at n) → Err (BadLine line) ≡ lines_found k text
    unfolding after_line
    judged_bad e = pick (good_in k s (lent_line text at n)) refl e
      where
        pick : (b : Bool) → good_in k s (lent_line text at n) ≡ b → none ≡ (if b then some (k.after s (k.told (lent_line text at n))) else none) → Err (BadLine line) ≡ lines_found k text
        pick true g d = absurd (never (cc))
        pick false g d = judged_false g

    pub judged_line : (t : S) → some t ≡ after_line k s (lent_line text at n) → LinesJudged text t n (line + 1)
    unfolding after_line lines_left
    judged_line t e = pick (good_in k s (lent_line text at n)) refl e
      where
        pick : (b : Bool) → good_in k s (lent_line text at n) ≡ b → some t ≡ (if b then some (k.after s (k.told (lent_line text at n))) else none) → LinesJudged text t n (line + 1)
        pick false g d = absurd (never (cc))
        pick true g d =
            let i : t ≡ k.after s (k.told (lent_line text at n)) = cc in
            let c = p.count in
            let l = ap length en.lines in
            record { fault = ap (λ (x : S). judging text x n (line + 1)) i ∙ rw g at step; count = omega arith }

  -- the end: a record is missing there or not
  module _ (text : Bytes) (s : S) (at line : ℕ) (h : length text ≤ at) (p : LinesJudged text s at line) where
    last : text_end k (record { place = s; line = line }) ≡ text_fault k text
    unfolding scan
    last = sym (ap (scan (fault_at_line k) (past_line k) (text_end k) (record { place = s; line = line })) (no_lines text at h)) ∙ p.fault

    pub judged_missing : present (k.end s) ≡ true → Err (BadLine line) ≡ lines_found k text
    unfolding lines_found text_end
    judged_missing d =
        let f : some line ≡ text_fault k text = rw d at last in
        rw (← f)

    pub judged_all : (n : ℕ) → present (k.end s) ≡ false → n ≡ line - 1 → Ok n ≡ lines_found k text
    unfolding lines_found text_end
    judged_all n d ek =
        let f : none ≡ text_fault k text = rw d at last in
        let l = ap length (no_lines text at h) in
        let c = p.count in
        let e : n ≡ length (lines_of text) = omega arith in
        rw (← f) (rw e refl)

-- the end of an ACL: kind 15 is due there or not
pub end_due : (s : AclState) → s.file_due ≡ true → present (acl_end s) ≡ true
end_due s d = rw d

pub end_sound : (s : AclState) → s.file_due ≡ false → present (acl_end s) ≡ false
end_sound s d = rw d

-- The second pass: the records of the lines from a place on.
unfoldable pub records_left : (Bytes → Bytes) → Bytes → ℕ → Bytes
records_left told text at = flatten (map told (lines_left text at))

records_start : (told : Bytes → Bytes) (text : Bytes) → bytes_by told text ≡ records_left told text 0
unfolding records_left lines_left bytes_by
records_start told text = refl

records_none : (told : Bytes → Bytes) (text : Bytes) (at : ℕ) → length text ≤ at → records_left told text at ≡ []
unfolding records_left flatten
records_none told text at h = ap (λ (ls : List Bytes). flatten (map told ls)) (no_lines text at h)

module _ (told : Bytes → Bytes) (text old : Bytes) where
  pub records_filled : Filled (bytes_by told text) (records_left told text 0) 0 old old 0
  records_filled = rw (← records_start told text) (filled_none (bytes_by told text) old 0 (omega arith))

  module _ (now : Bytes) (at end : ℕ) (p : Filled (bytes_by told text) (records_left told text at) 0 old now end) where
    module _ (n : ℕ) (en : LineEnds text at n) where
      next_record : records_left told text at ≡ told (lent_line text at n) ++ records_left told text n
      unfolding records_left lines_left flatten
      next_record = ap (λ (ls : List Bytes). flatten (map told ls)) en.lines

      pub record_room : length (told (lent_line text at n)) ≡ 64 → length (bytes_by told text) ≤ length old → end + 64 ≤ length now
      record_room d l =
          let r = filled_room (told (lent_line text at n)) (records_left told text n) (rw next_record at p) (omega arith) in
          omega arith

      pub record_filled : (new : Bytes) (r : ℕ) → Put (told (lent_line text at n)) end now new r → Filled (bytes_by told text) (records_left told text n) 0 old new r
      record_filled new r q = filled_piece (told (lent_line text at n)) (records_left told text n) (rw next_record at p) q

    pub records_all : length text ≤ at → Put (bytes_by told text) 0 old now end
    records_all h = filled_all (rw (records_none told text at h) at p)

-- What reading answers.
module _ {S : Type 0} (k : FileKind S) (whole : (line : Bytes) → IsRecord (k.told line)) where
  every_told : (ls : List Bytes) → Every IsRecord (map k.told ls)
  every_told [] = tt
  every_told (l ∷ ls) = (whole l, every_told ls)

  map_length : (ls : List Bytes) → length (map k.told ls) ≡ length ls
  map_length [] = refl
  map_length (l ∷ ls) = ap suc (map_length ls)

  told_length : (text : Bytes) → length (bytes_by k.told text) ≡ length (lines_of text) * record_bytes
  unfolding bytes_by
  told_length text =
      let m = map_length (lines_of text) in
      flat_length (map k.told (lines_of text)) (every_told (lines_of text)) ∙ ap (λ (n : ℕ). n * record_bytes) m

  module _ (text buffer : Bytes) (count : ℕ) (e : text_fault k text ≡ none) (l : count ≡ length (lines_of text)) where
    pub read_short : length buffer / 64 < count → IsListed (read_text_into k text buffer) (Err (Refused ShortBuffer)) buffer
    unfolding read_text_into read_text
    read_short h =
        let j = told_length text in
        rw (e, lt-leb (length (bytes_by k.told text)) (length buffer) (omega arith)) record { reply = refl; buffer = refl }

    pub read_room : count ≤ length buffer / 64 → length (bytes_by k.told text) ≤ length buffer
    read_room h = let j = told_length text in omega arith

    pub read_whole : (r : ℕ) (after : Bytes) → count ≤ length buffer / 64 → Put (bytes_by k.told text) 0 buffer after r → IsListed (read_text_into k text buffer) (Ok r) after
    unfolding read_text_into read_text
    read_whole r after h p =
        let j : r ≡ length (bytes_by k.told text) = p.end ∙ omega arith in
        rw (e, le-leb (length (bytes_by k.told text)) (length buffer) (read_room h)) record { reply = ap produced j; buffer = put_over p }

module _ {S : Type 0} (k : FileKind S) (text : Bytes) where
  pub read_bad : (buffer : Bytes) (x : TextError) → Err x ≡ lines_found k text → IsListed (read_text_into k text buffer) (Err x) buffer
  unfolding lines_found read_text_into read_text
  read_bad buffer x e = pick (text_fault k text) e
    where
      pick : (o : Option ℕ) → Err x ≡ lines_for (length (lines_of text)) o → IsListed (delivered_as buffer (reading_of (bytes_by k.told text) o)) (Err x) buffer
      pick none d = cc
      pick (some m) d = let i : x ≡ BadLine m = cc in rw i record { reply = refl; buffer = refl }

  pub found_none : (n : ℕ) → Ok n ≡ lines_found k text → (text_fault k text ≡ none) × (n ≡ length (lines_of text))
  unfolding lines_found
  found_none n e = pick (text_fault k text) e
    where
      pick : (o : Option ℕ) → Ok n ≡ lines_for (length (lines_of text)) o → (o ≡ none) × (n ≡ length (lines_of text))
      pick none d = let i : n ≡ length (lines_of text) = cc in (refl, i)
      pick (some m) d = cc
