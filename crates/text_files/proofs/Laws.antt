-- A record read in a state, by what the code answered, and what the entry points answer.
use Prim.Native.Nat.{ℕ, ◌+◌, ◌-◌, ◌*◌, ◌/◌, ◌≤◌, ◌<◌}
use native.Mathlib.Omega.{arith}
use mathlib.Core.Path.{◌≡◌, refl, sym, ◌∙◌, ap}
use mathlib.Core.List.{List, [], ◌∷◌}
use mathlib.Core.Option.{Option, none, some}
use mathlib.Core.Bool.{Bool, true, false, not}
use lib.ListN.{length, drop, get_or}
use lib.Seq.{take_all}
use borrow.Author.Tests.{not-true, not-false}
use Rattle.rules.specs.Sizes.{record_bytes}
use Rattle.rules.specs.Numbers.{bad_length}
use Rattle.rules.specs.Basics.{Bytes, same, present, records, or_next, fits, first_fault, scan, file_fault}
use Rattle.rules.specs.Bundle.{bundle_start}
use Rattle.rules.proofs.Laws.{never}
use Rattle.record_fields.proofs.Walks.{left_at, left_none}
use Rattle.refusals.specs.Refusals.{refusal_number}
use Rattle.refusals.specs.declared.Refusal.{Refusal}
use Rattle.refusals.specs.declared.Refusal.TheVariants.{ShortBuffer}
use Rattle.std.specs.Prelude.{Result, Ok, Err}
use Rattle.text_rules.specs.Words.{text_by}
use Rattle.text_rules.specs.OtherWords.{record_line}
use Rattle.text_rules.specs.OtherDecoding.{record_of}
use Rattle.text_rules.specs.Kinds.{kind_fault, request_due, acl_kind}
use Rattle.text_rules.specs.Listing.{Listed, lines_of, as_written, good_in, text_fault, bytes_by, write_text, read_text_into}
use Rattle.text_rules.proofs.Others.{told_record}
use Rattle.text_bytes.specs.Putting.{Put}
use Rattle.text_bytes.proofs.Laws.{put_front}
use Rattle.text_acl.specs.Answers.{IsListed, after_line, lines_found}
use Rattle.text_acl.specs.declared.TextError.{TextError}
use Rattle.text_acl.specs.declared.TextError.TheVariants.{Refused, BadLine}
use Rattle.text_lexer.specs.Telling.{LineEnds}
use Rattle.text_acl.proofs.Writing.{small_file, write_short, write_whole}
use Rattle.text_acl.proofs.Reading.{LinesJudged, lent_line, line_faulty, line_good, line_other, judged_none, judged_bad, judged_line, judged_missing, judged_all, read_short, read_room, read_whole}
use Rattle.text_states.specs.States.{AnyState, of_request, of_requests, of_bundle, of_hints, state_fault, state_after, state_end, state_most, kind_from, state_as, stopped, on, past, step_of, step_as}
use Rattle.text_states.specs.declared.State.{State}
use Rattle.text_files.specs.Entries.{line_after, written_as, read_as}
use Rattle.text_files.specs.declared.Kind.{Kind}
use Rattle.text_files.specs.declared.Kind.TheVariants.{Acl, Request, Requests, Bundle, Hints}
use Rattle.text_files.proofs.Same.{write_request, read_request, write_requests, read_requests, write_bundle, read_bundle, write_hints, read_hints}

-- a record has 64 bytes
pub record_length : (line : Bytes) → length (record_of line) ≡ 64
record_length line = (told_record line).whole

-- a record in an array of its own
pub record_whole : (line old new : Bytes) (r : ℕ) → length new ≡ 64 → Put (record_of line) 0 old new r → new ≡ record_of line
record_whole line old new r l p =
    let e = p.end in
    let d = record_length line in
    sym (take_all r new (omega arith)) ∙ put_front p

-- what a step says of the record, and the state after it
step_fault : (q : Result State Refusal) (s : AnyState) (rec : Bytes) (r : Refusal) → q ≡ Err r → step_as q ≡ step_of s rec → state_fault s rec ≡ some (refusal_number r)
unfolding step_of
step_fault q s rec r d e = pick (state_fault s rec) (sym (ap step_as d) ∙ e)
  where
    pick : (o : Option ℕ) → stopped (refusal_number r) ≡ past o (state_after s rec) → o ≡ some (refusal_number r)
    pick none c = absurd (never (cc))
    pick (some n) c = let i : n ≡ refusal_number r = cc in ap some i

step_state : (q : Result State Refusal) (s : AnyState) (rec : Bytes) (p : State) → q ≡ Ok p → step_as q ≡ step_of s rec → (state_fault s rec ≡ none) × (state_as p ≡ state_after s rec)
unfolding step_of
step_state q s rec p d e = pick (state_fault s rec) (sym (ap step_as d) ∙ e)
  where
    pick : (o : Option ℕ) → on (state_as p) ≡ past o (state_after s rec) → (o ≡ none) × (state_as p ≡ state_after s rec)
    pick none c = let i : state_as p ≡ state_after s rec = cc in (refl, i)
    pick (some n) c = absurd (never (cc))

-- a line, and the state after it
module _ (s : AnyState) (line rec : Bytes) (q : Result State Refusal) (er : rec ≡ record_of line) (e : step_as q ≡ step_of s rec) where
  pub faulty_line : (r : Refusal) → q ≡ Err r → none ≡ line_after s line
  faulty_line r d = line_faulty (kind_from s) s line rec er (refusal_number r) (step_fault q s rec r d e)

  module _ (p : State) (d : q ≡ Ok p) (b : Bool) (eb : b ≡ same (record_line rec) line) where
    pub good_line : b ≡ true → some (state_as p) ≡ line_after s line
    good_line y = let f = step_state q s rec p d e in line_good (kind_from s) s line rec er b eb f.0 (state_as p) f.1 y

    pub other_line : b ≡ false → none ≡ line_after s line
    other_line n = let f = step_state q s rec p d e in line_other (kind_from s) s line rec er b eb f.0 n

-- a line is good in a state whatever state the text began in
line_alike : (start s : AnyState) (line : Bytes) → line_after s line ≡ after_line (kind_from start) s line
unfolding after_line good_in as_written
line_alike start s line = refl

module _ (start : AnyState) (text : Bytes) (s : AnyState) (at line n : ℕ) (en : LineEnds text at n) (p : LinesJudged (kind_from start) text s at line) where
  pub bad_line : none ≡ line_after s (lent_line text at n) → Err (BadLine line) ≡ lines_found (kind_from start) text
  bad_line e = judged_bad (kind_from start) text s at line n en p (e ∙ line_alike start s (lent_line text at n))

  pub next_line : (t : AnyState) → some t ≡ line_after s (lent_line text at n) → LinesJudged (kind_from start) text t n (line + 1)
  next_line t e = judged_line (kind_from start) text s at line n en p t (e ∙ line_alike start s (lent_line text at n))

-- the records of a file, one after the other
abbrev pub fault_after : AnyState → List Bytes → Option ℕ
fault_after s rs = scan state_fault state_after state_end s rs

module _ (rs : List Bytes) (i : ℕ) (s : AnyState) (x : Option ℕ) (inv : fault_after s (drop i rs) ≡ x) where
  module _ (q : Result State Refusal) (h : i < length rs) (e : step_as q ≡ step_of s (get_or rs i [])) where
    here : or_next (state_fault s (get_or rs i [])) (fault_after (state_after s (get_or rs i [])) (drop (i + 1) rs)) ≡ x
    unfolding scan
    here = sym (ap (fault_after s) (left_at rs i h)) ∙ inv

    pub records_stop : (r : Refusal) → q ≡ Err r → some (refusal_number r) ≡ x
    records_stop r d = rw (step_fault q s (get_or rs i []) r d e) at here

    pub records_next : (p : State) → q ≡ Ok p → fault_after (state_as p) (drop (i + 1) rs) ≡ x
    records_next p d =
        let f = step_state q s (get_or rs i []) p d e in
        let g : fault_after (state_after s (get_or rs i [])) (drop (i + 1) rs) ≡ x = rw f.0 at here in
        rw f.1 g

  pub records_end : length rs ≤ i → state_end s ≡ x
  unfolding scan
  records_end h = sym (ap (fault_after s) (left_none rs i h)) ∙ inv

-- a file: its length, then its records
or_none : (o : Option ℕ) → o ≡ first_fault (none ∷ o ∷ [])
unfolding first_fault
or_none none = refl
or_none (some f) = refl

module _ (start : AnyState) (file : Bytes) (m : ℕ) (w : Bool) (em : m ≡ state_most start) (ew : w ≡ fits m file) where
  whole_is : (y : Bool) → w ≡ y → fits (state_most start) file ≡ y
  whole_is y p = ap (λ (n : ℕ). fits n file) (sym em) ∙ sym ew ∙ p

  pub fault_long : not w ≡ true → some bad_length ≡ kind_fault (kind_from start) file
  unfolding file_fault first_fault
  fault_long n = sym (rw (whole_is false (not-true w n)))

  pub fault_rest : (o : Option ℕ) → not w ≡ false → o ≡ scan state_fault state_after state_end start (records file) → o ≡ kind_fault (kind_from start) file
  unfolding file_fault
  fault_rest o n e = rw (whole_is true (not-false w n)) (e ∙ or_none (scan state_fault state_after state_end start (records file)))

-- a file without fault is not too long
pub small : (start : AnyState) (file : Bytes) → kind_fault (kind_from start) file ≡ none → length file ≤ 65535 * record_bytes
small (of_request s) file e = let l = small_file (kind_from (of_request s)) file e in omega arith
small (of_requests n) file e = let l = small_file (kind_from (of_requests n)) file e in omega arith
small (of_bundle s) file e = let l = small_file (kind_from (of_bundle s)) file e in omega arith
small (of_hints n) file e = let l = small_file (kind_from (of_hints n)) file e in omega arith

-- the entry points, by the kind of file
written_by : (k t : Kind) (file buffer : Bytes) (is : Listed) (r : Result ℕ TextError) (after : Bytes) → k ≡ t → is ≡ written_as t file buffer → IsListed is r after → IsListed (written_as k file buffer) r after
written_by k t file buffer is r after e d p = rw (d ∙ ap (λ (x : Kind). written_as x file buffer) (sym e)) at p

read_by : (k t : Kind) (text buffer : Bytes) (is : Listed) (r : Result ℕ TextError) (after : Bytes) → k ≡ t → is ≡ read_as t text buffer → IsListed is r after → IsListed (read_as k text buffer) r after
read_by k t text buffer is r after e d p = rw (d ∙ ap (λ (x : Kind). read_as x text buffer) (sym e)) at p

module _ (k : Kind) (given buffer : Bytes) (r : Result ℕ TextError) (after : Bytes) where
  pub written_acl : k ≡ Acl → IsListed (write_text acl_kind given buffer) r after → IsListed (written_as k given buffer) r after
  written_acl e p = written_by k Acl given buffer _ r after e refl p

  pub read_acl_text : k ≡ Acl → IsListed (read_text_into acl_kind given buffer) r after → IsListed (read_as k given buffer) r after
  read_acl_text e p = read_by k Acl given buffer _ r after e refl p

  pub written_request : k ≡ Request → IsListed (write_text (kind_from (of_request request_due)) given buffer) r after → IsListed (written_as k given buffer) r after
  written_request e p = written_by k Request given buffer _ r after e (write_request given buffer) p

  pub read_request_text : k ≡ Request → IsListed (read_text_into (kind_from (of_request request_due)) given buffer) r after → IsListed (read_as k given buffer) r after
  read_request_text e p = read_by k Request given buffer _ r after e (read_request given buffer) p

  pub written_requests : k ≡ Requests → IsListed (write_text (kind_from (of_requests 0)) given buffer) r after → IsListed (written_as k given buffer) r after
  written_requests e p = written_by k Requests given buffer _ r after e (write_requests given buffer) p

  pub read_requests_text : k ≡ Requests → IsListed (read_text_into (kind_from (of_requests 0)) given buffer) r after → IsListed (read_as k given buffer) r after
  read_requests_text e p = read_by k Requests given buffer _ r after e (read_requests given buffer) p

  pub written_bundle : k ≡ Bundle → IsListed (write_text (kind_from (of_bundle bundle_start)) given buffer) r after → IsListed (written_as k given buffer) r after
  written_bundle e p = written_by k Bundle given buffer _ r after e (write_bundle given buffer) p

  pub read_bundle_text : k ≡ Bundle → IsListed (read_text_into (kind_from (of_bundle bundle_start)) given buffer) r after → IsListed (read_as k given buffer) r after
  read_bundle_text e p = read_by k Bundle given buffer _ r after e (read_bundle given buffer) p

  pub written_hints : k ≡ Hints → IsListed (write_text (kind_from (of_hints 0)) given buffer) r after → IsListed (written_as k given buffer) r after
  written_hints e p = written_by k Hints given buffer _ r after e (write_hints given buffer) p

  pub read_hints_text : k ≡ Hints → IsListed (read_text_into (kind_from (of_hints 0)) given buffer) r after → IsListed (read_as k given buffer) r after
  read_hints_text e p = read_by k Hints given buffer _ r after e (read_hints given buffer) p

-- what writing and reading answer, from a state on
module _ (start : AnyState) where
  module _ (file buffer : Bytes) (e : kind_fault (kind_from start) file ≡ none) (n : ℕ) (l : n ≡ length (text_by record_line file)) where
    pub write_short_from : length buffer < n → IsListed (write_text (kind_from start) file buffer) (Err (Refused ShortBuffer)) buffer
    write_short_from h = write_short (kind_from start) file buffer e n l h

    pub write_whole_from : (r : ℕ) (after : Bytes) → n ≤ length buffer → Put (text_by record_line file) 0 buffer after r → IsListed (write_text (kind_from start) file buffer) (Ok r) after
    write_whole_from r after h p = write_whole (kind_from start) file buffer e n r after l h p

  pub judged_start : (text : Bytes) → LinesJudged (kind_from start) text start 0 1
  judged_start text = judged_none (kind_from start) text start refl

  module _ (text buffer : Bytes) (count : ℕ) (e : text_fault (kind_from start) text ≡ none) (l : count ≡ length (lines_of text)) where
    pub read_short_from : length buffer / 64 < count → IsListed (read_text_into (kind_from start) text buffer) (Err (Refused ShortBuffer)) buffer
    read_short_from h = read_short (kind_from start) told_record text buffer count e l h

    pub read_room_from : count ≤ length buffer / 64 → length (bytes_by record_of text) ≤ length buffer
    read_room_from h = read_room (kind_from start) told_record text buffer count e l h

    pub read_whole_from : (r : ℕ) (after : Bytes) → count ≤ length buffer / 64 → Put (bytes_by record_of text) 0 buffer after r → IsListed (read_text_into (kind_from start) text buffer) (Ok r) after
    read_whole_from r after h p = read_whole (kind_from start) told_record text buffer count e l r after h p

-- the end of a text: a record is missing there or not
module _ (start s : AnyState) (text : Bytes) (at line : ℕ) (b : Bool) (h : length text ≤ at) (p : LinesJudged (kind_from start) text s at line) (e : b ≡ present (state_end s)) where
  pub missing_line : b ≡ true → Err (BadLine line) ≡ lines_found (kind_from start) text
  missing_line y = judged_missing (kind_from start) text s at line h p (sym e ∙ y)

  pub none_missing : (n : ℕ) → b ≡ false → n ≡ line - 1 → Ok n ≡ lines_found (kind_from start) text
  none_missing n y k = judged_all (kind_from start) text s at line h p n (sym e ∙ y) k
