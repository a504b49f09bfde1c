-- The lines of a file's records one after the other, and what writing answers: over any kind of file.
use Prim.Native.Nat.{ℕ, ◌+◌, ◌*◌, ◌/◌, ◌%◌, ◌≤◌, ◌<◌}
use native.Mathlib.Omega.{arith}
use mathlib.Core.Path.{◌≡◌, refl, sym, ◌∙◌, ap}
use mathlib.Core.List.{List, [], ◌++◌, map, flatten}
use mathlib.Core.Option.{none, some}
use lib.ListN.{length, take, drop, get_or, length-append}
use lib.Seq.{length-take-le}
use lib.Dec.{eqb, leb}
use borrow.Author.Tests.{le-leb, lt-leb, leb-true}
use Rattle.rules.specs.Sizes.{record_bytes}
use Rattle.rules.specs.Numbers.{bad_length}
use Rattle.rules.specs.Basics.{Bytes, fits, first_fault, file_fault, records}
use Rattle.rules.proofs.Laws.{and_right, unless_passed, fault_none_every, chunks_length}
use Rattle.record_fields.proofs.Walks.{left_at, left_none}
use Rattle.rules.specs.Subject.{written_over}
use Rattle.refusals.specs.Refusals.{refusal_number}
use Rattle.refusals.specs.declared.Refusal.{Refusal}
use Rattle.refusals.specs.declared.Refusal.TheVariants.{ShortBuffer}
use Rattle.text_rules.specs.Words.{text_by}
use Rattle.text_rules.specs.Kinds.{FileKind, kind_fault}
use Rattle.text_rules.specs.Listing.{produced, writing_fault, write_text}
use Rattle.text_bytes.specs.Putting.{put, Put, Held}
use Rattle.text_bytes.proofs.Laws.{put_as, put_front, Filled, filled_none, filled_room, filled_piece, filled_all}
use Rattle.text_acl.specs.Answers.{IsListed}
use Rattle.std.specs.Prelude.{Result, Ok, Err, IsErr}
use Rattle.std.specs.Result.{IsErrAnd}
use Rattle.text_acl.specs.declared.TextError.TheVariants.{Refused}

-- an error handed on
pub passed_on : {A E : Type 0} (x : Result A E) (e : E) → IsErr x × IsErrAnd x (λ y. y ≡ e) → x ≡ Err e
passed_on (Ok a) e h = absurd h.1
passed_on (Err y) e h = let d = h.1 in cc

-- the buffer then
pub put_over : {t old new : Bytes} {r : ℕ} → Put t 0 old new r → new ≡ written_over {F = ℕ} t old none
unfolding put
put_over {t} {old} {new} {r} p =
    let z : 0 + length t ≡ length t = omega arith in
    p.bytes ∙ ap (λ (n : ℕ). t ++ drop n old) z

-- The lines of the records from one on.
unfoldable pub lines_from : (Bytes → Bytes) → List Bytes → ℕ → Bytes
lines_from line rs i = flatten (map line (drop i rs))

lines_next : (line : Bytes → Bytes) (rs : List Bytes) (i : ℕ) → i < length rs → lines_from line rs i ≡ line (get_or rs i []) ++ lines_from line rs (i + 1)
unfolding lines_from flatten
lines_next line rs i h = ap (λ (xs : List Bytes). flatten (map line xs)) (left_at rs i h)

lines_end : (line : Bytes → Bytes) (rs : List Bytes) (i : ℕ) → length rs ≤ i → lines_from line rs i ≡ []
unfolding lines_from flatten
lines_end line rs i h = ap (λ (xs : List Bytes). flatten (map line xs)) (left_none rs i h)

pub records_few : (file : Bytes) (most : ℕ) → length file ≤ most * 64 → length (records file) ≤ most
unfolding records
records_few file most h = let c = chunks_length (length file / 64) file in omega arith

-- their lengths summed up
pub record Summed (line : Bytes → Bytes) (rs : List Bytes) (i total : ℕ) : Type 0 where
  pub sum : total + length (lines_from line rs i) ≡ length (lines_from line rs 0)

pub summed_none : (line : Bytes → Bytes) (rs : List Bytes) → Summed line rs 0 0
summed_none line rs = record { sum = omega arith }

pub summed_line : (line : Bytes → Bytes) (rs : List Bytes) (i total n : ℕ) → Summed line rs i total → i < length rs → n ≡ length (line (get_or rs i [])) → Summed line rs (i + 1) (total + n)
summed_line line rs i total n p h e =
    let s = p.sum in
    let l = ap length (lines_next line rs i h) ∙ length-append (line (get_or rs i [])) (lines_from line rs (i + 1)) in
    record { sum = omega arith }

pub summed_all : (line : Bytes → Bytes) (file : Bytes) (rs : List Bytes) (i total : ℕ) → rs ≡ records file → Summed line rs i total → length rs ≤ i → total ≡ length (text_by line file)
unfolding lines_from text_by
summed_all line file rs i total e p h =
    let s = p.sum in
    let l = ap length (lines_end line rs i h) in
    let f : length (flatten (map line rs)) ≡ length (flatten (map line (records file))) = ap (λ (xs : List Bytes). length (flatten (map line xs))) e in
    omega arith

-- the lines written
module _ (line : Bytes → Bytes) (rs : List Bytes) (old : Bytes) where
  pub lines_none : Filled (lines_from line rs 0) (lines_from line rs 0) 0 old old 0
  lines_none = filled_none (lines_from line rs 0) old 0 (omega arith)

  module _ (now : Bytes) (i end : ℕ) (p : Filled (lines_from line rs 0) (lines_from line rs i) 0 old now end) where
    pub line_room : (file : Bytes) → rs ≡ records file → i < length rs → length (text_by line file) ≤ length old → end + length (line (get_or rs i [])) ≤ length now
    unfolding lines_from text_by
    line_room file e h l =
        let f : length (flatten (map line rs)) ≡ length (flatten (map line (records file))) = ap (λ (xs : List Bytes). length (flatten (map line xs))) e in
        filled_room (line (get_or rs i [])) (lines_from line rs (i + 1)) (rw (lines_next line rs i h) at p) (omega arith)

    pub line_put : (new : Bytes) (r : ℕ) → i < length rs → Put (line (get_or rs i [])) end now new r → Filled (lines_from line rs 0) (lines_from line rs (i + 1)) 0 old new r
    line_put new r h q = filled_piece (line (get_or rs i [])) (lines_from line rs (i + 1)) (rw (lines_next line rs i h) at p) q

    pub lines_all : (file : Bytes) → rs ≡ records file → length rs ≤ i → Put (text_by line file) 0 old now end
    unfolding lines_from text_by
    lines_all file e h = put_as (ap (λ (xs : List Bytes). flatten (map line xs)) e) (filled_all (rw (lines_end line rs i h) at p))

-- a line in a buffer of its own
pub line_long : (w : ℕ) (t old new : Bytes) (r : ℕ) → Held w t 0 old new r → (r ≡ length t) × (r ≤ w)
line_long w t old new r p =
    let e = p.written.end in
    let b = p.bound in
    (omega arith, omega arith)

pub line_lent : (w : ℕ) (t line old : Bytes) (n : ℕ) → Held w t 0 old line n → n ≡ length (take n line)
line_lent w t line old n p = sym (length-take-le n line p.written.inside)

pub line_inside : (w : ℕ) (t line old : Bytes) (at n : ℕ) (buffer : Bytes) → Held w t 0 old line n → at + length t ≤ length buffer → at + length (take n line) ≤ length buffer
line_inside w t line old at n buffer p h = rw (put_front p.written) h

pub line_copied : (w : ℕ) (t line old : Bytes) (n at : ℕ) (before after : Bytes) (r : ℕ) → Held w t 0 old line n → Put (take n line) at before after r → Put t at before after r
line_copied w t line old n at before after r p q = rw (put_front p.written) at q

-- a file, and what writing it answers
module _ {S : Type 0} (k : FileKind S) (file : Bytes) where
  -- a file without fault is not too long
  pub small_file : kind_fault k file ≡ none → length file ≤ k.most * record_bytes
  unfolding file_fault fits
  small_file e =
      let f = unless_passed (fits k.most file) bad_length (fault_none_every _ e).0 in
      leb-true (length file) (k.most * record_bytes) (and_right (eqb (length file % record_bytes) 0) (leb (length file) (k.most * record_bytes)) f)

  module _ (buffer : Bytes) where
    pub write_faulty : (f : Refusal) → some (refusal_number f) ≡ kind_fault k file → IsListed (write_text k file buffer) (Err (Refused f)) buffer
    unfolding write_text writing_fault first_fault
    write_faulty f e = rw (← e) record { reply = refl; buffer = refl }

    module _ (e : kind_fault k file ≡ none) where
      pub write_short : (n : ℕ) → n ≡ length (text_by k.line file) → length buffer < n → IsListed (write_text k file buffer) (Err (Refused ShortBuffer)) buffer
      unfolding write_text writing_fault first_fault
      write_short n l h = rw (e, lt-leb (length (text_by k.line file)) (length buffer) (omega arith)) record { reply = refl; buffer = refl }

      pub write_whole : (n r : ℕ) (after : Bytes) → n ≡ length (text_by k.line file) → n ≤ length buffer → Put (text_by k.line file) 0 buffer after r → IsListed (write_text k file buffer) (Ok r) after
      unfolding write_text writing_fault first_fault
      write_whole n r after l h p =
          let j : r ≡ length (text_by k.line file) = p.end ∙ omega arith in
          rw (e, le-leb (length (text_by k.line file)) (length buffer) (omega arith)) record { reply = ap produced j; buffer = put_over p }
