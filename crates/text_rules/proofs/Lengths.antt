-- How long a line and a listing can be. Two wrong products that this rules out: a scratch line too short for MakeBlob with all its words, and a
-- length that does not count the newlines.
use Prim.Native.Nat.{ℕ, suc, ◌+◌, ◌^◌, ◌≤◌, ◌<◌}
use Prim.Native.String.{String}
use native.Mathlib.Omega.{arith}
use mathlib.Core.Path.{◌≡◌, refl}
use mathlib.Core.List.{List, [], ◌∷◌, ◌++◌, map, flatten}
use mathlib.Core.Option.{none}
use mathlib.Core.Bool.{Bool, true, false, ◌&&◌, false≢true}
use lib.ListN.{length, drop, length-append}
use lib.Dec.{eqb, leb, ltb}
use borrow.Author.Tests.{eqb-true, leb-true, ltb-true}
use Rattle.rules.specs.Sizes.{record_bytes, hash_bytes, counters_max}
use Rattle.rules.specs.Basics.{Bytes, Every, ascii, bit, part, number, byte, blank, kind, flag, scan, records}
use Rattle.rules.specs.Layout.{token_parameters_at, token_parameters_if, counter_under, counter_of_sort, limit_under, limit_laid_out, blob_action_laid_out}
use Rattle.rules.specs.Day.{decimal}
use Rattle.rules.specs.Acl.{AclState, limit_key, limit_in_place, action_in_place, action_laid_out, placed_under, placed_by_kind, in_place, acl_record_fault, acl_fault_under, acl_file_fault}
use Rattle.rules.proofs.Laws.{and_left, and_right, and_both, or_next_first, or_next_next}
use Rattle.rules.proofs.Places.{placed, file_due_lem}
use Rattle.text_rules.specs.Words.{space, hex, Word, bare, with_number, with_hash, spaced, words_text, group_words, limit_words, permission_names, permission_words, blob_words, archive_words, blobfile_words, line_of, text_by, listing_of, group_line_max, limit_line_max, blobfile_line_max, line_max, listing_max}
use Rattle.text_rules.specs.Kinds.{FileKind, kind_fault, acl_kind}
use Rattle.text_rules.specs.Listing.{Octet, IsRecord, going_on, so_far}
use Rattle.text_rules.proofs.Digits.{decimal_length, hex_length}
use Rattle.text_rules.proofs.Words.{text_with, text_without}
use Rattle.text_rules.proofs.Parts.{part_length, number_fits, blank_byte, blank_within}
use Rattle.text_rules.proofs.Files.{records_all}
use Rattle.text_rules.proofs.Room.{record_passed, total, weight, acl_weight}
use Rattle.text_rules.proofs.Reading.{passed_on, whole_file}

ruleset conj = (and_left, and_right, and_both)

-- a line's words by their values' lengths
pub text_length : (w : Word) (ws : List Word) (k m : ℕ) → length w.value ≤ k → length (words_text ws) ≤ m → length (words_text (w ∷ ws)) ≤ length (spaced w.name) + k + m
text_length w ws k m i j = pick w.given refl
  where
    pick : (b : Bool) → w.given ≡ b → length (words_text (w ∷ ws)) ≤ length (spaced w.name) + k + m
    pick true e =
        let a = length-append (spaced w.name) (w.value ++ words_text ws) in
        let b = length-append w.value (words_text ws) in
        rw (text_with w ws e) (omega arith)
    pick false e = rw (text_without w ws e) (omega arith)

pub number_text : (p n : ℕ) → n < 10 ^ suc p → length (space ∷ decimal n) ≤ p + 2
number_text p n h = let l = decimal_length p n h in omega arith

pub end_length : length (words_text []) ≤ 1
unfolding words_text
end_length = omega arith

-- the names of the permissions
abbrev pub names_length : List String → ℕ
names_length [] = 1
names_length (x ∷ xs) = length (spaced x) + names_length xs

pub permissions_length : (b : ℕ) (names : List String) (n : ℕ) → length (words_text (permission_words b names n)) ≤ names_length names
unfolding permission_words
permissions_length b [] n = end_length
permissions_length b (x ∷ xs) n =
    let t = text_length (bare (bit b n) x) (permission_words (b + 1) xs n) 0 (names_length xs) (omega arith) (permissions_length (b + 1) xs n) in
    omega arith

-- the length of the longest line of a record's kind
abbrev line_weight : Bytes → ℕ
line_weight r = weight group_line_max limit_line_max line_max blobfile_line_max r

module _ (r : Bytes) (h : IsRecord r) where
  pub hash_text : (off : ℕ) → off + hash_bytes ≤ record_bytes → length (space ∷ hex (part off hash_bytes r)) ≤ 41
  hash_text off l = let p = part_length r h off hash_bytes l in let x = hex_length (part off hash_bytes r) in omega arith

  pub two_text : (off : ℕ) → off + 2 ≤ record_bytes → length (space ∷ decimal (number off 2 r)) ≤ 6
  two_text off l = let f = number_fits r h off 2 l in number_text 4 (number off 2 r) (omega arith)

  pub four_text : (off : ℕ) → off + 4 ≤ record_bytes → length (space ∷ decimal (number off 4 r)) ≤ 11
  four_text off l = let f = number_fits r h off 4 l in number_text 9 (number off 4 r) (omega arith)

  group_length : length (ascii "group" ++ words_text (group_words r)) ≤ group_line_max
  unfolding ascii
  group_length =
      let m = text_length (with_number (flag 1 r) "mechanism" (number 24 2 r)) [] 6 1 (two_text 24 (omega arith)) end_length in
      let c = text_length (with_hash (flag 0 r) "certifier" (part 4 hash_bytes r)) (with_number (flag 1 r) "mechanism" (number 24 2 r) ∷ []) 41 17 (hash_text 4 (omega arith)) m in
      omega arith

  limit_length : limit_laid_out r ≡ true → length (ascii "limit" ++ words_text (limit_words r)) ≤ limit_line_max
  unfolding limit_under counter_under ascii
  limit_length e = pick (eqb (byte 4 r) 2) refl (eqb (byte 4 r) 3) refl
    where
      pick : (a : Bool) → eqb (byte 4 r) 2 ≡ a → (b : Bool) → eqb (byte 4 r) 3 ≡ b → length (ascii "limit" ++ words_text (limit_words r)) ≤ limit_line_max
      pick true p b q =
          let s = eqb-true (byte 4 r) 2 p in
          let k : counter_of_sort (byte 4 r) (byte 5 r) ≡ true = search conj in
          let x : ltb (byte 5 r) counters_max ≡ true = rw s at k in
          let y = ltb-true (byte 5 r) counters_max x in
          let m = text_length (with_number true "uses" (number 8 4 r)) [] 11 1 (four_text 8 (omega arith)) end_length in
          let c = text_length (with_number true "counter" (byte 5 r)) (with_number true "uses" (number 8 4 r) ∷ []) 4 17 (number_text 2 (byte 5 r) (omega arith)) m in
          rw s (omega arith)
      pick false p true q =
          let m = text_length (with_number true "seconds" (number 8 4 r)) [] 11 1 (four_text 8 (omega arith)) end_length in
          let t = text_without (with_number false "counter" (byte 5 r)) (with_number true "seconds" (number 8 4 r) ∷ []) refl in
          rw (p, q, t) (omega arith)
      pick false p false q =
          let m = text_length (with_number true "uses" (number 8 4 r)) [] 11 1 (four_text 8 (omega arith)) end_length in
          let t = text_without (with_number false "counter" (byte 5 r)) (with_number true "uses" (number 8 4 r) ∷ []) refl in
          rw (p, q, t) (omega arith)

  permission_length : length (ascii "OpPermissions" ++ words_text (permission_words 0 permission_names (number 4 2 r))) ≤ line_max
  unfolding ascii
  permission_length = let t = permissions_length 0 permission_names (number 4 2 r) in omega arith

  -- "1 ≤ needed ≤ total ≤ 64"
  pub shares : (f : ℕ) → token_parameters_if f 44 r ≡ true → (byte 46 r < 100) × (byte 47 r < 100)
  unfolding token_parameters_if token_parameters_at
  shares f e = pick (flag f r) refl
    where
      pick : (b : Bool) → flag f r ≡ b → (byte 46 r < 100) × (byte 47 r < 100)
      pick true q =
          let t : token_parameters_at 44 r ≡ true = rw q at e in
          let a : leb (byte 46 r) (byte 47 r) ≡ true = search conj in
          let b : leb (byte 47 r) 64 ≡ true = search conj in
          let c = leb-true (byte 46 r) (byte 47 r) a in
          let d = leb-true (byte 47 r) 64 b in
          (omega arith, omega arith)
      pick false q =
          let t : blank 44 8 r ≡ true = rw q at e in
          let a = blank_byte r h 46 (omega arith) (blank_within 44 8 2 1 r (omega arith) t) in
          let b = blank_byte r h 47 (omega arith) (blank_within 44 8 3 1 r (omega arith) t) in
          (omega arith, omega arith)

  blob_length : blob_action_laid_out r ≡ true → length (ascii "MakeBlob" ++ words_text (blob_words r)) ≤ line_max
  unfolding blob_action_laid_out ascii
  blob_length e =
      let p : token_parameters_if 4 44 r ≡ true = search conj in
      let s = shares 4 p in
      let ws : ℕ → List Word = λ i. drop i (blob_words r) in
      let a10 = text_length (bare (flag 6 r) "blobfile") [] 0 1 (omega arith) end_length in
      let a9 = text_length (bare (flag 5 r) "AllowNullKmToken") (ws 10) 0 10 (omega arith) a10 in
      let a8 = text_length (with_number (flag 4 r) "seconds" (number 48 4 r)) (ws 9) 11 27 (four_text 48 (omega arith)) a9 in
      let a7 = text_length (with_number (flag 4 r) "total" (byte 47 r)) (ws 8) 3 46 (number_text 1 (byte 47 r) s.1) a8 in
      let a6 = text_length (with_number (flag 4 r) "needed" (byte 46 r)) (ws 7) 3 55 (number_text 1 (byte 46 r) s.0) a7 in
      let a5 = text_length (bare (bit 0 (number 44 2 r)) "AllowSoftSlots") (ws 6) 0 65 (omega arith) a6 in
      let a4 = text_length (bare (flag 4 r) "ktparams") (ws 5) 0 80 (omega arith) a5 in
      let a3 = text_length (with_hash (flag 3 r) "kthash" (part 24 hash_bytes r)) (ws 4) 41 89 (hash_text 24 (omega arith)) a4 in
      let a2 = text_length (with_hash (flag 2 r) "kmhash" (part 4 hash_bytes r)) (ws 3) 41 137 (hash_text 4 (omega arith)) a3 in
      let a1 = text_length (bare (flag 1 r) "AllowNonKm0") (ws 2) 0 185 (omega arith) a2 in
      let a0 = text_length (bare (flag 0 r) "AllowKmOnly") (ws 1) 0 197 (omega arith) a1 in
      omega arith

  archive_length : length (ascii "MakeArchiveBlob" ++ words_text (archive_words r)) ≤ line_max
  unfolding ascii
  archive_length =
      let ws : ℕ → List Word = λ i. drop i (archive_words r) in
      let a2 = text_length (bare (flag 6 r) "blobfile") [] 0 1 (omega arith) end_length in
      let a1 = text_length (with_number true "mechanism" (number 24 2 r)) (ws 2) 6 10 (two_text 24 (omega arith)) a2 in
      let a0 = text_length (with_hash (flag 0 r) "kahash" (part 4 hash_bytes r)) (ws 1) 41 26 (hash_text 4 (omega arith)) a1 in
      omega arith

  pub file_length : length (ascii "blobfile" ++ words_text (blobfile_words r)) ≤ blobfile_line_max
  unfolding ascii
  file_length =
      let m = text_length (with_hash (flag 1 r) "template" (part 8 hash_bytes r)) [] 41 1 (hash_text 8 (omega arith)) end_length in
      let c = text_length (with_number (flag 0 r) "devices" (number 4 4 r)) (with_hash (flag 1 r) "template" (part 8 hash_bytes r) ∷ []) 11 51 (four_text 4 (omega arith)) m in
      omega arith

  -- A record that may stand in an ACL has a line no longer than its kind's longest.
  placed_length : (s : AclState) → placed_by_kind s r ≡ true → length (line_of r) ≤ line_weight r
  unfolding placed_under action_laid_out line_of weight
  placed_length s e = pick (eqb (kind r) 1) refl (eqb (kind r) 2) refl (eqb (kind r) 3) refl (eqb (kind r) 4) refl (eqb (kind r) 5) refl
    where
      pick : (a : Bool) → eqb (kind r) 1 ≡ a → (b : Bool) → eqb (kind r) 2 ≡ b → (c : Bool) → eqb (kind r) 3 ≡ c → (d : Bool) → eqb (kind r) 4 ≡ d → (f : Bool) → eqb (kind r) 5 ≡ f → length (line_of r) ≤ line_weight r
      pick true p b q c u d v f w = rw p group_length
      pick false p true q c u d v f w =
          let l : (limit_laid_out r && limit_in_place s (limit_key r)) ≡ true = rw (p, q) at e in
          rw (p, q) (limit_length (search conj))
      pick false p false q true u d v f w = let k = eqb-true (kind r) 3 u in rw k permission_length
      pick false p false q false u true v f w =
          let l : (blob_action_laid_out r && action_in_place s) ≡ true = rw (p, q, u, v) at e in
          let k = eqb-true (kind r) 4 v in
          rw k (blob_length (search conj))
      pick false p false q false u false v true w = let k = eqb-true (kind r) 5 w in rw k archive_length
      pick false p false q false u false v false w =
          let l : (false && action_in_place s) ≡ true = rw (p, q, u, v, w) at e in
          absurd (false≢true l)

  line_length_lem : (s : AclState) → in_place s r ≡ true → length (line_of r) ≤ line_weight r
  unfolding line_of weight
  line_length_lem s e = pick s.file_due refl
    where
      pick : (b : Bool) → s.file_due ≡ b → length (line_of r) ≤ line_weight r
      pick true d = let k = (file_due_lem s r d e).0 in rw k file_length
      pick false d = placed_length s (placed s r d e)

  -- The longest line.
  pub line_bound : (s : AclState) → acl_record_fault s r ≡ none → length (line_of r) ≤ line_max
  unfolding weight
  line_bound s e = let l = line_length_lem s (record_passed s r e).0 in pick (eqb (kind r) 1) refl (eqb (kind r) 2) refl (eqb (kind r) 15) refl l
    where
      pick : (a : Bool) → eqb (kind r) 1 ≡ a → (b : Bool) → eqb (kind r) 2 ≡ b → (c : Bool) → eqb (kind r) 15 ≡ c → length (line_of r) ≤ line_weight r → length (line_of r) ≤ line_max
      pick true p b q c w l = let k : length (line_of r) ≤ group_line_max = rw p at l in omega arith
      pick false p true q c w l = let k : length (line_of r) ≤ limit_line_max = rw (p, q) at l in omega arith
      pick false p false q true w l = let k : length (line_of r) ≤ blobfile_line_max = rw (p, q, w) at l in omega arith
      pick false p false q false w l = rw (p, q, w) at l

-- the lines of records without fault, for any kind of file
module _ {S : Type 0} (k : FileKind S) (w : Bytes → ℕ) (long : (s : S) (r : Bytes) → IsRecord r → k.fault s r ≡ none → length (k.line r) ≤ w r) where
  lines_length : (s : S) (rs : List Bytes) → Every IsRecord rs → going_on k s rs ≡ none → length (flatten (map k.line rs)) ≤ total w rs
  unfolding scan total flatten
  lines_length s [] h e = omega arith
  lines_length s (r ∷ rs) h e =
      let later = going_on k (k.after s r) rs in
      let l = long s r h.0 (or_next_first (k.fault s r) later e) in
      let i = lines_length (k.after s r) rs h.1 (or_next_next (k.fault s r) later e) in
      rw length-append (omega arith)

  -- A file's text is no longer than its records' longest lines.
  pub text_bound : (file : Bytes) → Every Octet file → kind_fault k file ≡ none → (length (text_by k.line file) ≤ total w (records file)) × (so_far k (records file) ≡ none)
  unfolding text_by
  text_bound file o e =
      let f = whole_file k file e in
      let g = passed_on k k.start (records file) f.1 in
      (lines_length k.start (records file) (records_all file f.0 o) g, g)

-- The longest listing of an ACL.
pub listing_bound : (file : Bytes) → Every Octet file → acl_file_fault file ≡ none → length (listing_of file) ≤ listing_max
unfolding acl_fault_under
listing_bound file o e =
    let t = text_bound acl_kind line_weight (λ s r h d. line_length_lem r h s (record_passed s r d).0) file o e in
    let a = t.0 in
    let w = acl_weight group_line_max limit_line_max line_max blobfile_line_max (records file) t.1 in
    omega arith
