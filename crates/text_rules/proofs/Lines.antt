-- The lines of a text: a record's line is one line, and a text made of lines has those lines.
use Prim.Native.Nat.{ℕ, zero, suc, ◌+◌, ◌-◌, ◌/◌, ◌%◌, ◌≤◌, ◌<◌}
use Prim.Native.String.{String}
use native.Mathlib.Omega.{arith}
use mathlib.Core.Path.{◌≡◌, refl, ◌∙◌, ap}
use mathlib.Core.Logic.{◌⊎◌, inl, inr}
use mathlib.Core.List.{List, [], ◌∷◌, ◌++◌, flatten}
use mathlib.Core.Bool.{Bool, true, false, ◌&&◌, false≢true}
use lib.ListN.{length, take, drop}
use lib.Dec.{eqb, leb}
use borrow.Author.Tests.{leb-true, le-leb, ne_eqb, lt-ltb, le-ltb}
use Rattle.rules.specs.Sizes.{hash_bytes}
use Rattle.std.specs.Prelude.{if◌then◌else◌}
use Rattle.rules.specs.Basics.{Bytes, Every, all, ascii, part, number, byte, kind}
use Rattle.rules.specs.Day.{decimal}
use Rattle.rules.proofs.Laws.{and_left, and_right, and_both}
use Rattle.text_rules.specs.Words.{newline, space, hex_digit, hex, Word, spaced, words_text, limit_unit, group_words, limit_words, permission_names, permission_words, blob_words, archive_words, blobfile_words, line_of}
use Rattle.text_rules.specs.OtherWords.{name_at, use_words, blob_request_words, recovery_words, certificate_words, field_names, fact_words, signature_names, signature_words, policy_words, numbers_text, hint_words, delegation_words, record_line}
use Rattle.text_rules.specs.Listing.{onto_first, lines_of, line_length}
use Rattle.text_rules.proofs.Digits.{below_or_not, Digit, decimal_every}
use Rattle.text_rules.proofs.Words.{text_with, text_without}

-- no bytes
abbrev empty : Bytes → Bool
empty [] = true
empty (c ∷ t) = false

-- one line: a byte 10 at the end and none before it
unfoldable pub one_line : Bytes → Bool
one_line [] = false
one_line (c ∷ t) = if eqb c newline then empty t else one_line t

line_first : (l t : Bytes) → one_line l ≡ true → lines_of (l ++ t) ≡ l ∷ lines_of t
unfolding one_line lines_of
line_first [] t e = absurd (false≢true e)
line_first (c ∷ l) t e = pick (eqb c newline) refl (line_first l t)
  where
    alone : (l : Bytes) → empty l ≡ true → l ≡ []
    alone [] e = refl
    alone (x ∷ l) e = absurd (false≢true e)

    pick : (b : Bool) → eqb c newline ≡ b → (one_line l ≡ true → lines_of (l ++ t) ≡ l ∷ lines_of t) → lines_of ((c ∷ l) ++ t) ≡ (c ∷ l) ∷ lines_of t
    pick true d f = let n = alone l (rw d at e) in rw (d, n)
    pick false d f = rw (d, f (rw d at e))

-- A text made of lines has those lines ..
pub lines_of_flat : (ls : List Bytes) → Every (λ l. one_line l ≡ true) ls → lines_of (flatten ls) ≡ ls
unfolding flatten lines_of
lines_of_flat [] h = refl
lines_of_flat (l ∷ ls) h = line_first l (flatten ls) h.0 ∙ ap (λ (x : List Bytes). l ∷ x) (lines_of_flat ls h.1)

-- A text is made of its lines.
pub flat_lines : (t : Bytes) → flatten (lines_of t) ≡ t
unfolding flatten lines_of
flat_lines [] = refl
flat_lines (c ∷ t) = pick (eqb c newline) refl (flat_lines t)
  where
    onto : (ls : List Bytes) → flatten (onto_first c ls) ≡ c ∷ flatten ls
    onto [] = refl
    onto (l ∷ ls) = refl

    pick : (b : Bool) → eqb c newline ≡ b → flatten (lines_of t) ≡ t → flatten (lines_of (c ∷ t)) ≡ c ∷ t
    pick true d i = rw d (ap (λ (x : Bytes). c ∷ x) i)
    pick false d i = rw d (onto (lines_of t) ∙ ap (λ (x : Bytes). c ∷ x) i)

-- The step of a loop over lines: a text's first line, and the rest.
abbrev Next : Bytes → Type 0
Next t = lines_of t ≡ take (line_length t) t ∷ lines_of (drop (line_length t) t)

next_line : (c : ℕ) (t : Bytes) → Next (c ∷ t)
unfolding lines_of line_length
next_line c [] = pick (eqb c newline) refl
  where
    pick : (b : Bool) → eqb c newline ≡ b → Next (c ∷ [])
    pick true e = rw e
    pick false e = rw e
next_line c (d ∷ t) = pick (eqb c newline) refl (next_line d t)
  where
    pick : (b : Bool) → eqb c newline ≡ b → Next (d ∷ t) → Next (c ∷ d ∷ t)
    pick true e i = rw e
    pick false e i = rw e (ap (onto_first c) i)

pub lines_next : (t : Bytes) → 0 < length t → lines_of t ≡ take (line_length t) t ∷ lines_of (drop (line_length t) t)
lines_next [] h = absurd (omega arith)
lines_next (c ∷ t) h = next_line c t

-- Bytes of words: none below the space.
abbrev plain : Bytes → Bool
plain bs = all (leb space) bs

plain_then : (xs t : Bytes) → plain xs ≡ true → one_line t ≡ true → one_line (xs ++ t) ≡ true
unfolding all one_line
plain_then [] t p e = e
plain_then (x ∷ xs) t p e =
    let l = leb-true space x (and_left (leb space x) (plain xs) p) in
    rw (ne_eqb x newline (λ q. omega arith)) (plain_then xs t (and_right (leb space x) (plain xs) p) e)

plain_digits : (xs : Bytes) → Every Digit xs → plain xs ≡ true
unfolding all
plain_digits [] h = refl
plain_digits (x ∷ xs) h =
    let l = leb-true 48 x (and_left (leb 48 x) (leb x 57) h.0) in
    and_both (leb space x) (plain xs) (le-leb space x (omega arith)) (plain_digits xs h.1)

plain_number : (n : ℕ) → plain (space ∷ decimal n) ≡ true
unfolding all
plain_number n = plain_digits (decimal n) (decimal_every n)

plain_digit : (d : ℕ) → leb space (hex_digit d) ≡ true
unfolding hex_digit
plain_digit d = pick (below_or_not d 10)
  where
    pick : (d < 10) ⊎ (10 ≤ d) → leb space (hex_digit d) ≡ true
    pick (inl l) = rw (lt-ltb d 10 l) (le-leb space (48 + d) (omega arith))
    pick (inr l) = rw (le-ltb d 10 l) (le-leb space (87 + d) (omega arith))

plain_hex : (h : Bytes) → plain (hex h) ≡ true
unfolding all hex
plain_hex [] = refl
plain_hex (b ∷ bs) =
    and_both (leb space (hex_digit (b / 16))) (leb space (hex_digit (b % 16)) && plain (hex bs)) (plain_digit (b / 16))
    (and_both (leb space (hex_digit (b % 16))) (plain (hex bs)) (plain_digit (b % 16)) (plain_hex bs))

plain_hash : (h : Bytes) → plain (space ∷ hex h) ≡ true
unfolding all
plain_hash h = plain_hex h

-- A line's words are on one line.
abbrev PlainWord : Word → Type 0
PlainWord w = (plain (spaced w.name) ≡ true) × (plain w.value ≡ true)

words_line : (ws : List Word) → Every PlainWord ws → one_line (words_text ws) ≡ true
unfolding words_text one_line
words_line [] h = refl
words_line (w ∷ ws) h = pick w.given refl (words_line ws h.1)
  where
    pick : (b : Bool) → w.given ≡ b → one_line (words_text ws) ≡ true → one_line (words_text (w ∷ ws)) ≡ true
    pick true d i =
        ap one_line (text_with w ws d)
        ∙ plain_then (spaced w.name) (w.value ++ words_text ws) h.0.0 (plain_then w.value (words_text ws) h.0.1 i)
    pick false d i = ap one_line (text_without w ws d) ∙ i

plain_permissions : (b : ℕ) (names : List String) (n : ℕ) → all (λ x. plain (spaced x)) names ≡ true → Every PlainWord (permission_words b names n)
unfolding all permission_words
plain_permissions b [] n e = tt
plain_permissions b (x ∷ xs) n e =
    ((and_left (plain (spaced x)) (all (λ y. plain (spaced y)) xs) e, refl), plain_permissions (b + 1) xs n (and_right (plain (spaced x)) (all (λ y. plain (spaced y)) xs) e))

either_line : (b : Bool) (x y : Bytes) → one_line x ≡ true → one_line y ≡ true → one_line (if b then x else y) ≡ true
either_line true x y p q = p
either_line false x y p q = q

counted_plain : (sort : ℕ) → plain (spaced (limit_unit sort)) ≡ true
unfolding all ascii
counted_plain sort = pick (eqb sort 3) refl
  where
    pick : (b : Bool) → eqb sort 3 ≡ b → plain (spaced (limit_unit sort)) ≡ true
    pick true e = rw e refl
    pick false e = rw e refl

-- "one line per record, each ended by one byte 10"
pub line_of_one : (r : Bytes) → one_line (line_of r) ≡ true
unfolding line_of all ascii
line_of_one r =
    either_line (eqb (kind r) 1) _ _
    (plain_then (ascii "group") (words_text (group_words r)) refl (words_line (group_words r) ((refl, plain_hash (part 4 hash_bytes r)), ((refl, plain_number (number 24 2 r)), tt))))
    (either_line (eqb (kind r) 2) _ _
    (plain_then (ascii "limit") (words_text (limit_words r)) refl (words_line (limit_words r) ((refl, plain_number (byte 5 r)), ((counted_plain (byte 4 r), plain_number (number 8 4 r)), tt))))
    (either_line (eqb (kind r) 3) _ _
    (plain_then (ascii "OpPermissions") (words_text (permission_words 0 permission_names (number 4 2 r))) refl (words_line (permission_words 0 permission_names (number 4 2 r)) (plain_permissions 0 permission_names (number 4 2 r) refl)))
    (either_line (eqb (kind r) 4) _ _
    (plain_then (ascii "MakeBlob") (words_text (blob_words r)) refl
    (words_line (blob_words r)
    ((refl, refl), ((refl, refl), ((refl, plain_hash (part 4 hash_bytes r)), ((refl, plain_hash (part 24 hash_bytes r)), ((refl, refl), ((refl, refl), ((refl, plain_number (byte 46 r)), ((refl, plain_number (byte 47 r)), ((refl, plain_number (number 48 4 r)), ((refl, refl), ((refl, refl), tt)))))))))))))
    (either_line (eqb (kind r) 5) _ _
    (plain_then (ascii "MakeArchiveBlob") (words_text (archive_words r)) refl (words_line (archive_words r) ((refl, plain_hash (part 4 hash_bytes r)), ((refl, plain_number (number 24 2 r)), ((refl, refl), tt)))))
    (plain_then (ascii "blobfile") (words_text (blobfile_words r)) refl (words_line (blobfile_words r) ((refl, plain_number (number 4 4 r)), ((refl, plain_hash (part 8 hash_bytes r)), tt))))))))

-- The records of requests, bundles and hints. A name out of a list:
plain_name : (names : List String) (n : ℕ) → all (λ x. plain (spaced x)) names ≡ true → plain (spaced (name_at n names)) ≡ true
unfolding all ascii
plain_name [] n e = refl
plain_name (x ∷ xs) zero e = and_left (plain (spaced x)) (all (λ y. plain (spaced y)) xs) e
plain_name (x ∷ xs) (suc n) e = plain_name xs n (and_right (plain (spaced x)) (all (λ y. plain (spaced y)) xs) e)

-- several numbers
plain_both : (xs ys : Bytes) → plain xs ≡ true → plain ys ≡ true → plain (xs ++ ys) ≡ true
unfolding all
plain_both [] ys p q = q
plain_both (x ∷ xs) ys p q =
    and_both (leb space x) (plain (xs ++ ys)) (and_left (leb space x) (plain xs) p) (plain_both xs ys (and_right (leb space x) (plain xs) p) q)

plain_numbers : (ns : Bytes) → plain (numbers_text ns) ≡ true
unfolding all numbers_text
plain_numbers [] = refl
plain_numbers (n ∷ ns) = plain_both (decimal n) (numbers_text ns) (plain_digits (decimal n) (decimal_every n)) (plain_numbers ns)

-- "one line per record, each ended by one byte 10"
module _ (r : Bytes) where
  use_one : one_line (ascii "use" ++ words_text (use_words r)) ≡ true
  unfolding all ascii
  use_one =
      plain_then (ascii "use") (words_text (use_words r)) refl
      (words_line (use_words r) ((plain_name permission_names (byte 4 r) refl, refl), ((refl, plain_number (number 56 8 r)), tt)))

  blob_one : one_line (ascii "blob" ++ words_text (blob_request_words r)) ≡ true
  unfolding all ascii
  blob_one =
      plain_then (ascii "blob") (words_text (blob_request_words r)) refl
      (words_line (blob_request_words r)
      ((refl, plain_hash (part 4 hash_bytes r)), ((refl, plain_hash (part 24 hash_bytes r)), ((refl, refl), ((refl, plain_number (byte 46 r)), ((refl, plain_number (byte 47 r)), ((refl, plain_number (number 48 4 r)), ((refl, refl), ((refl, plain_number (number 56 8 r)), tt)))))))))

  recovery_one : one_line (ascii "recovery" ++ words_text (recovery_words r)) ≡ true
  unfolding all ascii
  recovery_one =
      plain_then (ascii "recovery") (words_text (recovery_words r)) refl
      (words_line (recovery_words r) ((refl, plain_hash (part 4 hash_bytes r)), ((refl, plain_number (number 24 2 r)), ((refl, refl), ((refl, plain_number (number 56 8 r)), tt)))))

  certificate_one : one_line (ascii "certificate" ++ words_text (certificate_words r)) ≡ true
  unfolding all ascii
  certificate_one =
      plain_then (ascii "certificate") (words_text (certificate_words r)) refl
      (words_line (certificate_words r) ((refl, plain_hex (part 4 hash_bytes r)), ((refl, plain_number (number 24 2 r)), tt)))

  fact_one : one_line (ascii "fact" ++ words_text (fact_words r)) ≡ true
  unfolding all ascii
  fact_one =
      plain_then (ascii "fact") (words_text (fact_words r)) refl
      (words_line (fact_words r) ((plain_name field_names (byte 4 r - 1) refl, refl), ((refl, plain_hex (part 8 hash_bytes r)), tt)))

  signature_one : one_line (ascii "signature" ++ words_text (signature_words r)) ≡ true
  unfolding all ascii
  signature_one =
      plain_then (ascii "signature") (words_text (signature_words r)) refl
      (words_line (signature_words r) ((plain_name signature_names (byte 4 r - 1) refl, refl), ((refl, refl), ((refl, refl), tt))))

  policy_one : one_line (ascii "policy" ++ words_text (policy_words r)) ≡ true
  unfolding all ascii
  policy_one =
      plain_then (ascii "policy") (words_text (policy_words r)) refl
      (words_line (policy_words r)
      ((refl, plain_number (byte 4 r)), ((refl, plain_number (byte 5 r)), ((refl, refl), ((refl, refl), ((refl, refl), ((refl, plain_number (byte 7 r)), tt)))))))

  hint_one : one_line (ascii "hint" ++ words_text (hint_words r)) ≡ true
  unfolding all ascii
  hint_one =
      plain_then (ascii "hint") (words_text (hint_words r)) refl
      (words_line (hint_words r) ((refl, plain_number (byte 4 r)), ((refl, plain_numbers (part 8 8 r)), tt)))

  delegation_one : one_line (ascii "delegation" ++ words_text (delegation_words r)) ≡ true
  unfolding all ascii
  delegation_one =
      plain_then (ascii "delegation") (words_text (delegation_words r)) refl
      (words_line (delegation_words r) ((refl, plain_hash (part 4 hash_bytes r)), ((refl, plain_hash (part 24 hash_bytes r)), plain_permissions 0 permission_names (number 44 2 r) refl)))

  pub record_line_one : one_line (record_line r) ≡ true
  unfolding record_line
  record_line_one =
      either_line (eqb (kind r) 6) _ _ use_one
      (either_line (eqb (kind r) 7) _ _ blob_one
      (either_line (eqb (kind r) 8) _ _ recovery_one
      (either_line (eqb (kind r) 9) _ _ certificate_one
      (either_line (eqb (kind r) 10) _ _ fact_one
      (either_line (eqb (kind r) 11) _ _ signature_one
      (either_line (eqb (kind r) 12) _ _ policy_one
      (either_line (eqb (kind r) 13) _ _ hint_one
      (either_line (eqb (kind r) 14) _ _ delegation_one (line_of_one r)))))))))
