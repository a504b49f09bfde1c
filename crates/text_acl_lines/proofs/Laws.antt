-- A line from its parts, and the line of a record by its kind.
use Prim.Native.Nat.{ℕ, ◌+◌, ◌/◌, ◌^◌}
use Prim.Native.String.{String}
use native.Mathlib.Omega.{arith}
use native.Mathlib.Numerals.{add-one}
use native.Mathlib.Nat.{pow-suc, div-div-eq-div-mul}
use mathlib.Core.Path.{◌≡◌, refl, sym, ◌∙◌, ap}
use mathlib.Core.List.{List, [], ◌∷◌, ◌++◌, append_assoc, map}
use mathlib.Core.Bool.{Bool, true, false, not}
use lib.Dec.{eqb}
use borrow.Author.Tests.{ne_eqb}
use Rattle.rules.specs.Sizes.{hash_bytes}
use Rattle.rules.specs.Basics.{Bytes, ascii, byte, number, part, kind, bit, flag}
use Rattle.rules.specs.Day.{decimal}
use Rattle.text_rules.specs.Words.{hex, spaced, word_text, words_text, group_words, limit_words, permission_names, permission_words, blob_words, archive_words, blobfile_words, line_of}
use Rattle.text_bytes.specs.Putting.{Held, text_if}
use Rattle.text_bytes.specs.Names.{words_of, names_text}
use Rattle.text_bytes.proofs.Permissions.{permission_row, row_names}
use Rattle.text_acl_lines.specs.Parts.{keyed_line, key_text, token_text}

-- the parts, by what was read
pub keyed_text : (first word r : Bytes) (named last f : Bool) (m : ℕ) → f ≡ flag 0 r → m ≡ number 24 2 r
    → first ++ (text_if f word (hex (part 4 hash_bytes r)) ++ (text_if named (ascii " mechanism ") (decimal m) ++ (text_if last (ascii " blobfile") [] ++ ascii "\n")))
    ≡ keyed_line first word named last r
unfolding keyed_line
keyed_text first word r named last f m ef em = rw (ef, em)

pub key_text_lem : (r : Bytes) (f0 f1 f2 f3 : Bool) → f0 ≡ flag 0 r → f1 ≡ flag 1 r → f2 ≡ flag 2 r → f3 ≡ flag 3 r
    → text_if f0 (ascii " AllowKmOnly") []
    ++ (text_if f1 (ascii " AllowNonKm0") [] ++ (text_if f2 (ascii " kmhash ") (hex (part 4 hash_bytes r)) ++ text_if f3 (ascii " kthash ") (hex (part 24 hash_bytes r))))
    ≡ key_text r
unfolding key_text
key_text_lem r f0 f1 f2 f3 e0 e1 e2 e3 = rw (e0, e1, e2, e3)

pub token_text_lem : (r : Bytes) (f s : Bool) (l n t m : ℕ) → f ≡ flag 4 r → l ≡ number 44 2 r → s ≡ bit 0 l → n ≡ byte 46 r → t ≡ byte 47 r → m ≡ number 48 4 r
    → text_if f (ascii " ktparams") []
    ++ (text_if s (ascii " AllowSoftSlots") []
    ++ (text_if f (ascii " needed ") (decimal n) ++ (text_if f (ascii " total ") (decimal t) ++ text_if f (ascii " seconds ") (decimal m))))
    ≡ token_text r
unfolding token_text
token_text_lem r f s l n t m ef el es en et em = rw (es, ef, el, en, et, em)

pub blob_text : (r : Bytes) (f g : Bool) → f ≡ flag 5 r → g ≡ flag 6 r
    → ascii "MakeBlob" ++ (key_text r ++ (token_text r ++ (text_if f (ascii " AllowNullKmToken") [] ++ (text_if g (ascii " blobfile") [] ++ ascii "\n"))))
    ≡ ascii "MakeBlob" ++ words_text (blob_words r)
unfolding ascii key_text token_text text_if word_text words_text
blob_text r f g e d = rw (e, d) (ap (λ (l : Bytes). ascii "MakeBlob" ++ l) (simp append_assoc))

pub file_text : (r : Bytes) (f g : Bool) (n : ℕ) → f ≡ flag 0 r → g ≡ flag 1 r → n ≡ number 4 4 r
    → ascii "blobfile" ++ (text_if f (ascii " devices ") (decimal n) ++ (text_if g (ascii " template ") (hex (part 8 hash_bytes r)) ++ ascii "\n"))
    ≡ ascii "blobfile" ++ words_text (blobfile_words r)
unfolding ascii text_if word_text words_text
file_text r f g n e d k = rw (e, d, k)

-- what a limit counts
pub limit_text : (r : Bytes) (n m : ℕ) → n ≡ byte 5 r → m ≡ number 8 4 r
    → ascii "limit"
    ++ (text_if (eqb (byte 4 r) 2) (ascii " counter ") (decimal n)
    ++ (text_if (eqb (byte 4 r) 3) (ascii " seconds ") (decimal m) ++ (text_if (not (eqb (byte 4 r) 3)) (ascii " uses ") (decimal m) ++ ascii "\n")))
    ≡ ascii "limit" ++ words_text (limit_words r)
unfolding ascii text_if word_text words_text
limit_text r n m en em = rw (en, em) (pick (eqb (byte 4 r) 3) refl)
  where
    pick : (b : Bool) → eqb (byte 4 r) 3 ≡ b
        → ascii "limit"
        ++ (text_if (eqb (byte 4 r) 2) (ascii " counter ") (decimal (byte 5 r))
        ++ (text_if (eqb (byte 4 r) 3) (ascii " seconds ") (decimal (number 8 4 r)) ++ (text_if (not (eqb (byte 4 r) 3)) (ascii " uses ") (decimal (number 8 4 r)) ++ ascii "\n")))
        ≡ ascii "limit" ++ words_text (limit_words r)
    pick true d = rw d
    pick false d = rw d

-- the words of the bits of the permissions
names_words : (names : List String) (b n : ℕ) → names_text (map spaced names) (n / 2 ^ b) ++ ascii "\n" ≡ words_text (permission_words b names n)
unfolding names_text permission_words words_text word_text text_if ascii
names_words [] b n = refl
names_words (name ∷ names) b n =
    append_assoc (text_if (bit b n) (spaced name) []) (names_text (map spaced names) (n / 2 ^ b / 2)) (ascii "\n")
    ∙ ap (λ (m : ℕ). text_if (bit b n) (spaced name) [] ++ (names_text (map spaced names) m ++ ascii "\n")) halves
    ∙ ap (λ (l : Bytes). text_if (bit b n) (spaced name) [] ++ l) (names_words names (b + 1) n)
  where
    halves : n / 2 ^ b / 2 ≡ n / 2 ^ (b + 1)
    halves = div-div-eq-div-mul n (2 ^ b) 2 ∙ ap (λ (m : ℕ). n / m) (sym (ap (λ (k : ℕ). 2 ^ k) (add-one b) ∙ pow-suc 2 b))

-- the words of a mask, and the newline
pub names_line : (n : ℕ) → names_text (words_of permission_row) n ++ ascii "\n" ≡ words_text (permission_words 0 permission_names n)
names_line n =
    ap (λ (ws : List Bytes). names_text ws n ++ ascii "\n") row_names ∙ ap (λ (m : ℕ). names_text (map spaced permission_names) m ++ ascii "\n") whole ∙ names_words permission_names 0 n
  where
    whole : n ≡ n / 2 ^ 0
    whole = omega arith

pub permissions_text : (r : Bytes) (n : ℕ) → n ≡ number 4 2 r → ascii "OpPermissions" ++ (names_text (words_of permission_row) n ++ ascii "\n") ≡ ascii "OpPermissions" ++ words_text (permission_words 0 permission_names (number 4 2 r))
permissions_text r n e = ap (λ (l : Bytes). ascii "OpPermissions" ++ l) (names_line n ∙ ap (λ (m : ℕ). words_text (permission_words 0 permission_names m)) e)

-- the line of a record, by its kind
group_text : (r : Bytes) (named : Bool) → named ≡ flag 1 r → keyed_line (ascii "group") (ascii " certifier ") named false r ≡ ascii "group" ++ words_text (group_words r)
unfolding keyed_line ascii text_if word_text words_text
group_text r named e = rw e

archive_text : (r : Bytes) (last : Bool) → last ≡ flag 6 r → keyed_line (ascii "MakeArchiveBlob") (ascii " kahash ") true last r ≡ ascii "MakeArchiveBlob" ++ words_text (archive_words r)
unfolding keyed_line ascii text_if word_text words_text
archive_text r last e = rw e

module _ (r old new : Bytes) (n : ℕ) where
  pub line_1 : (named : Bool) → kind r ≡ 1 → named ≡ flag 1 r → Held 256 (keyed_line (ascii "group") (ascii " certifier ") named false r) 0 old new n → Held 256 (line_of r) 0 old new n
  unfolding line_of
  line_1 named e f p = rw e (rw (group_text r named f) at p)

  pub line_2 : kind r ≡ 2 → Held 256 (ascii "limit" ++ words_text (limit_words r)) 0 old new n → Held 256 (line_of r) 0 old new n
  unfolding line_of
  line_2 e p = rw e p

  pub line_3 : kind r ≡ 3 → Held 256 (ascii "OpPermissions" ++ words_text (permission_words 0 permission_names (number 4 2 r))) 0 old new n → Held 256 (line_of r) 0 old new n
  unfolding line_of
  line_3 e p = rw e p

  pub line_4 : kind r ≡ 4 → Held 256 (ascii "MakeBlob" ++ words_text (blob_words r)) 0 old new n → Held 256 (line_of r) 0 old new n
  unfolding line_of
  line_4 e p = rw e p

  pub line_5 : (last : Bool) → kind r ≡ 5 → last ≡ flag 6 r → Held 256 (keyed_line (ascii "MakeArchiveBlob") (ascii " kahash ") true last r) 0 old new n → Held 256 (line_of r) 0 old new n
  unfolding line_of
  line_5 last e f p = rw e (rw (archive_text r last f) at p)

  pub line_other : (kind r ≡ 1 → ⊥) → (kind r ≡ 2 → ⊥) → (kind r ≡ 3 → ⊥) → (kind r ≡ 4 → ⊥) → (kind r ≡ 5 → ⊥) → Held 256 (ascii "blobfile" ++ words_text (blobfile_words r)) 0 old new n → Held 256 (line_of r) 0 old new n
  unfolding line_of
  line_other n1 n2 n3 n4 n5 p = rw (ne_eqb (kind r) 1 n1, ne_eqb (kind r) 2 n2, ne_eqb (kind r) 3 n3, ne_eqb (kind r) 4 n4, ne_eqb (kind r) 5 n5) p
