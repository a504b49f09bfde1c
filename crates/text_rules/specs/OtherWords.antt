-- The lines of the records that stand in requests, bundles and hints: the kinds 6 to 14. They are written as those of an ACL are (Words): one line per
-- record, words in a fixed order. The words are those of docs/TEXT.md.
use Rattle.std.specs.Prelude.{ℕ, zero, suc, ◌+◌, ◌-◌, ◌*◌, List, [], ◌∷◌, ◌++◌, Bool, true, eqb, if◌then◌else◌}
use Prim.Native.String.{String}
use Rattle.rules.specs.Sizes.{hash_bytes, certificates_max, delegations_max, hint_records, day_records}
use Rattle.rules.specs.Basics.{Bytes, ascii, bit, part, number, byte, kind, flag}
use Rattle.rules.specs.Day.{decimal}
use Rattle.text_rules.specs.Words.{space, hex, Word, bare, with_number, with_hash, words_text, permission_names, permission_words, line_of, blobfile_line_max}

-- a value that no name stands before
abbrev pub alone : Bytes → Word
alone value = record { given = true; name = ""; value = value }

-- the name at a place, from 0
abbrev pub name_at : ℕ → List String → String
name_at n [] = ""
name_at zero (name ∷ names) = name
name_at (suc n) (name ∷ names) = name_at n names

-- "Requests, each with its time in 56-63"
abbrev pub time_word : Bytes → Word
time_word r = with_number true "time" (number 56 8 r)

-- 6: use PERMISSION time N
abbrev pub use_words : Bytes → List Word
use_words r = bare true (name_at (byte 4 r) permission_names) ∷ time_word r ∷ []

-- 7: blob kmhash HASH [token HASH [AllowSoftSlots] needed N total N seconds N] [blobfile] time N
abbrev pub blob_request_words : Bytes → List Word
blob_request_words r =
    with_hash true "kmhash" (part 4 hash_bytes r)
    ∷ with_hash (flag 0 r) "token" (part 24 hash_bytes r)
    ∷ bare (bit 0 (number 44 2 r)) "AllowSoftSlots"
    ∷ with_number (flag 0 r) "needed" (byte 46 r)
    ∷ with_number (flag 0 r) "total" (byte 47 r)
    ∷ with_number (flag 0 r) "seconds" (number 48 4 r)
    ∷ bare (flag 6 r) "blobfile"
    ∷ time_word r
    ∷ []

-- 8: recovery kahash HASH mechanism N [blobfile] time N
abbrev pub recovery_words : Bytes → List Word
recovery_words r =
    with_hash true "kahash" (part 4 hash_bytes r)
    ∷ with_number true "mechanism" (number 24 2 r)
    ∷ bare (flag 6 r) "blobfile"
    ∷ time_word r
    ∷ []

-- 9: certificate HASH mechanism N
abbrev pub certificate_words : Bytes → List Word
certificate_words r = alone (hex (part 4 hash_bytes r)) ∷ with_number true "mechanism" (number 24 2 r) ∷ []

-- document 01, "The desk": the names of the fields, from 1
abbrev pub field_names : List String
field_names =
    "warrantESN" ∷ "stateESN" ∷ "KML" ∷ "HKNSO" ∷ "knsopub" ∷ "hkm" ∷ "hkre"
    ∷ "kcmsg" ∷ "pubkeydata" ∷ "csr" ∷ "hkra" ∷ "hkmc" ∷ "hkfips" ∷ "modulekey"
    ∷ []

-- 10: fact NAME HASH
abbrev pub fact_words : Bytes → List Word
fact_words r = bare true (name_at (byte 4 r - 1) field_names) ∷ alone (hex (part 8 hash_bytes r)) ∷ []

-- the names of the signatures, from 1
abbrev pub signature_names : List String
signature_names =
    "warrant" ∷ "modulestate" ∷ "CertKMaKMCbKNSO" ∷ "CertKMaKMCaKFIPSbKNSO" ∷ "CertKREaKRAbKNSO" ∷ "keygeneration" ∷ []

-- 11: signature NAME good, or .. bad
abbrev pub signature_words : Bytes → List Word
signature_words r =
    bare true (name_at (byte 4 r - 1) signature_names) ∷ bare (eqb (byte 5 r) 1) "good" ∷ bare (eqb (byte 5 r) 0) "bad" ∷ []

-- 12: policy suite N approach N [signing] [encryption] [csr] protection N
abbrev pub policy_words : Bytes → List Word
policy_words r =
    with_number true "suite" (byte 4 r)
    ∷ with_number true "approach" (byte 5 r)
    ∷ bare (bit 0 (byte 6 r)) "signing"
    ∷ bare (bit 1 (byte 6 r)) "encryption"
    ∷ bare (bit 2 (byte 6 r)) "csr"
    ∷ with_number true "protection" (byte 7 r)
    ∷ []

-- numbers, each after a space
unfoldable pub numbers_text : Bytes → Bytes
numbers_text [] = []
numbers_text (n ∷ ns) = space ∷ (decimal n ++ numbers_text ns)

-- a word and several numbers
abbrev pub with_numbers : Bool → String → Bytes → Word
with_numbers given name ns = record { given = given; name = name; value = numbers_text ns }

-- 13: hint group N actions N N N N N N N N
abbrev pub hint_words : Bytes → List Word
hint_words r = with_number true "group" (byte 4 r) ∷ with_numbers true "actions" (part 8 8 r) ∷ []

-- 14: delegation from HASH to HASH [PERMISSION ..]
abbrev pub delegation_words : Bytes → List Word
delegation_words r =
    with_hash true "from" (part 4 hash_bytes r)
    ∷ with_hash true "to" (part 24 hash_bytes r)
    ∷ permission_words 0 permission_names (number 44 2 r)

-- A record's line, by its kind: it depends on the record alone, and not on the file. A kind that is none of these is one of an ACL's.
unfoldable pub record_line : Bytes → Bytes
record_line r =
    if eqb (kind r) 6 then ascii "use" ++ words_text (use_words r)
    else if eqb (kind r) 7 then ascii "blob" ++ words_text (blob_request_words r)
    else if eqb (kind r) 8 then ascii "recovery" ++ words_text (recovery_words r)
    else if eqb (kind r) 9 then ascii "certificate" ++ words_text (certificate_words r)
    else if eqb (kind r) 10 then ascii "fact" ++ words_text (fact_words r)
    else if eqb (kind r) 11 then ascii "signature" ++ words_text (signature_words r)
    else if eqb (kind r) 12 then ascii "policy" ++ words_text (policy_words r)
    else if eqb (kind r) 13 then ascii "hint" ++ words_text (hint_words r)
    else if eqb (kind r) 14 then ascii "delegation" ++ words_text (delegation_words r)
    else line_of r

-- The longest lines of a request record, of one that stands alone, of a certificate, a delegation, a hint and a policy, in bytes.
abbrev pub request_line_max : ℕ
request_line_max = 188

abbrev pub alone_line_max : ℕ
alone_line_max = 179

abbrev pub certificate_line_max : ℕ
certificate_line_max = 69

abbrev pub delegation_line_max : ℕ
delegation_line_max = 276

abbrev pub hint_line_max : ℕ
hint_line_max = 55

abbrev pub policy_line_max : ℕ
policy_line_max = 64

-- The longest texts of a request file, of requests that stand alone, of a bundle and of hints.
abbrev pub request_text_max : ℕ
request_text_max = request_line_max + blobfile_line_max + certificates_max * certificate_line_max + delegations_max * delegation_line_max

abbrev pub requests_text_max : ℕ
requests_text_max = day_records * alone_line_max

abbrev pub bundle_text_max : ℕ
bundle_text_max = 2718

abbrev pub hints_text_max : ℕ
hints_text_max = hint_records * hint_line_max
