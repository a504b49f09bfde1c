-- The line of a record: document 02, requests b and i, "one line per record, each ended by one byte 10, fields in a fixed order, numbers in decimal,
-- permissions by name and hashes as 40 lower-case digits". The words and their order are those of docs/TEXT.md.
use Rattle.std.specs.Prelude.{ℕ, ◌+◌, ◌*◌, ◌/◌, ◌%◌, Bool, true, eqb, ltb, if◌then◌else◌}
use Prim.Native.String.{String}
use mathlib.Core.List.{List, [], ◌∷◌, ◌++◌, map, flatten}
use Rattle.rules.specs.Sizes.{hash_bytes, groups_max, limits_max, actions_max}
use Rattle.rules.specs.Basics.{Bytes, ascii, bit, part, number, byte, kind, flag, records}
use Rattle.rules.specs.Day.{decimal}

-- "each ended by one byte 10"
abbrev pub newline : ℕ
newline = 10

-- "Words are separated by one space"
abbrev pub space : ℕ
space = 32

-- a hexadecimal digit, 0 to 9 or a to f
unfoldable pub hex_digit : ℕ → ℕ
hex_digit d = if ltb d 10 then 48 + d else 87 + d

-- "hashes as 40 lower-case digits": two digits for each byte
unfoldable pub hex : Bytes → Bytes
hex [] = []
hex (b ∷ bs) = hex_digit (b / 16) ∷ hex_digit (b % 16) ∷ hex bs

-- A word after a line's first, with the value that follows it. "What stands in brackets is there exactly when the record's flag (or bit) is set."
pub record Word : Type 0 where
  pub given : Bool
  pub name : String
  pub value : Bytes

-- a word alone
abbrev pub bare : Bool → String → Word
bare given name = record { given = given; name = name; value = [] }

-- a word and a number
abbrev pub with_number : Bool → String → ℕ → Word
with_number given name n = record { given = given; name = name; value = space ∷ decimal n }

-- a word and a hash
abbrev pub with_hash : Bool → String → Bytes → Word
with_hash given name h = record { given = given; name = name; value = space ∷ hex h }

-- a name with the space before it
abbrev pub spaced : String → Bytes
spaced name = space ∷ ascii name

-- what a word adds to its line
unfoldable pub word_text : Word → Bytes
word_text w = if w.given then spaced w.name ++ w.value else []

-- the rest of a line after its first word
unfoldable pub words_text : List Word → Bytes
words_text [] = newline ∷ []
words_text (w ∷ ws) = word_text w ++ words_text ws

-- group [certifier HASH] [mechanism N]
abbrev pub group_words : Bytes → List Word
group_words r = with_hash (flag 0 r) "certifier" (part 4 hash_bytes r) ∷ with_number (flag 1 r) "mechanism" (number 24 2 r) ∷ []

-- "byte 4 sort (1 uses per load, 2 named counter, 3 seconds since load)": what a maximum counts
abbrev pub limit_unit : ℕ → String
limit_unit sort = if eqb sort 3 then "seconds" else "uses"

-- limit uses N; limit counter N uses N; limit seconds N
abbrev pub limit_words : Bytes → List Word
limit_words r = with_number (eqb (byte 4 r) 2) "counter" (byte 5 r) ∷ with_number true (limit_unit (byte 4 r)) (number 8 4 r) ∷ []

-- document 01, "The permissions": their names, by bit
abbrev pub permission_names : List String
permission_names =
    "DuplicateHandle" ∷ "GetAppData" ∷ "ReduceACL" ∷ "GetACL" ∷ "Sign" ∷ "Verify" ∷ "SignModuleCert" ∷ "UseAsCertificate"
    ∷ "Encrypt" ∷ "Decrypt" ∷ "ExportAsPlain" ∷ "SetAppData" ∷ "ExpandACL" ∷ "UseAsBlobKey" ∷ "UseAsKM" ∷ "UseAsLoaderKey"
    ∷ []

-- OpPermissions [DuplicateHandle] .. [UseAsLoaderKey]: the names of the bits set, from bit b on
unfoldable pub permission_words : ℕ → List String → ℕ → List Word
permission_words b [] n = []
permission_words b (name ∷ names) n = bare (bit b n) name ∷ permission_words (b + 1) names n

-- MakeBlob [AllowKmOnly] [AllowNonKm0] [kmhash HASH] [kthash HASH] [ktparams [AllowSoftSlots] needed N total N seconds N] [AllowNullKmToken]
-- [blobfile]
abbrev pub blob_words : Bytes → List Word
blob_words r =
    bare (flag 0 r) "AllowKmOnly"
    ∷ bare (flag 1 r) "AllowNonKm0"
    ∷ with_hash (flag 2 r) "kmhash" (part 4 hash_bytes r)
    ∷ with_hash (flag 3 r) "kthash" (part 24 hash_bytes r)
    ∷ bare (flag 4 r) "ktparams"
    ∷ bare (bit 0 (number 44 2 r)) "AllowSoftSlots"
    ∷ with_number (flag 4 r) "needed" (byte 46 r)
    ∷ with_number (flag 4 r) "total" (byte 47 r)
    ∷ with_number (flag 4 r) "seconds" (number 48 4 r)
    ∷ bare (flag 5 r) "AllowNullKmToken"
    ∷ bare (flag 6 r) "blobfile"
    ∷ []

-- MakeArchiveBlob [kahash HASH] mechanism N [blobfile]
abbrev pub archive_words : Bytes → List Word
archive_words r =
    with_hash (flag 0 r) "kahash" (part 4 hash_bytes r)
    ∷ with_number true "mechanism" (number 24 2 r)
    ∷ bare (flag 6 r) "blobfile"
    ∷ []

-- "The listing gains a line for kind 15.": blobfile [devices N] [template HASH]
abbrev pub blobfile_words : Bytes → List Word
blobfile_words r = with_number (flag 0 r) "devices" (number 4 4 r) ∷ with_hash (flag 1 r) "template" (part 8 hash_bytes r) ∷ []

-- A record's line, by its kind. These are meant for the records of an ACL: a kind that is none of theirs is written as the last.
unfoldable pub line_of : Bytes → Bytes
line_of r =
    if eqb (kind r) 1 then ascii "group" ++ words_text (group_words r)
    else if eqb (kind r) 2 then ascii "limit" ++ words_text (limit_words r)
    else if eqb (kind r) 3 then ascii "OpPermissions" ++ words_text (permission_words 0 permission_names (number 4 2 r))
    else if eqb (kind r) 4 then ascii "MakeBlob" ++ words_text (blob_words r)
    else if eqb (kind r) 5 then ascii "MakeArchiveBlob" ++ words_text (archive_words r)
    else ascii "blobfile" ++ words_text (blobfile_words r)

-- "one line per record": a file's text, by the line of a record
unfoldable pub text_by : (Bytes → Bytes) → Bytes → Bytes
text_by line file = flatten (map line (records file))

-- "a text form of an ACL"
abbrev pub listing_of : Bytes → Bytes
listing_of = text_by line_of

-- The longest lines of a group, a limit, a record of kind 15 and an action, and the longest listing of an ACL, in bytes.
abbrev pub group_line_max : ℕ
group_line_max = 73

abbrev pub limit_line_max : ℕ
limit_line_max = 34

abbrev pub blobfile_line_max : ℕ
blobfile_line_max = 78

abbrev pub line_max : ℕ
line_max = 217

abbrev pub listing_max : ℕ
listing_max = groups_max * (group_line_max + limits_max * limit_line_max + actions_max * (line_max + blobfile_line_max))
