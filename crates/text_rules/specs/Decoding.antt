-- The record that a line tells. It is found word by word, from the left, without a look back, and always has 64 bytes; whether the line is the
-- written form of that record is asked afterwards.
use Rattle.std.specs.Prelude.{ℕ, zero, suc, ◌+◌, ◌-◌, ◌*◌, ◌/◌, ◌%◌, ◌^◌, Bool, false, ◌&&◌, length, get_or, take, drop, replicate, eqb, leb, if◌then◌else◌}
use Prim.Native.String.{String}
use mathlib.Core.List.{List, [], ◌∷◌, flatten}
use Rattle.rules.specs.Sizes.{hash_bytes}
use Rattle.rules.specs.Basics.{Bytes, ascii}
use Rattle.rules.specs.Layout.{between}
use Rattle.text_rules.specs.Words.{space, spaced, permission_names}

-- a word's bytes stand at the beginning of a text, and the word ends there: what follows is a space, a newline or nothing
unfoldable pub stands : Bytes → Bytes → Bool
stands [] t = leb (get_or t 0 0) space
stands (x ∷ w) [] = false
stands (x ∷ w) (y ∷ t) = eqb x y && stands w t

-- a text begins with a space and this word
unfoldable pub has_word : String → Bytes → Bool
has_word name t = stands (spaced name) t

-- what follows a word, where it stands
unfoldable pub after_word : String → Bytes → Bytes
after_word name t = if has_word name t then drop (length (spaced name)) t else t

-- the value of a hexadecimal digit; another byte counts as zero
unfoldable pub hex_value : ℕ → ℕ
hex_value c = if between 48 57 c then c - 48 else if between 97 102 c then c - 87 else 0

-- the n bytes that 2n digits write
unfoldable pub unhex : ℕ → Bytes → Bytes
unhex zero t = []
unhex (suc n) t = (hex_value (get_or t 0 0) * 16 + hex_value (get_or t 1 0)) ∷ unhex n (drop 2 t)

-- the hash that a word tells; where the word does not stand, "absent optional fields are zero"
unfoldable pub hash_after : String → Bytes → Bytes
hash_after name t = if has_word name t then unhex hash_bytes (drop (length (spaced name) + 1) t) else replicate hash_bytes 0

-- what follows a word and its hash
unfoldable pub after_hash : String → Bytes → Bytes
after_hash name t = if has_word name t then drop (length (spaced name) + 1 + 2 * hash_bytes) t else t

-- the digits that a text begins with
unfoldable pub digits_of : Bytes → Bytes
digits_of [] = []
digits_of (c ∷ t) = if between 48 57 c then c ∷ digits_of t else []

-- the most digits of a number of four bytes
abbrev pub digits_max : ℕ
digits_max = 10

-- the number that digits write, after n
unfoldable pub decimal_from : ℕ → Bytes → ℕ
decimal_from n [] = n
decimal_from n (c ∷ t) = decimal_from (n * 10 + (c - 48)) t

-- the number of at most d digits that a word tells, or zero
abbrev pub number_up_to : ℕ → String → Bytes → ℕ
number_up_to d name t = if has_word name t then decimal_from 0 (digits_of (take d (drop (length (spaced name) + 1) t))) else 0

-- the number after a word, of at most ten digits
unfoldable pub number_after : String → Bytes → ℕ
number_after name t = number_up_to digits_max name t

-- what follows a word and its number
unfoldable pub after_number : String → Bytes → Bytes
after_number name t =
    if has_word name t then drop (length (spaced name) + 1 + length (digits_of (take digits_max (drop (length (spaced name) + 1) t)))) t
    else t

-- "Numbers are big-endian.": the lowest n bytes of a number
unfoldable pub bytes_of : ℕ → ℕ → Bytes
bytes_of zero x = []
bytes_of (suc n) x = x / 256 ^ n % 256 ∷ bytes_of n x

-- the number whose bits are these, from bit 0
unfoldable pub of_bits : List Bool → ℕ
of_bits [] = 0
of_bits (b ∷ bs) = (if b then 1 else 0) + 2 * of_bits bs

-- "Byte 0 is the kind, byte 1 zero, bytes 2-3 flags."
unfoldable pub headed : ℕ → List Bool → Bytes
headed k flags = k ∷ 0 ∷ bytes_of 2 (of_bits flags)

-- group: what follows that word tells the certifier and the mechanism
unfoldable pub group_from : Bytes → Bytes
group_from t =
    let u = after_hash "certifier" t in
    flatten
    (headed 1 (has_word "certifier" t ∷ has_word "mechanism" u ∷ [])
    ∷ hash_after "certifier" t
    ∷ bytes_of 2 (number_after "mechanism" u)
    ∷ replicate 38 0
    ∷ [])

-- limit: the sort, "1 uses per load, 2 named counter, 3 seconds since load"
abbrev pub sort_of : Bool → Bool → ℕ
sort_of named timed = if named then 2 else if timed then 3 else 1

-- a limit's counter and maximum
unfoldable pub limit_from : Bytes → Bytes
limit_from t =
    let u = after_number "counter" t in
    flatten
    (headed 2 []
    ∷ (sort_of (has_word "counter" t) (has_word "seconds" u) ∷ [])
    ∷ bytes_of 1 (number_after "counter" t)
    ∷ replicate 2 0
    ∷ bytes_of 4 (if has_word "seconds" u then number_after "seconds" u else number_after "uses" u)
    ∷ replicate 52 0
    ∷ [])

-- OpPermissions: which of the names stand there, in order
unfoldable pub names_from : List String → Bytes → List Bool
names_from [] t = []
names_from (name ∷ names) t = has_word name t ∷ names_from names (after_word name t)

-- the sixteen permission bits
unfoldable pub permissions_from : Bytes → Bytes
permissions_from t = flatten (headed 3 [] ∷ bytes_of 2 (of_bits (names_from permission_names t)) ∷ replicate 58 0 ∷ [])

-- MakeBlob: seven flags, two hashes, the token parameters
unfoldable pub blob_from : Bytes → Bytes
blob_from t =
    let non_km0 = after_word "AllowKmOnly" t in
    let kmhash = after_word "AllowNonKm0" non_km0 in
    let kthash = after_hash "kmhash" kmhash in
    let ktparams = after_hash "kthash" kthash in
    let soft = after_word "ktparams" ktparams in
    let needed = after_word "AllowSoftSlots" soft in
    let total = after_number "needed" needed in
    let seconds = after_number "total" total in
    let null_token = after_number "seconds" seconds in
    let blobfile = after_word "AllowNullKmToken" null_token in
    flatten
    (headed 4
    (has_word "AllowKmOnly" t ∷ has_word "AllowNonKm0" non_km0 ∷ has_word "kmhash" kmhash ∷ has_word "kthash" kthash ∷ has_word "ktparams" ktparams ∷ has_word "AllowNullKmToken" null_token ∷ has_word "blobfile" blobfile ∷ [])
    ∷ hash_after "kmhash" kmhash
    ∷ hash_after "kthash" kthash
    ∷ bytes_of 2 (of_bits (has_word "AllowSoftSlots" soft ∷ []))
    ∷ bytes_of 1 (number_after "needed" needed)
    ∷ bytes_of 1 (number_after "total" total)
    ∷ bytes_of 4 (number_after "seconds" seconds)
    ∷ replicate 12 0
    ∷ [])

-- MakeArchiveBlob: flags 0 and 6, the key's hash and the mechanism
unfoldable pub archive_from : Bytes → Bytes
archive_from t =
    let u = after_hash "kahash" t in
    let v = after_number "mechanism" u in
    flatten
    (headed 5 (has_word "kahash" t ∷ false ∷ false ∷ false ∷ false ∷ false ∷ has_word "blobfile" v ∷ [])
    ∷ hash_after "kahash" t
    ∷ bytes_of 2 (number_after "mechanism" u)
    ∷ replicate 38 0
    ∷ [])

-- blobfile: the device mask and the template's hash
unfoldable pub blobfile_from : Bytes → Bytes
blobfile_from t =
    let u = after_number "devices" t in
    flatten
    (headed 15 (has_word "devices" t ∷ has_word "template" u ∷ [])
    ∷ bytes_of 4 (number_after "devices" t)
    ∷ hash_after "template" u
    ∷ replicate 36 0
    ∷ [])

-- a line's first word
abbrev pub begins : String → Bytes → Bool
begins name line = stands (ascii name) line

-- what follows it
abbrev pub past : String → Bytes → Bytes
past name line = drop (length (ascii name)) line

-- The record that a line tells. A line with another first word is taken for the last.
unfoldable pub decoded : Bytes → Bytes
decoded line =
    if begins "group" line then group_from (past "group" line)
    else if begins "limit" line then limit_from (past "limit" line)
    else if begins "OpPermissions" line then permissions_from (past "OpPermissions" line)
    else if begins "MakeBlob" line then blob_from (past "MakeBlob" line)
    else if begins "MakeArchiveBlob" line then archive_from (past "MakeArchiveBlob" line)
    else blobfile_from (past "blobfile" line)
