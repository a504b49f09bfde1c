-- The record that a line tells, for the kinds 6 to 14: found as those of an ACL are (Decoding), word by word, without a look back.
use Rattle.std.specs.Prelude.{ℕ, zero, suc, ◌+◌, ◌*◌, false, length, take, drop, replicate, if◌then◌else◌}
use Prim.Native.String.{String}
use mathlib.Core.List.{List, [], ◌∷◌, ◌++◌, flatten}
use Rattle.rules.specs.Sizes.{hash_bytes}
use Rattle.rules.specs.Basics.{Bytes}
use Rattle.text_rules.specs.Words.{spaced, permission_names}
use Rattle.text_rules.specs.OtherWords.{field_names, signature_names}
use Rattle.text_rules.specs.Decoding.{has_word, after_word, unhex, hash_after, after_hash, digits_of, digits_max, decimal_from, number_up_to, number_after, after_number, bytes_of, of_bits, headed, names_from, begins, past, decoded}

-- the place of the first of these names that stands there, from 0
unfoldable pub place_of : List String → Bytes → ℕ
place_of [] t = 0
place_of (name ∷ names) t = if has_word name t then 0 else suc (place_of names t)

-- what follows it
unfoldable pub after_name : List String → Bytes → Bytes
after_name [] t = t
after_name (name ∷ names) t = if has_word name t then drop (length (spaced name)) t else after_name names t

-- the hash that stands there after a space, and what follows it
unfoldable pub hash_here : Bytes → Bytes
hash_here t = unhex hash_bytes (drop 1 t)

unfoldable pub past_here : Bytes → Bytes
past_here t = drop (1 + 2 * hash_bytes) t

-- n numbers of one byte, each after a space
unfoldable pub bytes_here : ℕ → Bytes → Bytes
bytes_here zero t = []
bytes_here (suc n) t =
    let ds = digits_of (take digits_max (drop 1 t)) in
    bytes_of 1 (decimal_from 0 ds) ++ bytes_here n (drop (1 + length ds) t)

-- the most digits of a number of eight bytes
abbrev pub time_digits : ℕ
time_digits = 20

-- the time
unfoldable pub time_after : Bytes → ℕ
time_after t = number_up_to time_digits "time" t

-- use: the permission, the time
unfoldable pub use_from : Bytes → Bytes
use_from t =
    flatten
    (headed 6 []
    ∷ bytes_of 1 (place_of permission_names t)
    ∷ replicate 51 0
    ∷ bytes_of 8 (time_after (after_name permission_names t))
    ∷ [])

-- blob: flags 0 and 6, two hashes, the token parameters, the time
unfoldable pub blob_request_from : Bytes → Bytes
blob_request_from t =
    let token = after_hash "kmhash" t in
    let soft = after_hash "token" token in
    let needed = after_word "AllowSoftSlots" soft in
    let total = after_number "needed" needed in
    let seconds = after_number "total" total in
    let blobfile = after_number "seconds" seconds in
    let time = after_word "blobfile" blobfile in
    flatten
    (headed 7 (has_word "token" token ∷ false ∷ false ∷ false ∷ false ∷ false ∷ has_word "blobfile" blobfile ∷ [])
    ∷ hash_after "kmhash" t
    ∷ hash_after "token" token
    ∷ bytes_of 2 (of_bits (has_word "AllowSoftSlots" soft ∷ []))
    ∷ bytes_of 1 (number_after "needed" needed)
    ∷ bytes_of 1 (number_after "total" total)
    ∷ bytes_of 4 (number_after "seconds" seconds)
    ∷ replicate 4 0
    ∷ bytes_of 8 (time_after time)
    ∷ [])

-- recovery: flag 6, the key's hash and the mechanism, the time
unfoldable pub recovery_from : Bytes → Bytes
recovery_from t =
    let u = after_hash "kahash" t in
    let v = after_number "mechanism" u in
    flatten
    (headed 8 (false ∷ false ∷ false ∷ false ∷ false ∷ false ∷ has_word "blobfile" v ∷ [])
    ∷ hash_after "kahash" t
    ∷ bytes_of 2 (number_after "mechanism" u)
    ∷ replicate 30 0
    ∷ bytes_of 8 (time_after (after_word "blobfile" v))
    ∷ [])

-- certificate: the key's hash and the mechanism
unfoldable pub certificate_from : Bytes → Bytes
certificate_from t =
    flatten (headed 9 [] ∷ hash_here t ∷ bytes_of 2 (number_after "mechanism" (past_here t)) ∷ replicate 38 0 ∷ [])

-- fact: the field, its content
unfoldable pub fact_from : Bytes → Bytes
fact_from t =
    flatten
    (headed 10 []
    ∷ bytes_of 1 (place_of field_names t + 1)
    ∷ replicate 3 0
    ∷ hash_here (after_name field_names t)
    ∷ replicate 36 0
    ∷ [])

-- signature: its number, "one if good, else zero"
unfoldable pub signature_from : Bytes → Bytes
signature_from t =
    flatten
    (headed 11 []
    ∷ bytes_of 1 (place_of signature_names t + 1)
    ∷ bytes_of 1 (if has_word "good" (after_name signature_names t) then 1 else 0)
    ∷ replicate 58 0
    ∷ [])

-- policy: suite, approach, three bits, the lowest protection
unfoldable pub policy_record_from : Bytes → Bytes
policy_record_from t =
    let approach = after_number "suite" t in
    let signing = after_number "approach" approach in
    let encryption = after_word "signing" signing in
    let csr = after_word "encryption" encryption in
    flatten
    (headed 12 []
    ∷ bytes_of 1 (number_after "suite" t)
    ∷ bytes_of 1 (number_after "approach" approach)
    ∷ bytes_of 1 (of_bits (has_word "signing" signing ∷ has_word "encryption" encryption ∷ has_word "csr" csr ∷ []))
    ∷ bytes_of 1 (number_after "protection" (after_word "csr" csr))
    ∷ replicate 56 0
    ∷ [])

-- hint: the source group, eight source actions
unfoldable pub hint_from : Bytes → Bytes
hint_from t =
    flatten
    (headed 13 []
    ∷ bytes_of 1 (number_after "group" t)
    ∷ replicate 3 0
    ∷ bytes_here 8 (after_word "actions" (after_number "group" t))
    ∷ replicate 48 0
    ∷ [])

-- delegation: from-hash, to-hash, the sixteen bits
unfoldable pub delegation_from : Bytes → Bytes
delegation_from t =
    let to = after_hash "from" t in
    flatten
    (headed 14 []
    ∷ hash_after "from" t
    ∷ hash_after "to" to
    ∷ bytes_of 2 (of_bits (names_from permission_names (after_hash "to" to)))
    ∷ replicate 18 0
    ∷ [])

-- The record that a line tells. A line with another first word is taken for one of an ACL's.
unfoldable pub record_of : Bytes → Bytes
record_of line =
    if begins "use" line then use_from (past "use" line)
    else if begins "blob" line then blob_request_from (past "blob" line)
    else if begins "recovery" line then recovery_from (past "recovery" line)
    else if begins "certificate" line then certificate_from (past "certificate" line)
    else if begins "fact" line then fact_from (past "fact" line)
    else if begins "signature" line then signature_from (past "signature" line)
    else if begins "policy" line then policy_record_from (past "policy" line)
    else if begins "hint" line then hint_from (past "hint" line)
    else if begins "delegation" line then delegation_from (past "delegation" line)
    else decoded line
