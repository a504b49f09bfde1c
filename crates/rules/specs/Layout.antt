-- The layout of each kind of record: document 01, "Records", and of the kinds added by document 02. "Unlisted bytes, unlisted flag bits and absent
-- optional fields are zero." Each test takes a record whose kind is known already.
use Rattle.std.specs.Prelude.{ℕ, ◌+◌, [], ◌∷◌, Bool, not, ◌&&◌, ◌||◌, eqb, leb, ltb, if◌then◌else◌}
use Rattle.rules.specs.Sizes.{hash_bytes, Capacity, today}
use Rattle.rules.specs.Basics.{Bytes, bit_count, bits, within, number, byte, blank, flag}

-- "Byte 0 is the kind, byte 1 zero, bytes 2-3 flags."; of the flags none but those listed is set
unfoldable pub header : ℕ → Bytes → Bool
header listed r = eqb (byte 1 r) 0 && within 16 (number 2 2 r) listed

-- "absent optional fields are zero": a field that a flag announces, where the flag is clear
unfoldable pub zero_unless : ℕ → ℕ → ℕ → Bytes → Bool
zero_unless f off len r = flag f r || blank off len r

-- "mechanism .., not zero"
unfoldable pub mechanism_at : ℕ → Bytes → Bool
mechanism_at off r = not (eqb (number off 2 r) 0)

-- from low to high
abbrev pub between : ℕ → ℕ → ℕ → Bool
between low high n = leb low n && leb n high

-- "Token parameters: 2 bytes of flags (bit 0 AllowSoftSlots), shares needed, shares total (1 ≤ needed ≤ total ≤ 64), 4-byte time limit"
unfoldable pub token_parameters_at : ℕ → Bytes → Bool
token_parameters_at off r =
    let needed = byte (off + 2) r in
    let total = byte (off + 3) r in
    within 16 (number off 2 r) (bits (0 ∷ [])) && between 1 total needed && leb total 64

-- token parameters that a flag announces
unfoldable pub token_parameters_if : ℕ → ℕ → Bytes → Bool
token_parameters_if f off r = if flag f r then token_parameters_at off r else blank off 8 r

-- "flag 1 mechanism (24-25, not zero; needs flag 0)"
unfoldable pub certifier_mechanism : Bytes → Bool
certifier_mechanism r = if flag 1 r then flag 0 r && mechanism_at 24 r else blank 24 2 r

-- 1 group: flag 0 certifier (4-23), flag 1 mechanism (24-25, not zero; needs flag 0).
unfoldable pub group_laid_out : Bytes → Bool
group_laid_out r = header (bits (0 ∷ 1 ∷ [])) r && zero_unless 0 4 hash_bytes r && certifier_mechanism r && blank 26 38 r

-- "byte 5 counter .. (sort 2 only, else zero)", of so many counters
unfoldable pub counter_under : Capacity → ℕ → ℕ → Bool
counter_under c sort counter = if eqb sort 2 then ltb counter c.counters else eqb counter 0

-- "numbers 0 to 255"
abbrev pub counter_of_sort : ℕ → ℕ → Bool
counter_of_sort = counter_under today

-- 2 limit: byte 4 sort (1 uses per load, 2 named counter, 3 seconds since load), byte 5 counter, 8-11 maximum.
unfoldable pub limit_under : Capacity → Bytes → Bool
limit_under c r = header 0 r && between 1 3 (byte 4 r) && counter_under c (byte 4 r) (byte 5 r) && blank 6 2 r && blank 12 52 r

abbrev pub limit_laid_out : Bytes → Bool
limit_laid_out = limit_under today

-- 3 OpPermissions: 4-5, sixteen bits.
unfoldable pub permissions_laid_out : Bytes → Bool
permissions_laid_out r = header 0 r && blank 6 58 r

-- 4 MakeBlob: flags 0 AllowKmOnly, 1 AllowNonKm0, 2 kmhash (4-23), 3 kthash (24-43), 4 ktparams (44-51), 5 AllowNullKmToken; "new flag 6".
unfoldable pub blob_action_laid_out : Bytes → Bool
blob_action_laid_out r =
    header (bits (0 ∷ 1 ∷ 2 ∷ 3 ∷ 4 ∷ 5 ∷ 6 ∷ [])) r && zero_unless 2 4 hash_bytes r && zero_unless 3 24 hash_bytes r && token_parameters_if 4 44 r && blank 52 12 r

-- 5 MakeArchiveBlob: flag 0 kahash (4-23); mechanism 24-25, not zero; "new flag 6".
unfoldable pub archive_action_laid_out : Bytes → Bool
archive_action_laid_out r = header (bits (0 ∷ 6 ∷ [])) r && zero_unless 0 4 hash_bytes r && mechanism_at 24 r && blank 26 38 r

-- Requests, each with its time in 56-63. 6 use, byte 4 permission 0-15.
unfoldable pub use_laid_out : Bytes → Bool
use_laid_out r = header 0 r && ltb (byte 4 r) 16 && blank 5 51 r

-- 7 blob, flag 0 token used, 4-23 module key hash, 24-43 token hash, 44-51 token parameters; "Requests of kinds 7 and 8 get flag 6".
unfoldable pub blob_request_laid_out : Bytes → Bool
blob_request_laid_out r = header (bits (0 ∷ 6 ∷ [])) r && zero_unless 0 24 hash_bytes r && token_parameters_if 0 44 r && blank 52 4 r

-- 8 recovery blob, 4-23 key hash, 24-25 mechanism, not zero.
unfoldable pub recovery_laid_out : Bytes → Bool
recovery_laid_out r = header (bits (6 ∷ [])) r && mechanism_at 24 r && blank 26 30 r

-- 9 presented certificate: 4-23 key hash, 24-25 mechanism, not zero.
unfoldable pub certificate_laid_out : Bytes → Bool
certificate_laid_out r = header 0 r && mechanism_at 24 r && blank 26 38 r

-- 10 fact: byte 4 field 1-14, 8-27 content.
unfoldable pub fact_laid_out : Bytes → Bool
fact_laid_out r = header 0 r && between 1 14 (byte 4 r) && blank 5 3 r && blank 28 36 r

-- 11 signature outcome: byte 4 number 1-6, byte 5 one if good, else zero.
unfoldable pub signature_laid_out : Bytes → Bool
signature_laid_out r = header 0 r && between 1 6 (byte 4 r) && leb (byte 5 r) 1 && blank 6 58 r

-- 12 policy: byte 4 suite, byte 5 approach 1 or 2, byte 6 bits (0 signing admitted, 1 encryption admitted, 2 CSR in use), byte 7 lowest protection
-- 1-4. Whether the suite is one is a matter of refusal 11.
unfoldable pub policy_laid_out : Bytes → Bool
policy_laid_out r = header 0 r && between 1 2 (byte 5 r) && within 16 (byte 6 r) (bits (0 ∷ 1 ∷ 2 ∷ [])) && between 1 4 (byte 7 r) && blank 8 56 r

-- 13 hint: byte 4 source group, 8-15 a source action for each action of the new group, all from 0. What they name is a matter of refusal 8.
unfoldable pub hint_laid_out : Bytes → Bool
hint_laid_out r = header 0 r && blank 5 3 r && blank 16 48 r

-- 14 delegation (document 02, request f): from-hash 4-23, to-hash 24-43, sixteen-bit permission mask 44-45.
unfoldable pub delegation_laid_out : Bytes → Bool
delegation_laid_out r = header 0 r && blank 46 18 r

-- 15 blobfile (document 02, request i): "a device mask (4-7, flag 0) and an ACL template hash (8-27, flag 1)". An ACL may have any mask.
unfoldable pub blobfile_laid_out : Bytes → Bool
blobfile_laid_out r = header (bits (0 ∷ 1 ∷ [])) r && zero_unless 0 4 4 r && zero_unless 1 8 hash_bytes r && blank 28 36 r

-- 15 in a request: it "states exactly one device and, if used, the template"
unfoldable pub blobfile_request_laid_out : Bytes → Bool
blobfile_request_laid_out r = blobfile_laid_out r && flag 0 r && eqb (bit_count 32 (number 4 4 r)) 1
