-- Sample files of document 01's examples, and of those of the requests made after it.
use Prim.Native.Nat.{ℕ, zero, suc, ◌-◌}
use mathlib.Core.List.{[], ◌∷◌, ◌++◌}
use lib.ListN.{length, replicate}
use Rattle.rules.specs.Sizes.{record_bytes, hash_bytes}
use Rattle.rules.specs.Basics.{Bytes}

-- a record that begins with these bytes, and is zero from there on
abbrev pub rec : Bytes → Bytes
rec bs = bs ++ replicate (record_bytes - length bs) 0

-- the same bytes again and again
abbrev pub repeated : ℕ → Bytes → Bytes
repeated zero bs = []
repeated (suc n) bs = bs ++ repeated n bs

-- a request record with its time
abbrev pub timed : Bytes → ℕ → Bytes
timed bs time = bs ++ replicate (63 - length bs) 0 ++ (time ∷ [])

abbrev pub hash : ℕ → Bytes
hash n = replicate hash_bytes n

-- "Sign group" is bytes 01 and 63 zeros, then 03 00 00 00 00 10 and 58 zeros.
abbrev pub open_group : Bytes
open_group = rec (1 ∷ [])

abbrev pub sign_action : Bytes
sign_action = rec (3 ∷ 0 ∷ 0 ∷ 0 ∷ 0 ∷ 0x10 ∷ [])

abbrev pub sign_group : Bytes
sign_group = open_group ++ sign_action

abbrev pub limited : ℕ → ℕ → Bytes
limited sort maximum = open_group ++ rec (2 ∷ 0 ∷ 0 ∷ 0 ∷ sort ∷ 0 ∷ 0 ∷ 0 ∷ 0 ∷ 0 ∷ 0 ∷ maximum ∷ []) ++ sign_action

-- a Sign group with a certifier at mechanism 1
abbrev pub certified_group : Bytes
certified_group = rec (1 ∷ 0 ∷ 0 ∷ 3 ∷ [] ++ hash 9 ++ (0 ∷ 1 ∷ [])) ++ sign_action

abbrev pub sign : ℕ → Bytes
sign time = timed (6 ∷ 0 ∷ 0 ∷ 0 ∷ 4 ∷ []) time

abbrev pub decrypt : ℕ → Bytes
decrypt time = timed (6 ∷ 0 ∷ 0 ∷ 0 ∷ 9 ∷ []) time

-- the certifier's hash at mechanism 2
abbrev pub other_mechanism : Bytes
other_mechanism = rec (9 ∷ 0 ∷ 0 ∷ 0 ∷ [] ++ hash 9 ++ (0 ∷ 2 ∷ []))

-- a certificate of a key at a mechanism
abbrev pub certificate : ℕ → ℕ → Bytes
certificate key mechanism = rec (9 ∷ 0 ∷ 0 ∷ 0 ∷ [] ++ hash key ++ (0 ∷ mechanism ∷ []))

-- a delegation from a key to a key, with the two bytes of its mask; for Sign alone; for Decrypt alone
abbrev pub delegation : ℕ → ℕ → ℕ → ℕ → Bytes
delegation from to high low = rec (14 ∷ 0 ∷ 0 ∷ 0 ∷ [] ++ hash from ++ hash to ++ (high ∷ low ∷ []))

abbrev pub sign_link : ℕ → ℕ → Bytes
sign_link from to = delegation from to 0 0x10

abbrev pub decrypt_link : ℕ → ℕ → Bytes
decrypt_link from to = delegation from to 0x02 0

-- a group with a limit of sort 2 on a counter
abbrev pub counting : ℕ → ℕ → Bytes
counting counter maximum = open_group ++ rec (2 ∷ 0 ∷ 0 ∷ 0 ∷ 2 ∷ counter ∷ 0 ∷ 0 ∷ 0 ∷ 0 ∷ 0 ∷ maximum ∷ []) ++ sign_action

-- Sign and ReduceACL; ExpandACL; their uses; a hint that names source group n and its first action
abbrev pub reducible : Bytes
reducible = open_group ++ rec (3 ∷ 0 ∷ 0 ∷ 0 ∷ 0 ∷ 0x14 ∷ [])

abbrev pub expandable : Bytes
expandable = open_group ++ rec (3 ∷ 0 ∷ 0 ∷ 0 ∷ 0x10 ∷ 0 ∷ [])

abbrev pub reduce : ℕ → Bytes
reduce time = timed (6 ∷ 0 ∷ 0 ∷ 0 ∷ 2 ∷ []) time

abbrev pub enlarge : ℕ → Bytes
enlarge time = timed (6 ∷ 0 ∷ 0 ∷ 0 ∷ 12 ∷ []) time

abbrev pub hint : ℕ → Bytes
hint source = rec (13 ∷ 0 ∷ 0 ∷ 0 ∷ source ∷ [])

-- a hint that names a source action other than 0
abbrev pub hint_to : ℕ → ℕ → Bytes
hint_to source action = rec (13 ∷ 0 ∷ 0 ∷ 0 ∷ source ∷ 0 ∷ 0 ∷ 0 ∷ action ∷ [])

-- A bundle in which all passes; hkm is field 6. The signatures are given.
abbrev pub fact : ℕ → Bytes → Bytes
fact n h = rec (10 ∷ 0 ∷ 0 ∷ 0 ∷ n ∷ 0 ∷ 0 ∷ 0 ∷ [] ++ h)

abbrev pub signed_well : ℕ → Bytes
signed_well n = rec (11 ∷ 0 ∷ 0 ∷ 0 ∷ n ∷ 1 ∷ [])

abbrev pub bundle_with : Bytes → Bytes
bundle_with signatures =
    fact 1 (hash 1) ++ fact 2 (hash 1) ++ fact 3 (hash 3) ++ fact 4 (hash 4) ++ fact 5 (hash 4) ++ fact 6 (hash 6)
    ++ fact 7 (hash 7) ++ fact 8 (hash 8) ++ fact 9 (hash 8) ++ fact 10 (hash 8) ++ fact 11 (hash 11) ++ fact 12 (hash 12)
    ++ fact 14 (hash 5) ++ fact 14 (hash 6)
    ++ signatures
    ++ rec (12 ∷ 0 ∷ 0 ∷ 0 ∷ 3 ∷ 2 ∷ 7 ∷ 1 ∷ [])

abbrev pub bundle : Bytes
bundle = bundle_with (signed_well 1 ++ signed_well 2 ++ signed_well 3 ++ signed_well 5 ++ signed_well 6)

-- the same without a world certificate
abbrev pub uncertified_bundle : Bytes
uncertified_bundle = bundle_with (signed_well 1 ++ signed_well 2 ++ signed_well 6)

-- MakeBlob under hkm, with these flags besides kmhash, this kthash and these ktparams
abbrev pub blob : ℕ → Bytes → Bytes → Bytes
blob flags kthash ktparams = rec (4 ∷ 0 ∷ 0 ∷ flags ∷ [] ++ hash 6 ++ kthash ++ ktparams)

-- shares 1 of 2, no soft slots
abbrev pub cardset : Bytes
cardset = 0 ∷ 0 ∷ 1 ∷ 2 ∷ 0 ∷ 0 ∷ 0 ∷ 0 ∷ []

-- shares 1 of 2, soft slots
abbrev pub softcard : Bytes
softcard = 0 ∷ 1 ∷ 1 ∷ 2 ∷ 0 ∷ 0 ∷ 0 ∷ 0 ∷ []

-- a direct blob under hkm, and a group with the certifier of certified_group that admits it under any KM0
abbrev pub direct_blob : ℕ → Bytes
direct_blob time = timed (7 ∷ 0 ∷ 0 ∷ 0 ∷ [] ++ hash 6) time

abbrev pub certified_blob_group : Bytes
certified_blob_group = rec (1 ∷ 0 ∷ 0 ∷ 3 ∷ [] ++ hash 9 ++ (0 ∷ 1 ∷ [])) ++ blob 7 (hash 0) []

-- MakeArchiveBlob under hkre, by suite 3's mechanism
abbrev pub archive : Bytes
archive = rec (5 ∷ 0 ∷ 0 ∷ 1 ∷ [] ++ hash 7 ++ (0 ∷ 2 ∷ []))

-- A MakeArchiveBlob action with blobfile; a record of kind 15 with this device mask; requests for a recovery blob, returned to the host or to be stored
abbrev pub stored_archive : Bytes
stored_archive = rec (5 ∷ 0 ∷ 0 ∷ 65 ∷ [] ++ hash 7 ++ (0 ∷ 2 ∷ []))

abbrev pub on_devices : ℕ → Bytes
on_devices mask = rec (15 ∷ 0 ∷ 0 ∷ 1 ∷ 0 ∷ 0 ∷ 0 ∷ mask ∷ [])

abbrev pub recovery : Bytes
recovery = timed (8 ∷ 0 ∷ 0 ∷ 0 ∷ [] ++ hash 7 ++ (0 ∷ 2 ∷ [])) 5

abbrev pub stored_recovery : Bytes
stored_recovery = timed (8 ∷ 0 ∷ 0 ∷ 64 ∷ [] ++ hash 7 ++ (0 ∷ 2 ∷ [])) 5

-- MakeArchiveBlob without kahash
abbrev pub keyless : Bytes
keyless = rec (5 ∷ 0 ∷ 0 ∷ 0 ∷ [] ++ hash 0 ++ (0 ∷ 2 ∷ []))
