-- Worked examples: the two Sign groups of document 01 both ways, and texts that are not listings, each with the number of its first bad line.
use Prim.Native.Nat.{ℕ, ◌*◌}
use mathlib.Core.Path.{◌≡◌, refl}
use mathlib.Core.List.{List, [], ◌∷◌, ◌++◌, flatten}
use mathlib.Core.Option.{none}
use lib.ListN.{length, replicate}
use Rattle.rules.specs.Sizes.{groups_max}
use Rattle.rules.specs.Basics.{Bytes, ascii}
use Rattle.rules.specs.Acl.{acl_file_fault}
use Rattle.rules.proofs.Computing.{computing}
use Rattle.rules.proofs.Samples.{rec, repeated, hash, open_group, sign_action, keyless}
use Rattle.text_rules.specs.Words.{hex_digit, hex, word_text, words_text, permission_words, line_of, text_by, listing_of, group_line_max, limit_line_max, blobfile_line_max, line_max, listing_max}
use Rattle.text_rules.specs.Decoding.{stands, has_word, after_word, hex_value, unhex, hash_after, after_hash, digits_of, decimal_from, number_after, after_number, bytes_of, of_bits, headed, group_from, limit_from, names_from, permissions_from, blob_from, archive_from, blobfile_from, decoded}
use Rattle.text_rules.specs.Listing.{lines_of, as_written, good_in, fault_at_line, past_line, text_end, text_fault, bytes_by, ListingReading, read_as, bad_line, read_text, read_listing, produced, refused_with, refused_at, Listed, writing_fault, write_text, write_listing, read_text_into, read_listing_into}

-- "Two Sign groups, per load 1, then counter 3 maximum 2"
abbrev two_groups : Bytes
two_groups =
    open_group ++ rec (2 ∷ 0 ∷ 0 ∷ 0 ∷ 1 ∷ 0 ∷ 0 ∷ 0 ∷ 0 ∷ 0 ∷ 0 ∷ 1 ∷ []) ++ sign_action
    ++ open_group ++ rec (2 ∷ 0 ∷ 0 ∷ 0 ∷ 2 ∷ 3 ∷ 0 ∷ 0 ∷ 0 ∷ 0 ∷ 0 ∷ 2 ∷ []) ++ sign_action

abbrev two_groups_text : Bytes
two_groups_text = ascii "group\nlimit uses 1\nOpPermissions Sign\ngroup\nlimit counter 3 uses 2\nOpPermissions Sign\n"

-- every kind of line, with every word that has a value
abbrev every_word : Bytes
every_word =
    rec (1 ∷ 0 ∷ 0 ∷ 3 ∷ [] ++ hash 0xa9 ++ (1 ∷ 0 ∷ []))
    ++ rec (2 ∷ 0 ∷ 0 ∷ 0 ∷ 3 ∷ 0 ∷ 0 ∷ 0 ∷ 0xff ∷ 0xff ∷ 0xff ∷ 0xff ∷ [])
    ++ rec (4 ∷ 0 ∷ 0 ∷ 127 ∷ [] ++ hash 0 ++ hash 0x1f ++ (0 ∷ 1 ∷ 1 ∷ 64 ∷ 0 ∷ 0 ∷ 0 ∷ 10 ∷ []))
    ++ rec (15 ∷ 0 ∷ 0 ∷ 3 ∷ 1 ∷ 0 ∷ 0 ∷ 0 ∷ [] ++ hash 0xab)
    ++ rec (5 ∷ 0 ∷ 0 ∷ 65 ∷ [] ++ hash 7 ++ (0 ∷ 2 ∷ []))
    ++ rec (15 ∷ [])
    ++ rec (3 ∷ 0 ∷ 0 ∷ 0 ∷ 0x80 ∷ 0x51 ∷ [])

abbrev every_word_text : Bytes
every_word_text =
    ascii "group certifier a9a9a9a9a9a9a9a9a9a9a9a9a9a9a9a9a9a9a9a9 mechanism 256\n"
    ++ ascii "limit seconds 4294967295\n"
    ++ ascii "MakeBlob AllowKmOnly AllowNonKm0 kmhash 0000000000000000000000000000000000000000 kthash 1f1f1f1f1f1f1f1f1f1f1f1f1f1f1f1f1f1f1f1f ktparams AllowSoftSlots needed 1 total 64 seconds 10 AllowNullKmToken blobfile\n"
    ++ ascii "blobfile devices 16777216 template abababababababababababababababababababab\n"
    ++ ascii "MakeArchiveBlob kahash 0707070707070707070707070707070707070707 mechanism 2 blobfile\n"
    ++ ascii "blobfile\n"
    ++ ascii "OpPermissions DuplicateHandle Sign SignModuleCert UseAsLoaderKey\n"

-- texts that are read, with what is read
abbrev rows_read : List ListingReading
rows_read =
    read_listing two_groups_text
    ∷ read_listing every_word_text
    ∷ read_listing []
    ∷ read_listing (ascii "group\nlimit  uses 1\n")
    ∷ read_listing (ascii "group\nMakeArchiveBlob kahash 070707070707070707070707070707070707070A mechanism 2\n")
    ∷ read_listing (ascii "group\ngroup\nlimit uses 01\n")
    ∷ read_listing (ascii "group\nOpPermissions Verify Sign\n")
    ∷ read_listing (ascii "group\nOpPermissions Sign")
    ∷ read_listing (ascii "group\nlimit uses 1\nlimit seconds 1\nlimit counter 0 uses 1\nlimit counter 1 uses 1\nlimit counter 2 uses 1\n")
    ∷ read_listing (ascii "group\nlimit uses 4294967296\n")
    ∷ read_listing (ascii "limit uses 1\n")
    ∷ read_listing (ascii "group\n\ngroup\n")
    ∷ read_listing (ascii "group\nOpPermissions Sign\nMakeArchiveBlob mechanism 2\n")
    ∷ read_listing (ascii "group certifier 0909090909090909090909090909090909090909\nMakeArchiveBlob mechanism 2\n")
    ∷ read_listing (ascii "group\nMakeBlob AllowKmOnly blobfile\n")
    ∷ read_listing (ascii "group\nMakeBlob AllowKmOnly blobfile\ngroup\n")
    ∷ read_listing (ascii "group\nMakeBlob AllowKmOnly\nblobfile devices 1\n")
    ∷ read_listing (ascii "group\nMakeBlob AllowKmOnly blobfile\nblobfile devices 0\nOpPermissions Sign\n")
    ∷ []

abbrev rows_expected : List ListingReading
rows_expected =
    read_as two_groups
    ∷ read_as every_word
    ∷ read_as []
    ∷ bad_line 2
    ∷ bad_line 2
    ∷ bad_line 3
    ∷ bad_line 2
    ∷ bad_line 2
    ∷ bad_line 6
    ∷ bad_line 2
    ∷ bad_line 1
    ∷ bad_line 2
    ∷ bad_line 3
    ∷ read_as (rec (1 ∷ 0 ∷ 0 ∷ 1 ∷ [] ++ hash 9) ++ keyless)
    ∷ bad_line 3
    ∷ bad_line 3
    ∷ bad_line 3
    ∷ read_as (open_group ++ rec (4 ∷ 0 ∷ 0 ∷ 65 ∷ []) ++ rec (15 ∷ 0 ∷ 0 ∷ 1 ∷ []) ++ sign_action)
    ∷ []

-- the entry points, on buffers of eights
abbrev entries : List Listed
entries =
    write_listing open_group (replicate 7 8)
    ∷ write_listing open_group (replicate 5 8)
    ∷ write_listing (open_group ++ (1 ∷ [])) []
    ∷ write_listing (open_group ++ keyless) []
    ∷ write_listing (open_group ++ rec (4 ∷ 0 ∷ 0 ∷ 65 ∷ [])) []
    ∷ read_listing_into (ascii "group\n") (replicate 65 8)
    ∷ read_listing_into (ascii "group\n") (replicate 63 8)
    ∷ read_listing_into (ascii "group\ngroups\n") (replicate 63 8)
    ∷ []

abbrev entries_expected : List Listed
entries_expected =
    record { reply = produced 6; buffer = ascii "group\n" ++ (8 ∷ []) }
    ∷ record { reply = refused_with 9; buffer = replicate 5 8 }
    ∷ record { reply = refused_with 1; buffer = [] }
    ∷ record { reply = refused_with 12; buffer = [] }
    ∷ record { reply = refused_with 2; buffer = [] }
    ∷ record { reply = produced 64; buffer = open_group ++ (8 ∷ []) }
    ∷ record { reply = refused_with 9; buffer = replicate 63 8 }
    ∷ record { reply = refused_at 15 2; buffer = replicate 63 8 }
    ∷ []

-- the longest lines of each kind: a group with all its words, four limits on counters, eight MakeBlob actions with all their words and
-- their records of kind 15
abbrev full_group : Bytes
full_group = rec (1 ∷ 0 ∷ 0 ∷ 3 ∷ [] ++ hash 0xff ++ (0xff ∷ 0xff ∷ []))

abbrev full_limit : ℕ → Bytes
full_limit counter = rec (2 ∷ 0 ∷ 0 ∷ 0 ∷ 2 ∷ counter ∷ 0 ∷ 0 ∷ 0xff ∷ 0xff ∷ 0xff ∷ 0xff ∷ [])

abbrev full_action : Bytes
full_action = rec (4 ∷ 0 ∷ 0 ∷ 127 ∷ [] ++ hash 0xff ++ hash 0xff ++ (0 ∷ 1 ∷ 64 ∷ 64 ∷ 0xff ∷ 0xff ∷ 0xff ∷ 0xff ∷ []))

abbrev full_file : Bytes
full_file = rec (15 ∷ 0 ∷ 0 ∷ 3 ∷ 0xff ∷ 0xff ∷ 0xff ∷ 0xff ∷ [] ++ hash 0xff)

abbrev fullest : Bytes
fullest =
    full_group ++ full_limit 252 ++ full_limit 253 ++ full_limit 254 ++ full_limit 255
    ++ repeated 8 (full_action ++ full_file)

-- they are as long as they may be, and so is the listing of 64 such groups
abbrev Reached : Type 0
Reached =
    (length (line_of full_group) ≡ group_line_max)
    × (length (line_of (full_limit 255)) ≡ limit_line_max)
    × (length (line_of full_action) ≡ line_max)
    × (length (line_of full_file) ≡ blobfile_line_max)
    × (acl_file_fault fullest ≡ none)
    × (groups_max * length (listing_of fullest) ≡ listing_max)

-- All rows hold.
pub examples_hold : (listing_of two_groups ≡ two_groups_text) × (listing_of every_word ≡ every_word_text) × (rows_read ≡ rows_expected) × (entries ≡ entries_expected) × Reached
unfolding hex_digit hex word_text words_text permission_words line_of text_by stands has_word after_word hex_value unhex hash_after after_hash digits_of decimal_from number_after after_number bytes_of of_bits headed group_from limit_from names_from permissions_from blob_from archive_from blobfile_from decoded lines_of as_written good_in fault_at_line past_line text_end text_fault bytes_by read_text writing_fault write_text read_text_into flatten computing
examples_hold = (refl, refl, refl, refl, (refl, refl, refl, refl, refl, refl))
