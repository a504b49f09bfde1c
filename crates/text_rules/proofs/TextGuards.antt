-- Worked examples of the text forms of requests, bundles and hints: files both ways, texts that are refused, each with the number of its first bad line, and
-- the longest lines and texts. Each row is a field, so that a wrong one is refused at its own line.
use Prim.Native.Nat.{ℕ}
use mathlib.Core.Path.{◌≡◌, refl}
use mathlib.Core.List.{[], ◌∷◌, ◌++◌, flatten}
use mathlib.Core.Option.{none}
use lib.ListN.{length, replicate}
use Rattle.rules.specs.Basics.{Bytes, ascii}
use Rattle.rules.proofs.Computing.{computing}
use Rattle.rules.proofs.Samples.{rec, repeated, hash, timed, fact, signed_well}
use Rattle.text_rules.specs.Words.{hex_digit, hex, word_text, words_text, permission_words, line_of, text_by, blobfile_line_max}
use Rattle.text_rules.specs.OtherWords.{numbers_text, record_line, request_line_max, alone_line_max, certificate_line_max, delegation_line_max, hint_line_max, bundle_text_max}
use Rattle.text_rules.specs.Decoding.{stands, has_word, after_word, hex_value, unhex, hash_after, after_hash, digits_of, decimal_from, number_after, after_number, bytes_of, of_bits, headed, group_from, limit_from, names_from, permissions_from, blob_from, archive_from, blobfile_from, decoded}
use Rattle.text_rules.specs.OtherDecoding.{place_of, after_name, hash_here, past_here, bytes_here, time_after, use_from, blob_request_from, recovery_from, certificate_from, fact_from, signature_from, policy_record_from, hint_from, delegation_from, record_of}
use Rattle.text_rules.specs.Kinds.{FileKind, kind_fault, request_kind, requests_kind, bundle_kind, hints_kind}
use Rattle.text_rules.specs.Listing.{lines_of, as_written, good_in, fault_at_line, past_line, text_end, text_fault, bytes_by, read_as, bad_line, read_text, produced, refused_with, refused_at, writing_fault, write_text, read_text_into}

-- a file without fault and its text, both ways
abbrev Both : {S : Type 0} → FileKind S → Bytes → Bytes → Type 0
Both k file text = (kind_fault k file ≡ none) × (text_by k.line file ≡ text) × (read_text k text ≡ read_as file)

-- a text whose first bad line has this number
abbrev Bad : {S : Type 0} → FileKind S → Bytes → ℕ → Type 0
Bad k text n = read_text k text ≡ bad_line n

-- the definitions of the listings, named once
unfoldable looking : ℕ
unfolding hex_digit hex word_text words_text permission_words line_of text_by numbers_text record_line stands has_word after_word hex_value unhex hash_after after_hash digits_of decimal_from number_after after_number bytes_of of_bits headed group_from limit_from names_from permissions_from blob_from archive_from blobfile_from decoded place_of after_name hash_here past_here bytes_here time_after use_from blob_request_from recovery_from certificate_from fact_from signature_from policy_record_from hint_from delegation_from record_of lines_of as_written good_in fault_at_line past_line text_end text_fault bytes_by read_text writing_fault write_text read_text_into flatten computing
looking = 0

-- requests
abbrev sign : Bytes
sign = timed (6 ∷ 0 ∷ 0 ∷ 0 ∷ 4 ∷ []) 5

abbrev full_time : Bytes
full_time = replicate 8 0xff

abbrev token_blob : ℕ → Bytes
token_blob flags = rec (7 ∷ 0 ∷ 0 ∷ flags ∷ [] ++ hash 0xff ++ hash 0x1f ++ (0 ∷ 1 ∷ 64 ∷ 64 ∷ 0xff ∷ 0xff ∷ 0xff ∷ 0xff ∷ []) ++ (0 ∷ 0 ∷ 0 ∷ 0 ∷ []) ++ full_time)

abbrev stored_file : Bytes
stored_file = rec (15 ∷ 0 ∷ 0 ∷ 3 ∷ 0x80 ∷ 0 ∷ 0 ∷ 0 ∷ [] ++ hash 0xab)

abbrev presented_key : Bytes
presented_key = rec (9 ∷ 0 ∷ 0 ∷ 0 ∷ [] ++ hash 9 ++ (0xff ∷ 0xff ∷ []))

abbrev handed_on : Bytes
handed_on = rec (14 ∷ 0 ∷ 0 ∷ 0 ∷ [] ++ hash 9 ++ hash 10 ++ (0x80 ∷ 0x11 ∷ []))

abbrev full_request : Bytes
full_request = token_blob 65 ++ stored_file ++ presented_key ++ handed_on

abbrev full_request_text : Bytes
full_request_text =
    ascii "blob kmhash ffffffffffffffffffffffffffffffffffffffff token 1f1f1f1f1f1f1f1f1f1f1f1f1f1f1f1f1f1f1f1f AllowSoftSlots needed 64 total 64 seconds 4294967295 blobfile time 18446744073709551615\n"
    ++ ascii "blobfile devices 2147483648 template abababababababababababababababababababab\n"
    ++ ascii "certificate 0909090909090909090909090909090909090909 mechanism 65535\n"
    ++ ascii "delegation from 0909090909090909090909090909090909090909 to 0a0a0a0a0a0a0a0a0a0a0a0a0a0a0a0a0a0a0a0a DuplicateHandle Sign UseAsLoaderKey\n"

abbrev recovery_text : Bytes
recovery_text = ascii "recovery kahash 0707070707070707070707070707070707070707 mechanism 2 time 5\n"

abbrev recovery_file : Bytes
recovery_file = timed (8 ∷ 0 ∷ 0 ∷ 0 ∷ [] ++ hash 7 ++ (0 ∷ 2 ∷ [])) 5

abbrev handed_on_text : Bytes
handed_on_text = ascii "delegation from 0909090909090909090909090909090909090909 to 0a0a0a0a0a0a0a0a0a0a0a0a0a0a0a0a0a0a0a0a\n"

pub record RequestRows : Type 0 where
  pub signing : Both request_kind sign (ascii "use Sign time 5\n")
  pub full : Both request_kind full_request full_request_text
  pub archived : Both request_kind recovery_file recovery_text
  pub missing : Bad request_kind [] 1
  pub timeless : Bad request_kind (ascii "use Sign\n") 1
  pub unknown : Bad request_kind (ascii "use sign time 5\n") 1
  pub two : Bad request_kind (ascii "use Sign Verify time 5\n") 1
  pub leading_zero : Bad request_kind (ascii "use Sign time 05\n") 1
  pub too_late : Bad request_kind (ascii "use Sign time 18446744073709551616\n") 1
  pub unfinished : Bad request_kind (ascii "use Sign time 5") 1
  pub file_missing : Bad request_kind (ascii "recovery kahash 0707070707070707070707070707070707070707 mechanism 2 blobfile time 5\n") 2
  pub two_devices : Bad request_kind (ascii "recovery kahash 0707070707070707070707070707070707070707 mechanism 2 blobfile time 5\nblobfile devices 3\n") 2
  pub two_requests : Bad request_kind (ascii "use Sign time 5\nuse Sign time 6\n") 2
  pub certificate_late : Bad request_kind (ascii "use Sign time 5\n" ++ handed_on_text ++ ascii "certificate 0909090909090909090909090909090909090909 mechanism 1\n") 3
  pub a_group : Bad request_kind (ascii "use Sign time 5\ngroup\n") 2

pub record RequestsRows : Type 0 where
  pub none : Both requests_kind [] []
  pub two : Both requests_kind (sign ++ recovery_file) (ascii "use Sign time 5\n" ++ recovery_text)
  pub direct : Both requests_kind (timed (7 ∷ 0 ∷ 0 ∷ 0 ∷ [] ++ hash 6) 0) (ascii "blob kmhash 0606060606060606060606060606060606060606 time 0\n")
  pub certified : Bad requests_kind (ascii "use Sign time 5\ncertificate 0909090909090909090909090909090909090909 mechanism 1\n") 2
  pub stored : Bad requests_kind (ascii "recovery kahash 0707070707070707070707070707070707070707 mechanism 2 blobfile time 5\n") 1
  pub half_token : Bad requests_kind (ascii "blob kmhash 0606060606060606060606060606060606060606 needed 1 total 1 seconds 0 time 0\n") 1
  pub too_few : Bad requests_kind (ascii "blob kmhash 0606060606060606060606060606060606060606 token 0606060606060606060606060606060606060606 needed 2 total 1 seconds 0 time 0\n") 1
  pub malformed : write_text requests_kind (token_blob 65) [] ≡ record { reply = refused_with 2; buffer = [] }
  pub uneven : write_text requests_kind (1 ∷ []) [] ≡ record { reply = refused_with 1; buffer = [] }

-- bundles
abbrev small_bundle : Bytes
small_bundle =
    fact 1 (hash 1) ++ fact 13 (hash 0xef) ++ fact 14 (hash 6) ++ fact 14 (hash 5) ++ signed_well 3 ++ rec (11 ∷ 0 ∷ 0 ∷ 0 ∷ 4 ∷ [])
    ++ rec (12 ∷ 0 ∷ 0 ∷ 0 ∷ 255 ∷ 2 ∷ 5 ∷ 1 ∷ [])

abbrev facts_text : Bytes
facts_text =
    ascii "fact warrantESN 0101010101010101010101010101010101010101\n"
    ++ ascii "fact hkfips efefefefefefefefefefefefefefefefefefefef\n"
    ++ ascii "fact modulekey 0606060606060606060606060606060606060606\n"
    ++ ascii "fact modulekey 0505050505050505050505050505050505050505\n"
    ++ ascii "signature CertKMaKMCbKNSO good\n"
    ++ ascii "signature CertKMaKMCaKFIPSbKNSO bad\n"

abbrev policy_text : Bytes
policy_text = ascii "policy suite 255 approach 2 signing csr protection 1\n"

pub record BundleRows : Type 0 where
  pub small : Both bundle_kind small_bundle (facts_text ++ policy_text)
  pub policy : Both bundle_kind (rec (12 ∷ 0 ∷ 0 ∷ 0 ∷ 0 ∷ 1 ∷ 0 ∷ 4 ∷ [])) (ascii "policy suite 0 approach 1 protection 4\n")
  pub missing : Bad bundle_kind facts_text 7
  pub nothing : Bad bundle_kind [] 1
  pub two : Bad bundle_kind (policy_text ++ policy_text) 2
  pub falling : Bad bundle_kind (ascii "signature warrant good\nfact KML 0505050505050505050505050505050505050505\n") 2
  pub twice : Bad bundle_kind (ascii "signature warrant good\nsignature warrant bad\n") 2
  pub undecided : Bad bundle_kind (ascii "signature warrant\n") 1
  pub both : Bad bundle_kind (ascii "signature warrant good bad\n") 1
  pub short : Bad bundle_kind (ascii "fact KML 05050505050505050505050505050505050505\n") 1
  pub swapped : Bad bundle_kind (ascii "policy suite 3 approach 2 csr signing protection 1\n") 1
  pub approach_three : Bad bundle_kind (ascii "policy suite 3 approach 3 protection 1\n") 1
  pub refused : write_text bundle_kind (signed_well 1) [] ≡ record { reply = refused_with 2; buffer = [] }
  pub no_line : read_text_into bundle_kind facts_text (8 ∷ []) ≡ record { reply = refused_at 15 7; buffer = 8 ∷ [] }

-- hints
abbrev hints : Bytes
hints =
    rec (13 ∷ 0 ∷ 0 ∷ 0 ∷ 0 ∷ 0 ∷ 0 ∷ 0 ∷ 1 ∷ 2 ∷ [])
    ++ rec (13 ∷ 0 ∷ 0 ∷ 0 ∷ 255 ∷ 0 ∷ 0 ∷ 0 ∷ 255 ∷ 0 ∷ 0 ∷ 10 ∷ 0 ∷ 0 ∷ 0 ∷ 9 ∷ [])

pub record HintsRows : Type 0 where
  pub none : Both hints_kind [] []
  pub two : Both hints_kind hints (ascii "hint group 0 actions 1 2 0 0 0 0 0 0\nhint group 255 actions 255 0 0 10 0 0 0 9\n")
  pub seven : Bad hints_kind (ascii "hint group 0 actions 1 2 0 0 0 0 0\n") 1
  pub nine : Bad hints_kind (ascii "hint group 0 actions 1 2 0 0 0 0 0 0 0\n") 1
  pub too_large : Bad hints_kind (ascii "hint group 0 actions 1 2 0 0 0 0 0 0\nhint group 0 actions 256 0 0 0 0 0 0 0\n") 2
  pub spaces : Bad hints_kind (ascii "hint group 0 actions 1  2 0 0 0 0 0 0\n") 1
  pub short_buffer : write_text hints_kind (rec (13 ∷ [])) (replicate 36 8) ≡ record { reply = refused_with 9; buffer = replicate 36 8 }
  pub whole : write_text hints_kind (rec (13 ∷ [])) (replicate 38 8) ≡ record { reply = produced 37; buffer = ascii "hint group 0 actions 0 0 0 0 0 0 0 0\n" ++ (8 ∷ []) }

-- the longest lines, and the longest text of a bundle
abbrev full_bundle : Bytes
full_bundle =
    fact 1 (hash 1) ++ fact 2 (hash 1) ++ fact 3 (hash 1) ++ fact 4 (hash 1) ++ fact 5 (hash 1) ++ fact 6 (hash 1) ++ fact 7 (hash 1)
    ++ fact 8 (hash 1) ++ fact 9 (hash 1) ++ fact 10 (hash 1) ++ fact 11 (hash 1) ++ fact 12 (hash 1) ++ fact 13 (hash 1)
    ++ repeated 32 (fact 14 (hash 1))
    ++ signed_well 1 ++ signed_well 2 ++ signed_well 3 ++ signed_well 4 ++ signed_well 5 ++ signed_well 6
    ++ rec (12 ∷ 0 ∷ 0 ∷ 0 ∷ 255 ∷ 2 ∷ 7 ∷ 4 ∷ [])

pub record Longest : Type 0 where
  pub request : length (record_line (token_blob 65)) ≡ request_line_max
  pub standing : length (record_line (token_blob 1)) ≡ alone_line_max
  pub file : length (record_line stored_file) ≡ blobfile_line_max
  pub certificate : length (record_line presented_key) ≡ certificate_line_max
  pub delegation : length (record_line (rec (14 ∷ 0 ∷ 0 ∷ 0 ∷ [] ++ hash 9 ++ hash 10 ++ (0xff ∷ 0xff ∷ [])))) ≡ delegation_line_max
  pub hint : length (record_line (rec (13 ∷ 0 ∷ 0 ∷ 0 ∷ 255 ∷ 0 ∷ 0 ∷ 0 ∷ [] ++ replicate 8 255))) ≡ hint_line_max
  pub sound : kind_fault bundle_kind full_bundle ≡ none
  pub bundle : length (text_by record_line full_bundle) ≡ bundle_text_max

-- All rows hold.
pub requests_hold : RequestRows
unfolding looking
requests_hold =
    record {
      signing = (refl, refl, refl);
      full = (refl, refl, refl);
      archived = (refl, refl, refl);
      missing = refl;
      timeless = refl;
      unknown = refl;
      two = refl;
      leading_zero = refl;
      too_late = refl;
      unfinished = refl;
      file_missing = refl;
      two_devices = refl;
      two_requests = refl;
      certificate_late = refl;
      a_group = refl;
    }

pub requests_alone_hold : RequestsRows
unfolding looking
requests_alone_hold =
    record {
      none = (refl, refl, refl);
      two = (refl, refl, refl);
      direct = (refl, refl, refl);
      certified = refl;
      stored = refl;
      half_token = refl;
      too_few = refl;
      malformed = refl;
      uneven = refl;
    }

pub bundles_hold : BundleRows
unfolding looking
bundles_hold =
    record {
      small = (refl, refl, refl);
      policy = (refl, refl, refl);
      missing = refl;
      nothing = refl;
      two = refl;
      falling = refl;
      twice = refl;
      undecided = refl;
      both = refl;
      short = refl;
      swapped = refl;
      approach_three = refl;
      refused = refl;
      no_line = refl;
    }

pub hints_hold : HintsRows
unfolding looking
hints_hold =
    record {
      none = (refl, refl, refl);
      two = (refl, refl, refl);
      seven = refl;
      nine = refl;
      too_large = refl;
      spaces = refl;
      short_buffer = refl;
      whole = refl;
    }

pub longest_hold : Longest
unfolding looking
longest_hold =
    record {
      request = refl;
      standing = refl;
      file = refl;
      certificate = refl;
      delegation = refl;
      hint = refl;
      sound = refl;
      bundle = refl;
    }
