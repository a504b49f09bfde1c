-- Rows of the subject writer: whole subjects of certificates 3, 4 and 5 under each suite, and each refusal. A row is a field, so that one that does
-- not hold is named.
use Prim.Native.Nat.{ℕ}
use Prim.Native.String.{String}
use mathlib.Core.Path.{◌≡◌, refl}
use mathlib.Core.List.{[], ◌∷◌, ◌++◌}
use lib.ListN.{replicate}
use Rattle.rules.specs.Basics.{Bytes, ascii, first_fault}
use Rattle.rules.specs.Suites.{suite}
use Rattle.rules.specs.Subject.{SubjectReply, written, unwritten, subject, subject_fault, subject_reply, subject_buffer}
use Rattle.rules.proofs.Samples.{hash}

-- the reply, and the whole buffer afterwards
pub record Written : Type 0 where
  pub reply : SubjectReply
  pub buffer : Bytes

-- the writer on a buffer of so many bytes 8
abbrev writes : ℕ → ℕ → Bytes → ℕ → Written
writes certificate suite hashes room =
    record { reply = subject_reply certificate suite hashes (replicate room 8); buffer = subject_buffer certificate suite hashes (replicate room 8) }

-- a header text with its zero byte, the hashes, and so many bytes left as they were
abbrev wrote : ℕ → String → Bytes → ℕ → Written
wrote length text hashes left = record { reply = written length; buffer = ascii text ++ (0 ∷ []) ++ hashes ++ replicate left 8 }

-- a refusal leaves the buffer
abbrev refuses : ℕ → ℕ → Written
refuses n room = record { reply = unwritten n; buffer = replicate room 8 }

abbrev three : Bytes
three = hash 1 ++ hash 2 ++ hash 3

abbrev four : Bytes
four = three ++ hash 4

-- "Total lengths (the reply), suites 1 to 4", and suite 5 of document 02; "Bytes past the length stay."
pub record SubjectRows : Type 0 where
  pub certificate_3_suite_1 : writes 3 1 three 140 ≡ wrote 72 "Module keys" three 68
  pub certificate_3_suite_2 : writes 3 2 three 140 ≡ wrote 90 "Module keys: KM type Rijndael" three 50
  pub certificate_3_suite_3 : writes 3 3 three 140 ≡ wrote 102 "Module keys: suite = DLf3072s256mRijndael" three 38
  pub certificate_3_suite_4 : writes 3 4 three 140 ≡ wrote 109 "Module keys: suite = DLf3072s256mAEScSP800131Ar1" three 31
  pub certificate_3_suite_5 : writes 3 5 three 140 ≡ wrote 92 "Module keys: suite = ECp521mAES" three 48
  pub certificate_4_suite_1 : writes 4 1 four 140 ≡ wrote 100 "Module setup, FIPS3" four 40
  pub certificate_4_suite_2 : writes 4 2 four 140 ≡ wrote 118 "Module setup, FIPS3; KM type Rijndael" four 22
  pub certificate_4_suite_3 : writes 4 3 four 140 ≡ wrote 130 "Module setup, FIPS3; suite = DLf3072s256mRijndael" four 10
  pub certificate_4_suite_4 : writes 4 4 four 140 ≡ wrote 137 "Module setup, FIPS3; suite = DLf3072s256mAEScSP800131Ar1" four 3
  pub certificate_4_suite_5 : writes 4 5 four 140 ≡ wrote 120 "Module setup, FIPS3; suite = ECp521mAES" four 20
  pub certificate_5_suite_1 : writes 5 1 three 140 ≡ wrote 74 "Card Recovery" three 66
  pub certificate_5_suite_2 : writes 5 2 three 140 ≡ wrote 74 "Card Recovery" three 66
  pub certificate_5_suite_3 : writes 5 3 three 140 ≡ wrote 74 "Card Recovery" three 66
  pub certificate_5_suite_4 : writes 5 4 three 140 ≡ wrote 74 "Card Recovery" three 66
  pub certificate_5_suite_5 : writes 5 5 three 140 ≡ wrote 74 "Card Recovery" three 66
  pub buffer_just_long : writes 3 1 three 72 ≡ wrote 72 "Module keys" three 0

pub subject_rows : SubjectRows
unfolding ascii first_fault suite subject subject_fault subject_reply subject_buffer
subject_rows =
    record {
      certificate_3_suite_1 = refl;
      certificate_3_suite_2 = refl;
      certificate_3_suite_3 = refl;
      certificate_3_suite_4 = refl;
      certificate_3_suite_5 = refl;
      certificate_4_suite_1 = refl;
      certificate_4_suite_2 = refl;
      certificate_4_suite_3 = refl;
      certificate_4_suite_4 = refl;
      certificate_4_suite_5 = refl;
      certificate_5_suite_1 = refl;
      certificate_5_suite_2 = refl;
      certificate_5_suite_3 = refl;
      certificate_5_suite_4 = refl;
      certificate_5_suite_5 = refl;
      buffer_just_long = refl;
    }

-- "Subject writer: 10, 11, 1, 9."
pub record UnwrittenRows : Type 0 where
  pub certificate_2 : writes 2 1 three 140 ≡ refuses 10 140
  pub certificate_6 : writes 6 1 three 140 ≡ refuses 10 140
  pub suite_0 : writes 3 0 three 140 ≡ refuses 11 140
  pub suite_6 : writes 3 6 three 140 ≡ refuses 11 140
  pub certificate_5_suite_0 : writes 5 0 three 140 ≡ refuses 11 140
  pub hashes_short : writes 3 1 (hash 1 ++ hash 2) 140 ≡ refuses 1 140
  pub hashes_long : writes 3 1 four 140 ≡ refuses 1 140
  pub certificate_4_three_hashes : writes 4 1 three 140 ≡ refuses 1 140
  pub buffer_short : writes 4 1 four 99 ≡ refuses 9 99
  pub certificate_before_suite : writes 2 0 [] 0 ≡ refuses 10 0
  pub suite_before_hashes : writes 3 0 [] 0 ≡ refuses 11 0
  pub hashes_before_buffer : writes 3 1 [] 0 ≡ refuses 1 0

pub unwritten_rows : UnwrittenRows
unfolding ascii first_fault suite subject subject_fault subject_reply subject_buffer
unwritten_rows =
    record {
      certificate_2 = refl;
      certificate_6 = refl;
      suite_0 = refl;
      suite_6 = refl;
      certificate_5_suite_0 = refl;
      hashes_short = refl;
      hashes_long = refl;
      certificate_4_three_hashes = refl;
      buffer_short = refl;
      certificate_before_suite = refl;
      suite_before_hashes = refl;
      hashes_before_buffer = refl;
    }
