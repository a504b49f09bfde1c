-- A record of a request, a bundle or hints is read back from its line, and what a line tells is a record.
use Prim.Native.Nat.{ℕ, zero, suc, ◌+◌, ◌-◌}
use native.Mathlib.Omega.{arith}
use mathlib.Core.Path.{◌≡◌, refl, sym, ◌∙◌, ap}
use mathlib.Core.List.{List, [], ◌∷◌, ◌++◌, flatten}
use mathlib.Core.Bool.{Bool, true, false, false≢true}
use lib.ListN.{length, take, drop}
use lib.Dec.{eqb, leb, ltb}
use borrow.Author.Tests.{eqb-true, eqb-false, leb-true, ltb-true}
use Rattle.rules.specs.Sizes.{hash_bytes}
use Rattle.std.specs.Prelude.{if◌then◌else◌}
use Rattle.rules.specs.Basics.{Bytes, all, ascii, bit, within, part, number, byte, blank, kind, flag}
use Rattle.rules.specs.Layout.{header, zero_unless, between, token_parameters_at, token_parameters_if, use_laid_out, blob_request_laid_out, recovery_laid_out, certificate_laid_out, fact_laid_out, signature_laid_out, policy_laid_out, hint_laid_out, delegation_laid_out, blobfile_laid_out}
use Rattle.rules.proofs.Laws.{and_left, and_right, and_both}
use Rattle.text_rules.specs.Words.{hex, Word, bare, with_number, words_text, permission_names, permission_words, blobfile_words, line_of}
use Rattle.text_rules.specs.Decoding.{stands, digits_of, digits_max, decimal_from, headed, blobfile_from, begins, past}
use Rattle.text_rules.specs.OtherWords.{alone, time_word, use_words, blob_request_words, recovery_words, certificate_words, field_names, fact_words, signature_names, signature_words, policy_words, numbers_text, with_numbers, hint_words, delegation_words, record_line}
use Rattle.text_rules.specs.OtherDecoding.{hash_here, bytes_here, use_from, blob_request_from, recovery_from, certificate_from, fact_from, signature_from, policy_record_from, hint_from, delegation_from, record_of}
use Rattle.text_rules.specs.Listing.{IsRecord}
use Rattle.text_rules.proofs.Digits.{unhex_length, unhex_octets}
use Rattle.text_rules.proofs.Bits.{bits_of, within_below}
use Rattle.text_rules.proofs.Words.{rest_begins, has_bare, after_bare, has_hashed, number_first, after_number_lem, names_back}
use Rattle.text_rules.proofs.Parts.{cut_whole, blank_within, bits_part, blank_byte, zero_unless_lem, part_length, part_octets, number_part, number_fits, blank_part, blank_number, byte_bytes, byte_fits, header_part}
use Rattle.text_rules.proofs.Naming.{name_first, after_name_lem, hash_alone, past_alone, bytes_back, after_numbers, time_first}
use Rattle.text_rules.proofs.Records.{unless_flag, unlisted, hash_field, hash_past, two_fits, four_fits, byte_small, filed_head, soft_below, file_back, begun, decoded_file, Sized, sized_nil, ◌then◌, sized_bytes, sized_zeros, sized_headed, sized_hash, is_record, either_record, decoded_record}

ruleset conj = (and_left, and_right, and_both)

-- a word that is always there has no value to be zero
always : {P : Type 0} → true ≡ false → P
always q = absurd (false≢true (sym q))

module _ (r : Bytes) (h : IsRecord r) where
  use_back : kind r ≡ 6 → use_laid_out r ≡ true → use_from (words_text (use_words r)) ≡ r
  unfolding use_from use_laid_out all ascii
  use_back k e =
      let w = h.whole in
      let d : header 0 r ≡ true = search conj in
      let p : ltb (byte 4 r) 16 ≡ true = search conj in
      let z : blank 5 51 r ≡ true = search conj in
      let q = ltb-true (byte 4 r) 16 p in
      rw (
        name_first permission_names (byte 4 r) (time_word r ∷ []) refl (omega arith),
        after_name_lem permission_names (byte 4 r) (time_word r ∷ []) refl (omega arith),
        time_first (number 56 8 r) (number_fits r h 56 8 (omega arith)),
        header_part r h 6 0 0 16 k d (omega arith) refl,
        byte_bytes r h 4 (omega arith),
        number_part r h 56 8 (omega arith),
        ← (blank_part r h 5 51 (omega arith) z),
      )
      (cut_whole (4 ∷ 1 ∷ 51 ∷ 8 ∷ []) 0 r (omega arith))

  blob_back : kind r ≡ 7 → blob_request_laid_out r ≡ true → blob_request_from (words_text (blob_request_words r)) ≡ r
  unfolding blob_request_from blob_request_laid_out token_parameters_if all ascii
  blob_back k e =
      let w = h.whole in
      let d : header 65 r ≡ true = search conj in
      let t : zero_unless 0 24 hash_bytes r ≡ true = search conj in
      let p : token_parameters_if 0 44 r ≡ true = search conj in
      let z : blank 52 4 r ≡ true = search conj in
      let off : flag 0 r ≡ false → blank 44 8 r ≡ true = λ q. unless_flag (flag 0 r) (token_parameters_at 44 r) (blank 44 8 r) p q in
      let ws : ℕ → List Word = λ i. drop i (blob_request_words r) in
      rw (
        hash_field r h "kmhash" (ws 1) refl true 4 (omega arith) always,
        hash_past r h "kmhash" (ws 1) refl true 4 (omega arith),
        has_hashed "token" (ws 2) refl (flag 0 r) (part 24 hash_bytes r),
        hash_field r h "token" (ws 2) refl (flag 0 r) 24 (omega arith) (λ q. zero_unless_lem 0 24 hash_bytes r t q),
        hash_past r h "token" (ws 2) refl (flag 0 r) 24 (omega arith),
        has_bare "AllowSoftSlots" (ws 3) refl (bit 0 (number 44 2 r)),
        after_bare "AllowSoftSlots" (ws 3) refl (bit 0 (number 44 2 r)),
        number_first "needed" (ws 4) refl (flag 0 r) (byte 46 r) (byte_small r h 46 (omega arith)) (λ q. blank_byte r h 46 (omega arith) (blank_within 44 8 2 1 r (omega arith) (off q))),
        after_number_lem "needed" (ws 4) refl (flag 0 r) (byte 46 r) (byte_small r h 46 (omega arith)),
        number_first "total" (ws 5) refl (flag 0 r) (byte 47 r) (byte_small r h 47 (omega arith)) (λ q. blank_byte r h 47 (omega arith) (blank_within 44 8 3 1 r (omega arith) (off q))),
        after_number_lem "total" (ws 5) refl (flag 0 r) (byte 47 r) (byte_small r h 47 (omega arith)),
        number_first "seconds" (ws 6) refl (flag 0 r) (number 48 4 r) (four_fits r h 48 (omega arith)) (λ q. blank_number r h 48 4 (blank_within 44 8 4 4 r (omega arith) (off q))),
        after_number_lem "seconds" (ws 6) refl (flag 0 r) (number 48 4 r) (four_fits r h 48 (omega arith)),
        has_bare "blobfile" (ws 7) refl (flag 6 r),
        after_bare "blobfile" (ws 7) refl (flag 6 r),
        time_first (number 56 8 r) (number_fits r h 56 8 (omega arith)),
        filed_head r h 7 k d,
        bits_part r h 44 1 (omega arith) (soft_below r h 0 p),
        byte_bytes r h 46 (omega arith),
        byte_bytes r h 47 (omega arith),
        number_part r h 48 4 (omega arith),
        number_part r h 56 8 (omega arith),
        ← (blank_part r h 52 4 (omega arith) z),
      )
      (cut_whole (4 ∷ 20 ∷ 20 ∷ 2 ∷ 1 ∷ 1 ∷ 4 ∷ 4 ∷ 8 ∷ []) 0 r (omega arith))

  -- flag 6 alone
  recovery_head : kind r ≡ 8 → header 64 r ≡ true → headed 8 (false ∷ false ∷ false ∷ false ∷ false ∷ false ∷ flag 6 r ∷ []) ≡ part 0 4 r
  recovery_head k d =
      rw (
        unlisted 64 0 r d (omega arith) refl,
        unlisted 64 1 r d (omega arith) refl,
        unlisted 64 2 r d (omega arith) refl,
        unlisted 64 3 r d (omega arith) refl,
        unlisted 64 4 r d (omega arith) refl,
        unlisted 64 5 r d (omega arith) refl,
      )
      at (header_part r h 8 64 7 9 k d (omega arith) refl)

  recovery_back : kind r ≡ 8 → recovery_laid_out r ≡ true → recovery_from (words_text (recovery_words r)) ≡ r
  unfolding recovery_from recovery_laid_out all ascii
  recovery_back k e =
      let w = h.whole in
      let m = number 24 2 r in
      let d : header 64 r ≡ true = search conj in
      let z : blank 26 30 r ≡ true = search conj in
      let ws : ℕ → List Word = λ i. drop i (recovery_words r) in
      rw (
        hash_field r h "kahash" (ws 1) refl true 4 (omega arith) always,
        hash_past r h "kahash" (ws 1) refl true 4 (omega arith),
        number_first "mechanism" (ws 2) refl true m (two_fits r h 24 (omega arith)) always,
        after_number_lem "mechanism" (ws 2) refl true m (two_fits r h 24 (omega arith)),
        has_bare "blobfile" (ws 3) refl (flag 6 r),
        after_bare "blobfile" (ws 3) refl (flag 6 r),
        time_first (number 56 8 r) (number_fits r h 56 8 (omega arith)),
        recovery_head k d,
        number_part r h 24 2 (omega arith),
        number_part r h 56 8 (omega arith),
        ← (blank_part r h 26 30 (omega arith) z),
      )
      (cut_whole (4 ∷ 20 ∷ 2 ∷ 30 ∷ 8 ∷ []) 0 r (omega arith))

  certificate_back : kind r ≡ 9 → certificate_laid_out r ≡ true → certificate_from (words_text (certificate_words r)) ≡ r
  unfolding certificate_from certificate_laid_out all ascii
  certificate_back k e =
      let w = h.whole in
      let m = number 24 2 r in
      let d : header 0 r ≡ true = search conj in
      let z : blank 26 38 r ≡ true = search conj in
      let later = with_number true "mechanism" m ∷ [] in
      let l = part_length r h 4 hash_bytes (omega arith) in
      rw (
        hash_alone (part 4 hash_bytes r) later l (part_octets r h 4 hash_bytes),
        past_alone (part 4 hash_bytes r) later l,
        number_first "mechanism" [] refl true m (two_fits r h 24 (omega arith)) always,
        header_part r h 9 0 0 16 k d (omega arith) refl,
        number_part r h 24 2 (omega arith),
        ← (blank_part r h 26 38 (omega arith) z),
      )
      (cut_whole (4 ∷ 20 ∷ 2 ∷ 38 ∷ []) 0 r (omega arith))

  fact_back : kind r ≡ 10 → fact_laid_out r ≡ true → fact_from (words_text (fact_words r)) ≡ r
  unfolding fact_from fact_laid_out all ascii
  fact_back k e =
      let w = h.whole in
      let d : header 0 r ≡ true = search conj in
      let p : between 1 14 (byte 4 r) ≡ true = search conj in
      let y : blank 5 3 r ≡ true = search conj in
      let z : blank 28 36 r ≡ true = search conj in
      let low = leb-true 1 (byte 4 r) (and_left (leb 1 (byte 4 r)) (leb (byte 4 r) 14) p) in
      let high = leb-true (byte 4 r) 14 (and_right (leb 1 (byte 4 r)) (leb (byte 4 r) 14) p) in
      let later = alone (hex (part 8 hash_bytes r)) ∷ [] in
      let s : byte 4 r - 1 + 1 ≡ byte 4 r = omega arith in
      rw (
        name_first field_names (byte 4 r - 1) later refl (omega arith),
        after_name_lem field_names (byte 4 r - 1) later refl (omega arith),
        s,
        hash_alone (part 8 hash_bytes r) [] (part_length r h 8 hash_bytes (omega arith)) (part_octets r h 8 hash_bytes),
        header_part r h 10 0 0 16 k d (omega arith) refl,
        byte_bytes r h 4 (omega arith),
        ← (blank_part r h 28 36 (omega arith) z),
        ← (blank_part r h 5 3 (omega arith) y),
      )
      (cut_whole (4 ∷ 1 ∷ 3 ∷ 20 ∷ 36 ∷ []) 0 r (omega arith))

  signature_back : kind r ≡ 11 → signature_laid_out r ≡ true → signature_from (words_text (signature_words r)) ≡ r
  unfolding signature_from signature_laid_out all ascii
  signature_back k e =
      let w = h.whole in
      let d : header 0 r ≡ true = search conj in
      let p : between 1 6 (byte 4 r) ≡ true = search conj in
      let g : leb (byte 5 r) 1 ≡ true = search conj in
      let z : blank 6 58 r ≡ true = search conj in
      let low = leb-true 1 (byte 4 r) (and_left (leb 1 (byte 4 r)) (leb (byte 4 r) 6) p) in
      let high = leb-true (byte 4 r) 6 (and_right (leb 1 (byte 4 r)) (leb (byte 4 r) 6) p) in
      let bad = bare (eqb (byte 5 r) 0) "bad" ∷ [] in
      let later = bare (eqb (byte 5 r) 1) "good" ∷ bad in
      let s : byte 4 r - 1 + 1 ≡ byte 4 r = omega arith in
      rw (
        name_first signature_names (byte 4 r - 1) later refl (omega arith),
        after_name_lem signature_names (byte 4 r - 1) later refl (omega arith),
        s,
        has_bare "good" bad refl (eqb (byte 5 r) 1),
        one_or_none (byte 5 r) g,
        header_part r h 11 0 0 16 k d (omega arith) refl,
        byte_bytes r h 4 (omega arith),
        byte_bytes r h 5 (omega arith),
        ← (blank_part r h 6 58 (omega arith) z),
      )
      (cut_whole (4 ∷ 1 ∷ 1 ∷ 58 ∷ []) 0 r (omega arith))
    where
      one_or_none : (n : ℕ) → leb n 1 ≡ true → (if eqb n 1 then 1 else 0) ≡ n
      one_or_none n g = pick (eqb n 1) refl
        where
          pick : (b : Bool) → eqb n 1 ≡ b → (if eqb n 1 then 1 else 0) ≡ n
          pick true q = let i = eqb-true n 1 q in rw q (omega arith)
          pick false q =
              let i : (n ≡ 1 → ⊥) = eqb-false n 1 q in
              let l = leb-true n 1 g in
              rw q (omega arith)

  policy_back : kind r ≡ 12 → policy_laid_out r ≡ true → policy_record_from (words_text (policy_words r)) ≡ r
  unfolding policy_record_from policy_laid_out all ascii
  policy_back k e =
      let w = h.whole in
      let d : header 0 r ≡ true = search conj in
      let b : within 16 (byte 6 r) 7 ≡ true = search conj in
      let z : blank 8 56 r ≡ true = search conj in
      let f = byte_fits r h 6 (omega arith) in
      let ws : ℕ → List Word = λ i. drop i (policy_words r) in
      rw (
        number_first "suite" (ws 1) refl true (byte 4 r) (byte_small r h 4 (omega arith)) always,
        after_number_lem "suite" (ws 1) refl true (byte 4 r) (byte_small r h 4 (omega arith)),
        number_first "approach" (ws 2) refl true (byte 5 r) (byte_small r h 5 (omega arith)) always,
        after_number_lem "approach" (ws 2) refl true (byte 5 r) (byte_small r h 5 (omega arith)),
        has_bare "signing" (ws 3) refl (bit 0 (byte 6 r)),
        after_bare "signing" (ws 3) refl (bit 0 (byte 6 r)),
        has_bare "encryption" (ws 4) refl (bit 1 (byte 6 r)),
        after_bare "encryption" (ws 4) refl (bit 1 (byte 6 r)),
        has_bare "csr" (ws 5) refl (bit 2 (byte 6 r)),
        after_bare "csr" (ws 5) refl (bit 2 (byte 6 r)),
        number_first "protection" (ws 6) refl true (byte 7 r) (byte_small r h 7 (omega arith)) always,
        bits_of 3 (byte 6 r) (within_below 13 3 (byte 6 r) 7 (omega arith) (omega arith) b (omega arith)),
        header_part r h 12 0 0 16 k d (omega arith) refl,
        byte_bytes r h 4 (omega arith),
        byte_bytes r h 5 (omega arith),
        byte_bytes r h 6 (omega arith),
        byte_bytes r h 7 (omega arith),
        ← (blank_part r h 8 56 (omega arith) z),
      )
      (cut_whole (4 ∷ 1 ∷ 1 ∷ 1 ∷ 1 ∷ 56 ∷ []) 0 r (omega arith))

  hint_back : kind r ≡ 13 → hint_laid_out r ≡ true → hint_from (words_text (hint_words r)) ≡ r
  unfolding hint_from hint_laid_out all ascii
  hint_back k e =
      let w = h.whole in
      let d : header 0 r ≡ true = search conj in
      let y : blank 5 3 r ≡ true = search conj in
      let z : blank 16 48 r ≡ true = search conj in
      let actions = with_numbers true "actions" (part 8 8 r) ∷ [] in
      rw (
        number_first "group" actions refl true (byte 4 r) (byte_small r h 4 (omega arith)) always,
        after_number_lem "group" actions refl true (byte 4 r) (byte_small r h 4 (omega arith)),
        after_numbers "actions" (part 8 8 r) [],
        eight,
        header_part r h 13 0 0 16 k d (omega arith) refl,
        byte_bytes r h 4 (omega arith),
        ← (blank_part r h 16 48 (omega arith) z),
        ← (blank_part r h 5 3 (omega arith) y),
      )
      (cut_whole (4 ∷ 1 ∷ 3 ∷ 8 ∷ 48 ∷ []) 0 r (omega arith))
    where
      eight : bytes_here 8 (numbers_text (part 8 8 r) ++ words_text []) ≡ part 8 8 r
      eight =
          let w = h.whole in
          ap (λ (n : ℕ). bytes_here n (numbers_text (part 8 8 r) ++ words_text [])) (sym (part_length r h 8 8 (omega arith)))
          ∙ bytes_back (part 8 8 r) (words_text []) (part_octets r h 8 8) (rest_begins [])

  delegation_back : kind r ≡ 14 → delegation_laid_out r ≡ true → delegation_from (words_text (delegation_words r)) ≡ r
  unfolding delegation_from delegation_laid_out all ascii permission_words
  delegation_back k e =
      let w = h.whole in
      let d : header 0 r ≡ true = search conj in
      let z : blank 46 18 r ≡ true = search conj in
      let ws : ℕ → List Word = λ i. drop i (delegation_words r) in
      rw (
        hash_field r h "from" (ws 1) refl true 4 (omega arith) always,
        hash_past r h "from" (ws 1) refl true 4 (omega arith),
        hash_field r h "to" (ws 2) refl true 24 (omega arith) always,
        hash_past r h "to" (ws 2) refl true 24 (omega arith),
        names_back 0 permission_names (number 44 2 r) refl,
        bits_of 16 (number 44 2 r) (number_fits r h 44 2 (omega arith)),
        header_part r h 14 0 0 16 k d (omega arith) refl,
        number_part r h 44 2 (omega arith),
        ← (blank_part r h 46 18 (omega arith) z),
      )
      (cut_whole (4 ∷ 20 ∷ 20 ∷ 2 ∷ 18 ∷ []) 0 r (omega arith))

-- A line's first word tells the kind.
module _ (ws : List Word) where
  told_use : record_of (ascii "use" ++ words_text ws) ≡ use_from (words_text ws)
  unfolding record_of ascii stands
  told_use = rw (begun ws "use")

  told_blob : record_of (ascii "blob" ++ words_text ws) ≡ blob_request_from (words_text ws)
  unfolding record_of ascii stands
  told_blob = rw (begun ws "blob")

  told_recovery : record_of (ascii "recovery" ++ words_text ws) ≡ recovery_from (words_text ws)
  unfolding record_of ascii stands
  told_recovery = rw (begun ws "recovery")

  told_certificate : record_of (ascii "certificate" ++ words_text ws) ≡ certificate_from (words_text ws)
  unfolding record_of ascii stands
  told_certificate = rw (begun ws "certificate")

  told_fact : record_of (ascii "fact" ++ words_text ws) ≡ fact_from (words_text ws)
  unfolding record_of ascii stands
  told_fact = rw (begun ws "fact")

  told_signature : record_of (ascii "signature" ++ words_text ws) ≡ signature_from (words_text ws)
  unfolding record_of ascii stands
  told_signature = rw (begun ws "signature")

  told_policy : record_of (ascii "policy" ++ words_text ws) ≡ policy_record_from (words_text ws)
  unfolding record_of ascii stands
  told_policy = rw (begun ws "policy")

  told_hint : record_of (ascii "hint" ++ words_text ws) ≡ hint_from (words_text ws)
  unfolding record_of ascii stands
  told_hint = rw (begun ws "hint")

  told_delegation : record_of (ascii "delegation" ++ words_text ws) ≡ delegation_from (words_text ws)
  unfolding record_of ascii stands
  told_delegation = rw (begun ws "delegation")

  told_file : record_of (ascii "blobfile" ++ words_text ws) ≡ blobfile_from (words_text ws)
  unfolding record_of ascii stands
  told_file = decoded_file ws

-- A record that is laid out as its kind asks is read back from its line.
module _ (r : Bytes) (h : IsRecord r) where
  pub use_line : kind r ≡ 6 → use_laid_out r ≡ true → record_of (record_line r) ≡ r
  unfolding record_line
  use_line k e = rw k (told_use (use_words r) ∙ use_back r h k e)

  pub blob_line : kind r ≡ 7 → blob_request_laid_out r ≡ true → record_of (record_line r) ≡ r
  unfolding record_line
  blob_line k e = rw k (told_blob (blob_request_words r) ∙ blob_back r h k e)

  pub recovery_line : kind r ≡ 8 → recovery_laid_out r ≡ true → record_of (record_line r) ≡ r
  unfolding record_line
  recovery_line k e = rw k (told_recovery (recovery_words r) ∙ recovery_back r h k e)

  pub certificate_line : kind r ≡ 9 → certificate_laid_out r ≡ true → record_of (record_line r) ≡ r
  unfolding record_line
  certificate_line k e = rw k (told_certificate (certificate_words r) ∙ certificate_back r h k e)

  pub fact_line : kind r ≡ 10 → fact_laid_out r ≡ true → record_of (record_line r) ≡ r
  unfolding record_line
  fact_line k e = rw k (told_fact (fact_words r) ∙ fact_back r h k e)

  pub signature_line : kind r ≡ 11 → signature_laid_out r ≡ true → record_of (record_line r) ≡ r
  unfolding record_line
  signature_line k e = rw k (told_signature (signature_words r) ∙ signature_back r h k e)

  pub policy_line : kind r ≡ 12 → policy_laid_out r ≡ true → record_of (record_line r) ≡ r
  unfolding record_line
  policy_line k e = rw k (told_policy (policy_words r) ∙ policy_back r h k e)

  pub hint_line : kind r ≡ 13 → hint_laid_out r ≡ true → record_of (record_line r) ≡ r
  unfolding record_line
  hint_line k e = rw k (told_hint (hint_words r) ∙ hint_back r h k e)

  pub delegation_line : kind r ≡ 14 → delegation_laid_out r ≡ true → record_of (record_line r) ≡ r
  unfolding record_line
  delegation_line k e = rw k (told_delegation (delegation_words r) ∙ delegation_back r h k e)

  pub file_line : kind r ≡ 15 → blobfile_laid_out r ≡ true → record_of (record_line r) ≡ r
  unfolding record_line line_of
  file_line k e = rw k (told_file (blobfile_words r) ∙ file_back r h k e)

-- What a line tells is a record, whatever the line.
sized_here : (t : Bytes) → Sized hash_bytes (hash_here t)
unfolding hash_here
sized_here t = record { long = unhex_length hash_bytes (drop 1 t); bytes = unhex_octets hash_bytes (drop 1 t) }

sized_as : {m n : ℕ} {xs : Bytes} → m ≡ n → Sized m xs → Sized n xs
sized_as e p = rw (← e) p

sized_eight : (n : ℕ) (t : Bytes) → Sized n (bytes_here n t)
unfolding bytes_here
sized_eight zero t = sized_nil
sized_eight (suc n) t =
    sized_as (omega arith)
    (sized_bytes 1 (decimal_from 0 (digits_of (take digits_max (drop 1 t)))) then sized_eight n (drop (1 + length (digits_of (take digits_max (drop 1 t)))) t))

use_record : (t : Bytes) → IsRecord (use_from t)
unfolding use_from flatten
use_record t = is_record (use_from t) (sized_headed 6 [] (omega arith) then sized_bytes 1 _ then sized_zeros 51 then sized_bytes 8 _ then sized_nil)

blob_record : (t : Bytes) → IsRecord (blob_request_from t)
unfolding blob_request_from flatten
blob_record t =
    is_record (blob_request_from t)
    (sized_headed 7 _ (omega arith) then sized_hash "kmhash" _ then sized_hash "token" _ then sized_bytes 2 _
    then sized_bytes 1 _ then sized_bytes 1 _ then sized_bytes 4 _ then sized_zeros 4 then sized_bytes 8 _ then sized_nil)

recovery_record : (t : Bytes) → IsRecord (recovery_from t)
unfolding recovery_from flatten
recovery_record t =
    is_record (recovery_from t) (sized_headed 8 _ (omega arith) then sized_hash "kahash" _ then sized_bytes 2 _ then sized_zeros 30 then sized_bytes 8 _ then sized_nil)

certificate_record_lem : (t : Bytes) → IsRecord (certificate_from t)
unfolding certificate_from flatten
certificate_record_lem t =
    is_record (certificate_from t) (sized_headed 9 [] (omega arith) then sized_here t then sized_bytes 2 _ then sized_zeros 38 then sized_nil)

fact_record : (t : Bytes) → IsRecord (fact_from t)
unfolding fact_from flatten
fact_record t =
    is_record (fact_from t) (sized_headed 10 [] (omega arith) then sized_bytes 1 _ then sized_zeros 3 then sized_here _ then sized_zeros 36 then sized_nil)

signature_record : (t : Bytes) → IsRecord (signature_from t)
unfolding signature_from flatten
signature_record t =
    is_record (signature_from t) (sized_headed 11 [] (omega arith) then sized_bytes 1 _ then sized_bytes 1 _ then sized_zeros 58 then sized_nil)

policy_record_lem : (t : Bytes) → IsRecord (policy_record_from t)
unfolding policy_record_from flatten
policy_record_lem t =
    is_record (policy_record_from t)
    (sized_headed 12 [] (omega arith) then sized_bytes 1 _ then sized_bytes 1 _ then sized_bytes 1 _ then sized_bytes 1 _ then sized_zeros 56 then sized_nil)

hint_record_lem : (t : Bytes) → IsRecord (hint_from t)
unfolding hint_from flatten
hint_record_lem t =
    is_record (hint_from t) (sized_headed 13 [] (omega arith) then sized_bytes 1 _ then sized_zeros 3 then sized_eight 8 _ then sized_zeros 48 then sized_nil)

delegation_record_lem : (t : Bytes) → IsRecord (delegation_from t)
unfolding delegation_from flatten
delegation_record_lem t =
    is_record (delegation_from t) (sized_headed 14 [] (omega arith) then sized_hash "from" _ then sized_hash "to" _ then sized_bytes 2 _ then sized_zeros 18 then sized_nil)

pub told_record : (line : Bytes) → IsRecord (record_of line)
unfolding record_of
told_record line =
    either_record (begins "use" line) _ _ (use_record (past "use" line))
    (either_record (begins "blob" line) _ _ (blob_record (past "blob" line))
    (either_record (begins "recovery" line) _ _ (recovery_record (past "recovery" line))
    (either_record (begins "certificate" line) _ _ (certificate_record_lem (past "certificate" line))
    (either_record (begins "fact" line) _ _ (fact_record (past "fact" line))
    (either_record (begins "signature" line) _ _ (signature_record (past "signature" line))
    (either_record (begins "policy" line) _ _ (policy_record_lem (past "policy" line))
    (either_record (begins "hint" line) _ _ (hint_record_lem (past "hint" line))
    (either_record (begins "delegation" line) _ _ (delegation_record_lem (past "delegation" line)) (decoded_record line)))))))))
