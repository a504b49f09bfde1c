-- How long the lines of requests, bundles and hints can be.
use Prim.Native.Nat.{ℕ, zero, suc, ◌+◌, ◌-◌, ◌*◌, ◌≤◌}
use Prim.Native.String.{String}
use native.Mathlib.Omega.{arith}
use mathlib.Core.Path.{◌≡◌, refl}
use mathlib.Core.Logic.{◌⊎◌, inl, inr}
use mathlib.Core.List.{List, [], ◌∷◌}
use mathlib.Core.Bool.{Bool, true, false}
use lib.ListN.{length, drop, length-append}
use lib.Dec.{eqb, leb}
use borrow.Author.Tests.{eqb-true, leb-true}
use Rattle.rules.specs.Sizes.{hash_bytes}
use Rattle.std.specs.Prelude.{if◌then◌else◌}
use Rattle.rules.specs.Basics.{Bytes, Every, all, ascii, bit, part, number, byte, kind, flag}
use Rattle.rules.specs.Layout.{between, token_parameters_if, blob_request_laid_out, policy_laid_out}
use Rattle.rules.specs.Request.{request_laid_out}
use Rattle.rules.specs.Day.{decimal}
use Rattle.rules.proofs.Laws.{and_left, and_right, and_both}
use Rattle.text_rules.specs.Words.{hex, Word, bare, with_number, with_hash, spaced, words_text, permission_names, permission_words, line_of, blobfile_line_max}
use Rattle.text_rules.specs.OtherWords.{alone, name_at, time_word, blob_request_words, recovery_words, field_names, signature_names, policy_words, numbers_text, with_numbers, record_line, alone_line_max, certificate_line_max, delegation_line_max, hint_line_max}
use Rattle.text_rules.specs.Listing.{Octet, IsRecord}
use Rattle.text_rules.proofs.Digits.{hex_length}
use Rattle.text_rules.proofs.Words.{text_without}
use Rattle.text_rules.proofs.Parts.{part_length, part_octets, number_fits, byte_fits}
use Rattle.text_rules.proofs.Lengths.{text_length, number_text, end_length, permissions_length, hash_text, two_text, four_text, shares, file_length}
use Rattle.text_rules.proofs.Bounds.{three_kinds}

ruleset conj = (and_left, and_right, and_both)

-- the longest of several names
name_length : (names : List String) (n m : ℕ) → all (λ x. leb (length (spaced x)) m) names ≡ true → 1 ≤ m → length (spaced (name_at n names)) ≤ m
unfolding all ascii
name_length [] n m e l = omega arith
name_length (x ∷ xs) zero m e l = leb-true (length (spaced x)) m (and_left (leb (length (spaced x)) m) (all (λ y. leb (length (spaced y)) m) xs) e)
name_length (x ∷ xs) (suc n) m e l = name_length xs n m (and_right (leb (length (spaced x)) m) (all (λ y. leb (length (spaced y)) m) xs) e) l

-- a word alone, by whether it is there
bare_length : (b : Bool) (name : String) (ws : List Word) (m : ℕ) → length (words_text ws) ≤ m → length (words_text (bare b name ∷ ws)) ≤ (if b then length (spaced name) else 0) + m
bare_length true name ws m l = let t = text_length (bare true name) ws 0 m (omega arith) l in omega arith
bare_length false name ws m l = rw (text_without (bare false name) ws refl) (omega arith)

numbers_length : (ns : Bytes) → Every Octet ns → length (numbers_text ns) ≤ 4 * length ns
unfolding numbers_text
numbers_length [] h = omega arith
numbers_length (n ∷ ns) h =
    let o = h.0 in
    let t = number_text 2 n (omega arith) in
    let i = numbers_length ns h.1 in
    let a = length-append (decimal n) (numbers_text ns) in
    omega arith

-- the word that tells of a record of kind 15
abbrev pub filed : Bytes → ℕ
filed r = if flag 6 r then 9 else 0

module _ (r : Bytes) (h : IsRecord r) where
  time_text : length (words_text (time_word r ∷ [])) ≤ 27
  unfolding ascii
  time_text =
      let w = h.whole in
      let f = number_fits r h 56 8 (omega arith) in
      let t = text_length (time_word r) [] 21 1 (number_text 19 (number 56 8 r) (omega arith)) end_length in
      omega arith

  use_length : kind r ≡ 6 → length (record_line r) ≤ 47
  unfolding record_line all ascii
  use_length k =
      let n = name_length permission_names (byte 4 r) 17 refl (omega arith) in
      let t = text_length (bare true (name_at (byte 4 r) permission_names)) (time_word r ∷ []) 0 27 (omega arith) time_text in
      rw k (omega arith)

  blob_length : kind r ≡ 7 → blob_request_laid_out r ≡ true → length (record_line r) ≤ alone_line_max + filed r
  unfolding record_line blob_request_laid_out ascii
  blob_length k e =
      let w = h.whole in
      let p : token_parameters_if 0 44 r ≡ true = search conj in
      let s = shares r h 0 p in
      let ws : ℕ → List Word = λ i. drop i (blob_request_words r) in
      let a6 = bare_length (flag 6 r) "blobfile" (ws 7) 27 time_text in
      let a5 = text_length (with_number (flag 0 r) "seconds" (number 48 4 r)) (ws 6) 11 (filed r + 27) (four_text r h 48 (omega arith)) a6 in
      let a4 = text_length (with_number (flag 0 r) "total" (byte 47 r)) (ws 5) 3 (filed r + 46) (number_text 1 (byte 47 r) s.1) (omega arith) in
      let a3 = text_length (with_number (flag 0 r) "needed" (byte 46 r)) (ws 4) 3 (filed r + 55) (number_text 1 (byte 46 r) s.0) (omega arith) in
      let a2 = text_length (bare (bit 0 (number 44 2 r)) "AllowSoftSlots") (ws 3) 0 (filed r + 65) (omega arith) (omega arith) in
      let a1 = text_length (with_hash (flag 0 r) "token" (part 24 hash_bytes r)) (ws 2) 41 (filed r + 80) (hash_text r h 24 (omega arith)) (omega arith) in
      let a0 = text_length (with_hash true "kmhash" (part 4 hash_bytes r)) (ws 1) 41 (filed r + 127) (hash_text r h 4 (omega arith)) (omega arith) in
      rw k (omega arith)

  recovery_length : kind r ≡ 8 → length (record_line r) ≤ 99 + filed r
  unfolding record_line ascii
  recovery_length k =
      let ws : ℕ → List Word = λ i. drop i (recovery_words r) in
      let a2 = bare_length (flag 6 r) "blobfile" (ws 3) 27 time_text in
      let a1 = text_length (with_number true "mechanism" (number 24 2 r)) (ws 2) 6 (filed r + 27) (two_text r h 24 (omega arith)) a2 in
      let a0 = text_length (with_hash true "kahash" (part 4 hash_bytes r)) (ws 1) 41 (filed r + 43) (hash_text r h 4 (omega arith)) (omega arith) in
      rw k (omega arith)

  -- A request record's line, by whether a record of kind 15 follows.
  pub request_length : request_laid_out r ≡ true → length (record_line r) ≤ alone_line_max + filed r
  unfolding request_laid_out
  request_length e = pick (three_kinds r e)
    where
      pick : (kind r ≡ 6) ⊎ (kind r ≡ 7) ⊎ (kind r ≡ 8) → length (record_line r) ≤ alone_line_max + filed r
      pick (inl k) = let l = use_length k in omega arith
      pick (inr (inl k)) = blob_length k (rw k at e)
      pick (inr (inr k)) = let l = recovery_length k in omega arith

  pub certificate_length : kind r ≡ 9 → length (record_line r) ≤ certificate_line_max
  unfolding record_line ascii
  certificate_length k =
      let w = h.whole in
      let l = part_length r h 4 hash_bytes (omega arith) in
      let x = hex_length (part 4 hash_bytes r) in
      let a1 = text_length (with_number true "mechanism" (number 24 2 r)) [] 6 1 (two_text r h 24 (omega arith)) end_length in
      let a0 = text_length (alone (hex (part 4 hash_bytes r))) (with_number true "mechanism" (number 24 2 r) ∷ []) 40 17 (omega arith) a1 in
      rw k (omega arith)

  pub fact_length : kind r ≡ 10 → length (record_line r) ≤ 46 + length (spaced (name_at (byte 4 r - 1) field_names))
  unfolding record_line ascii
  fact_length k =
      let w = h.whole in
      let l = part_length r h 8 hash_bytes (omega arith) in
      let x = hex_length (part 8 hash_bytes r) in
      let a1 = text_length (alone (hex (part 8 hash_bytes r))) [] 40 1 (omega arith) end_length in
      let a0 = text_length (bare true (name_at (byte 4 r - 1) field_names)) (alone (hex (part 8 hash_bytes r)) ∷ []) 0 42 (omega arith) a1 in
      rw k (omega arith)

  pub signature_length : kind r ≡ 11 → length (record_line r) ≤ 15 + length (spaced (name_at (byte 4 r - 1) signature_names))
  unfolding record_line ascii
  signature_length k =
      let bad = bare (eqb (byte 5 r) 0) "bad" ∷ [] in
      let a2 = bare_length (eqb (byte 5 r) 0) "bad" [] 1 end_length in
      let a1 = bare_length (eqb (byte 5 r) 1) "good" bad ((if eqb (byte 5 r) 0 then 4 else 0) + 1) a2 in
      let o = one_of (byte 5 r) in
      let a0 = text_length (bare true (name_at (byte 4 r - 1) signature_names)) (bare (eqb (byte 5 r) 1) "good" ∷ bad) 0 6 (omega arith) (omega arith) in
      rw k (omega arith)
    where
      one_of : (n : ℕ) → (if eqb n 1 then 5 else 0) + ((if eqb n 0 then 4 else 0) + 1) ≤ 6
      one_of n = pick (eqb n 1) refl (eqb n 0) refl
        where
          pick : (a : Bool) → eqb n 1 ≡ a → (b : Bool) → eqb n 0 ≡ b → (if eqb n 1 then 5 else 0) + ((if eqb n 0 then 4 else 0) + 1) ≤ 6
          pick true p true q = let i = eqb-true n 1 p in let j = eqb-true n 0 q in absurd (omega arith)
          pick true p false q = rw (p, q) (omega arith)
          pick false p true q = rw (p, q) (omega arith)
          pick false p false q = rw (p, q) (omega arith)

  pub policy_length : kind r ≡ 12 → policy_laid_out r ≡ true → length (record_line r) ≤ 64
  unfolding record_line policy_laid_out ascii
  policy_length k e =
      let w = h.whole in
      let p : between 1 2 (byte 5 r) ≡ true = search conj in
      let q : between 1 4 (byte 7 r) ≡ true = search conj in
      let x = leb-true (byte 5 r) 2 (and_right (leb 1 (byte 5 r)) (leb (byte 5 r) 2) p) in
      let y = leb-true (byte 7 r) 4 (and_right (leb 1 (byte 7 r)) (leb (byte 7 r) 4) q) in
      let f = byte_fits r h 4 (omega arith) in
      let ws : ℕ → List Word = λ i. drop i (policy_words r) in
      let a5 = text_length (with_number true "protection" (byte 7 r)) [] 2 1 (number_text 0 (byte 7 r) (omega arith)) end_length in
      let a4 = text_length (bare (bit 2 (byte 6 r)) "csr") (ws 5) 0 14 (omega arith) a5 in
      let a3 = text_length (bare (bit 1 (byte 6 r)) "encryption") (ws 4) 0 18 (omega arith) a4 in
      let a2 = text_length (bare (bit 0 (byte 6 r)) "signing") (ws 3) 0 29 (omega arith) a3 in
      let a1 = text_length (with_number true "approach" (byte 5 r)) (ws 2) 2 37 (number_text 0 (byte 5 r) (omega arith)) a2 in
      let a0 = text_length (with_number true "suite" (byte 4 r)) (ws 1) 4 48 (number_text 2 (byte 4 r) (omega arith)) a1 in
      rw k (omega arith)

  pub hint_length : kind r ≡ 13 → length (record_line r) ≤ hint_line_max
  unfolding record_line ascii
  hint_length k =
      let w = h.whole in
      let l = part_length r h 8 8 (omega arith) in
      let n = numbers_length (part 8 8 r) (part_octets r h 8 8) in
      let f = byte_fits r h 4 (omega arith) in
      let a1 = text_length (with_numbers true "actions" (part 8 8 r)) [] 32 1 (omega arith) end_length in
      let a0 = text_length (with_number true "group" (byte 4 r)) (with_numbers true "actions" (part 8 8 r) ∷ []) 4 41 (number_text 2 (byte 4 r) (omega arith)) a1 in
      rw k (omega arith)

  pub delegation_length : kind r ≡ 14 → length (record_line r) ≤ delegation_line_max
  unfolding record_line ascii
  delegation_length k =
      let names = permission_words 0 permission_names (number 44 2 r) in
      let p = permissions_length 0 permission_names (number 44 2 r) in
      let a1 = text_length (with_hash true "to" (part 24 hash_bytes r)) names 41 176 (hash_text r h 24 (omega arith)) (omega arith) in
      let a0 = text_length (with_hash true "from" (part 4 hash_bytes r)) (with_hash true "to" (part 24 hash_bytes r) ∷ names) 41 220 (hash_text r h 4 (omega arith)) a1 in
      rw k (omega arith)

  pub blobfile_length : kind r ≡ 15 → length (record_line r) ≤ blobfile_line_max
  unfolding record_line line_of
  blobfile_length k = rw k (file_length r h)
