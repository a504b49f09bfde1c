-- A record of an ACL is read back from its line.
use Prim.Native.Nat.{ℕ, zero, suc, ◌+◌, ◌^◌, ◌≤◌, ◌<◌}
use Prim.Native.String.{String}
use native.Mathlib.Omega.{arith}
use mathlib.Core.Path.{◌≡◌, refl, sym, ◌∙◌, ap}
use mathlib.Core.Logic.{◌⊎◌, inl, inr}
use mathlib.Core.List.{List, [], ◌∷◌, ◌++◌, flatten}
use mathlib.Core.Bool.{Bool, true, false, ◌&&◌, false≢true}
use lib.ListN.{length, drop, replicate, length-append, length-replicate}
use lib.Dec.{eqb, leb, ltb}
use borrow.Author.Tests.{eqb-true, eqb-false, leb-true}
use Rattle.rules.specs.Sizes.{record_bytes, hash_bytes, counters_max}
use Rattle.std.specs.Prelude.{if◌then◌else◌}
use Rattle.rules.specs.Basics.{Bytes, implies, Every, all, ascii, bit, all_below, within, part, number, byte, blank, kind, flag}
use Rattle.rules.specs.Layout.{header, zero_unless, mechanism_at, between, token_parameters_at, token_parameters_if, certifier_mechanism, counter_under, counter_of_sort, group_laid_out, limit_under, limit_laid_out, permissions_laid_out, blob_action_laid_out, archive_action_laid_out, blobfile_laid_out}
use Rattle.rules.specs.Acl.{AclState, limit_key, limit_in_place, action_in_place, action_laid_out, placed_under, placed_by_kind, in_place}
use Rattle.rules.proofs.Laws.{and_left, and_right, and_both, not_both, implied, all_below_at}
use Rattle.rules.proofs.Places.{placed, file_due_lem}
use Rattle.text_rules.specs.Words.{Word, spaced, with_number, with_hash, bare, words_text, group_words, limit_unit, limit_words, permission_names, permission_words, blob_words, archive_words, blobfile_words, line_of}
use Rattle.text_rules.specs.Decoding.{stands, has_word, after_hash, after_number, hash_after, bytes_of, of_bits, headed, group_from, sort_of, limit_from, permissions_from, blob_from, archive_from, blobfile_from, begins, past, decoded}
use Rattle.text_rules.specs.Listing.{Octet, IsRecord}
use Rattle.text_rules.proofs.Digits.{every_append, bytes_length, bytes_octets, unhex_length, unhex_octets}
use Rattle.text_rules.proofs.Bits.{bits_of, within_below}
use Rattle.text_rules.proofs.Words.{clear, rest_begins, stands_here, absent, has_bare, after_bare, has_hashed, hash_first, after_hash_lem, has_numbered, number_first, after_number_lem, names_back}
use Rattle.text_rules.proofs.Parts.{cut_whole, blank_within, bits_part, blank_byte, zero_unless_lem, part_length, part_octets, number_part, number_fits, blank_part, blank_number, byte_part, byte_bytes, byte_fits, header_part}

ruleset conj = (and_left, and_right, and_both)

-- a test that a flag makes
pub unless_flag : (b c d : Bool) → (if b then c else d) ≡ true → b ≡ false → d ≡ true
unless_flag b c d e f = rw f at e

-- "Unlisted .. flag bits .. are zero"
pub unlisted : (listed i : ℕ) (r : Bytes) → header listed r ≡ true → i < 16 → bit i listed ≡ false → flag i r ≡ false
unfolding header within
unlisted listed i r e l off = pick (flag i r) refl
  where
    pick : (b : Bool) → flag i r ≡ b → flag i r ≡ false
    pick false d = d
    pick true d =
        let w : all_below 16 (λ j. implies (bit j (number 2 2 r)) (bit j listed)) ≡ true = search conj in
        absurd (not_both (bit i listed) (implied (flag i r) (bit i listed) (all_below_at 16 (λ j. implies (bit j (number 2 2 r)) (bit j listed)) i l w) d) off)

-- what is read of a limit's line, by its sort
limit_read : (sort : ℕ) → (sort ≡ 1) ⊎ (sort ≡ 2) ⊎ (sort ≡ 3) → (c m : ℕ) → c < 10 ^ 10 → m < 10 ^ 10 → (eqb sort 2 ≡ false → c ≡ 0) → limit_from (words_text (with_number (eqb sort 2) "counter" c ∷ with_number true (limit_unit sort) m ∷ []))
    ≡ flatten (headed 2 [] ∷ (sort ∷ []) ∷ bytes_of 1 c ∷ replicate 2 0 ∷ bytes_of 4 m ∷ replicate 52 0 ∷ [])
unfolding limit_from all ascii
limit_read sort (inl e) c m f g z = rw e (
    let later = with_number true "uses" m ∷ [] in
    rw (
      has_numbered "counter" later refl false c,
      number_first "counter" later refl false c f (λ q. z (rw e)),
      after_number_lem "counter" later refl false c f,
      absent "seconds" later refl,
      number_first "uses" [] refl true m g (λ q. absurd (false≢true (sym q))),
    ))
limit_read sort (inr (inl e)) c m f g z = rw e (
    let later = with_number true "uses" m ∷ [] in
    rw (
      has_numbered "counter" later refl true c,
      number_first "counter" later refl true c f (λ q. absurd (false≢true (sym q))),
      after_number_lem "counter" later refl true c f,
      absent "seconds" later refl,
      number_first "uses" [] refl true m g (λ q. absurd (false≢true (sym q))),
    ))
limit_read sort (inr (inr e)) c m f g z = rw e (
    let later = with_number true "seconds" m ∷ [] in
    rw (
      has_numbered "counter" later refl false c,
      number_first "counter" later refl false c f (λ q. z (rw e)),
      after_number_lem "counter" later refl false c f,
      has_numbered "seconds" [] refl true m,
      number_first "seconds" [] refl true m g (λ q. absurd (false≢true (sym q))),
    ))

one_to_three : (n : ℕ) → between 1 3 n ≡ true → (n ≡ 1) ⊎ (n ≡ 2) ⊎ (n ≡ 3)
one_to_three n e = pick (eqb n 1) refl (eqb n 2) refl
  where
    pick : (a : Bool) → eqb n 1 ≡ a → (b : Bool) → eqb n 2 ≡ b → (n ≡ 1) ⊎ (n ≡ 2) ⊎ (n ≡ 3)
    pick true p b q = inl (eqb-true n 1 p)
    pick false p true q = inr (inl (eqb-true n 2 q))
    pick false p false q =
        let low = leb-true 1 n (and_left (leb 1 n) (leb n 3) e) in
        let high = leb-true n 3 (and_right (leb 1 n) (leb n 3) e) in
        let x : (n ≡ 1 → ⊥) = eqb-false n 1 p in
        let y : (n ≡ 2 → ⊥) = eqb-false n 2 q in
        inr (inr (omega arith))

module _ (r : Bytes) (h : IsRecord r) where
  -- A hash, a number and a byte of the record, which are zero where the word is not there.
  pub hash_field : (name : String) (ws : List Word) → clear name ws ≡ true → (b : Bool) (off : ℕ) → off + hash_bytes ≤ record_bytes → (b ≡ false → blank off hash_bytes r ≡ true) → hash_after name (words_text (with_hash b name (part off hash_bytes r) ∷ ws)) ≡ part off hash_bytes r
  hash_field name ws e b off l z =
      hash_first name ws e b (part off hash_bytes r) (part_length r h off hash_bytes l) (part_octets r h off hash_bytes) (λ q. blank_part r h off hash_bytes l (z q))

  pub hash_past : (name : String) (ws : List Word) → clear name ws ≡ true → (b : Bool) (off : ℕ) → off + hash_bytes ≤ record_bytes → after_hash name (words_text (with_hash b name (part off hash_bytes r) ∷ ws)) ≡ words_text ws
  hash_past name ws e b off l = after_hash_lem name ws e b (part off hash_bytes r) (part_length r h off hash_bytes l)

  pub two_fits : (off : ℕ) → off + 2 ≤ record_bytes → number off 2 r < 10 ^ 10
  two_fits off l = let f = number_fits r h off 2 l in omega arith

  pub four_fits : (off : ℕ) → off + 4 ≤ record_bytes → number off 4 r < 10 ^ 10
  four_fits off l = let f = number_fits r h off 4 l in omega arith

  pub byte_small : (off : ℕ) → off < record_bytes → byte off r < 10 ^ 10
  byte_small off l = let f = byte_fits r h off l in omega arith

  group_back_lem : kind r ≡ 1 → group_laid_out r ≡ true → group_from (words_text (group_words r)) ≡ r
  unfolding group_from group_laid_out certifier_mechanism all ascii
  group_back_lem k e =
      let w = h.whole in
      let m = number 24 2 r in
      let d : header 3 r ≡ true = search conj in
      let c : zero_unless 0 4 hash_bytes r ≡ true = search conj in
      let n : certifier_mechanism r ≡ true = search conj in
      let z : blank 26 38 r ≡ true = search conj in
      let later = with_number (flag 1 r) "mechanism" m ∷ [] in
      rw (
        has_hashed "certifier" later refl (flag 0 r) (part 4 hash_bytes r),
        hash_field "certifier" later refl (flag 0 r) 4 (omega arith) (λ q. zero_unless_lem 0 4 hash_bytes r c q),
        hash_past "certifier" later refl (flag 0 r) 4 (omega arith),
        has_numbered "mechanism" [] refl (flag 1 r) m,
        number_first "mechanism" [] refl (flag 1 r) m (two_fits 24 (omega arith)) (λ q. blank_number r h 24 2 (unless_flag (flag 1 r) (flag 0 r && mechanism_at 24 r) (blank 24 2 r) n q)),
        header_part r h 1 3 2 14 k d (omega arith) refl,
        number_part r h 24 2 (omega arith),
        ← (blank_part r h 26 38 (omega arith) z),
      )
      (cut_whole (4 ∷ 20 ∷ 2 ∷ 38 ∷ []) 0 r (omega arith))

  -- flags 0 and 6
  pub filed_head : (n : ℕ) → kind r ≡ n → header 65 r ≡ true → headed n (flag 0 r ∷ false ∷ false ∷ false ∷ false ∷ false ∷ flag 6 r ∷ []) ≡ part 0 4 r
  filed_head n k d =
      rw (
        unlisted 65 1 r d (omega arith) refl,
        unlisted 65 2 r d (omega arith) refl,
        unlisted 65 3 r d (omega arith) refl,
        unlisted 65 4 r d (omega arith) refl,
        unlisted 65 5 r d (omega arith) refl,
      )
      at (header_part r h n 65 7 9 k d (omega arith) refl)

  archive_back : kind r ≡ 5 → archive_action_laid_out r ≡ true → archive_from (words_text (archive_words r)) ≡ r
  unfolding archive_from archive_action_laid_out all ascii
  archive_back k e =
      let w = h.whole in
      let m = number 24 2 r in
      let d : header 65 r ≡ true = search conj in
      let c : zero_unless 0 4 hash_bytes r ≡ true = search conj in
      let z : blank 26 38 r ≡ true = search conj in
      let last = bare (flag 6 r) "blobfile" ∷ [] in
      let later = with_number true "mechanism" m ∷ last in
      rw (
        has_hashed "kahash" later refl (flag 0 r) (part 4 hash_bytes r),
        hash_field "kahash" later refl (flag 0 r) 4 (omega arith) (λ q. zero_unless_lem 0 4 hash_bytes r c q),
        hash_past "kahash" later refl (flag 0 r) 4 (omega arith),
        number_first "mechanism" last refl true m (two_fits 24 (omega arith)) (λ q. absurd (false≢true (sym q))),
        after_number_lem "mechanism" last refl true m (two_fits 24 (omega arith)),
        has_bare "blobfile" [] refl (flag 6 r),
        filed_head 5 k d,
        number_part r h 24 2 (omega arith),
        ← (blank_part r h 26 38 (omega arith) z),
      )
      (cut_whole (4 ∷ 20 ∷ 2 ∷ 38 ∷ []) 0 r (omega arith))

  pub file_back : kind r ≡ 15 → blobfile_laid_out r ≡ true → blobfile_from (words_text (blobfile_words r)) ≡ r
  unfolding blobfile_from blobfile_laid_out all ascii
  file_back k e =
      let w = h.whole in
      let n = number 4 4 r in
      let d : header 3 r ≡ true = search conj in
      let c : zero_unless 0 4 4 r ≡ true = search conj in
      let t : zero_unless 1 8 hash_bytes r ≡ true = search conj in
      let z : blank 28 36 r ≡ true = search conj in
      let later = with_hash (flag 1 r) "template" (part 8 hash_bytes r) ∷ [] in
      rw (
        has_numbered "devices" later refl (flag 0 r) n,
        number_first "devices" later refl (flag 0 r) n (four_fits 4 (omega arith)) (λ q. blank_number r h 4 4 (zero_unless_lem 0 4 4 r c q)),
        after_number_lem "devices" later refl (flag 0 r) n (four_fits 4 (omega arith)),
        has_hashed "template" [] refl (flag 1 r) (part 8 hash_bytes r),
        hash_field "template" [] refl (flag 1 r) 8 (omega arith) (λ q. zero_unless_lem 1 8 hash_bytes r t q),
        header_part r h 15 3 2 14 k d (omega arith) refl,
        number_part r h 4 4 (omega arith),
        ← (blank_part r h 28 36 (omega arith) z),
      )
      (cut_whole (4 ∷ 4 ∷ 20 ∷ 36 ∷ []) 0 r (omega arith))

  permissions_back : kind r ≡ 3 → permissions_laid_out r ≡ true → permissions_from (words_text (permission_words 0 permission_names (number 4 2 r))) ≡ r
  unfolding permissions_from permissions_laid_out all ascii
  permissions_back k e =
      let w = h.whole in
      let d : header 0 r ≡ true = search conj in
      let z : blank 6 58 r ≡ true = search conj in
      rw (
        names_back 0 permission_names (number 4 2 r) refl,
        bits_of 16 (number 4 2 r) (number_fits r h 4 2 (omega arith)),
        header_part r h 3 0 0 16 k d (omega arith) refl,
        number_part r h 4 2 (omega arith),
        ← (blank_part r h 6 58 (omega arith) z),
      )
      (cut_whole (4 ∷ 2 ∷ 58 ∷ []) 0 r (omega arith))

  -- the parts of a limit, whatever its sort
  limit_parts : kind r ≡ 2 → limit_laid_out r ≡ true → flatten (headed 2 [] ∷ (byte 4 r ∷ []) ∷ bytes_of 1 (byte 5 r) ∷ replicate 2 0 ∷ bytes_of 4 (number 8 4 r) ∷ replicate 52 0 ∷ []) ≡ r
  unfolding limit_under
  limit_parts k e =
      let w = h.whole in
      let d : header 0 r ≡ true = search conj in
      let y : blank 6 2 r ≡ true = search conj in
      let z : blank 12 52 r ≡ true = search conj in
      rw (
        header_part r h 2 0 0 16 k d (omega arith) refl,
        ← (byte_part r h 4 (omega arith)),
        byte_bytes r h 5 (omega arith),
        number_part r h 8 4 (omega arith),
        ← (blank_part r h 12 52 (omega arith) z),
        ← (blank_part r h 6 2 (omega arith) y),
      )
      (cut_whole (4 ∷ 1 ∷ 1 ∷ 2 ∷ 4 ∷ 52 ∷ []) 0 r (omega arith))

  limit_back : kind r ≡ 2 → limit_laid_out r ≡ true → limit_from (words_text (limit_words r)) ≡ r
  unfolding limit_under counter_under
  limit_back k e =
      let s : between 1 3 (byte 4 r) ≡ true = search conj in
      let c : counter_of_sort (byte 4 r) (byte 5 r) ≡ true = search conj in
      limit_read (byte 4 r) (one_to_three (byte 4 r) s) (byte 5 r) (number 8 4 r) (byte_small 5 (omega arith)) (four_fits 8 (omega arith))
      (λ q. eqb-true (byte 5 r) 0 (unless_flag (eqb (byte 4 r) 2) (ltb (byte 5 r) counters_max) (eqb (byte 5 r) 0) c q))
      ∙ limit_parts k e

  -- AllowSoftSlots is the one bit of the token parameters' flags
  pub soft_below : (f : ℕ) → token_parameters_if f 44 r ≡ true → number 44 2 r < 2 ^ 1
  unfolding token_parameters_if token_parameters_at
  soft_below f p = pick (flag f r) refl
    where
      pick : (b : Bool) → flag f r ≡ b → number 44 2 r < 2 ^ 1
      pick true q =
          let t : token_parameters_at 44 r ≡ true = rw q at p in
          within_below 15 1 (number 44 2 r) 1 (omega arith) (number_fits r h 44 2 (omega arith)) (search conj) (omega arith)
      pick false q =
          let t : blank 44 8 r ≡ true = rw q at p in
          let n = blank_number r h 44 2 (blank_within 44 8 0 2 r (omega arith) t) in
          omega arith

  blob_back : kind r ≡ 4 → blob_action_laid_out r ≡ true → blob_from (words_text (blob_words r)) ≡ r
  unfolding blob_from blob_action_laid_out token_parameters_if all ascii
  blob_back k e =
      let w = h.whole in
      let d : header 127 r ≡ true = search conj in
      let m : zero_unless 2 4 hash_bytes r ≡ true = search conj in
      let t : zero_unless 3 24 hash_bytes r ≡ true = search conj in
      let p : token_parameters_if 4 44 r ≡ true = search conj in
      let z : blank 52 12 r ≡ true = search conj in
      let off : flag 4 r ≡ false → blank 44 8 r ≡ true = λ q. unless_flag (flag 4 r) (token_parameters_at 44 r) (blank 44 8 r) p q in
      let ws : ℕ → List Word = λ i. drop i (blob_words r) in
      rw (
        has_bare "AllowKmOnly" (ws 1) refl (flag 0 r),
        after_bare "AllowKmOnly" (ws 1) refl (flag 0 r),
        has_bare "AllowNonKm0" (ws 2) refl (flag 1 r),
        after_bare "AllowNonKm0" (ws 2) refl (flag 1 r),
        has_hashed "kmhash" (ws 3) refl (flag 2 r) (part 4 hash_bytes r),
        hash_field "kmhash" (ws 3) refl (flag 2 r) 4 (omega arith) (λ q. zero_unless_lem 2 4 hash_bytes r m q),
        hash_past "kmhash" (ws 3) refl (flag 2 r) 4 (omega arith),
        has_hashed "kthash" (ws 4) refl (flag 3 r) (part 24 hash_bytes r),
        hash_field "kthash" (ws 4) refl (flag 3 r) 24 (omega arith) (λ q. zero_unless_lem 3 24 hash_bytes r t q),
        hash_past "kthash" (ws 4) refl (flag 3 r) 24 (omega arith),
        has_bare "ktparams" (ws 5) refl (flag 4 r),
        after_bare "ktparams" (ws 5) refl (flag 4 r),
        has_bare "AllowSoftSlots" (ws 6) refl (bit 0 (number 44 2 r)),
        after_bare "AllowSoftSlots" (ws 6) refl (bit 0 (number 44 2 r)),
        number_first "needed" (ws 7) refl (flag 4 r) (byte 46 r) (byte_small 46 (omega arith)) (λ q. blank_byte r h 46 (omega arith) (blank_within 44 8 2 1 r (omega arith) (off q))),
        after_number_lem "needed" (ws 7) refl (flag 4 r) (byte 46 r) (byte_small 46 (omega arith)),
        number_first "total" (ws 8) refl (flag 4 r) (byte 47 r) (byte_small 47 (omega arith)) (λ q. blank_byte r h 47 (omega arith) (blank_within 44 8 3 1 r (omega arith) (off q))),
        after_number_lem "total" (ws 8) refl (flag 4 r) (byte 47 r) (byte_small 47 (omega arith)),
        number_first "seconds" (ws 9) refl (flag 4 r) (number 48 4 r) (four_fits 48 (omega arith)) (λ q. blank_number r h 48 4 (blank_within 44 8 4 4 r (omega arith) (off q))),
        after_number_lem "seconds" (ws 9) refl (flag 4 r) (number 48 4 r) (four_fits 48 (omega arith)),
        has_bare "AllowNullKmToken" (ws 10) refl (flag 5 r),
        after_bare "AllowNullKmToken" (ws 10) refl (flag 5 r),
        has_bare "blobfile" [] refl (flag 6 r),
        header_part r h 4 127 7 9 k d (omega arith) refl,
        bits_part r h 44 1 (omega arith) (soft_below 4 p),
        byte_bytes r h 46 (omega arith),
        byte_bytes r h 47 (omega arith),
        number_part r h 48 4 (omega arith),
        ← (blank_part r h 52 12 (omega arith) z),
      )
      (cut_whole (4 ∷ 20 ∷ 20 ∷ 2 ∷ 1 ∷ 1 ∷ 4 ∷ 12 ∷ []) 0 r (omega arith))

-- A line's first word tells the kind.
module _ (ws : List Word) where
  pub begun : (name : String) → stands (ascii name) (ascii name ++ words_text ws) ≡ true
  begun name = stands_here (ascii name) (words_text ws) (rest_begins ws)

  decoded_group : decoded (ascii "group" ++ words_text ws) ≡ group_from (words_text ws)
  unfolding decoded ascii
  decoded_group = rw (begun "group")

  decoded_limit : decoded (ascii "limit" ++ words_text ws) ≡ limit_from (words_text ws)
  unfolding decoded ascii stands
  decoded_limit = rw (begun "limit")

  decoded_permissions : decoded (ascii "OpPermissions" ++ words_text ws) ≡ permissions_from (words_text ws)
  unfolding decoded ascii stands
  decoded_permissions = rw (begun "OpPermissions")

  decoded_blob : decoded (ascii "MakeBlob" ++ words_text ws) ≡ blob_from (words_text ws)
  unfolding decoded ascii stands
  decoded_blob = rw (begun "MakeBlob")

  decoded_archive : decoded (ascii "MakeArchiveBlob" ++ words_text ws) ≡ archive_from (words_text ws)
  unfolding decoded ascii stands
  decoded_archive = rw (begun "MakeArchiveBlob")

  pub decoded_file : decoded (ascii "blobfile" ++ words_text ws) ≡ blobfile_from (words_text ws)
  unfolding decoded ascii stands
  decoded_file = refl

-- A record that may stand in an ACL, at whatever place, is read back from its line.
decoded_placed : (s : AclState) (r : Bytes) → IsRecord r → placed_by_kind s r ≡ true → decoded (line_of r) ≡ r
unfolding placed_under action_laid_out line_of
decoded_placed s r h e = pick (eqb (kind r) 1) refl (eqb (kind r) 2) refl (eqb (kind r) 3) refl (eqb (kind r) 4) refl (eqb (kind r) 5) refl
  where
    pick : (a : Bool) → eqb (kind r) 1 ≡ a → (b : Bool) → eqb (kind r) 2 ≡ b → (c : Bool) → eqb (kind r) 3 ≡ c → (d : Bool) → eqb (kind r) 4 ≡ d → (f : Bool) → eqb (kind r) 5 ≡ f → decoded (line_of r) ≡ r
    pick true p b q c u d v f w = rw p (decoded_group (group_words r) ∙ group_back_lem r h (eqb-true (kind r) 1 p) (rw p at e))
    pick false p true q c u d v f w =
        let l : (limit_laid_out r && limit_in_place s (limit_key r)) ≡ true = rw (p, q) at e in
        rw (p, q) (decoded_limit (limit_words r) ∙ limit_back r h (eqb-true (kind r) 2 q) (search conj))
    pick false p false q true u d v f w =
        let l : (permissions_laid_out r && action_in_place s) ≡ true = rw (p, q, u) at e in
        rw (p, q, u) (decoded_permissions (permission_words 0 permission_names (number 4 2 r)) ∙ permissions_back r h (eqb-true (kind r) 3 u) (search conj))
    pick false p false q false u true v f w =
        let l : (blob_action_laid_out r && action_in_place s) ≡ true = rw (p, q, u, v) at e in
        rw (p, q, u, v) (decoded_blob (blob_words r) ∙ blob_back r h (eqb-true (kind r) 4 v) (search conj))
    pick false p false q false u false v true w =
        let l : (archive_action_laid_out r && action_in_place s) ≡ true = rw (p, q, u, v, w) at e in
        rw (p, q, u, v, w) (decoded_archive (archive_words r) ∙ archive_back r h (eqb-true (kind r) 5 w) (search conj))
    pick false p false q false u false v false w =
        let l : (false && action_in_place s) ≡ true = rw (p, q, u, v, w) at e in
        absurd (false≢true l)

pub decoded_line : (s : AclState) (r : Bytes) → IsRecord r → in_place s r ≡ true → decoded (line_of r) ≡ r
unfolding line_of
decoded_line s r h e = pick s.file_due refl
  where
    pick : (b : Bool) → s.file_due ≡ b → decoded (line_of r) ≡ r
    pick true d =
        let f = file_due_lem s r d e in
        rw f.0 (decoded_file (blobfile_words r) ∙ file_back r h f.0 f.1)
    pick false d = decoded_placed s r h (placed s r d e)

-- What a line tells is a record, whatever the line: each of its pieces has its length.
pub record Sized (n : ℕ) (bs : Bytes) : Type 0 where
  pub long : length bs ≡ n
  pub bytes : Every Octet bs

pub sized_nil : Sized 0 []
sized_nil = record { long = refl; bytes = tt }

infixr 40 ◌then◌
pub ◌then◌ : {m n : ℕ} {xs ys : Bytes} → Sized m xs → Sized n ys → Sized (m + n) (xs ++ ys)
◌then◌ {m} {n} {xs} {ys} p q =
    let l = p.long in
    let k = q.long in
    record { long = rw length-append (omega arith); bytes = every_append Octet xs ys p.bytes q.bytes }

pub sized_bytes : (n x : ℕ) → Sized n (bytes_of n x)
sized_bytes n x = record { long = bytes_length n x; bytes = bytes_octets n x }

pub sized_zeros : (n : ℕ) → Sized n (replicate n 0)
sized_zeros n = record { long = length-replicate n 0; bytes = zeros n }
  where
    zeros : (n : ℕ) → Every Octet (replicate n 0)
    zeros zero = tt
    zeros (suc n) = (omega arith, zeros n)

pub sized_headed : (k : ℕ) (flags : List Bool) → Octet k → Sized 4 (headed k flags)
unfolding headed
sized_headed k flags o =
    record { long = ap (λ (n : ℕ). suc (suc n)) (bytes_length 2 (of_bits flags)); bytes = (o, (omega arith, bytes_octets 2 (of_bits flags))) }

pub sized_hash : (name : String) (t : Bytes) → Sized hash_bytes (hash_after name t)
unfolding hash_after
sized_hash name t = pick (has_word name t) refl
  where
    pick : (b : Bool) → has_word name t ≡ b → Sized hash_bytes (hash_after name t)
    pick true e = rw e (record { long = unhex_length hash_bytes (drop (length (spaced name) + 1) t); bytes = unhex_octets hash_bytes (drop (length (spaced name) + 1) t) })
    pick false e = rw e (sized_zeros hash_bytes)

sized_sort : (named timed : Bool) → Sized 1 (sort_of named timed ∷ [])
sized_sort true timed = record { long = refl; bytes = (omega arith, tt) }
sized_sort false true = record { long = refl; bytes = (omega arith, tt) }
sized_sort false false = record { long = refl; bytes = (omega arith, tt) }

pub is_record : (r : Bytes) → Sized record_bytes r → IsRecord r
is_record r p = record { whole = p.long; octets = p.bytes }

group_record : (t : Bytes) → IsRecord (group_from t)
unfolding group_from flatten
group_record t =
    is_record (group_from t) (sized_headed 1 _ (omega arith) then sized_hash "certifier" t then sized_bytes 2 _ then sized_zeros 38 then sized_nil)

limit_record : (t : Bytes) → IsRecord (limit_from t)
unfolding limit_from flatten
limit_record t =
    is_record (limit_from t) (sized_headed 2 [] (omega arith) then sized_sort (has_word "counter" t) (has_word "seconds" (after_number "counter" t)) then sized_bytes 1 _ then sized_zeros 2 then sized_bytes 4 _ then sized_zeros 52 then sized_nil)

permissions_record : (t : Bytes) → IsRecord (permissions_from t)
unfolding permissions_from flatten
permissions_record t = is_record (permissions_from t) (sized_headed 3 [] (omega arith) then sized_bytes 2 _ then sized_zeros 58 then sized_nil)

blob_record : (t : Bytes) → IsRecord (blob_from t)
unfolding blob_from flatten
blob_record t =
    is_record (blob_from t)
    (sized_headed 4 _ (omega arith) then sized_hash "kmhash" _ then sized_hash "kthash" _ then sized_bytes 2 _
    then sized_bytes 1 _ then sized_bytes 1 _ then sized_bytes 4 _ then sized_zeros 12 then sized_nil)

archive_record : (t : Bytes) → IsRecord (archive_from t)
unfolding archive_from flatten
archive_record t =
    is_record (archive_from t) (sized_headed 5 _ (omega arith) then sized_hash "kahash" t then sized_bytes 2 _ then sized_zeros 38 then sized_nil)

file_record : (t : Bytes) → IsRecord (blobfile_from t)
unfolding blobfile_from flatten
file_record t =
    is_record (blobfile_from t) (sized_headed 15 _ (omega arith) then sized_bytes 4 _ then sized_hash "template" _ then sized_zeros 36 then sized_nil)

pub either_record : (b : Bool) (x y : Bytes) → IsRecord x → IsRecord y → IsRecord (if b then x else y)
either_record true x y p q = p
either_record false x y p q = q

pub decoded_record : (line : Bytes) → IsRecord (decoded line)
unfolding decoded
decoded_record line =
    either_record (begins "group" line) _ _ (group_record (past "group" line))
    (either_record (begins "limit" line) _ _ (limit_record (past "limit" line))
    (either_record (begins "OpPermissions" line) _ _ (permissions_record (past "OpPermissions" line))
    (either_record (begins "MakeBlob" line) _ _ (blob_record (past "MakeBlob" line))
    (either_record (begins "MakeArchiveBlob" line) _ _ (archive_record (past "MakeArchiveBlob" line)) (file_record (past "blobfile" line))))))
