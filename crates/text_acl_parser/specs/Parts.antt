-- The parts of a record that a line tells. `t` is what is left of the line where a part begins.
use Rattle.std.specs.Prelude.{ℕ, ◌+◌, ◌*◌, ◌%◌, List, [], ◌∷◌, ◌++◌, Bool, replicate, eqb, if◌then◌else◌}
use Rattle.rules.specs.Basics.{Bytes, ascii}
use Rattle.text_rules.specs.Decoding.{stands, has_word, after_word, after_hash, after_number, hash_after, number_after, bytes_of}
use Rattle.text_lexer.specs.Telling.{past_word, past_hash, past_number, hash_in, number_in}
use Rattle.text_lexer.specs.Taking.{one}

-- the flags of a keyed line: by its hash, its mechanism and the word blobfile
abbrev pub keyed_flags : Bytes → ℕ → ℕ → Bytes → ℕ
keyed_flags w weight filed t =
    1 * one (stands w t)
    + (weight * one (stands (ascii " mechanism") (past_hash w t)) + filed * one (stands (ascii " blobfile") (past_number (ascii " mechanism") (past_hash w t))))

-- kind, flags, a hash by its word, the mechanism after it, zeros
unfoldable pub keyed_bytes : ℕ → Bytes → ℕ → ℕ → Bytes → Bytes
keyed_bytes k w weight filed t =
    (k ∷ 0 ∷ bytes_of 2 (keyed_flags w weight filed t))
    ++ (hash_in w t ++ (bytes_of 2 (number_in (ascii " mechanism") (past_hash w t)) ++ replicate 38 0))

-- the sort of a limit by its flags: 1 a counter, 2 seconds
abbrev pub sort_by : ℕ → ℕ
sort_by flags = if eqb (flags % 2) 1 then 2 else 1 + flags

-- which of some words stand, in order
unfoldable pub bits_from : List Bytes → Bytes → List Bool
bits_from [] t = []
bits_from (w ∷ ws) t = stands w t ∷ bits_from ws (past_word w t)

-- The places of a MakeBlob line, as the definition `blob_from` has them: AllowNonKm0, the key hashes, ktparams; from there AllowSoftSlots, the
-- numbers; from there AllowNullKmToken and blobfile.
abbrev pub non_km0_place : Bytes → Bytes
non_km0_place t = after_word "AllowKmOnly" t

abbrev pub kmhash_place : Bytes → Bytes
kmhash_place t = after_word "AllowNonKm0" (non_km0_place t)

abbrev pub token_place : Bytes → Bytes
token_place t = after_hash "kthash" (after_hash "kmhash" (kmhash_place t))

abbrev pub soft_place : Bytes → Bytes
soft_place t = after_word "ktparams" t

abbrev pub shares_place : Bytes → Bytes
shares_place t = after_word "AllowSoftSlots" (soft_place t)

abbrev pub null_place : Bytes → Bytes
null_place t = after_number "seconds" (after_number "total" (after_number "needed" t))

abbrev pub file_place : Bytes → Bytes
file_place t = after_word "AllowNullKmToken" t

abbrev pub end_place : Bytes → Bytes
end_place t = after_word "blobfile" (file_place t)

-- its flags, and its fields
abbrev pub key_flags : Bytes → ℕ
key_flags t =
    1 * one (has_word "AllowKmOnly" t)
    + (2 * one (has_word "AllowNonKm0" (non_km0_place t)) + (4 * one (has_word "kmhash" (kmhash_place t)) + 8 * one (has_word "kthash" (after_hash "kmhash" (kmhash_place t)))))

unfoldable pub key_bytes : Bytes → Bytes
key_bytes t = hash_after "kmhash" (kmhash_place t) ++ hash_after "kthash" (after_hash "kmhash" (kmhash_place t))

abbrev pub end_flags : Bytes → ℕ
end_flags t = 32 * one (has_word "AllowNullKmToken" t) + 64 * one (has_word "blobfile" (file_place t))

abbrev pub token_flags : Bytes → ℕ
token_flags t = 16 * one (has_word "ktparams" t) + end_flags (null_place (shares_place t))

unfoldable pub share_bytes : Bytes → Bytes
share_bytes t =
    bytes_of 1 (number_after "needed" t)
    ++ (bytes_of 1 (number_after "total" (after_number "needed" t)) ++ bytes_of 4 (number_after "seconds" (after_number "total" (after_number "needed" t))))

unfoldable pub ktparams_bytes : Bytes → Bytes
ktparams_bytes t = bytes_of 2 (1 * one (has_word "AllowSoftSlots" (soft_place t))) ++ share_bytes (shares_place t)
