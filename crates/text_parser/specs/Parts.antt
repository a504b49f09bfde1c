-- The parts of a record that a line tells. `t` is what is left of the line where a part begins.
use Rattle.std.specs.Prelude.{ℕ, ◌+◌, ◌*◌, ◌++◌, replicate}
use Rattle.rules.specs.Basics.{Bytes}
use Rattle.text_rules.specs.Words.{permission_names}
use Rattle.text_rules.specs.Decoding.{has_word, after_word, after_hash, hash_after, number_after, bytes_of, of_bits, names_from}
use Rattle.text_rules.specs.OtherDecoding.{bytes_here}
use Rattle.text_lexer.specs.Taking.{one}
use Rattle.text_acl_parser.specs.Parts.{null_place, share_bytes}

-- A blob request's token: what follows its hash, what follows its parameters, and its bytes.
abbrev pub soft_place : Bytes → Bytes
soft_place t = after_hash "token" t

abbrev pub token_place : Bytes → Bytes
token_place t = null_place (after_word "AllowSoftSlots" (soft_place t))

unfoldable pub token_bytes : Bytes → Bytes
token_bytes t =
    hash_after "token" t
    ++ (bytes_of 2 (1 * one (has_word "AllowSoftSlots" (soft_place t))) ++ share_bytes (after_word "AllowSoftSlots" (soft_place t)))

-- A policy's bits: what follows their words, and their number.
abbrev pub encryption_place : Bytes → Bytes
encryption_place t = after_word "signing" t

abbrev pub csr_place : Bytes → Bytes
csr_place t = after_word "encryption" (encryption_place t)

abbrev pub bits_place : Bytes → Bytes
bits_place t = after_word "csr" (csr_place t)

abbrev pub bits_set : Bytes → ℕ
bits_set t =
    1 * one (has_word "signing" t) + (2 * one (has_word "encryption" (encryption_place t)) + 4 * one (has_word "csr" (csr_place t)))

-- all that follows a policy's approach
unfoldable pub policy_end : Bytes → Bytes
policy_end t = bytes_of 1 (bits_set t) ++ (bytes_of 1 (number_after "protection" (bits_place t)) ++ replicate 56 0)

-- what follows a signature's name
unfoldable pub outcome_bytes : Bytes → Bytes
outcome_bytes t = bytes_of 1 (one (has_word "good" t)) ++ replicate 58 0

-- a hint's group
unfoldable pub action_bytes : Bytes → Bytes
action_bytes t = replicate 3 0 ++ (bytes_here 8 (after_word "actions" t) ++ replicate 48 0)

-- a delegation's hashes
unfoldable pub bits_bytes : Bytes → Bytes
bits_bytes t = bytes_of 2 (of_bits (names_from permission_names t)) ++ replicate 18 0
