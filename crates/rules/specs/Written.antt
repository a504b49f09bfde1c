-- Records as bytes: how a presented certificate, a hint and a blob request are written. Document 01, "Records".
use Rattle.std.specs.Prelude.{ℕ, zero, suc, ◌-◌, ◌<◌, ◌/◌, ◌%◌, List, [], ◌∷◌, ◌++◌, length, replicate}
use Rattle.std.proofs.Math.Option.{Option, none, some}
use Rattle.rules.specs.Sizes.{actions_max}
use Rattle.rules.specs.Basics.{Bytes, Every}
use Rattle.rules.specs.Acl.{Parameters}
use Rattle.rules.specs.Request.{Token, WorkingBlob, Certificate}

-- each is below 256, as a file's bytes are
abbrev pub Octets : Bytes → Type 0
Octets bs = Every (λ b. b < 256) bs

-- "Numbers are big-endian.": a number in so many bytes, each but the first below 256. The first holds the rest, so it is below 256 where the number
-- fits.
unfoldable pub big_endian : ℕ → ℕ → Bytes
big_endian zero n = []
big_endian (suc zero) n = n ∷ []
big_endian (suc (suc more)) n = big_endian (suc more) (n / 256) ++ (n % 256 ∷ [])

-- "9 presented certificate: 4-23 key hash, 24-25 mechanism"
unfoldable pub certificate_bytes : Certificate → Bytes
certificate_bytes c = 9 ∷ 0 ∷ 0 ∷ 0 ∷ (c.hash ++ (big_endian 2 c.mechanism ++ replicate 38 0))

-- "13 hint: byte 4 source group, 8-15 a source action for each action of the new group"; "Unused action bytes are zero."
unfoldable pub hint_bytes : ℕ → List ℕ → Bytes
hint_bytes source places =
    13 ∷ 0 ∷ 0 ∷ 0 ∷ source ∷ 0 ∷ 0 ∷ 0 ∷ ((places ++ replicate (actions_max - length places) 0) ++ replicate 48 0)

-- "Token parameters: 2 bytes of flags .., shares needed, shares total .., 4-byte time limit"
unfoldable pub parameters_bytes : Parameters → Bytes
parameters_bytes p = big_endian 2 p.flags ++ (p.needed ∷ p.total ∷ big_endian 4 p.time_limit)

-- "24-43 token hash, 44-51 token parameters"; "absent optional fields are zero"
abbrev pub token_bytes : Option Token → Bytes
token_bytes none = replicate 28 0
token_bytes (some t) = t.hash ++ parameters_bytes t.parameters

-- "flag 0 token used"
abbrev pub token_flag : Option Token → ℕ
token_flag none = 0
token_flag (some t) = 1

-- "7 blob, flag 0 token used, 4-23 module key hash, 24-43 token hash, 44-51 token parameters", with "its time in 56-63"; a blob returned to the host
unfoldable pub blob_request_bytes : WorkingBlob → ℕ → Bytes
blob_request_bytes w time =
    7 ∷ 0 ∷ 0 ∷ token_flag w.token ∷ (w.key ++ (token_bytes w.token ++ (0 ∷ 0 ∷ 0 ∷ 0 ∷ big_endian 8 time)))
