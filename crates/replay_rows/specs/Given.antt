-- A row of certificates that is given as bytes (docs/REPLAY.md).
use Rattle.std.specs.Prelude.{ℕ, zero, suc, ◌+◌, ◌*◌, ◌/◌, List, [], ◌∷◌, ◌++◌, length, take}
use Rattle.rules.specs.Sizes.{hash_bytes, certificates_max}
use Rattle.rules.specs.Basics.{Bytes, part, number}
use Rattle.rules.specs.Request.{Certificate}

-- how many bytes a certificate has
abbrev pub given_bytes : ℕ
given_bytes = 22

-- the certificate at an offset of the bytes: "the hash and then the mechanism in two bytes, big-endian"
abbrev pub given_at : Bytes → ℕ → Certificate
given_at s at = record { hash = part at hash_bytes s; mechanism = number (at + hash_bytes) 2 s }

-- the first n of a row
unfoldable pub first_given : Bytes → ℕ → List Certificate
first_given s zero = []
first_given s (suc n) = first_given s n ++ (given_at s (n * given_bytes) ∷ [])

-- the row
abbrev pub row_given : Bytes → List Certificate
row_given s = first_given s (length s / given_bytes)

-- the certificates that are lent
abbrev pub lent_of : Bytes → List Certificate
lent_of s = take (certificates_max + 1) (row_given s)
