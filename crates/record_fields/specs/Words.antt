-- Words of several bytes, the smallest place first: no number of document 01, whose numbers are big-endian, but what one load gives.
use Rattle.std.specs.Prelude.{ℕ, ◌+◌, ◌*◌, ◌<◌, ◌≡◌, [], ◌∷◌}
use Rattle.rules.specs.Basics.{Bytes, Every}

-- the number that bytes write, the smallest place first
unfoldable pub little_number : Bytes → ℕ
little_number [] = 0
little_number (b ∷ bs) = b + little_number bs * 256

-- n is that number, and each byte is one
unfoldable pub LittleEndian : Bytes → ℕ → Type 0
LittleEndian bs n = (n ≡ little_number bs) × Every (λ b. b < 256) bs
