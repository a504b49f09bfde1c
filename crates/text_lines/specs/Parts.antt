-- The parts of a line, by the bytes of its words.
use Rattle.std.specs.Prelude.{ℕ, [], ◌∷◌, ◌++◌, length, ltb, if◌then◌else◌}
use Rattle.rules.specs.Sizes.{hash_bytes}
use Rattle.rules.specs.Basics.{Bytes, ascii, bit, part, number, byte, flag}
use Rattle.rules.specs.Day.{decimal}
use Rattle.text_rules.specs.Words.{space, hex}
use Rattle.text_bytes.specs.Putting.{text_if}
use Rattle.text_bytes.specs.Names.{words_of, name_at}

-- the name at a place of a row; past its end, the space alone
unfoldable pub name_of : Bytes → ℕ → Bytes
name_of names i = if ltb i (length (words_of names)) then name_at names i else space ∷ []

-- [needed N total N seconds N]
unfoldable pub shares_text : Bytes → Bytes
shares_text r =
    text_if (flag 0 r) (ascii " needed ") (decimal (byte 46 r))
    ++ (text_if (flag 0 r) (ascii " total ") (decimal (byte 47 r)) ++ text_if (flag 0 r) (ascii " seconds ") (decimal (number 48 4 r)))

-- [token HASH [AllowSoftSlots] needed N total N seconds N]
unfoldable pub token_text : Bytes → Bytes
token_text r =
    text_if (flag 0 r) (ascii " token ") (hex (part 24 hash_bytes r))
    ++ (text_if (bit 0 (number 44 2 r)) (ascii " AllowSoftSlots") [] ++ shares_text r)

-- [signing] [encryption] [csr]
unfoldable pub bits_text : Bytes → Bytes
bits_text r =
    text_if (bit 0 (byte 6 r)) (ascii " signing") []
    ++ (text_if (bit 1 (byte 6 r)) (ascii " encryption") [] ++ text_if (bit 2 (byte 6 r)) (ascii " csr") [])

-- protection N
unfoldable pub protection_text : Bytes → Bytes
protection_text r = (ascii " protection " ++ decimal (byte 7 r)) ++ ascii "\n"
