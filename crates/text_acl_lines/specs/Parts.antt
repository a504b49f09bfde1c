-- The parts of a line, by the bytes of its words.
use Rattle.std.specs.Prelude.{[], ◌++◌, Bool}
use Rattle.rules.specs.Sizes.{hash_bytes}
use Rattle.rules.specs.Basics.{Bytes, ascii, bit, part, number, byte, flag}
use Rattle.rules.specs.Day.{decimal}
use Rattle.text_rules.specs.Words.{hex}
use Rattle.text_bytes.specs.Putting.{text_if}

-- FIRST [WORD HASH] [mechanism N] [blobfile]: the line of a group, and of MakeArchiveBlob
unfoldable pub keyed_line : Bytes → Bytes → Bool → Bool → Bytes → Bytes
keyed_line first word named last r =
    first
    ++ (text_if (flag 0 r) word (hex (part 4 hash_bytes r))
    ++ (text_if named (ascii " mechanism ") (decimal (number 24 2 r)) ++ (text_if last (ascii " blobfile") [] ++ ascii "\n")))

-- MakeBlob [AllowKmOnly] [AllowNonKm0] [kmhash HASH] [kthash HASH]
unfoldable pub key_text : Bytes → Bytes
key_text r =
    text_if (flag 0 r) (ascii " AllowKmOnly") []
    ++ (text_if (flag 1 r) (ascii " AllowNonKm0") []
    ++ (text_if (flag 2 r) (ascii " kmhash ") (hex (part 4 hash_bytes r)) ++ text_if (flag 3 r) (ascii " kthash ") (hex (part 24 hash_bytes r))))

-- [ktparams [AllowSoftSlots] needed N total N seconds N]
unfoldable pub token_text : Bytes → Bytes
token_text r =
    text_if (flag 4 r) (ascii " ktparams") []
    ++ (text_if (bit 0 (number 44 2 r)) (ascii " AllowSoftSlots") []
    ++ (text_if (flag 4 r) (ascii " needed ") (decimal (byte 46 r))
    ++ (text_if (flag 4 r) (ascii " total ") (decimal (byte 47 r)) ++ text_if (flag 4 r) (ascii " seconds ") (decimal (number 48 4 r)))))
