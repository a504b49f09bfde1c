-- A group's certifier, as the code compares it.
use Rattle.std.specs.Prelude.{Bool, ◌&&◌}
use Rattle.rules.specs.Sizes.{hash_bytes}
use Rattle.rules.specs.Basics.{Bytes, part, number, flag, optional}
use Rattle.rules.specs.Narrow.{kept, kept_number}

-- "a new group keeps any certifier and mechanism", by the groups' first records
unfoldable pub certifier_kept : Bytes → Bytes → Bool
certifier_kept n o =
    kept (optional (flag 0 n) (part 4 hash_bytes n)) (optional (flag 0 o) (part 4 hash_bytes o))
    && kept_number (optional (flag 1 n) (number 24 2 n)) (optional (flag 1 o) (number 24 2 o))
