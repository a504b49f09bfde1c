-- The classes of this crate in the definitions' terms, and what ACLV3 asks of one permission.
use Rattle.std.specs.Prelude.{ℕ, Bool}
use Rattle.rules.specs.Basics.{implies, bit}
use Rattle.rules.specs.Bundle.{Policy}
use Rattle.rules.specs.Desk as desk
use Rattle.rules.specs.Desk.{class_of, policy_admits}
use Rattle.desk_actions.specs.declared.Class.{Class}
use Rattle.desk_actions.specs.declared.Class.TheVariants.{Harmless, Signature, Encryption, Forbidden}

-- a class, by its name
abbrev pub class_as : Class → desk.Class
class_as Harmless = desk.harmless
class_as Signature = desk.signature
class_as Encryption = desk.encryption
class_as Forbidden = desk.forbidden

-- "no forbidden bit, no signature or encryption bit that policy lacks", of bit p
unfoldable pub admitted_bit : Policy → ℕ → ℕ → Bool
admitted_bit policy bits p = implies (bit p bits) (policy_admits policy (class_of p))
