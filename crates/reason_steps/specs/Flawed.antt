-- What a flaw that is named says of the bundle.
use Rattle.std.specs.Prelude.{ℕ, ◌≡◌, List, Bool, true, false, eqb, if◌then◌else◌}
use Rattle.rules.specs.Basics.{Bytes, both_same}
use Rattle.rules.specs.Bundle.{field, has_field, reported, good}
use Rattle.rules.specs.Desk.{is_listed}
use Rattle.reason_steps.specs.declared.Flaw.{Flaw}
use Rattle.reason_steps.specs.declared.Flaw.TheVariants.{SignatureAbsent, SignatureBad, FieldAbsent, FieldDiffers}

-- "1 = 2", "5, if present, equals a present 4", "8 and 9 present, equal", "10 present and equal to 9": what a field must equal
abbrev pub counterpart : ℕ → ℕ
counterpart n = if eqb n 2 then 1 else if eqb n 5 then 4 else 9

-- a field equals what it must equal: "6, if present, is listed", and the others
abbrev pub is_equal : ℕ → List Bytes → Bool
is_equal n b = if eqb n 6 then is_listed (field 6 b) b else both_same (field n b) (field (counterpart n) b)

-- "absent, not good, not equal"
abbrev pub Flawed : List Bytes → Flaw → Type 0
Flawed b (SignatureAbsent n) = reported n b ≡ false
Flawed b (SignatureBad n) = (reported n b ≡ true) × (good n b ≡ false)
Flawed b (FieldAbsent n) = has_field n b ≡ false
Flawed b (FieldDiffers n) = is_equal n b ≡ false
