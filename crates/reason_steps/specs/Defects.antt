-- What fails a step that looks at the bundle: the tests of each step, in the order in which document 01 names them. b is a bundle's list of records.
use Rattle.std.specs.Prelude.{Result, Ok, Err, ℕ, List, [], ◌∷◌}
use Rattle.std.proofs.Math.Option.{Option, none, some}
use Rattle.rules.specs.Basics.{Bytes, both_same, unless, first_fault}
use Rattle.rules.specs.Bundle.{field, has_field, reported, good}
use Rattle.rules.specs.Desk.{Step, WV1, MSCV1, MSCV2, MSCV3, MSCV4, MSCV5, WBCV1, WBCV2, WBCV3, KGCV1, KGCV2, ACLV3, WB1, WB2, WB3, WB6, RB1, RB2, RB3, KV3, CSRL1, is_listed}
use Rattle.reason_steps.specs.declared.Flaw.{Flaw}
use Rattle.reason_steps.specs.declared.Flaw.TheVariants.{SignatureAbsent, SignatureBad, FieldAbsent, FieldDiffers}
use Rattle.reason_steps.specs.declared.Defect.{Defect}

-- "the field or signature that fails it (absent, not good, not equal)", if any does
abbrev pub flaw_as : {A : Type 0} → Result A Flaw → Option Flaw
flaw_as (Ok x) = none
flaw_as (Err f) = some f

-- a flaw in numbers: 1 a signature is absent, 2 it is not good, 3 a field is absent, 4 it is not equal to what it must equal; 0 where nothing is named
abbrev pub named : Option Flaw → Defect
named none = record { what = 0; number = 0 }
named (some (SignatureAbsent n)) = record { what = 1; number = n }
named (some (SignatureBad n)) = record { what = 2; number = n }
named (some (FieldAbsent n)) = record { what = 3; number = n }
named (some (FieldDiffers n)) = record { what = 4; number = n }

-- "signature 1 good": it is present, and good
unfoldable pub signature_test : ℕ → List Bytes → Option Flaw
signature_test n b = first_fault (unless (reported n b) (SignatureAbsent n) ∷ unless (good n b) (SignatureBad n) ∷ [])

-- "field 1 present"
abbrev pub field_test : ℕ → List Bytes → Option Flaw
field_test n b = unless (has_field n b) (FieldAbsent n)

-- "5 .. equals a present 4": field m is equal to field n
abbrev pub equal_test : ℕ → ℕ → List Bytes → Option Flaw
equal_test m n b = unless (both_same (field m b) (field n b)) (FieldDiffers m)

-- "6, if present, is listed"
abbrev pub listed_test : List Bytes → Option Flaw
listed_test b = unless (is_listed (field 6 b) b) (FieldDiffers 6)

-- The tests of a step. A step that looks at the ACL has none here.
unfoldable pub step_tests : Step → List Bytes → List (Option Flaw)
-- "signature 1 good, field 1 present"
step_tests WV1 b = signature_test 1 b ∷ field_test 1 b ∷ []
-- "2 good"
step_tests MSCV1 b = signature_test 2 b ∷ []
-- "fields 2, 3 present"
step_tests MSCV2 b = field_test 2 b ∷ field_test 3 b ∷ []
-- "1 = 2"
step_tests MSCV3 b = equal_test 2 1 b ∷ []
-- "5, if present, equals a present 4"
step_tests MSCV4 b = field_test 4 b ∷ equal_test 5 4 b ∷ []
-- "6, if present, is listed"
step_tests MSCV5 b = listed_test b ∷ []
-- "3, if present: good, fields 5, 6, 12 present"
step_tests WBCV1 b = signature_test 3 b ∷ field_test 5 b ∷ field_test 6 b ∷ field_test 12 b ∷ []
-- "4 likewise, fields 5, 6, 12, 13"
step_tests WBCV2 b = signature_test 4 b ∷ field_test 5 b ∷ field_test 6 b ∷ field_test 12 b ∷ field_test 13 b ∷ []
-- "5 likewise, fields 5, 7, 11"
step_tests WBCV3 b = signature_test 5 b ∷ field_test 5 b ∷ field_test 7 b ∷ field_test 11 b ∷ []
-- "6 good"
step_tests KGCV1 b = signature_test 6 b ∷ []
-- "8 and 9 present, equal"
step_tests KGCV2 b = field_test 8 b ∷ field_test 9 b ∷ equal_test 8 9 b ∷ []
step_tests ACLV3 b = []
step_tests WB1 b = []
step_tests WB2 b = []
step_tests WB3 b = []
step_tests WB6 b = []
step_tests RB1 b = []
step_tests RB2 b = []
step_tests RB3 b = []
step_tests KV3 b = []
-- "if a CSR is in use, 10 present and equal to 9"
step_tests CSRL1 b = field_test 10 b ∷ equal_test 10 9 b ∷ []

-- the first of a step's tests that fails
abbrev pub step_flaw : Step → List Bytes → Option Flaw
step_flaw s b = first_fault (step_tests s b)
