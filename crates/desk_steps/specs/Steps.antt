-- The steps and answers of this crate in the definitions' terms, and the runs of steps that the two approaches share. b is a bundle's list of records.
use Rattle.std.specs.Prelude.{Result, Ok, Err, ℕ, List, [], ◌∷◌, ◌&&◌}
use Rattle.std.proofs.Math.Option.{Option, none, some}
use Rattle.rules.specs.Basics.{Bytes, implies, both_same, unless, first_fault}
use Rattle.rules.specs.Bundle.{field, has_field, reported, good}
use Rattle.rules.specs.Desk as desk
use Rattle.rules.specs.Desk.{km_vouched, km_fips_vouched, kre_vouched, is_listed, csr_linked}
use Rattle.desk_steps.specs.declared.Step.{Step}
use Rattle.desk_steps.specs.declared.Step.TheVariants.{WV1, MSCV1, MSCV2, MSCV3, MSCV4, MSCV5, WBCV1, WBCV2, WBCV3, KGCV1, KGCV2, ACLV3, WB1, WB2, WB3, WB6, RB1, RB2, RB3, KV3, CSRL1}

-- a step, by its name
abbrev pub step_as : Step → desk.Step
step_as WV1 = desk.WV1
step_as MSCV1 = desk.MSCV1
step_as MSCV2 = desk.MSCV2
step_as MSCV3 = desk.MSCV3
step_as MSCV4 = desk.MSCV4
step_as MSCV5 = desk.MSCV5
step_as WBCV1 = desk.WBCV1
step_as WBCV2 = desk.WBCV2
step_as WBCV3 = desk.WBCV3
step_as KGCV1 = desk.KGCV1
step_as KGCV2 = desk.KGCV2
step_as ACLV3 = desk.ACLV3
step_as WB1 = desk.WB1
step_as WB2 = desk.WB2
step_as WB3 = desk.WB3
step_as WB6 = desk.WB6
step_as RB1 = desk.RB1
step_as RB2 = desk.RB2
step_as RB3 = desk.RB3
step_as KV3 = desk.KV3
step_as CSRL1 = desk.CSRL1

-- The steps, numbered from 1 in document 01's order.
abbrev pub step_number : desk.Step → ℕ
step_number desk.WV1 = 1
step_number desk.MSCV1 = 2
step_number desk.MSCV2 = 3
step_number desk.MSCV3 = 4
step_number desk.MSCV4 = 5
step_number desk.MSCV5 = 6
step_number desk.WBCV1 = 7
step_number desk.WBCV2 = 8
step_number desk.WBCV3 = 9
step_number desk.KGCV1 = 10
step_number desk.KGCV2 = 11
step_number desk.ACLV3 = 12
step_number desk.WB1 = 13
step_number desk.WB2 = 14
step_number desk.WB3 = 15
step_number desk.WB6 = 16
step_number desk.RB1 = 17
step_number desk.RB2 = 18
step_number desk.RB3 = 19
step_number desk.KV3 = 20
step_number desk.CSRL1 = 21

-- the first failing step, if any fails
abbrev pub failure_as : {A : Type 0} → Result A Step → Option desk.Step
failure_as (Ok x) = none
failure_as (Err s) = some (step_as s)

-- "WV1 (signature 1 good, field 1 present); MSCV1 (2 good); MSCV2 (fields 2, 3 present)"
unfoldable pub warrant_failure : List Bytes → Option desk.Step
warrant_failure b =
    first_fault
    (unless (good 1 b && has_field 1 b) desk.WV1
    ∷ unless (good 2 b) desk.MSCV1
    ∷ unless (has_field 2 b && has_field 3 b) desk.MSCV2
    ∷ [])

-- "MSCV3 (1 = 2); MSCV4 (5, if present, equals a present 4); MSCV5 (6, if present, is listed)"
unfoldable pub state_failure : List Bytes → Option desk.Step
state_failure b =
    first_fault
    (unless (both_same (field 1 b) (field 2 b)) desk.MSCV3
    ∷ unless (implies (has_field 5 b) (both_same (field 5 b) (field 4 b))) desk.MSCV4
    ∷ unless (is_listed (field 6 b) b) desk.MSCV5
    ∷ [])

-- "WBCV1 (3, if present: good, fields 5, 6, 12 present); WBCV2 (4 likewise, ..); WBCV3 (5 likewise, ..)"
unfoldable pub world_failure : List Bytes → Option desk.Step
world_failure b =
    first_fault
    (unless (implies (reported 3 b) (km_vouched b)) desk.WBCV1
    ∷ unless (implies (reported 4 b) (km_fips_vouched b)) desk.WBCV2
    ∷ unless (implies (reported 5 b) (kre_vouched b)) desk.WBCV3
    ∷ [])

-- "KGCV1 (6 good); KGCV2 (8 and 9 present, equal)"
unfoldable pub key_failure : List Bytes → Option desk.Step
key_failure b = first_fault (unless (good 6 b) desk.KGCV1 ∷ unless (both_same (field 8 b) (field 9 b)) desk.KGCV2 ∷ [])

-- "CSRL1 (if a CSR is in use, 10 present and equal to 9)"
unfoldable pub csr_failure : List Bytes → Option desk.Step
csr_failure b = first_fault (unless (csr_linked b) desk.CSRL1 ∷ [])
