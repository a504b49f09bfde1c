-- Where a verdict that is no acceptance comes from: for a failing step the field or signature, or the group and the action; for a refusal the input and
-- its record.
use Rattle.std.specs.Prelude.{ℕ, ◌+◌, List, [], ◌∷◌, Bool, true, false, ◌||◌, eqb, ltb, if◌then◌else◌}
use Rattle.std.proofs.Math.Option.{Option, none}
use Rattle.rules.specs.Basics.{Bytes, records}
use Rattle.rules.specs.Acl.{Group, acl_of}
use Rattle.rules.specs.Bundle.{field, policy_record, policy_of}
use Rattle.rules.specs.Desk.{Step, ACLV3, KV3, CSRL1, module_key, recovery_key, Verdict, accepted, failed, faulty, desk}
use Rattle.text_files.specs.declared.Kind.TheVariants.{Acl, Bundle}
use Rattle.desk_steps.specs.Steps.{step_number}
use Rattle.reason_files.specs.Places.{Place, sound, at_length, at_record, at_end, place_in}
use Rattle.reason_steps.specs.Defects.{named, step_flaw}
use Rattle.reason_actions.specs.Spots.{all_ones, at_fault, skipped, Located, in_groups, spot_of}
use Rattle.reason_desk.specs.declared.Site.{Site}
use Rattle.reason_desk.specs.declared.VerdictPlace.{VerdictPlace}

-- the steps that look at the bundle alone: those before the ACL's, and CSRL1
abbrev pub looks_at_bundle : Step → Bool
looks_at_bundle s = ltb (step_number s) (step_number ACLV3) || eqb (step_number s) (step_number CSRL1)

-- "the first action, in record order, that fails": a step of the ACL, or KV3
unfoldable pub step_located : Step → List Bytes → List Group → Option Located
step_located s b gs =
    if looks_at_bundle s then none
    else in_groups (skipped (field 4 b)) (at_fault (eqb (step_number s) (step_number KV3)) (policy_of b) (module_key b) (recovery_key b)) 0 gs

-- the place of a failing step
abbrev pub step_place : Step → List Bytes → List Group → VerdictPlace
step_place s b gs =
    record {
      refusal = 0;
      step = step_number s;
      input = 0;
      part = 0;
      index = all_ones;
      what = (named (step_flaw s b)).what;
      number = (named (step_flaw s b)).number;
      group = (spot_of (policy_of b) (step_located s b gs)).group;
      action = (spot_of (policy_of b) (step_located s b gs)).action;
      permission = (spot_of (policy_of b) (step_located s b gs)).permission;
    }

-- An index in 32 bits. One that does not fit is not named; no file without a bad length has so many records.
unfoldable pub index_number : ℕ → ℕ
index_number i = if ltb i all_ones then i else all_ones

-- the inputs by their numbers
abbrev pub bundle_input : ℕ
bundle_input = 6

abbrev pub acl_input : ℕ
acl_input = 2

-- where in an input a fault is: 1 the length, 2 a record, 3 the end
abbrev pub site_of : ℕ → Place → Site
site_of input sound = record { input = 0; part = 0; index = all_ones }
site_of input at_length = record { input = input; part = 1; index = all_ones }
site_of input (at_record f i) = record { input = input; part = 2; index = index_number i }
site_of input (at_end f n) = record { input = input; part = 3; index = index_number n }

-- a bad length; any fault
abbrev pub is_length : Place → Bool
is_length sound = false
is_length at_length = true
is_length (at_record f i) = false
is_length (at_end f n) = false

abbrev pub is_sound : Place → Bool
is_sound sound = true
is_sound at_length = false
is_sound (at_record f i) = false
is_sound (at_end f n) = false

-- the index of the first policy, of records of which the first has index i
unfoldable pub policy_index : ℕ → List Bytes → ℕ
policy_index i [] = i
policy_index i (r ∷ rs) = if policy_record r then i else policy_index (i + 1) rs

-- "1 over all inputs, then records from the first, .. (desk: bundle, ACL); .. suite 11 after that", which the policy names
unfoldable pub refusal_site : Bytes → Bytes → Site
refusal_site bundle acl =
    if is_length (place_in Bundle bundle) then site_of bundle_input (place_in Bundle bundle)
    else if is_length (place_in Acl acl) then site_of acl_input (place_in Acl acl)
    else if is_sound (place_in Bundle bundle) then
    if is_sound (place_in Acl acl) then record { input = bundle_input; part = 2; index = index_number (policy_index 0 (records bundle)) }
    else site_of acl_input (place_in Acl acl)
    else site_of bundle_input (place_in Bundle bundle)

-- the place of a refusal
abbrev pub refusal_place : ℕ → Site → VerdictPlace
refusal_place n s =
    record {
      refusal = n;
      step = 0;
      input = s.input;
      part = s.part;
      index = s.index;
      what = 0;
      number = 0;
      group = all_ones;
      action = all_ones;
      permission = all_ones;
    }

-- "on acceptance nothing is named"
abbrev pub nowhere : VerdictPlace
nowhere = refusal_place 0 (record { input = 0; part = 0; index = all_ones })

-- the place of a verdict
abbrev pub place_for : Bytes → Bytes → Verdict → VerdictPlace
place_for bundle acl (accepted a) = nowhere
place_for bundle acl (failed s) = step_place s (records bundle) (acl_of acl)
place_for bundle acl (faulty n) = refusal_place n (refusal_site bundle acl)

-- where the desk's verdict on a bundle and an ACL comes from
unfoldable pub verdict_place : Bytes → Bytes → VerdictPlace
verdict_place bundle acl = place_for bundle acl (desk bundle acl)
