-- The desk's answers by document 01's numbers, values and step names, as the code gives them and as the definitions do. Both readings keep all that an
-- answer says, so that an equation between them determines the code's answer.
use Rattle.std.specs.Prelude.{Result, Ok, Err, ℕ, List, [], ◌∷◌, Bool, false, ◌&&◌, replicate, leb, if◌then◌else◌}
use Rattle.std.proofs.Math.Option.{Option}
use Rattle.rules.specs.Sizes.{bundle_records, acl_records}
use Rattle.rules.specs.Numbers as numbers
use Rattle.rules.specs.Basics.{Bytes, fits, unless, first_fault}
use Rattle.rules.specs.Suites.{is_suite}
use Rattle.rules.specs.Bundle.{policy_of}
use Rattle.rules.specs.Desk as rules
use Rattle.refusals.specs.Refusals.{refusal_number}
use Rattle.bundle_facts.specs.Places.{entries, offsets_of}
use Rattle.desk_steps.specs.declared.Step.{Step}
use Rattle.desk_steps.specs.Steps.{step_as}
use Rattle.desk.specs.declared.Protection.{Protection}
use Rattle.desk.specs.declared.Protection.TheVariants.{NotJudged, Module, Softcard, Cardset, NotKept}
use Rattle.desk.specs.declared.Acceptance.{Acceptance}
use Rattle.desk.specs.declared.Verdict.{Verdict}
use Rattle.desk.specs.declared.Verdict.TheVariants.{Accepted, Failed, Refused}

-- "An acceptance names approach and, for approach 2, protection and recoverability."
pub record Named : Type 0 where
  pub approach : ℕ
  pub protection : ℕ
  pub recoverable : Bool

-- an acceptance, the first failing step, or the number of a refusal
pub data DeskReply : Type 0 where
  accepting : Named → DeskReply
  failing : rules.Step → DeskReply
  refusing : ℕ → DeskReply

-- "1 module .. 2 softcard .. 3 cardset .. 4, not kept"; 0 where approach 1 judges none
abbrev pub protection_number : Protection → ℕ
protection_number NotJudged = 0
protection_number Module = numbers.by_module
protection_number Softcard = numbers.by_softcard
protection_number Cardset = numbers.by_cardset
protection_number NotKept = numbers.not_kept

-- what the code's acceptance names
abbrev pub acceptance_as : Acceptance → Named
acceptance_as a = record { approach = a.approach; protection = protection_number a.protection; recoverable = a.recoverable }

-- the code's answer for files that were read
abbrev pub judged_as : Result Acceptance Step → DeskReply
judged_as (Ok a) = accepting (acceptance_as a)
judged_as (Err s) = failing (step_as s)

-- the code's answer
abbrev pub verdict_as : Verdict → DeskReply
verdict_as (Accepted a) = accepting (acceptance_as a)
verdict_as (Failed s) = failing (step_as s)
verdict_as (Refused r) = refusing (refusal_number r)

-- what the definitions' acceptance names: approach 1 looks at the key's generation alone
abbrev pub acceptance_for : rules.Acceptance → Named
acceptance_for rules.approach1 = record { approach = 1; protection = 0; recoverable = false }
acceptance_for (rules.approach2 g) = record { approach = 2; protection = g.protection; recoverable = g.recoverable }

-- the definitions' verdict
abbrev pub verdict_for : rules.Verdict → DeskReply
verdict_for (rules.accepted a) = accepting (acceptance_for a)
verdict_for (rules.failed s) = failing s
verdict_for (rules.faulty n) = refusing n

-- "suite not 1 to 4", and with document 02 not 1 to 5
unfoldable pub suite_fault : List Bytes → Option ℕ
suite_fault b = first_fault (unless (is_suite (policy_of b).suite) numbers.unknown_suite ∷ [])

-- the table of offsets after both files were read: that of the bundle where both lengths fit, else still empty
abbrev pub places_read : Bytes → Bytes → List ℕ
places_read bundle acl = if fits bundle_records bundle && fits acl_records acl then offsets_of bundle else replicate entries 0

-- "KV3 (protection at least the policy's); CSRL1", for a key of that protection
unfoldable pub grade_failure : List Bytes → ℕ → Option rules.Step
grade_failure b protection =
    first_fault (unless (leb (policy_of b).lowest_protection protection) rules.KV3 ∷ unless (rules.csr_linked b) rules.CSRL1 ∷ [])
