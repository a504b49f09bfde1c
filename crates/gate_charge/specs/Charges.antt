-- A reply by document 01's numbers, the reply to a judgement, and what a reply charges, by the limits alone.
use Rattle.std.specs.Prelude.{ℕ, ◌<◌, List, ◌≡◌, Bool, true, false, Result, Ok, Err, get_or, drop, eqb, ltb, if◌then◌else◌}
use Rattle.std.proofs.Math.Option.{none}
use Rattle.rules.specs.Sizes.{full_count}
use Rattle.rules.specs.Numbers.{not_narrower}
use Rattle.rules.specs.Basics.{implies, all}
use Rattle.rules.specs.Acl.{Limit, Group}
use Rattle.rules.specs.Ledger as rules
use Rattle.rules.specs.Gate as rulesGate
use Rattle.rules.specs.Fits.{Apart}
use Rattle.acl_groups.specs.Parts.{first_limits}
use Rattle.refusals.specs.Refusals.{refusal_number, denial_number, denial_group}
use Rattle.refusals.specs.declared.Denial.{Denial}
use Rattle.gate_charge.specs.declared.Reply.{Reply}
use Rattle.gate_charge.specs.declared.Reply.TheVariants.{Done, Permit, Refuse, Deny}

-- a reply, by document 01's numbers
abbrev pub answer_as : Reply → rulesGate.Answer
answer_as Done = rulesGate.done
answer_as (Permit place) = rulesGate.permit place
answer_as (Refuse r) = rulesGate.refuse (refusal_number r) none
answer_as (Deny d) = rulesGate.refuse (denial_number d) (denial_group d)

-- a counter that a limit of sort 2 names is not full
abbrev pub counter_not_full : List ℕ → ℕ → ℕ → Bool
counter_not_full before sort counter = implies (eqb sort 2) (ltb (get_or before counter 0) full_count)

-- the counter that a limit names, if it names one, is not full
unfoldable pub limit_not_full : List ℕ → Limit → Bool
limit_not_full before m = counter_not_full before m.sort m.counter

-- limits whose counters can be raised in place: none is full, and no two limits name the same one
pub record Chargeable (counters : List ℕ) (ms : List Limit) : Type 0 where
  pub room : all (limit_not_full counters) ms ≡ true
  pub apart : Apart ms

-- "each named counter plus 1", for one limit
abbrev pub raised_once : List ℕ → ℕ → ℕ → List ℕ
raised_once table sort counter = if eqb sort 2 then rules.raised table counter table else table

-- the answer of a grant where hints may have to show a narrowing: "Any breach .. gives 8"
unfoldable pub permit_if : Bool → ℕ → rulesGate.Answer
permit_if shown place = if shown then rulesGate.permit place else rulesGate.refuse not_narrower none

-- the answer to a judgement
abbrev pub decided : Bool → Result ℕ Denial → rulesGate.Answer
decided shown (Ok place) = permit_if shown place
decided shown (Err d) = rulesGate.refuse (denial_number d) (denial_group d)

-- a reply that permits
abbrev pub is_permit : rulesGate.Answer → Bool
is_permit rulesGate.done = false
is_permit (rulesGate.permit place) = true
is_permit (rulesGate.refuse n near) = false

-- the limits of a permitting group name counters that can be raised in place, and its own count is not full
abbrev pub CountersRoom : List ℕ → List Group → rulesGate.Answer → Type 0
CountersRoom counters gs a = (place : ℕ) → a ≡ rulesGate.permit place → Chargeable counters (first_limits (drop place gs))

abbrev pub CountRoom : List ℕ → rulesGate.Answer → Type 0
CountRoom counts a = (place : ℕ) → a ≡ rulesGate.permit place → get_or counts place 0 < full_count

-- the tables after an answer: a permitting group's named counters, and its own count, plus 1
abbrev pub counters_charged : List Group → rulesGate.Answer → List ℕ → List ℕ
counters_charged gs rulesGate.done counters = counters
counters_charged gs (rulesGate.permit place) counters = rules.raised_by counters (first_limits (drop place gs)) counters
counters_charged gs (rulesGate.refuse n near) counters = counters

abbrev pub counts_charged : rulesGate.Answer → List ℕ → List ℕ
counts_charged rulesGate.done counts = counts
counts_charged (rulesGate.permit place) counts = rules.raised counts place counts
counts_charged (rulesGate.refuse n near) counts = counts

-- "last time set to the request's": the last time after an answer
abbrev pub last_after : rulesGate.Answer → ℕ → ℕ → ℕ
last_after a last time = if is_permit a then time else last
