-- What a run of the code comes to, as the definitions have it, and a run by what was read of its row: the number of certificates, whether all name a
-- mechanism, and the groups that they certify.
use Rattle.std.specs.Prelude.{ℕ, ◌*◌, ◌/◌, ◌≤◌, ◌≡◌, Bool, [], ◌∷◌, Result, Ok, Err, length, leb}
use Rattle.std.proofs.Math.Option.{Option, none}
use Rattle.rules.specs.Sizes.{record_bytes, certificates_max, answer_bytes, run_records, prepared_records}
use Rattle.rules.specs.Numbers.{bad_length, malformed, too_many, short_buffer, other_form}
use Rattle.rules.specs.Basics.{Bytes, unless, first_fault, records}
use Rattle.rules.specs.Acl.{acl_of, acl_fault}
use Rattle.rules.specs.Ledger.{Ledger}
use Rattle.rules.specs.Runs as rules
use Rattle.rules.specs.Prepared.{Form, form_of, same_form}
use Rattle.refusals.specs.declared.Refusal.{Refusal}
use Rattle.refusals.specs.Refusals.{refusal_number}
use Rattle.gate.specs.Outcomes.{ledger_as}
use Rattle.run_decision.specs.Deciding.{ask_sets}
use Rattle.run_certificates.specs.declared.RowSummary.{RowSummary}
use Rattle.runs.specs.declared.RunOutcome.{RunOutcome}

-- the reply
abbrev pub run_reply_as : Result ℕ Refusal → rules.RunReply
run_reply_as (Ok n) = rules.ran n
run_reply_as (Err r) = rules.refused_whole (refusal_number r)

-- what a run comes to, with the buffer afterwards
abbrev pub run_outcome_as : RunOutcome → Bytes → rules.RunOutcome
run_outcome_as o buffer = record { reply = run_reply_as o.reply; ledger = ledger_as o.ledger; buffer = buffer }

-- a refusal of a run as a whole: ledger and buffer as they were
abbrev pub run_refused : Ledger → ℕ → Bytes → rules.RunOutcome
run_refused l n buffer = record { reply = rules.refused_whole n; ledger = l; buffer = buffer }

-- "a row over 32 gives 3, a zero mechanism 2": the refusals of a run as a whole, by what was read of its row, and by the room for the answers
unfoldable pub seen_fault : ℕ → Bytes → Bytes → ℕ → Bool → Bytes → ℕ → Option ℕ
seen_fault most km0 acl count named requests room =
    first_fault
    (unless (rules.run_lengths_fit most km0 acl requests) bad_length
    ∷ unless (leb count certificates_max) too_many
    ∷ unless named malformed
    ∷ acl_fault (records acl)
    ∷ unless (leb (rules.requests_in requests * answer_bytes) room) short_buffer
    ∷ [])

-- its requests, one after the other
abbrev pub asked_by_sets : Bytes → Bytes → RowSummary → Ledger → Bytes → rules.Ran
asked_by_sets km0 acl seen l requests = rules.asked_in_order (ask_sets km0 (acl_of acl) seen.certified) l (records requests)

-- a run
unfoldable pub run_seen : Ledger → Bytes → Bytes → RowSummary → Bytes → Bytes → rules.RunOutcome
run_seen l km0 acl seen requests buffer =
    rules.run_end l requests buffer (seen_fault run_records km0 acl seen.count seen.named requests (length buffer)) (asked_by_sets km0 acl seen l requests)

-- a run on a prepared ACL: "14" after the others
unfoldable pub prepared_seen : Ledger → Bytes → Bytes → RowSummary → Form → Bytes → Bytes → rules.RunOutcome
prepared_seen l km0 acl seen form requests buffer =
    rules.run_end l requests buffer
    (first_fault (seen_fault prepared_records km0 acl seen.count seen.named requests (length buffer) ∷ unless (same_form form (form_of (acl_of acl))) other_form ∷ []))
    (asked_by_sets km0 acl seen l requests)

-- what is known of a run whose requests are asked
pub record Known (acl : Bytes) (form : Form) (requests : Bytes) (room : ℕ) : Type 0 where
  pub sound : acl_fault (records acl) ≡ none
  pub same : form ≡ form_of (acl_of acl)
  pub few : length requests ≤ prepared_records * record_bytes
  pub roomy : length requests / record_bytes * answer_bytes ≤ room
