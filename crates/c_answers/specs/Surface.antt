-- The answers of the C surface in plain numbers, as the code gives them and as the definitions do. "refusal first, 0 where there is none"; what an answer
-- does not carry is zero.
use Rattle.std.specs.Prelude.{ℕ, Bool, false, ltb, if◌then◌else◌}
use Rattle.std.proofs.Math.Option.{Option, none, some}
use Rattle.rules.specs.Numbers.{no_group}
use Rattle.rules.specs.Ledger as rules
use Rattle.rules.specs.Gate.{Answer, done, permit, refuse, Outcome}
use Rattle.rules.specs.Cabinet as cabinet
use Rattle.rules.specs.Subject.{SubjectReply, written, unwritten}
use Rattle.rules.specs.Trim.{TrimReply, trimmed, untrimmed, unread}
use Rattle.text_rules.specs.Listing.{ListingReply, produced, refused_with, refused_at}
use Rattle.desk_steps.specs.Steps.{step_number}
use Rattle.desk.specs.Replies.{DeskReply, accepting, failing, refusing}
use Rattle.gate.specs.declared.Ledger.{Ledger}
use Rattle.gate.specs.Outcomes.{ledger_as}
use Rattle.cabinet.specs.declared.Cabinet.{Cabinet}
use Rattle.cabinet.specs.Kept.{cabinet_as}
use Rattle.c_answers.specs.declared.HostReply.{HostReply}
use Rattle.c_answers.specs.declared.HostOutcome.{HostOutcome}
use Rattle.c_answers.specs.declared.HostCabinetOutcome.{HostCabinetOutcome}
use Rattle.c_answers.specs.declared.HostVerdict.{HostVerdict}
use Rattle.c_answers.specs.declared.HostSubject.{HostSubject}
use Rattle.c_answers.specs.declared.HostText.{HostText}
use Rattle.c_answers.specs.declared.HostTrim.{HostTrim}

-- A group in 32 bits. One whose number does not fit is not named; no ACL has so many.
unfoldable pub group_number : ℕ → ℕ
group_number group = if ltb group no_group then group else no_group

-- "all ones where none is named"
abbrev pub group_or_none : Option ℕ → ℕ
group_or_none none = no_group
group_or_none (some group) = group_number group

-- the refusal of an answer
abbrev pub answer_refusal : Answer → ℕ
answer_refusal done = 0
answer_refusal (permit group) = 0
answer_refusal (refuse n near) = n

-- the group that it names: the group that permits, or the group that a refusal 6 or 7 carries
abbrev pub answer_group : Answer → ℕ
answer_group done = no_group
answer_group (permit group) = group_number group
answer_group (refuse n near) = group_or_none near

-- An answer of the gate.
pub record ReplyInNumbers : Type 0 where
  pub refusal : ℕ
  pub group : ℕ

abbrev pub host_reply_as : HostReply → ReplyInNumbers
host_reply_as r = record { refusal = r.refusal; group = r.group }

abbrev pub host_reply_for : Answer → ReplyInNumbers
host_reply_for a = record { refusal = answer_refusal a; group = answer_group a }

-- An outcome: the ledger, and the answer.
pub record OutcomeInNumbers : Type 0 where
  pub ledger : rules.Ledger
  pub reply : ReplyInNumbers

abbrev pub host_outcome_as : HostOutcome → OutcomeInNumbers
host_outcome_as o = record { ledger = ledger_as o.ledger; reply = record { refusal = o.refusal; group = o.group } }

-- of a call in place: its reply, and the ledger that it leaves where it was lent
abbrev pub host_outcome_in : HostReply → Ledger → OutcomeInNumbers
host_outcome_in r l = record { ledger = ledger_as l; reply = host_reply_as r }

abbrev pub host_outcome_for : Outcome → OutcomeInNumbers
host_outcome_for o = record { ledger = o.ledger; reply = host_reply_for o.answer }

-- An outcome of the cabinet.
pub record CabinetInNumbers : Type 0 where
  pub cabinet : cabinet.Cabinet
  pub reply : ReplyInNumbers

abbrev pub host_cabinet_outcome_as : HostCabinetOutcome → CabinetInNumbers
host_cabinet_outcome_as o = record { cabinet = cabinet_as o.cabinet; reply = record { refusal = o.refusal; group = o.group } }

-- of a call in place
abbrev pub host_cabinet_outcome_in : HostReply → Cabinet → CabinetInNumbers
host_cabinet_outcome_in r c = record { cabinet = cabinet_as c; reply = host_reply_as r }

abbrev pub host_cabinet_outcome_for : cabinet.CabinetOutcome → CabinetInNumbers
host_cabinet_outcome_for o = record { cabinet = o.cabinet; reply = host_reply_for o.answer }

-- A verdict: the number of the step that failed; what an acceptance names (protection 0 where none is judged).
pub record VerdictInNumbers : Type 0 where
  pub refusal : ℕ
  pub step : ℕ
  pub approach : ℕ
  pub protection : ℕ
  pub recoverable : Bool

abbrev pub host_verdict_as : HostVerdict → VerdictInNumbers
host_verdict_as v = record { refusal = v.refusal; step = v.step; approach = v.approach; protection = v.protection; recoverable = v.recoverable }

abbrev pub not_accepted : ℕ → ℕ → VerdictInNumbers
not_accepted refusal step = record { refusal = refusal; step = step; approach = 0; protection = 0; recoverable = false }

abbrev pub host_verdict_for : DeskReply → VerdictInNumbers
host_verdict_for (accepting a) = record { refusal = 0; step = 0; approach = a.approach; protection = a.protection; recoverable = a.recoverable }
host_verdict_for (failing s) = not_accepted 0 (step_number s)
host_verdict_for (refusing n) = not_accepted n 0

-- The answer of the subject writer: the length of the subject.
pub record SubjectInNumbers : Type 0 where
  pub refusal : ℕ
  pub length : ℕ

abbrev pub host_subject_as : HostSubject → SubjectInNumbers
host_subject_as w = record { refusal = w.refusal; length = w.length }

abbrev pub host_subject_for : SubjectReply → SubjectInNumbers
host_subject_for (written n) = record { refusal = 0; length = n }
host_subject_for (unwritten n) = record { refusal = n; length = 0 }

-- The answer for a listing: the number of the first bad line, where one is named, and the length of the result.
pub record TextInNumbers : Type 0 where
  pub refusal : ℕ
  pub line : ℕ
  pub length : ℕ

abbrev pub host_text_as : HostText → TextInNumbers
host_text_as t = record { refusal = t.refusal; line = t.line; length = t.length }

abbrev pub text_numbers : ℕ → ℕ → ℕ → TextInNumbers
text_numbers refusal line length = record { refusal = refusal; line = line; length = length }

abbrev pub host_text_for : ListingReply → TextInNumbers
host_text_for (produced n) = text_numbers 0 0 n
host_text_for (refused_with f) = text_numbers f 0 0
host_text_for (refused_at f n) = text_numbers f n 0

-- The answer of the trimming tool: the number of the step that failed; the lengths of the new ACL and of its hints.
pub record TrimInNumbers : Type 0 where
  pub refusal : ℕ
  pub step : ℕ
  pub acl : ℕ
  pub hints : ℕ

abbrev pub host_trim_as : HostTrim → TrimInNumbers
host_trim_as t = record { refusal = t.refusal; step = t.step; acl = t.acl; hints = t.hints }

abbrev pub trim_numbers : ℕ → ℕ → ℕ → ℕ → TrimInNumbers
trim_numbers refusal step acl hints = record { refusal = refusal; step = step; acl = acl; hints = hints }

abbrev pub host_trim_for : TrimReply → TrimInNumbers
host_trim_for (trimmed m n) = trim_numbers 0 0 m n
host_trim_for (untrimmed s) = trim_numbers 0 (step_number s) 0 0
host_trim_for (unread f) = trim_numbers f 0 0 0
