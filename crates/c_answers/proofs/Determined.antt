-- The numbers of the C surface lose nothing. Structs that read the same are the same, so that a contract determines what the host gets; and answers,
-- outcomes, replies and verdicts with the same numbers are the same, so that the host can tell from the numbers what was answered.
use Prim.Native.Nat.{ℕ, ◌≤◌, ◌<◌}
use mathlib.Core.Path.{◌≡◌, refl, sym, ◌∙◌, ap}
use mathlib.Core.List.{List, [], ◌∷◌}
use mathlib.Core.Option.{Option, none, some}
use mathlib.Core.Bool.{false}
use native.Mathlib.Omega.{arith}
use lib.ListN.{get_or}
use lib.Dec.{eqb, lit<}
use borrow.Author.Tests.{ne_eqb, lt-ltb}
use Rattle.rules.specs.Numbers.{no_group}
use Rattle.std.specs.Prelude.{if◌then◌else◌}
use Rattle.rules.specs.Gate.{Answer, done, permit, refuse, Outcome}
use Rattle.rules.specs.Cabinet as cabinet
use Rattle.rules.specs.Desk.{Step, WV1, MSCV1, MSCV2, MSCV3, MSCV4, MSCV5, WBCV1, WBCV2, WBCV3, KGCV1, KGCV2, ACLV3, WB1, WB2, WB3, WB6, RB1, RB2, RB3, KV3, CSRL1}
use Rattle.rules.specs.Subject.{SubjectReply, written, unwritten}
use Rattle.rules.specs.Trim.{TrimReply, trimmed, untrimmed, unread}
use Rattle.text_rules.specs.Listing.{ListingReply, produced, refused_with, refused_at}
use Rattle.refusals.specs.declared.Refusal.{Refusal}
use Rattle.refusals.specs.declared.Refusal.TheVariants.{BadLength, Malformed, TooMany, NotNarrower, ShortBuffer, OutOfRange, UnknownSuite, OpenArchive, NoSlot, OtherForm}
use Rattle.refusals.specs.declared.Denial.TheVariants.{ClockBack, NotAdmitted, NotCertified, Spent}
use Rattle.refusals.specs.Refusals.{refusal_number}
use Rattle.gate_charge.specs.declared.Reply.{Reply}
use Rattle.gate_charge.specs.declared.Reply.TheVariants.{Done, Permit, Refuse, Deny}
use Rattle.gate_charge.specs.Charges.{answer_as}
use Rattle.desk_steps.specs.Steps.{step_number}
use Rattle.desk.specs.Replies.{DeskReply, accepting, failing, refusing, verdict_as}
use Rattle.desk.specs.declared.Verdict.{Verdict}
use Rattle.desk.specs.declared.Verdict.TheVariants.{Accepted}
use Rattle.desk.specs.declared.Verdict.TheVariants as verdicts
use Rattle.std.specs.Prelude.{Result, Ok, Err}
use Rattle.subject.specs.Writing.{subject_reply_as}
use Rattle.trimming.specs.declared.Lengths.{Lengths}
use Rattle.trimming.specs.declared.Untrimmed.{Untrimmed}
use Rattle.trimming.specs.declared.Untrimmed.TheVariants as trims
use Rattle.trimming.specs.Trimming.{trim_reply_as}
use Rattle.gate.specs.declared.Ledger.{Ledger}
use Rattle.gate.proofs.Determined.{ledger_back}
use Rattle.cabinet.specs.declared.Cabinet.{Cabinet}
use Rattle.cabinet.proofs.Determined.{cabinet_back, cabinet_back_lem, cabinet_determined}
use Rattle.c_answers.specs.declared.HostReply.{HostReply}
use Rattle.c_answers.specs.declared.HostOutcome.{HostOutcome}
use Rattle.c_answers.specs.declared.HostCabinetOutcome.{HostCabinetOutcome}
use Rattle.c_answers.specs.declared.HostVerdict.{HostVerdict}
use Rattle.c_answers.specs.declared.HostSubject.{HostSubject}
use Rattle.c_answers.specs.declared.HostText.{HostText}
use Rattle.c_answers.specs.declared.HostTrim.{HostTrim}
use Rattle.c_answers.specs.Surface.{group_number, ReplyInNumbers, host_reply_as, host_reply_for, OutcomeInNumbers, host_outcome_as, host_outcome_in, host_outcome_for, CabinetInNumbers, host_cabinet_outcome_as, host_cabinet_outcome_in, host_cabinet_outcome_for, VerdictInNumbers, host_verdict_as, host_verdict_for, SubjectInNumbers, host_subject_as, host_subject_for, TextInNumbers, host_text_as, host_text_for, TrimInNumbers, host_trim_as, host_trim_for}

-- The structs.
pub reply_determined : (r s : HostReply) → host_reply_as r ≡ host_reply_as s → r ≡ s
reply_determined r s e = ap (λ (t : ReplyInNumbers). record { refusal = t.refusal; group = t.group }) e

pub outcome_determined : (o p : HostOutcome) → host_outcome_as o ≡ host_outcome_as p → o ≡ p
outcome_determined o p e = ap (λ (t : OutcomeInNumbers). record { refusal = t.reply.refusal; group = t.reply.group; ledger = ledger_back t.ledger }) e

-- of a call in place
pub left_determined : (r s : HostReply) (l m : Ledger) → host_outcome_in r l ≡ host_outcome_in s m → (r ≡ s) × (l ≡ m)
left_determined r s l m e = (reply_determined r s (ap (λ (t : OutcomeInNumbers). t.reply) e), ap (λ (t : OutcomeInNumbers). ledger_back t.ledger) e)

pub cabinet_left_determined : (r s : HostReply) (c d : Cabinet) → host_cabinet_outcome_in r c ≡ host_cabinet_outcome_in s d → (r ≡ s) × (c ≡ d)
cabinet_left_determined r s c d e =
    (reply_determined r s (ap (λ (t : CabinetInNumbers). t.reply) e), cabinet_determined c d (ap (λ (t : CabinetInNumbers). t.cabinet) e))

abbrev host_cabinet : ReplyInNumbers → Cabinet → HostCabinetOutcome
host_cabinet r c = record { refusal = r.refusal; group = r.group; cabinet = c }

abbrev host_cabinet_back : CabinetInNumbers → HostCabinetOutcome
host_cabinet_back t = host_cabinet t.reply (cabinet_back t.cabinet)

host_cabinet_back_lem : (o : HostCabinetOutcome) → host_cabinet_back (host_cabinet_outcome_as o) ≡ o
host_cabinet_back_lem o = ap (host_cabinet (record { refusal = o.refusal; group = o.group })) (cabinet_back_lem o.cabinet)

pub cabinet_outcome_determined : (o p : HostCabinetOutcome) → host_cabinet_outcome_as o ≡ host_cabinet_outcome_as p → o ≡ p
cabinet_outcome_determined o p e = sym (host_cabinet_back_lem o) ∙ ap host_cabinet_back e ∙ host_cabinet_back_lem p

pub verdict_determined : (v w : HostVerdict) → host_verdict_as v ≡ host_verdict_as w → v ≡ w
verdict_determined v w e =
    ap (λ (j : VerdictInNumbers). record { refusal = j.refusal; step = j.step; approach = j.approach; protection = j.protection; recoverable = j.recoverable }) e

pub subject_determined : (w v : HostSubject) → host_subject_as w ≡ host_subject_as v → w ≡ v
subject_determined w v e = ap (λ (n : SubjectInNumbers). record { refusal = n.refusal; length = n.length }) e

pub text_determined : (t u : HostText) → host_text_as t ≡ host_text_as u → t ≡ u
text_determined t u e = ap (λ (n : TextInNumbers). record { refusal = n.refusal; line = n.line; length = n.length }) e

pub trim_determined : (t u : HostTrim) → host_trim_as t ≡ host_trim_as u → t ≡ u
trim_determined t u e = ap (λ (n : TrimInNumbers). record { refusal = n.refusal; step = n.step; acl = n.acl; hints = n.hints }) e

-- Every refusal of the code has a number from 1.
refusal_from_1 : (r : Refusal) → 1 ≤ refusal_number r
refusal_from_1 BadLength = lit< tt
refusal_from_1 Malformed = lit< tt
refusal_from_1 TooMany = lit< tt
refusal_from_1 NotNarrower = lit< tt
refusal_from_1 ShortBuffer = lit< tt
refusal_from_1 OutOfRange = lit< tt
refusal_from_1 UnknownSuite = lit< tt
refusal_from_1 OpenArchive = lit< tt
refusal_from_1 NoSlot = lit< tt
refusal_from_1 OtherForm = lit< tt

not_zero_lem : (n : ℕ) → 1 ≤ n → eqb n 0 ≡ false
not_zero_lem n h = ne_eqb n 0 (λ e. omega arith)

-- What the numbers stand for: an answer. Its refusal, if it is one, has a number from 1, and a group that it names has a number in 32 bits; an ACL has far
-- fewer groups.
abbrev pub Tellable : Answer → Type 0
Tellable done = Unit {0}
Tellable (permit group) = group < no_group
Tellable (refuse n none) = 1 ≤ n
Tellable (refuse n (some group)) = (1 ≤ n) × (group < no_group)

-- so it is of every reply of the code whose groups fit
abbrev pub GroupFits : Reply → Type 0
GroupFits Done = Unit {0}
GroupFits (Permit group) = group < no_group
GroupFits (Refuse r) = Unit {0}
GroupFits (Deny ClockBack) = Unit {0}
GroupFits (Deny NotAdmitted) = Unit {0}
GroupFits (Deny (NotCertified group)) = group < no_group
GroupFits (Deny (Spent group)) = group < no_group

pub replies_tellable : (r : Reply) → GroupFits r → Tellable (answer_as r)
replies_tellable Done h = tt
replies_tellable (Permit group) h = h
replies_tellable (Refuse r) h = refusal_from_1 r
replies_tellable (Deny ClockBack) h = lit< tt
replies_tellable (Deny NotAdmitted) h = lit< tt
replies_tellable (Deny (NotCertified group)) h = (lit< tt, h)
replies_tellable (Deny (Spent group)) h = (lit< tt, h)

abbrev group_back : ℕ → Option ℕ
group_back g = if eqb g no_group then none else some g

abbrev permit_back : Option ℕ → Answer
permit_back none = done
permit_back (some group) = permit group

abbrev answer_back : ReplyInNumbers → Answer
answer_back r = if eqb r.refusal 0 then permit_back (group_back r.group) else refuse r.refusal (group_back r.group)

group_back_lem : (group : ℕ) → group < no_group → group_back (group_number group) ≡ some group
unfolding group_number
group_back_lem group h = rw (lt-ltb group no_group h, ne_eqb group no_group (λ e. omega arith))

answer_back_lem : (a : Answer) → Tellable a → answer_back (host_reply_for a) ≡ a
answer_back_lem done h = refl
answer_back_lem (permit group) h = rw (group_back_lem group h)
answer_back_lem (refuse n none) h = rw (not_zero_lem n h)
answer_back_lem (refuse n (some group)) h = rw (not_zero_lem n h.0, group_back_lem group h.1)

pub answer_told : (a b : Answer) → Tellable a → Tellable b → host_reply_for a ≡ host_reply_for b → a ≡ b
answer_told a b h k e = sym (answer_back_lem a h) ∙ ap answer_back e ∙ answer_back_lem b k

-- An outcome.
abbrev outcome_back : OutcomeInNumbers → Outcome
outcome_back t = record { answer = answer_back t.reply; ledger = t.ledger }

outcome_back_lem : (o : Outcome) → Tellable o.answer → outcome_back (host_outcome_for o) ≡ o
outcome_back_lem o h = ap (λ (a : Answer). record { answer = a; ledger = o.ledger }) (answer_back_lem o.answer h)

pub outcome_told : (o p : Outcome) → Tellable o.answer → Tellable p.answer → host_outcome_for o ≡ host_outcome_for p → o ≡ p
outcome_told o p h k e = sym (outcome_back_lem o h) ∙ ap outcome_back e ∙ outcome_back_lem p k

-- An outcome of the cabinet.
abbrev cabinet_outcome_back : CabinetInNumbers → cabinet.CabinetOutcome
cabinet_outcome_back t = record { answer = answer_back t.reply; cabinet = t.cabinet }

cabinet_outcome_back_lem : (o : cabinet.CabinetOutcome) → Tellable o.answer → cabinet_outcome_back (host_cabinet_outcome_for o) ≡ o
cabinet_outcome_back_lem o h = ap (λ (a : Answer). record { answer = a; cabinet = o.cabinet }) (answer_back_lem o.answer h)

pub cabinet_outcome_told :
    (o p : cabinet.CabinetOutcome) → Tellable o.answer → Tellable p.answer → host_cabinet_outcome_for o ≡ host_cabinet_outcome_for p → o ≡ p
cabinet_outcome_told o p h k e = sym (cabinet_outcome_back_lem o h) ∙ ap cabinet_outcome_back e ∙ cabinet_outcome_back_lem p k

-- A reply of the subject writer.
abbrev pub SubjectTellable : SubjectReply → Type 0
SubjectTellable (written n) = Unit {0}
SubjectTellable (unwritten n) = 1 ≤ n

pub subjects_tellable : (w : Result ℕ Refusal) → SubjectTellable (subject_reply_as w)
subjects_tellable (Ok n) = tt
subjects_tellable (Err r) = refusal_from_1 r

abbrev subject_back : SubjectInNumbers → SubjectReply
subject_back w = if eqb w.refusal 0 then written w.length else unwritten w.refusal

subject_back_lem : (r : SubjectReply) → SubjectTellable r → subject_back (host_subject_for r) ≡ r
subject_back_lem (written n) h = refl
subject_back_lem (unwritten n) h = rw (not_zero_lem n h)

pub subject_told : (r s : SubjectReply) → SubjectTellable r → SubjectTellable s → host_subject_for r ≡ host_subject_for s → r ≡ s
subject_told r s h k e = sym (subject_back_lem r h) ∙ ap subject_back e ∙ subject_back_lem s k

-- A reply for a listing. Lines are numbered from 1.
abbrev pub TextTellable : ListingReply → Type 0
TextTellable (produced n) = Unit {0}
TextTellable (refused_with f) = 1 ≤ f
TextTellable (refused_at f n) = (1 ≤ f) × (1 ≤ n)

abbrev text_back : TextInNumbers → ListingReply
text_back t = if eqb t.refusal 0 then produced t.length else if eqb t.line 0 then refused_with t.refusal else refused_at t.refusal t.line

text_back_lem : (r : ListingReply) → TextTellable r → text_back (host_text_for r) ≡ r
text_back_lem (produced n) h = refl
text_back_lem (refused_with f) h = rw (not_zero_lem f h)
text_back_lem (refused_at f n) h = rw (not_zero_lem f h.0, not_zero_lem n h.1)

pub text_told : (r s : ListingReply) → TextTellable r → TextTellable s → host_text_for r ≡ host_text_for s → r ≡ s
text_told r s h k e = sym (text_back_lem r h) ∙ ap text_back e ∙ text_back_lem s k

-- A verdict. Steps are numbered from 1.
abbrev steps : List Step
steps =
    WV1 ∷ WV1 ∷ MSCV1 ∷ MSCV2 ∷ MSCV3 ∷ MSCV4 ∷ MSCV5 ∷ WBCV1 ∷ WBCV2 ∷ WBCV3 ∷ KGCV1 ∷ KGCV2 ∷ ACLV3 ∷ WB1 ∷ WB2 ∷ WB3 ∷ WB6 ∷ RB1 ∷ RB2 ∷ RB3 ∷ KV3 ∷ CSRL1 ∷ []

step_back : {A : Type 0} (s : Step) (other : A) (failed : Step → A) → (if eqb (step_number s) 0 then other else failed (get_or steps (step_number s) WV1)) ≡ failed s
step_back WV1 other failed = refl
step_back MSCV1 other failed = refl
step_back MSCV2 other failed = refl
step_back MSCV3 other failed = refl
step_back MSCV4 other failed = refl
step_back MSCV5 other failed = refl
step_back WBCV1 other failed = refl
step_back WBCV2 other failed = refl
step_back WBCV3 other failed = refl
step_back KGCV1 other failed = refl
step_back KGCV2 other failed = refl
step_back ACLV3 other failed = refl
step_back WB1 other failed = refl
step_back WB2 other failed = refl
step_back WB3 other failed = refl
step_back WB6 other failed = refl
step_back RB1 other failed = refl
step_back RB2 other failed = refl
step_back RB3 other failed = refl
step_back KV3 other failed = refl
step_back CSRL1 other failed = refl

abbrev pub VerdictTellable : DeskReply → Type 0
VerdictTellable (accepting a) = Unit {0}
VerdictTellable (failing s) = Unit {0}
VerdictTellable (refusing n) = 1 ≤ n

pub verdicts_tellable : (v : Verdict) → VerdictTellable (verdict_as v)
verdicts_tellable (Accepted a) = tt
verdicts_tellable (verdicts.Failed s) = tt
verdicts_tellable (verdicts.Refused r) = refusal_from_1 r

abbrev verdict_back : VerdictInNumbers → DeskReply
verdict_back j =
    if eqb j.refusal 0 then
    if eqb j.step 0 then accepting (record { approach = j.approach; protection = j.protection; recoverable = j.recoverable })
    else failing (get_or steps j.step WV1)
    else refusing j.refusal

verdict_back_lem : (r : DeskReply) → VerdictTellable r → verdict_back (host_verdict_for r) ≡ r
verdict_back_lem (accepting a) h = refl
verdict_back_lem (failing s) h = step_back s _ failing
verdict_back_lem (refusing n) h = rw (not_zero_lem n h)

pub verdict_told_lem : (r s : DeskReply) → VerdictTellable r → VerdictTellable s → host_verdict_for r ≡ host_verdict_for s → r ≡ s
verdict_told_lem r s h k e = sym (verdict_back_lem r h) ∙ ap verdict_back e ∙ verdict_back_lem s k

-- A reply of the trimming tool.
abbrev pub TrimTellable : TrimReply → Type 0
TrimTellable (trimmed m n) = Unit {0}
TrimTellable (untrimmed s) = Unit {0}
TrimTellable (unread f) = 1 ≤ f

pub trims_tellable : (t : Result Lengths Untrimmed) → TrimTellable (trim_reply_as t)
trims_tellable (Ok n) = tt
trims_tellable (Err (trims.Failed s)) = tt
trims_tellable (Err (trims.Refused r)) = refusal_from_1 r

abbrev trim_back : TrimInNumbers → TrimReply
trim_back t =
    if eqb t.refusal 0 then
    if eqb t.step 0 then trimmed t.acl t.hints else untrimmed (get_or steps t.step WV1)
    else unread t.refusal

trim_back_lem : (r : TrimReply) → TrimTellable r → trim_back (host_trim_for r) ≡ r
trim_back_lem (trimmed m n) h = refl
trim_back_lem (untrimmed s) h = step_back s _ untrimmed
trim_back_lem (unread f) h = rw (not_zero_lem f h)

pub trim_told : (r s : TrimReply) → TrimTellable r → TrimTellable s → host_trim_for r ≡ host_trim_for s → r ≡ s
trim_told r s h k e = sym (trim_back_lem r h) ∙ ap trim_back e ∙ trim_back_lem s k
