-- From a judgement to the outcome: the group that grants is charged; a denial keeps the ledger.
use Prim.Native.Nat.{ℕ}
use mathlib.Core.Path.{◌≡◌, refl, sym, ◌∙◌, ap}
use mathlib.Core.List.{List}
use mathlib.Core.Option.{Option, none, some}
use mathlib.Core.Bool.{Bool, true, false}
use lib.ListN.{drop}
use Rattle.std.specs.Prelude.{Result, Ok, Err}
use Rattle.rules.specs.Basics.{Bytes, records}
use Rattle.rules.specs.Acl.{Limit, Group, acl_of, acl_fault}
use Rattle.rules.specs.Request.{Request, request_of}
use Rattle.rules.specs.Ledger.{Ledger, charge}
use Rattle.rules.specs.Gate.{Answer, done, permit, refuse, Outcome, Denial, early, unadmitted, uncertified, exhausted, Judgement, granted, denied, judge, refused_near, refused, settle, outcome_unless, request_files, request}
use Rattle.rules.proofs.Laws.{never}
use Rattle.acl_groups.specs.Parts.{first_limits}
use Rattle.refusals.specs.declared.Denial as code
use Rattle.refusals.specs.declared.Refusal.{Refusal}
use Rattle.refusals.specs.Refusals.{refusal_number, denial_number, denial_group}
use Rattle.files.specs.Faults.{fault_as}
use Rattle.request_reader.specs.Parts.{Sound}
use Rattle.gate_decision.specs.Standings.{denial_for, judged_for}
use Rattle.gate_charge.specs.Charges.{permit_if, decided, counters_charged, counts_charged, last_after}
use Rattle.gate_charge.proofs.Granting.{granted_limits, counters_room, count_room_for}
use Rattle.gate_files.proofs.Passed.{files_sound, no_fault, a_fault}
use Rattle.gate.specs.Outcomes.{charged_with, charged_by, permitted_if, outcome_with, Settles}

-- The group that grants is charged by the limits at its index.
module _ (l : Ledger) (km0 : Bytes) (gs : List Group) (q : Request) where
  pub settle_granted : (on_permit : ℕ → Ledger → Outcome) (k time : ℕ) (o : Outcome) (ms : List Limit) → Ok k ≡ judged_for (judge l km0 gs q) → ms ≡ first_limits (drop k gs) → time ≡ q.time
      → o ≡ on_permit k (charged_with l k ms time) → o ≡ settle l q.time on_permit (judge l km0 gs q)
  unfolding charge
  settle_granted on_permit k time o ms e m t p =
      let r = granted_limits l km0 gs q k e in
      p ∙ rw (m ∙ r.2, t, r.1)

-- the ledger's last time is that of the answer
pub settled_is : (a : Answer) (counts counters : List ℕ) (loaded last time when n : ℕ) (s : Outcome) → n ≡ last_after a last when → when ≡ time
    → outcome_with a counts counters loaded last time ≡ s
    → record { answer = a; ledger = record { counts = counts; counters = counters; loaded = loaded; last = n } } ≡ s
settled_is a counts counters loaded last time when n s e w p =
    ap (λ (x : ℕ). record { answer = a; ledger = record { counts = counts; counters = counters; loaded = loaded; last = x } }) (e ∙ ap (last_after a last) w) ∙ p

-- A denial keeps the ledger, and is refused with its number and the group that it carries.
module _ (l : Ledger) (time : ℕ) (on_permit : ℕ → Ledger → Outcome) where
  denial_kept : (x : Denial) (d : code.Denial) → d ≡ denial_for x → refused_near l (denial_number d) (denial_group d) ≡ settle l time on_permit (denied x)
  denial_kept early d e = rw e
  denial_kept unadmitted d e = rw e
  denial_kept (uncertified k g) d e = rw e
  denial_kept (exhausted k g) d e = rw e

  denied_kept : (j : Judgement) (d : code.Denial) → Err d ≡ judged_for j → refused_near l (denial_number d) (denial_group d) ≡ settle l time on_permit j
  denied_kept (granted k g) d e = absurd (never (cc))
  denied_kept (denied x) d e = let q : d ≡ denial_for x = cc in denial_kept x d q

pub settle_denied : (l : Ledger) (km0 : Bytes) (gs : List Group) (q : Request) (on_permit : ℕ → Ledger → Outcome) (d : code.Denial) (o : Outcome)
    → Err d ≡ judged_for (judge l km0 gs q) → o ≡ refused_near l (denial_number d) (denial_group d) → o ≡ settle l q.time on_permit (judge l km0 gs q)
settle_denied l km0 gs q on_permit d o e p = p ∙ denied_kept l q.time on_permit (judge l km0 gs q) d e

-- The tables charged by the answer are those of the outcome.
module _ (l : Ledger) (km0 : Bytes) (gs : List Group) (q : Request) (shown : Bool) where
  charged_is : (j : Result ℕ code.Denial) → j ≡ judged_for (judge l km0 gs q)
      → outcome_with (decided shown j) (counts_charged (decided shown j) l.counts) (counters_charged gs (decided shown j) l.counters) l.loaded l.last q.time
      ≡ settle l q.time (permitted_if l shown) (judge l km0 gs q)
  unfolding permit_if permitted_if
  charged_is (Ok k) e = settle_granted l km0 gs q (permitted_if l shown) k q.time _ (first_limits (drop k gs)) e refl refl (pick shown)
    where
      pick : (b : Bool) → outcome_with (permit_if b k) (counts_charged (permit_if b k) l.counts) (counters_charged gs (permit_if b k) l.counters) l.loaded l.last q.time
          ≡ permitted_if l b k (charged_with l k (first_limits (drop k gs)) q.time)
      pick true = refl
      pick false = refl
  charged_is (Err d) e = settle_denied l km0 gs q (permitted_if l shown) d _ e refl

  pub settled_by : (j : Result ℕ code.Denial) (a : Answer) (counts counters : List ℕ) → j ≡ judged_for (judge l km0 gs q) → a ≡ decided shown j
      → counters ≡ counters_charged gs a l.counters → counts ≡ counts_charged a l.counts
      → outcome_with a counts counters l.loaded l.last q.time ≡ settle l q.time (permitted_if l shown) (judge l km0 gs q)
  settled_by j a counts counters e d f g = rw (f, g, d) (charged_is j e)

-- A call whose files have a fault is refused with it; else its outcome is made of the judgement.
module _ (l : Ledger) (fault : Option ℕ) (o s : Outcome) where
  pub refused_by : (n : ℕ) → fault ≡ some n → o ≡ refused l n → o ≡ outcome_unless l fault s
  refused_by n e p = p ∙ sym (rw e)

  pub not_refused : fault ≡ none → o ≡ s → o ≡ outcome_unless l fault s
  not_refused e p = p ∙ sym (rw e)

-- A refusal of what was given settles a call: nothing is charged.
pub settles_refused : (l : Ledger) (gs : List Group) (time : ℕ) (after : Answer → List ℕ → List ℕ) (o : Outcome) (n : ℕ) → after (refuse n none) l.counts ≡ l.counts → refused l n ≡ o
    → Settles l gs time after (refuse n none) o
settles_refused l gs time after o n k e =
    record {
      counters_room = λ place p. absurd (never (cc));
      count_room = λ place p. absurd (never (cc));
      settled = ap (λ (c : List ℕ). outcome_with (refuse n none) c l.counters l.loaded l.last time) k ∙ e;
    }

-- The outcome of a judgement settles a call on an ACL without fault, where the tables charged by it are the outcome's.
pub settles_judged : (l : Ledger) (km0 acl : Bytes) (q : Request) (shown : Bool) (j : Result ℕ code.Denial) (a : Answer) (after : Answer → List ℕ → List ℕ) (o : Outcome) → acl_fault (records acl) ≡ none
    → j ≡ judged_for (judge l km0 (acl_of acl) q) → a ≡ decided shown j → outcome_with a (after a l.counts) (counters_charged (acl_of acl) a l.counters) l.loaded l.last q.time ≡ o
    → Settles l (acl_of acl) q.time after a o
settles_judged l km0 acl q shown j a after o sound e d p =
    record {
      counters_room = counters_room l km0 acl q shown j a sound e d;
      count_room = count_room_for l km0 acl q shown j a sound e d;
      settled = p;
    }

-- A request: its files have a fault, or it is judged.
module _ (km0 acl req : Bytes) (x : Result (Unit {0}) Refusal) (e : fault_as x ≡ request_files km0 acl req) where
  pub request_sound : x ≡ Ok tt → Sound req
  request_sound p = (files_sound km0 acl req (no_fault _ x e tt p)).0

  pub request_refused : (l : Ledger) (why : Refusal) → x ≡ Err why
      → Settles l (acl_of acl) (request_of req).time counts_charged (refuse (refusal_number why) none) (request l km0 acl req)
  unfolding request
  request_refused l why p =
      settles_refused l (acl_of acl) (request_of req).time counts_charged (request l km0 acl req) (refusal_number why) refl
      (refused_by l (request_files km0 acl req) _ _ (refusal_number why) (a_fault _ x e why p) refl)

  pub request_judged : (l : Ledger) (j : Result ℕ code.Denial) (a : Answer) → x ≡ Ok tt → j ≡ judged_for (judge l km0 (acl_of acl) (request_of req)) → a ≡ decided true j
      → Settles l (acl_of acl) (request_of req).time counts_charged a (request l km0 acl req)
  unfolding request permitted_if
  request_judged l j a p f d =
      let n = no_fault _ x e tt p in
      settles_judged l km0 acl (request_of req) true j a counts_charged (request l km0 acl req) (files_sound km0 acl req n).1 f d
      (not_refused l (request_files km0 acl req) _ _ n (settled_by l km0 (acl_of acl) (request_of req) true j a _ _ f d refl refl))

-- A charge, table by table, is that of the answer.
charged_by_lem : (l : Ledger) (gs : List Group) (time : ℕ) (a : Answer) → outcome_with a (counts_charged a l.counts) (counters_charged gs a l.counters) l.loaded l.last time ≡ charged_by l gs time a
charged_by_lem l gs time done = refl
charged_by_lem l gs time (permit k) = refl
charged_by_lem l gs time (refuse n near) = refl

pub tables_charged : (l : Ledger) (gs : List Group) (time : ℕ) (a : Answer) (counts counters : List ℕ) (n : ℕ) → counters ≡ counters_charged gs a l.counters → counts ≡ counts_charged a l.counts
    → n ≡ last_after a l.last time
    → record { answer = a; ledger = record { counts = counts; counters = counters; loaded = l.loaded; last = n } } ≡ charged_by l gs time a
tables_charged l gs time a counts counters n f g e = rw (f, g) (settled_is a _ _ l.loaded l.last time time n (charged_by l gs time a) e refl (charged_by_lem l gs time a))

-- A request that is settled is charged by its answer.
pub settles_charged : (l : Ledger) (gs : List Group) (time : ℕ) (a : Answer) (o r : Outcome) (when : ℕ) → Settles l gs time counts_charged a o → when ≡ time → r ≡ charged_by l gs when a → r ≡ o
settles_charged l gs time a o r when s w e = e ∙ rw w (sym (charged_by_lem l gs time a) ∙ s.settled)

-- The tables that a settled call leaves, and its last time, are the outcome's.
pub settles_outcome : (l : Ledger) (gs : List Group) (time : ℕ) (after : Answer → List ℕ → List ℕ) (a : Answer) (o : Outcome) (counts counters : List ℕ) (when n : ℕ) → Settles l gs time after a o
    → counters ≡ counters_charged gs a l.counters → counts ≡ after a l.counts → n ≡ last_after a l.last when → when ≡ time
    → record { answer = a; ledger = record { counts = counts; counters = counters; loaded = l.loaded; last = n } } ≡ o
settles_outcome l gs time after a o counts counters when n s f g e w = rw (f, g) (settled_is a _ _ l.loaded l.last time when n o e w s.settled)
