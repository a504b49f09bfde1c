-- The numbers lose nothing: structs that read the same are the same, and runs and preparations with the same numbers are the same.
use Prim.Native.Nat.{ℕ, ◌≤◌}
use mathlib.Core.Path.{◌≡◌, refl, sym, ◌∙◌, ap, ap₂}
use native.Mathlib.Omega.{arith}
use mathlib.Core.Bool.{false}
use lib.Dec.{eqb}
use borrow.Author.Tests.{ne_eqb}
use Rattle.std.specs.Prelude.{if◌then◌else◌}
use Rattle.rules.specs.Basics.{Bytes}
use Rattle.rules.specs.Runs.{RunReply, ran, refused_whole, RunOutcome}
use Rattle.rules.specs.Prepared.{Preparation, prepared, unprepared}
use Rattle.rules.specs.CabinetRuns.{CabinetRan}
use Rattle.gate.specs.declared.Ledger.{Ledger}
use Rattle.gate.proofs.Determined.{ledger_back}
use Rattle.run_form.proofs.Determined.{form_back}
use Rattle.c_run_answers.specs.declared.HostRunReply.{HostRunReply}
use Rattle.c_run_answers.specs.declared.HostRun.{HostRun}
use Rattle.cabinet.specs.declared.Cabinet.{Cabinet}
use Rattle.cabinet.proofs.Determined.{cabinet_determined}
use Rattle.c_run_answers.specs.declared.HostCabinetRun.{HostCabinetRun}
use Rattle.c_run_answers.specs.declared.HostForm.{HostForm}
use Rattle.c_run_answers.specs.Surface.{run_refusal, run_count, RunInNumbers, host_run_as, host_run_in, host_run_for, CabinetRunInNumbers, host_cabinet_run_as, host_cabinet_run_in, host_cabinet_run_for, FormInNumbers, host_form_as, host_form_for}

-- The structs.
pub host_run_determined : (r s : HostRun) (b c : Bytes) → host_run_as r b ≡ host_run_as s c → (r ≡ s) × (b ≡ c)
host_run_determined r s b c e =
    (ap (λ (t : RunInNumbers). record { refusal = t.refusal; count = t.count; ledger = ledger_back t.ledger }) e, ap (λ (t : RunInNumbers). t.buffer) e)

pub host_cabinet_run_determined : (r s : HostCabinetRun) (b c : Bytes) → host_cabinet_run_as r b ≡ host_cabinet_run_as s c → (r ≡ s) × (b ≡ c)
host_cabinet_run_determined r s b c e = (
  ap₂ (λ (d : Cabinet) (t : CabinetRunInNumbers). record { refusal = t.refusal; count = t.count; cabinet = d })
      (cabinet_determined r.cabinet s.cabinet (ap (λ (t : CabinetRunInNumbers). t.cabinet) e)) e,
  ap (λ (t : CabinetRunInNumbers). t.buffer) e,
)

-- runs in place
pub run_left_determined : (r s : HostRunReply) (l m : Ledger) (b c : Bytes) → host_run_in r l b ≡ host_run_in s m c → (r ≡ s) × (l ≡ m) × (b ≡ c)
run_left_determined r s l m b c e = (
  ap (λ (t : RunInNumbers). record { refusal = t.refusal; count = t.count }) e,
  ap (λ (t : RunInNumbers). ledger_back t.ledger) e,
  ap (λ (t : RunInNumbers). t.buffer) e,
)

pub cabinet_run_left_determined : (r s : HostRunReply) (k j : Cabinet) (b c : Bytes) → host_cabinet_run_in r k b ≡ host_cabinet_run_in s j c → (r ≡ s) × (k ≡ j) × (b ≡ c)
cabinet_run_left_determined r s k j b c e = (
  ap (λ (t : CabinetRunInNumbers). record { refusal = t.refusal; count = t.count }) e,
  cabinet_determined k j (ap (λ (t : CabinetRunInNumbers). t.cabinet) e),
  ap (λ (t : CabinetRunInNumbers). t.buffer) e,
)

pub host_form_determined : (f g : HostForm) → host_form_as f ≡ host_form_as g → f ≡ g
host_form_determined f g e = ap (λ (t : FormInNumbers). record { refusal = t.refusal; form = form_back t.form }) e

-- What the numbers stand for: a run. A refusal has a number from 1.
abbrev pub RunTellable : RunReply → Type 0
RunTellable (ran n) = Unit {0}
RunTellable (refused_whole n) = 1 ≤ n

not_zero_lem : (n : ℕ) → 1 ≤ n → eqb n 0 ≡ false
not_zero_lem n h = ne_eqb n 0 (λ e. omega arith)

abbrev reply_back : ℕ → ℕ → RunReply
reply_back refusal count = if eqb refusal 0 then ran count else refused_whole refusal

reply_back_lem : (r : RunReply) → RunTellable r → reply_back (run_refusal r) (run_count r) ≡ r
reply_back_lem (ran n) h = refl
reply_back_lem (refused_whole n) h = rw (not_zero_lem n h)

abbrev run_back : RunInNumbers → RunOutcome
run_back t = record { reply = reply_back t.refusal t.count; ledger = t.ledger; buffer = t.buffer }

run_back_lem : (o : RunOutcome) → RunTellable o.reply → run_back (host_run_for o) ≡ o
run_back_lem o h = ap (λ (r : RunReply). record { reply = r; ledger = o.ledger; buffer = o.buffer }) (reply_back_lem o.reply h)

pub run_told : (o p : RunOutcome) → RunTellable o.reply → RunTellable p.reply → host_run_for o ≡ host_run_for p → o ≡ p
run_told o p h k e = sym (run_back_lem o h) ∙ ap run_back e ∙ run_back_lem p k

-- A run in a slot of a cabinet.
abbrev cabinet_run_back : CabinetRunInNumbers → CabinetRan
cabinet_run_back t = record { reply = reply_back t.refusal t.count; cabinet = t.cabinet; buffer = t.buffer }

cabinet_run_back_lem : (o : CabinetRan) → RunTellable o.reply → cabinet_run_back (host_cabinet_run_for o) ≡ o
cabinet_run_back_lem o h = ap (λ (r : RunReply). let p : CabinetRan = record { reply = r; cabinet = o.cabinet; buffer = o.buffer } in p) (reply_back_lem o.reply h)

pub cabinet_run_told : (o p : CabinetRan) → RunTellable o.reply → RunTellable p.reply → host_cabinet_run_for o ≡ host_cabinet_run_for p → o ≡ p
cabinet_run_told o p h k e = sym (cabinet_run_back_lem o h) ∙ ap cabinet_run_back e ∙ cabinet_run_back_lem p k

-- A preparation.
abbrev pub FormTellable : Preparation → Type 0
FormTellable (prepared f) = Unit {0}
FormTellable (unprepared n) = 1 ≤ n

abbrev preparation_back : FormInNumbers → Preparation
preparation_back t = if eqb t.refusal 0 then prepared t.form else unprepared t.refusal

preparation_back_lem : (p : Preparation) → FormTellable p → preparation_back (host_form_for p) ≡ p
preparation_back_lem (prepared f) h = refl
preparation_back_lem (unprepared n) h = rw (not_zero_lem n h)

pub preparation_told : (p q : Preparation) → FormTellable p → FormTellable q → host_form_for p ≡ host_form_for q → p ≡ q
preparation_told p q h k e = sym (preparation_back_lem p h) ∙ ap preparation_back e ∙ preparation_back_lem q k
