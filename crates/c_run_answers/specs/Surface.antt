-- Runs and prepared forms in plain numbers, as the code gives them and as the definitions do. "refusal first, 0 where there is none"
use Rattle.std.specs.Prelude.{ℕ, []}
use Rattle.rules.specs.Basics.{Bytes}
use Rattle.rules.specs.Ledger as rules
use Rattle.rules.specs.Runs.{RunReply, ran, refused_whole, RunOutcome}
use Rattle.rules.specs.Prepared.{Form, Preparation, prepared, unprepared, form_of}
use Rattle.rules.specs.Cabinet.{Cabinet}
use Rattle.rules.specs.CabinetRuns.{CabinetRan}
use Rattle.gate.specs.declared.Ledger.{Ledger}
use Rattle.gate.specs.Outcomes.{ledger_as}
use Rattle.cabinet.specs.declared.Cabinet as kept
use Rattle.run_form.specs.Forms.{form_as}
use Rattle.cabinet.specs.Kept.{cabinet_as}
use Rattle.c_run_answers.specs.declared.HostRunReply.{HostRunReply}
use Rattle.c_run_answers.specs.declared.HostRun.{HostRun}
use Rattle.c_run_answers.specs.declared.HostCabinetRun.{HostCabinetRun}
use Rattle.c_run_answers.specs.declared.HostForm.{HostForm}

-- the refusal of a run as a whole
abbrev pub run_refusal : RunReply → ℕ
run_refusal (ran n) = 0
run_refusal (refused_whole n) = n

-- the number of its requests
abbrev pub run_count : RunReply → ℕ
run_count (ran n) = n
run_count (refused_whole n) = 0

-- A run: its answer, the ledger after it, and the answer buffer.
pub record RunInNumbers : Type 0 where
  pub refusal : ℕ
  pub count : ℕ
  pub ledger : rules.Ledger
  pub buffer : Bytes

abbrev pub host_run_as : HostRun → Bytes → RunInNumbers
host_run_as r buffer = record { refusal = r.refusal; count = r.count; ledger = ledger_as r.ledger; buffer = buffer }

-- of a run in place: its answer, and the ledger that it leaves where it was lent
abbrev pub host_run_in : HostRunReply → Ledger → Bytes → RunInNumbers
host_run_in r l buffer = record { refusal = r.refusal; count = r.count; ledger = ledger_as l; buffer = buffer }

abbrev pub host_run_for : RunOutcome → RunInNumbers
host_run_for o = record { refusal = run_refusal o.reply; count = run_count o.reply; ledger = o.ledger; buffer = o.buffer }

-- A run in a slot of a cabinet.
pub record CabinetRunInNumbers : Type 0 where
  pub refusal : ℕ
  pub count : ℕ
  pub cabinet : Cabinet
  pub buffer : Bytes

abbrev pub host_cabinet_run_as : HostCabinetRun → Bytes → CabinetRunInNumbers
host_cabinet_run_as r buffer = record { refusal = r.refusal; count = r.count; cabinet = cabinet_as r.cabinet; buffer = buffer }

-- of a run in place
abbrev pub host_cabinet_run_in : HostRunReply → kept.Cabinet → Bytes → CabinetRunInNumbers
host_cabinet_run_in r c buffer = record { refusal = r.refusal; count = r.count; cabinet = cabinet_as c; buffer = buffer }

abbrev pub host_cabinet_run_for : CabinetRan → CabinetRunInNumbers
host_cabinet_run_for o = record { refusal = run_refusal o.reply; count = run_count o.reply; cabinet = o.cabinet; buffer = o.buffer }

-- A form, or the ACL's refusal and the form of no groups.
pub record FormInNumbers : Type 0 where
  pub refusal : ℕ
  pub form : Form

abbrev pub host_form_as : HostForm → FormInNumbers
host_form_as r = record { refusal = r.refusal; form = form_as r.form }

abbrev pub host_form_for : Preparation → FormInNumbers
host_form_for (prepared f) = record { refusal = 0; form = f }
host_form_for (unprepared n) = record { refusal = n; form = form_of [] }
