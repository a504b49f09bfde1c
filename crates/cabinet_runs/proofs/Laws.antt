-- A run in a slot by what was read of its row is the run over the row; the slot's test, by the code.
use Prim.Native.Nat.{ℕ, ◌≤◌, ◌<◌}
use mathlib.Core.Path.{◌≡◌, ◌∙◌, ap}
use mathlib.Core.List.{List}
use borrow.Author.Tests.{lt-ltb, le-ltb}
use Rattle.rules.specs.Sizes.{slots_max}
use Rattle.rules.specs.Basics.{Bytes}
use Rattle.rules.specs.Request.{Certificate}
use Rattle.rules.specs.Cabinet.{Cabinet, ledger_at}
use Rattle.rules.specs.Runs.{RunOutcome}
use Rattle.rules.specs.Prepared.{Form}
use Rattle.run_certificates.specs.declared.RowSummary.{RowSummary}
use Rattle.run_certificates.specs.Rows.{Saw}
use Rattle.runs.specs.Judged.{run_seen, prepared_seen}
use Rattle.runs.proofs.Seeing.{run_seen_lem, prepared_seen_lem}
use Rattle.rules.specs.CabinetRuns.{CabinetRan, ran_as_gate, run_in_slot, cabinet_run, cabinet_prepared_run}
use Rattle.cabinet_runs.specs.Handed.{not_run}

pub run_seen_at : (c : Cabinet) (slot : ℕ) (km0 acl : Bytes) (row : List Certificate) (s : RowSummary) (requests buffer : Bytes) → Saw s acl row
    → run_in_slot c slot buffer (run_seen (ledger_at c slot) km0 acl s requests buffer) ≡ cabinet_run c slot km0 acl row requests buffer
unfolding cabinet_run
run_seen_at c slot km0 acl row s requests buffer w = ap (run_in_slot c slot buffer) (run_seen_lem (ledger_at c slot) km0 acl row s requests buffer w)

pub prepared_seen_at : (c : Cabinet) (slot : ℕ) (km0 acl : Bytes) (row : List Certificate) (s : RowSummary) (f : Form) (requests buffer : Bytes) → Saw s acl row
    → run_in_slot c slot buffer (prepared_seen (ledger_at c slot) km0 acl s f requests buffer) ≡ cabinet_prepared_run c slot km0 acl row f requests buffer
unfolding cabinet_prepared_run
prepared_seen_at c slot km0 acl row s f requests buffer w = ap (run_in_slot c slot buffer) (prepared_seen_lem (ledger_at c slot) km0 acl row s f requests buffer w)

-- a slot that is not there, and one that is
pub slot_missing : (c : Cabinet) (slot : ℕ) (buffer : Bytes) (o : RunOutcome) → slots_max ≤ slot → not_run c buffer ≡ run_in_slot c slot buffer o
slot_missing c slot buffer o h = rw (le-ltb slot slots_max h)

pub slot_there : (c : Cabinet) (slot : ℕ) (buffer : Bytes) (o p : RunOutcome) (r : CabinetRan) → slot < slots_max → r ≡ ran_as_gate c slot p → p ≡ o → r ≡ run_in_slot c slot buffer o
slot_there c slot buffer o p r h e q = e ∙ rw (lt-ltb slot slots_max h) (ap (ran_as_gate c slot) q)
