-- Runs in a slot of the cabinet: document 02, request k, "The cabinet rereads up to 86,016 bytes for each request."
use Rattle.std.specs.Prelude.{ℕ, List, ltb, if◌then◌else◌}
use Rattle.rules.specs.Sizes.{slots_max}
use Rattle.rules.specs.Numbers.{no_slot}
use Rattle.rules.specs.Basics.{Bytes}
use Rattle.rules.specs.Request.{Certificate}
use Rattle.rules.specs.Runs.{RunReply, refused_whole, RunOutcome, run}
use Rattle.rules.specs.Prepared.{Form, prepared_run}
use Rattle.rules.specs.Cabinet.{Cabinet, ledger_at, put_back}

-- The reply of a run in a slot, the cabinet and the answer buffer afterwards.
pub record CabinetRan : Type 0 where
  pub reply : RunReply
  pub cabinet : Cabinet
  pub buffer : Bytes

-- the gate's own run, with the slot and the counters of the ledger that it returns
abbrev pub ran_as_gate : Cabinet → ℕ → RunOutcome → CabinetRan
ran_as_gate c slot o = record { reply = o.reply; cabinet = put_back c slot o.ledger; buffer = o.buffer }

-- "Slot numbers over 7 get a new refusal, 13, first of all.": cabinet and buffer as they were
abbrev pub run_in_slot : Cabinet → ℕ → Bytes → RunOutcome → CabinetRan
run_in_slot c slot buffer o = if ltb slot slots_max then ran_as_gate c slot o else record { reply = refused_whole no_slot; cabinet = c; buffer = buffer }

-- A run: cabinet, slot, KM0, ACL, row of certificates, request records, answer buffer.
unfoldable pub cabinet_run : Cabinet → ℕ → Bytes → Bytes → List Certificate → Bytes → Bytes → CabinetRan
cabinet_run c slot km0 acl row requests buffer = run_in_slot c slot buffer (run (ledger_at c slot) km0 acl row requests buffer)

-- A run on a prepared ACL: the form besides, before the request records.
unfoldable pub cabinet_prepared_run : Cabinet → ℕ → Bytes → Bytes → List Certificate → Form → Bytes → Bytes → CabinetRan
cabinet_prepared_run c slot km0 acl row f requests buffer = run_in_slot c slot buffer (prepared_run (ledger_at c slot) km0 acl row f requests buffer)
