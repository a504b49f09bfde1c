-- The letters of a replay script (docs/REPLAY.md) that run many requests, by their numbers, and the definition that each stands for.
use Rattle.std.specs.Prelude.{ℕ, zero, suc, ◌*◌, List, [], ◌∷◌, ◌++◌, eqb, if◌then◌else◌}
use Rattle.rules.specs.Sizes.{permissions_max}
use Rattle.rules.specs.Basics.{Bytes, number}
use Rattle.rules.specs.Ledger.{Ledger}
use Rattle.rules.specs.Runs.{RunOutcome, run}
use Rattle.rules.specs.Prepared.{Form, prepared_run}
use Rattle.rules.specs.Cabinet.{Cabinet}
use Rattle.rules.specs.CabinetRuns.{CabinetRan, cabinet_run, cabinet_prepared_run}
use Rattle.replay_rows.specs.Given.{row_given}

-- the sets of the first n permissions
unfoldable pub uses_given : Bytes → ℕ → List ℕ
uses_given s zero = []
uses_given s (suc n) = uses_given s n ++ (number (n * 8) 8 s ∷ [])

-- "for the permissions 0 to 15, for working blobs and for recovery blobs"
abbrev pub form_given : Bytes → Form
form_given s = record { uses = uses_given s permissions_max; working = number 128 8 s; recovery = number 136 8 s }

-- B and Q: a run, and one on a prepared ACL
unfoldable pub run_answer : Ledger → ℕ → Bytes → Bytes → Bytes → Bytes → Bytes → Bytes → RunOutcome
run_answer l letter form km0 acl row requests answers =
    if eqb letter 66 then run l km0 acl (row_given row) requests answers
    else prepared_run l km0 acl (row_given row) (form_given form) requests answers

-- b and q: the same in a slot of the cabinet
unfoldable pub slot_run_answer : Cabinet → ℕ → ℕ → Bytes → Bytes → Bytes → Bytes → Bytes → Bytes → CabinetRan
slot_run_answer c letter slot form km0 acl row requests answers =
    if eqb letter 98 then cabinet_run c slot km0 acl (row_given row) requests answers
    else cabinet_prepared_run c slot km0 acl (row_given row) (form_given form) requests answers
