-- What a host does with a cabinet: its calls, and runs in its slots. As Steps has it for one key: a run comes to calls, its requests one by one, so that what is
-- said of every sequence of cabinet calls speaks of runs too. The theorems are in proofs/CabinetRuns.antt.
use Rattle.std.specs.Prelude.{ℕ, List, [], ◌∷◌, ◌++◌, map, ltb, if◌then◌else◌}
use Rattle.std.proofs.Math.Option.{Option, none, some}
use Rattle.rules.specs.Sizes.{slots_max, run_records}
use Rattle.rules.specs.Basics.{Bytes, records}
use Rattle.rules.specs.Request.{Certificate}
use Rattle.rules.specs.Runs.{with_row, bytes_of_answer, run_fault}
use Rattle.rules.specs.Prepared.{Form, prepared_fault}
use Rattle.rules.specs.Cabinet.{Cabinet}
use Rattle.rules.specs.CabinetRuns.{cabinet_run, cabinet_prepared_run}
use Rattle.theorems.specs.Cabinets.{CabinetCall, requesting_at, cabinet_outcome, cabinet_after}

-- A step of a host, with what it gives and the ACL that it lends.
pub data CabinetStep : Type 0 where
  calling_cabinet : CabinetCall → CabinetStep
  running_at : ℕ → Bytes → Bytes → List Certificate → Bytes → Bytes → CabinetStep  -- slot, KM0, ACL, row, request records, answer buffer
  running_prepared_at : ℕ → Bytes → Bytes → List Certificate → Form → Bytes → Bytes → CabinetStep  -- slot, KM0, ACL, row, form, request records, answer buffer

-- the cabinet after a step
unfoldable pub cabinet_after_step : Cabinet → CabinetStep → Cabinet
cabinet_after_step c (calling_cabinet x) = cabinet_after c x
cabinet_after_step c (running_at slot km0 acl row requests buffer) = (cabinet_run c slot km0 acl row requests buffer).cabinet
cabinet_after_step c (running_prepared_at slot km0 acl row f requests buffer) = (cabinet_prepared_run c slot km0 acl row f requests buffer).cabinet

-- the cabinet after several steps, the first of them first
unfoldable pub cabinet_after_steps : Cabinet → List CabinetStep → Cabinet
cabinet_after_steps c [] = c
cabinet_after_steps c (x ∷ xs) = cabinet_after_steps (cabinet_after_step c x) xs

-- "asking one by one in order": the requests of a run in a slot, each with the row's certificates
abbrev pub cabinet_requests_of : ℕ → Bytes → Bytes → List Certificate → Bytes → List CabinetCall
cabinet_requests_of slot km0 acl row requests = map (λ r. requesting_at slot km0 acl (with_row r row)) (records requests)

-- the calls of a run, none if it is refused as a whole
abbrev pub cabinet_asked_unless : Option ℕ → List CabinetCall → List CabinetCall
cabinet_asked_unless none xs = xs
cabinet_asked_unless (some n) xs = []

-- none either if there is no such slot
abbrev pub asked_in_slot : ℕ → Option ℕ → List CabinetCall → List CabinetCall
asked_in_slot slot fault xs = if ltb slot slots_max then cabinet_asked_unless fault xs else []

-- the calls that a step comes to
abbrev pub cabinet_calls_by : CabinetStep → List CabinetCall
cabinet_calls_by (calling_cabinet x) = x ∷ []
cabinet_calls_by (running_at slot km0 acl row requests buffer) =
    asked_in_slot slot (run_fault run_records km0 acl row requests buffer) (cabinet_requests_of slot km0 acl row requests)
cabinet_calls_by (running_prepared_at slot km0 acl row f requests buffer) =
    asked_in_slot slot (prepared_fault km0 acl row f requests buffer) (cabinet_requests_of slot km0 acl row requests)

-- the calls that several steps make; a cabinet call has the ACL that it is lent, so that this depends on the steps alone
unfoldable pub cabinet_calls_in : List CabinetStep → List CabinetCall
cabinet_calls_in [] = []
cabinet_calls_in (x ∷ xs) = cabinet_calls_by x ++ cabinet_calls_in xs

-- the answers of a sequence of calls, eight bytes each
unfoldable pub cabinet_answers : Cabinet → List CabinetCall → Bytes
cabinet_answers c [] = []
cabinet_answers c (x ∷ xs) = bytes_of_answer (cabinet_outcome c x).answer ++ cabinet_answers (cabinet_after c x) xs
