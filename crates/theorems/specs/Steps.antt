-- What a host does with a key: calls of the gate, and runs (document 02, requests j and k). A run comes to calls, its requests one by one, so that demand 3,
-- the counter sentence of demand 2 and request m speak of runs too. The theorems are in proofs/Steps.antt.
use Rattle.std.specs.Prelude.{ℕ, List, [], ◌∷◌, ◌++◌, map}
use Rattle.std.proofs.Math.Option.{Option, none, some}
use Rattle.rules.specs.Sizes.{run_records}
use Rattle.rules.specs.Basics.{Bytes, records}
use Rattle.rules.specs.Request.{Certificate}
use Rattle.rules.specs.Runs.{with_row, bytes_of_answer, run_fault, run}
use Rattle.rules.specs.Prepared.{Form, prepared_fault, prepared_run}
use Rattle.theorems.specs.Demands.{Call, requesting, State, outcome, after}

-- A step of a host, with what it gives; the ledger last handed back and the ACL in force go with it.
pub data HostStep : Type 0 where
  calling : Call → HostStep
  running : Bytes → List Certificate → Bytes → Bytes → HostStep  -- KM0, row of certificates, request records, answer buffer
  running_prepared : Bytes → List Certificate → Form → Bytes → Bytes → HostStep  -- KM0, row of certificates, form, request records, answer buffer

-- the state after a step; a run replaces no ACL
unfoldable pub after_step : State → HostStep → State
after_step s (calling c) = after s c
after_step s (running km0 row requests buffer) = record { ledger = (run s.ledger km0 s.acl row requests buffer).ledger; acl = s.acl }
after_step s (running_prepared km0 row f requests buffer) =
    record { ledger = (prepared_run s.ledger km0 s.acl row f requests buffer).ledger; acl = s.acl }

-- the state after several steps, the first of them first
unfoldable pub after_steps : State → List HostStep → State
after_steps s [] = s
after_steps s (x ∷ xs) = after_steps (after_step s x) xs

-- "asking one by one in order": the requests of a run as calls, each with the row's certificates
abbrev pub requests_of : Bytes → List Certificate → Bytes → List Call
requests_of km0 row requests = map (λ r. requesting km0 (with_row r row)) (records requests)

-- the calls of a run, none if it is refused as a whole, "before any request is judged"
abbrev pub asked_unless : Option ℕ → List Call → List Call
asked_unless none cs = cs
asked_unless (some n) cs = []

-- the calls that a step comes to
abbrev pub calls_by : State → HostStep → List Call
calls_by s (calling c) = c ∷ []
calls_by s (running km0 row requests buffer) = asked_unless (run_fault run_records km0 s.acl row requests buffer) (requests_of km0 row requests)
calls_by s (running_prepared km0 row f requests buffer) =
    asked_unless (prepared_fault km0 s.acl row f requests buffer) (requests_of km0 row requests)

-- the calls that several steps make
unfoldable pub calls_in : State → List HostStep → List Call
calls_in s [] = []
calls_in s (x ∷ xs) = calls_by s x ++ calls_in (after_step s x) xs

-- the answers of calls, eight bytes each, one after the other
unfoldable pub answers_to : State → List Call → Bytes
answers_to s [] = []
answers_to s (c ∷ cs) = bytes_of_answer (outcome s c).answer ++ answers_to (after s c) cs
