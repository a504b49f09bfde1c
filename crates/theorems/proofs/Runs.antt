-- Runs over decoded certificates: a run not refused whole has the answers and the ledger of asking the gate one by one in order; a run refused whole
-- leaves ledger and buffer. Two wrong products that this rules out: one that stops at the first refusal, and one that writes past the last answer.
use Prim.Native.Nat.{ℕ}
use mathlib.Core.Path.{◌≡◌, refl, ◌∙◌}
use mathlib.Core.List.{List, ◌∷◌, ◌++◌}
use mathlib.Core.Option.{Option, none, some}
use mathlib.Core.Bool.{false}
use lib.ListN.{length, drop}
use Rattle.rules.specs.Sizes.{record_bytes, run_records}
use Rattle.rules.specs.Numbers.{malformed}
use Rattle.rules.specs.Basics.{Bytes, Every, records}
use Rattle.rules.specs.Request.{Certificate, stands_alone, request_record_fault}
use Rattle.rules.specs.Ledger.{Ledger}
use Rattle.rules.specs.Gate.{refuse, refused}
use Rattle.rules.specs.Runs.{Decoded, with_row, ask_gate, Ran, answered_first, asked_in_order, requests_in, run_fault, ran, refused_whole, run_end, run}
use Rattle.rules.specs.Prepared.{Form, prepared_fault, prepared_run}
use Rattle.rules.proofs.Laws.{never}
use Rattle.rules.proofs.Asking.{ask_gate_lem, run_sound}
use Rattle.theorems.specs.Demands.{requesting, outcome}
use Rattle.theorems.proofs.Demand1.{refused_ledger}

-- "The answers and ledger of a run not refused whole equal those of asking one by one in order"; "bytes past the last answer stay"
pub run_one_by_one : (l : Ledger) (km0 acl : Bytes) (row : List Certificate) (requests buffer : Bytes) → run_fault run_records km0 acl row requests buffer ≡ none
    → let o = asked_in_order (ask_gate km0 acl row) l (records requests) in
    ((run l km0 acl row requests buffer).reply ≡ ran (requests_in requests))
    × ((run l km0 acl row requests buffer).ledger ≡ o.ledger)
    × ((run l km0 acl row requests buffer).buffer ≡ o.answers ++ drop (length o.answers) buffer)
unfolding run
run_one_by_one l km0 acl row requests buffer e = rw e (refl, refl, refl)

-- "a refusal in the middle changes nothing and the run goes on"
pub refusal_goes_on : (km0 acl : Bytes) (row : List Certificate) (l : Ledger) (r : Bytes) (rs : List Bytes) (n : ℕ) (near : Option ℕ) → (ask_gate km0 acl row l r).answer ≡ refuse n near
    → asked_in_order (ask_gate km0 acl row) l (r ∷ rs) ≡ answered_first (refuse n near) (asked_in_order (ask_gate km0 acl row) l rs)
unfolding asked_in_order outcome
refusal_goes_on km0 acl row l r rs n near e =
    let q : (ask_gate km0 acl row l r).ledger ≡ l = refused_ledger (record { ledger = l; acl = acl }) (requesting km0 (with_row r row)) n near e in
    rw (e, q)

-- "A malformed request record gets its own answer 2.", in a run not refused whole; one that announces a record of kind 15 is malformed here
pub malformed_answered : (most : ℕ) (km0 acl : Bytes) (row : List Certificate) (requests buffer : Bytes) → Every Decoded row → run_fault most km0 acl row requests buffer ≡ none
    → (l : Ledger) (r : Bytes) → length r ≡ record_bytes → stands_alone r ≡ false → ask_gate km0 acl row l r ≡ refused l malformed
unfolding request_record_fault
malformed_answered most km0 acl row requests buffer d f l r n e = ask_gate_lem km0 acl row (run_sound most km0 acl row requests buffer d f).0 l r n ∙ rw e

-- "with the buffer untouched": what is refused as a whole hands back ledger and buffer as they were
refused_whole_lem : (l : Ledger) (requests buffer : Bytes) (fault : Option ℕ) (o : Ran) (n : ℕ) → (run_end l requests buffer fault o).reply ≡ refused_whole n
    → ((run_end l requests buffer fault o).ledger ≡ l) × ((run_end l requests buffer fault o).buffer ≡ buffer)
refused_whole_lem l requests buffer none o n e = absurd (never (cc))
refused_whole_lem l requests buffer (some f) o n e = (refl, refl)

pub run_refused_lem : (l : Ledger) (km0 acl : Bytes) (row : List Certificate) (requests buffer : Bytes) (n : ℕ) → (run l km0 acl row requests buffer).reply ≡ refused_whole n
    → ((run l km0 acl row requests buffer).ledger ≡ l) × ((run l km0 acl row requests buffer).buffer ≡ buffer)
unfolding run
run_refused_lem l km0 acl row requests buffer n e =
    refused_whole_lem l requests buffer (run_fault run_records km0 acl row requests buffer) (asked_in_order (ask_gate km0 acl row) l (records requests)) n e

pub prepared_refused : (l : Ledger) (km0 acl : Bytes) (row : List Certificate) (f : Form) (requests buffer : Bytes) (n : ℕ) → (prepared_run l km0 acl row f requests buffer).reply ≡ refused_whole n
    → ((prepared_run l km0 acl row f requests buffer).ledger ≡ l) × ((prepared_run l km0 acl row f requests buffer).buffer ≡ buffer)
unfolding prepared_run
prepared_refused l km0 acl row f requests buffer n e =
    refused_whole_lem l requests buffer (prepared_fault km0 acl row f requests buffer) (asked_in_order (ask_gate km0 acl row) l (records requests)) n e
