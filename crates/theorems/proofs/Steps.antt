-- Runs among calls. A host's steps, calls and runs in any order, come to calls: the same ledger, the same ACL in force, the same answers. So what is said of
-- every sequence of calls is said of runs: demand 3, the counters of demand 2, and request m. Two wrong products that this rules out: a run that permits what
-- the gate refuses, and one that is not counted.
use Prim.Native.Nat.{ℕ, ◌<◌}
use mathlib.Core.Path.{◌≡◌, refl, sym, ◌∙◌, ap}
use mathlib.Core.List.{List, [], ◌∷◌, ◌++◌, map}
use mathlib.Core.Option.{Option, none, some}
use mathlib.Core.Bool.{false}
use lib.ListN.{length, get_or, drop}
use Rattle.rules.specs.Sizes.{counters_max, run_records}
use Rattle.rules.specs.Basics.{Bytes, Every, records}
use Rattle.rules.specs.Acl.{acl_of}
use Rattle.rules.specs.Request.{Certificate}
use Rattle.rules.specs.Ledger.{Ledger, fresh_ledger}
use Rattle.rules.specs.Gate.{Answer, done, permit, refuse, load}
use Rattle.rules.specs.Desk.{Grade, approach2, accepted, desk}
use Rattle.rules.specs.Runs.{with_row, ask_gate, bytes_of_answer, asked_in_order, run_fault, run_end, run}
use Rattle.rules.specs.Prepared.{Form, prepared_fault, prepared_run}
use Rattle.theorems.specs.Demands.{Call, requesting, State, outcome, in_force, after, after_all, EveryPermit, wanted_in, officer_signed, Allowed, tally, lent_in_force}
use Rattle.theorems.specs.Account.{AllPutDown, is_expansion}
use Rattle.theorems.specs.Steps.{HostStep, calling, running, running_prepared, after_step, after_steps, requests_of, asked_unless, calls_by, calls_in, answers_to}
use Rattle.theorems.proofs.Counters.{counters_count}
use Rattle.theorems.proofs.Demand3.{demand_3}
use Rattle.theorems.proofs.Uses.{narrowing_never_buys_uses}

-- calls after calls
after_append : (s : State) (cs ds : List Call) → after_all s (cs ++ ds) ≡ after_all (after_all s cs) ds
unfolding after_all
after_append s [] ds = refl
after_append s (c ∷ cs) ds = after_append (after s c) cs ds

-- a request leaves the ACL in force
same_force : (acl : Bytes) (a : Answer) → in_force acl acl a ≡ acl
same_force acl done = refl
same_force acl (permit place) = refl
same_force acl (refuse f near) = refl

module _ (km0 acl : Bytes) (row : List Certificate) where
  abbrev call_of : Bytes → Call
  call_of r = requesting km0 (with_row r row)

  abbrev over : Ledger → State
  over l = record { ledger = l; acl = acl }

  -- the requests of a run, asked one by one, are these calls
  asked_calls : (l : Ledger) (rs : List Bytes)
      → (after_all (over l) (map call_of rs) ≡ over (asked_in_order (ask_gate km0 acl row) l rs).ledger)
      × (answers_to (over l) (map call_of rs) ≡ (asked_in_order (ask_gate km0 acl row) l rs).answers)
  unfolding after_all after asked_in_order outcome answers_to
  asked_calls l [] = (refl, refl)
  asked_calls l (r ∷ rs) =
      let o = ask_gate km0 acl row l r in
      let i = asked_calls o.ledger rs in
      let e = same_force acl o.answer in (
        ap (λ (x : Bytes). after_all (record { ledger = o.ledger; acl = x }) (map call_of rs)) e ∙ i.0,
        ap (λ (x : Bytes). bytes_of_answer o.answer ++ answers_to (record { ledger = o.ledger; acl = x }) (map call_of rs)) e
            ∙ ap (λ (b : Bytes). bytes_of_answer o.answer ++ b) i.1,
      )

  -- a run by its fault, with the answers over the buffer
  ended : (l : Ledger) (requests buffer : Bytes) (f : Option ℕ)
      → let o = run_end l requests buffer f (asked_in_order (ask_gate km0 acl row) l (records requests)) in
      let cs = asked_unless f (requests_of km0 row requests) in
      (over o.ledger ≡ after_all (over l) cs) × (o.buffer ≡ answers_to (over l) cs ++ drop (length (answers_to (over l) cs)) buffer)
  unfolding after_all answers_to
  ended l requests buffer (some f) = (refl, refl)
  ended l requests buffer none =
      let a = asked_calls l (records requests) in
      (sym a.0, ap (λ (b : Bytes). b ++ drop (length b) buffer) (sym a.1))

-- A step is the calls that it comes to.
step_calls : (s : State) (x : HostStep) → after_step s x ≡ after_all s (calls_by s x)
unfolding after_step run prepared_run after_all
step_calls s (calling c) = refl
step_calls s (running km0 row requests buffer) = (ended km0 s.acl row s.ledger requests buffer (run_fault run_records km0 s.acl row requests buffer)).0
step_calls s (running_prepared km0 row f requests buffer) = (ended km0 s.acl row s.ledger requests buffer (prepared_fault km0 s.acl row f requests buffer)).0

pub steps_as_calls : (s : State) (xs : List HostStep) → after_steps s xs ≡ after_all s (calls_in s xs)
unfolding after_steps calls_in after_all
steps_as_calls s [] = refl
steps_as_calls s (x ∷ xs) =
    steps_as_calls (after_step s x) xs ∙ ap (λ (t : State). after_all t (calls_in (after_step s x) xs)) (step_calls s x) ∙ sym (after_append s (calls_by s x) (calls_in (after_step s x) xs))

-- The answer buffer of a run has the answers of the calls that it comes to, and past them what it had; of one refused as a whole, what it had.
pub run_answers : (s : State) (km0 : Bytes) (row : List Certificate) (requests buffer : Bytes)
    → let answers = answers_to s (calls_by s (running km0 row requests buffer)) in
    (run s.ledger km0 s.acl row requests buffer).buffer ≡ answers ++ drop (length answers) buffer
unfolding run
run_answers s km0 row requests buffer = (ended km0 s.acl row s.ledger requests buffer (run_fault run_records km0 s.acl row requests buffer)).1

pub prepared_answers : (s : State) (km0 : Bytes) (row : List Certificate) (f : Form) (requests buffer : Bytes)
    → let answers = answers_to s (calls_by s (running_prepared km0 row f requests buffer)) in
    (prepared_run s.ledger km0 s.acl row f requests buffer).buffer ≡ answers ++ drop (length answers) buffer
unfolding prepared_run
prepared_answers s km0 row f requests buffer = (ended km0 s.acl row s.ledger requests buffer (prepared_fault km0 s.acl row f requests buffer)).1

-- Demand 3, with runs among the calls: of the calls that the steps come to, none of which presents a certificate by the officer's key or a chain that starts
-- there, every one that is permitted is allowed by the verdict.
pub demand_3_steps : (bundle acl : Bytes) (verdict : Grade) → desk bundle acl ≡ accepted (approach2 verdict)
    → (ledger : Ledger) (steps : List HostStep)
    → let start : State = record { ledger = ledger; acl = acl } in
    Every (λ c. officer_signed (records bundle) c ≡ false) (calls_in start steps)
    → EveryPermit (λ s c. Allowed (records bundle) verdict (wanted_in c)) start (calls_in start steps)
demand_3_steps bundle acl verdict e ledger steps d = demand_3 bundle acl verdict e ledger (calls_in (record { ledger = ledger; acl = acl }) steps) d

-- Demand 2, the counters, with runs among the calls.
pub counters_count_steps : (acl : Bytes) (steps : List HostStep) (counter : ℕ) → counter < counters_max
    → let start : State = record { ledger = fresh_ledger; acl = acl } in
    get_or (after_steps start steps).ledger.counters counter 0 ≡ tally counter fresh_ledger 0 (lent_in_force start (calls_in start steps))
counters_count_steps acl steps counter b =
    let start : State = record { ledger = fresh_ledger; acl = acl } in
    ap (λ (s : State). get_or s.ledger.counters counter 0) (steps_as_calls start steps) ∙ counters_count acl (calls_in start steps) counter b

-- Request m, with runs among the calls.
pub never_buys_uses_steps : (ledger : Ledger) (time : ℕ) (acl : Bytes) (steps : List HostStep)
    → let start : State = record { ledger = (load ledger time).ledger; acl = acl } in
    EveryPermit (λ s c. is_expansion c ≡ false) start (calls_in start steps) → AllPutDown (acl_of acl) (load ledger time).ledger start (calls_in start steps)
never_buys_uses_steps ledger time acl steps d =
    narrowing_never_buys_uses ledger time acl (calls_in (record { ledger = (load ledger time).ledger; acl = acl }) steps) d
