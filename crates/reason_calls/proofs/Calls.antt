-- What the place of a call says: its refusal is the one of the call, with the group that it names; a limit that is named is spent, and every limit
-- before it is not; where none is, the group's own count is full.
use Prim.Native.Nat.{ℕ}
use mathlib.Core.Path.{◌≡◌, refl, ap}
use mathlib.Core.List.{List}
use mathlib.Core.Option.{Option, none, some}
use mathlib.Core.Bool.{Bool, true, false, ◌&&◌}
use lib.Dec.{ltb}
use Rattle.rules.specs.Sizes.{full_count}
use Rattle.rules.specs.Numbers.{not_narrower}
use Rattle.std.specs.Prelude.{if◌then◌else◌}
use Rattle.rules.specs.Basics.{Bytes}
use Rattle.rules.specs.Acl.{Limit, acl_of}
use Rattle.rules.specs.Request.{Request, request_of, hints_of}
use Rattle.rules.specs.Ledger.{Ledger, charge}
use Rattle.rules.specs.Grant.{limit_left, unspent_with}
use Rattle.rules.specs.Gate.{Answer, done, permit, refuse, Outcome, Judgement, granted, denied, judge, outcome_unless, settle, permitted, narrowed, expanded, request, narrow, expand, request_files, narrow_files, expand_files}
use Rattle.rules.proofs.Laws.{never}
use Rattle.reason_files.specs.Places.{Place, sound, at_length, at_record, at_end, place_refusal}
use Rattle.reason_inputs.specs.Inputs.{InputPlace, is_fault, inputs_place, request_inputs, narrow_inputs, expand_inputs}
use Rattle.reason_inputs.proofs.Inputs.{request_refusal, narrow_refusal, expand_refusal}
use Rattle.reason_limits.specs.Limits.{first_failing, spent_limit, spent_with}
use Rattle.reason_limits.specs.declared.SpentBy.TheVariants as by
use Rattle.reason_limits.proofs.First.{FirstFailing, failing_is_first, none_failing}
use Rattle.reason_narrowing.specs.Breaches.{narrowing_of}
use Rattle.reason_narrowing.specs.declared.Narrowing.{Narrowing}
use Rattle.reason_narrowing.specs.declared.Narrowing.TheVariants.{Shown, Broken}
use Rattle.reason_narrowing.proofs.Shown.{shown_narrows, broken_narrows_not}
use Rattle.reason_calls.specs.Calls.{CallPlace, bad_input, denial, not_shown, judged_place, input_or, narrowing_place, locate_request, locate_narrow, locate_expand}
use Rattle.reason_calls.specs.Calls as calls

-- a refusal with the group that it names
pub record Refused : Type 0 where
  pub number : ℕ
  pub near : Option ℕ

-- of an answer of the gate; a permit has none
abbrev pub answer_refused : Answer → Option Refused
answer_refused done = none
answer_refused (permit k) = none
answer_refused (refuse n near) = some (record { number = n; near = near })

-- of a place
abbrev pub bare_refused : Option ℕ → Option Refused
bare_refused none = none
bare_refused (some n) = some (record { number = n; near = none })

abbrev pub place_refused : CallPlace → Option Refused
place_refused calls.permitted = none
place_refused (bad_input i p) = bare_refused (place_refusal p)
place_refused (denial n near s) = some (record { number = n; near = near })
place_refused (not_shown i b) = bare_refused (some not_narrower)

-- the inputs, then what comes after them
inputs_refused : (l : Ledger) (p : InputPlace) (files : Option ℕ) (next : CallPlace) (o : Outcome) → place_refusal p.place ≡ files → answer_refused o.answer ≡ place_refused next
    → answer_refused (outcome_unless l files o).answer ≡ place_refused (input_or p next)
inputs_refused l p files next o e d = rw (← e) (pick p.place refl)
  where
    pick : (q : Place) → p.place ≡ q → answer_refused (outcome_unless l (place_refusal q) o).answer ≡ place_refused (if is_fault q then bad_input p.input p.place else next)
    pick sound f = d
    pick at_length f = rw f
    pick (at_record n i) f = rw f
    pick (at_end n i) f = rw f

-- a judgement, where a grant is the same on both sides
judged_refused : (l : Ledger) (q : Request) (time : ℕ) (on_permit : ℕ → Ledger → Outcome) (place : CallPlace) (j : Judgement) → ((k : ℕ) (charged : Ledger) → answer_refused (on_permit k charged).answer ≡ place_refused place)
    → answer_refused (settle l time on_permit j).answer ≡ place_refused (judged_place l q place j)
judged_refused l q time on_permit place (granted k g) f = f k (charge l k g time)
judged_refused l q time on_permit place (denied d) f = refl

-- The refusal is the one of the call.
pub request_same : (l : Ledger) (km0 acl req : Bytes) → answer_refused (request l km0 acl req).answer ≡ place_refused (locate_request l km0 acl req)
unfolding request locate_request
request_same l km0 acl req =
    inputs_refused l (inputs_place (request_inputs km0 acl req)) (request_files km0 acl req) _ _ (request_refusal km0 acl req)
    (judged_refused l (request_of req) (request_of req).time permitted calls.permitted (judge l km0 (acl_of acl) (request_of req)) (λ k charged. refl))

pub expand_same : (l : Ledger) (km0 acl req new : Bytes) → answer_refused (expand l km0 acl req new).answer ≡ place_refused (locate_expand l km0 acl req new)
unfolding expand locate_expand
expand_same l km0 acl req new =
    inputs_refused l (inputs_place (expand_inputs km0 acl req new)) (expand_files km0 acl req new) _ _ (expand_refusal km0 acl req new)
    (judged_refused l (request_of req) (request_of req).time expanded calls.permitted (judge l km0 (acl_of acl) (request_of req)) (λ k charged. refl))

pub narrow_same : (l : Ledger) (km0 acl req new hints : Bytes) → answer_refused (narrow l km0 acl req new hints).answer ≡ place_refused (locate_narrow l km0 acl req new hints)
unfolding narrow locate_narrow
narrow_same l km0 acl req new hints =
    inputs_refused l (inputs_place (narrow_inputs km0 acl req new hints)) (narrow_files km0 acl req new hints) _ _ (narrow_refusal km0 acl req new hints)
    (judged_refused l (request_of req) (request_of req).time (narrowed l (acl_of acl) (acl_of new) (hints_of hints)) (narrowing_place (narrowing_of (acl_of acl) (acl_of new) (hints_of hints))) (judge l km0 (acl_of acl) (request_of req))
    (λ k charged. pick k charged (narrowing_of (acl_of acl) (acl_of new) (hints_of hints)) refl))
  where
    pick : (k : ℕ) (charged : Ledger) (x : Narrowing) → narrowing_of (acl_of acl) (acl_of new) (hints_of hints) ≡ x → answer_refused (narrowed l (acl_of acl) (acl_of new) (hints_of hints) k charged).answer ≡ place_refused (narrowing_place x)
    pick k charged Shown e = rw (shown_narrows (acl_of acl) (acl_of new) (hints_of hints) e)
    pick k charged (Broken i b) e = rw (broken_narrows_not (acl_of acl) (acl_of new) (hints_of hints) i b e)

-- A limit that is named is spent, and every limit before it is not.
pub spent_is_first : (counters : List ℕ) (own elapsed : ℕ) (ms : List Limit) (i : ℕ) → spent_with counters own elapsed ms ≡ by.Limit i → FirstFailing (limit_left counters own elapsed) ms i
unfolding spent_with
spent_is_first counters own elapsed ms i e = failing_is_first (limit_left counters own elapsed) ms i (pick (first_failing (limit_left counters own elapsed) 0 ms) e)
  where
    pick : (o : Option ℕ) → spent_limit o ≡ by.Limit i → o ≡ some i
    pick none d = absurd (never (cc))
    pick (some m) d = let q : m ≡ i = cc in ap some q

-- Where no limit of a group that is not unspent is named, its own count is full.
pub count_is_full : (counters : List ℕ) (own elapsed : ℕ) (ms : List Limit) → unspent_with counters own elapsed ms ≡ false → spent_with counters own elapsed ms ≡ by.OwnCount → ltb own full_count ≡ false
unfolding spent_with
count_is_full counters own elapsed ms u e =
    let a = none_failing (limit_left counters own elapsed) 0 ms (pick (first_failing (limit_left counters own elapsed) 0 ms) e) in
    let b : (ltb own full_count && true) ≡ false = rw a at u in
    drop_true (ltb own full_count) b
  where
    pick : (o : Option ℕ) → spent_limit o ≡ by.OwnCount → o ≡ none
    pick none d = refl
    pick (some m) d = absurd (never (cc))

    drop_true : (x : Bool) → (x && true) ≡ false → x ≡ false
    drop_true true d = d
    drop_true false d = refl
