-- Where the first fault of a call is: the input and the record that is at fault; for 7 the limit that is spent; for 8 what breaks the narrowing.
use Rattle.std.specs.Prelude.{ℕ, Result, Ok, Err, ◌-◌, List, get_or, drop, if◌then◌else◌}
use Rattle.std.proofs.Math.Option.{Option, some}
use Rattle.rules.specs.Basics.{Bytes}
use Rattle.rules.specs.Acl.{Group, acl_of}
use Rattle.rules.specs.Request.{Request, request_of, hints_of}
use Rattle.rules.specs.Ledger.{Ledger}
use Rattle.rules.specs.Gate.{Denial, early, unadmitted, uncertified, exhausted, number_of, nearest, Judgement, granted, denied, judge}
use Rattle.acl_groups.specs.Parts.{first_limits}
use Rattle.refusals.specs.Refusals.{denial_number, denial_group}
use Rattle.refusals.specs.declared.Denial as code
use Rattle.refusals.specs.declared.Denial.TheVariants.{ClockBack, NotAdmitted, NotCertified, Spent}
use Rattle.reason_files.specs.Places.{Place, place_as}
use Rattle.reason_inputs.specs.Inputs.{InputPlace, is_fault, inputs_place, request_inputs, narrow_inputs, expand_inputs}
use Rattle.reason_inputs.specs.declared.Input.{Input}
use Rattle.reason_limits.specs.Limits.{spent_with}
use Rattle.reason_limits.specs.declared.SpentBy.{SpentBy}
use Rattle.reason_limits.specs.declared.SpentBy.TheVariants as by
use Rattle.reason_narrowing.specs.Breaches.{narrowing_of}
use Rattle.reason_narrowing.specs.declared.Breach.{Breach}
use Rattle.reason_narrowing.specs.declared.Narrowing.{Narrowing}
use Rattle.reason_narrowing.specs.declared.Narrowing.TheVariants.{Shown, Broken}
use Rattle.reason_calls.specs.declared.CallPlace as calls
use Rattle.reason_calls.specs.declared.CallPlace.TheVariants as place

-- Where a call's first fault is: it is permitted; an input; a denial with its number, the group that it names and what is spent; a new group with what
-- breaks the narrowing.
pub data CallPlace : Type 0 where
  permitted : CallPlace
  bad_input : Option Input → Place → CallPlace
  denial : ℕ → Option ℕ → SpentBy → CallPlace
  not_shown : ℕ → Breach → CallPlace

-- what is spent of the group that a refusal 7 carries; another refusal names nothing
abbrev pub spent_in : Ledger → Request → Denial → SpentBy
spent_in l q early = by.Nothing
spent_in l q unadmitted = by.Nothing
spent_in l q (uncertified place g) = by.Nothing
spent_in l q (exhausted place g) = spent_with l.counters (get_or l.counts place 0) (q.time - l.loaded) g.limits

-- by the judgement; `on_permit` is the answer of a grant
abbrev pub judged_place : Ledger → Request → CallPlace → Judgement → CallPlace
judged_place l q on_permit (granted place g) = on_permit
judged_place l q on_permit (denied d) = denial (number_of d) (nearest d) (spent_in l q d)

-- an input at fault, or what comes after the inputs
abbrev pub input_or : InputPlace → CallPlace → CallPlace
input_or p next = if is_fault p.place then bad_input p.input p.place else next

-- "Any breach .. gives 8"
abbrev pub narrowing_place : Narrowing → CallPlace
narrowing_place Shown = permitted
narrowing_place (Broken i b) = not_shown i b

-- a request
unfoldable pub locate_request : Ledger → Bytes → Bytes → Bytes → CallPlace
locate_request l km0 acl req =
    input_or (inputs_place (request_inputs km0 acl req))
    (judged_place l (request_of req) permitted (judge l km0 (acl_of acl) (request_of req)))

-- a narrowing: its hints are looked at where a use of ReduceACL is permitted
unfoldable pub locate_narrow : Ledger → Bytes → Bytes → Bytes → Bytes → Bytes → CallPlace
locate_narrow l km0 acl req new hints =
    input_or (inputs_place (narrow_inputs km0 acl req new hints))
    (judged_place l (request_of req) (narrowing_place (narrowing_of (acl_of acl) (acl_of new) (hints_of hints))) (judge l km0 (acl_of acl) (request_of req)))

-- an expansion
unfoldable pub locate_expand : Ledger → Bytes → Bytes → Bytes → Bytes → CallPlace
locate_expand l km0 acl req new =
    input_or (inputs_place (expand_inputs km0 acl req new))
    (judged_place l (request_of req) permitted (judge l km0 (acl_of acl) (request_of req)))

-- the code's answer
abbrev pub call_place_as : Result (Unit {0}) calls.CallPlace → CallPlace
call_place_as (Ok x) = permitted
call_place_as (Err (place.BadInput i p)) = bad_input (some i) (place_as (Err p))
call_place_as (Err (place.Denied d s)) = denial (denial_number d) (denial_group d) s
call_place_as (Err (place.NotNarrower i b)) = not_shown i b

-- what is spent by the code's denial, which names the group by its index, with the seconds since load
abbrev pub spent_at : List ℕ → List ℕ → ℕ → List Group → code.Denial → SpentBy
spent_at counts counters since gs ClockBack = by.Nothing
spent_at counts counters since gs NotAdmitted = by.Nothing
spent_at counts counters since gs (NotCertified k) = by.Nothing
spent_at counts counters since gs (Spent k) = spent_with counters (get_or counts k 0) since (first_limits (drop k gs))

-- by the code's judgement
abbrev pub judged_at : List ℕ → List ℕ → ℕ → List Group → CallPlace → Result ℕ code.Denial → CallPlace
judged_at counts counters since gs on_permit (Ok k) = on_permit
judged_at counts counters since gs on_permit (Err d) = denial (denial_number d) (denial_group d) (spent_at counts counters since gs d)
