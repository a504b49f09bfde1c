-- One request of a run by sets of groups.
use Rattle.std.specs.Prelude.{ℕ, ◌<◌, List, [], Result, Ok, Err, eqb, if◌then◌else◌}
use Rattle.std.proofs.Math.Option.{none}
use Rattle.rules.specs.Sizes.{groups_max}
use Rattle.rules.specs.Basics.{Bytes, any, number, set_of}
use Rattle.rules.specs.Acl.{Group}
use Rattle.rules.specs.Request.{Wanted, wanted_of, request_record_fault}
use Rattle.rules.specs.Ledger.{Ledger}
use Rattle.rules.specs.Grant.{admits}
use Rattle.rules.specs.Gate.{Outcome, early, Judgement, denied, too_early, permitted, settle, outcome_unless}
use Rattle.rules.specs.Runs.{request_with}
use Rattle.refusals.specs.declared.Denial.{Denial}
use Rattle.refusals.specs.declared.Denial.TheVariants.{ClockBack, NotAdmitted, NotCertified, Spent}
use Rattle.run_decision.specs.GroupSets.{judged_by_sets, unspent_at}

-- the group that a judgement names has a place in the tables
abbrev pub Within : Result ℕ Denial → Type 0
Within (Ok k) = k < groups_max
Within (Err ClockBack) = Unit {0}
Within (Err NotAdmitted) = Unit {0}
Within (Err (NotCertified k)) = k < groups_max
Within (Err (Spent k)) = k < groups_max

-- the groups that admit what is asked for
unfoldable pub admitting_set : Bytes → Wanted → List Group → ℕ
admitting_set km0 w gs = set_of (λ g. any (admits km0 w) g.actions) gs

-- the form's set for a blob request of a kind
abbrev pub candidates : ℕ → ℕ → ℕ → ℕ
candidates kind working recovery = if eqb kind 7 then working else recovery

-- the judgement by the groups that admit and those that are certified
unfoldable pub set_judge : Ledger → Bytes → List Group → ℕ → Bytes → Judgement
set_judge l km0 gs certified r =
    if too_early l (request_with r []) then denied early
    else judged_by_sets gs (admitting_set km0 (wanted_of r none) gs) certified (unspent_at l (request_with r []) gs)

-- one request of a run, by the set of the groups that are certified
unfoldable pub ask_sets : Bytes → List Group → ℕ → Ledger → Bytes → Outcome
ask_sets km0 gs certified l r =
    outcome_unless l (request_record_fault r) (settle l (number 56 8 r) permitted (set_judge l km0 gs certified r))
