-- How far groups come, as the code says it, and the judgement of an ACL in one pass over its groups.
use Rattle.std.specs.Prelude.{ℕ, suc, List, [], ◌∷◌, Bool, true, false, get_or, Result, Ok, Err, if◌then◌else◌}
use Rattle.rules.specs.Basics.{Bytes}
use Rattle.rules.specs.Acl.{Group, group_of}
use Rattle.rules.specs.Request.{Request}
use Rattle.rules.specs.Ledger.{Ledger}
use Rattle.rules.specs.Grant.{group_admits, certified, unspent_with}
use Rattle.rules.specs.Gate.{Denial, early, unadmitted, uncertified, exhausted, Judgement, granted, denied}
use Rattle.gate_decision.specs.declared.GroupResult.{GroupResult}
use Rattle.gate_decision.specs.declared.GroupResult.TheVariants.{NotAdmitting, Admitting, Certified, Granting}
use Rattle.gate_decision.specs.declared.Nearest.{Nearest}
use Rattle.gate_decision.specs.declared.Nearest.TheVariants as near
use Rattle.refusals.specs.declared.Denial as code
use Rattle.refusals.specs.declared.Denial.TheVariants.{ClockBack, NotAdmitted, NotCertified, Spent}

-- the last test that a group passes: it admits, is certified, is unspent
abbrev pub result_of : Bool → Bool → Bool → GroupResult
result_of admitting certifying left =
    if admitting then (if certifying then (if left then Granting else Certified) else Admitting) else NotAdmitting

-- "group with all three"
abbrev pub is_granting : GroupResult → Bool
is_granting NotAdmitting = false
is_granting Admitting = false
is_granting Certified = false
is_granting Granting = true

-- the nearest that came so far, with one group more
abbrev pub nearer : Nearest → GroupResult → ℕ → Nearest
nearer n NotAdmitting place = n
nearer near.Nothing Admitting place = near.Admitting place
nearer (near.Admitting k) Admitting place = near.Admitting k
nearer (near.Certified k) Admitting place = near.Certified k
nearer near.Nothing Certified place = near.Certified place
nearer (near.Admitting k) Certified place = near.Certified place
nearer (near.Certified k) Certified place = near.Certified k
nearer n Granting place = n

-- why no group grants, by the nearest
abbrev pub denial_of : Nearest → code.Denial
denial_of near.Nothing = NotAdmitted
denial_of (near.Admitting k) = NotCertified k
denial_of (near.Certified k) = Spent k

-- the judgement of groups numbered from `place`, after those whose nearest is given
unfoldable pub judged_from : (ℕ → Group → GroupResult) → Nearest → ℕ → List Group → Result ℕ code.Denial
judged_from group_result n place [] = Err (denial_of n)
judged_from group_result n place (g ∷ gs) =
    if is_granting (group_result place g) then Ok place else judged_from group_result (nearer n (group_result place g) place) (suc place) gs

-- the last test that a group passes for a request, by the ledger's named counters, its own count and the seconds since load
abbrev pub result_with : List ℕ → ℕ → ℕ → Bytes → Request → Group → GroupResult
result_with counters own elapsed km0 q g = result_of (group_admits km0 q g) (certified q g) (unspent_with counters own elapsed g.limits)

-- the same for the group at an index, whose own count is in the table
unfoldable pub group_result : List ℕ → List ℕ → ℕ → Bytes → Request → ℕ → Group → GroupResult
group_result counts counters elapsed km0 q place g = result_with counters (get_or counts place 0) elapsed km0 q g

-- the same for a group given by its first record and those that follow
unfoldable pub record_result : List ℕ → ℕ → ℕ → Bytes → Request → Bytes → List Bytes → GroupResult
record_result counters own elapsed km0 q r rest = result_with counters own elapsed km0 q (group_of r rest)

-- the denial and the judgement of the definitions, as the code answers them
abbrev pub denial_for : Denial → code.Denial
denial_for early = ClockBack
denial_for unadmitted = NotAdmitted
denial_for (uncertified place g) = NotCertified place
denial_for (exhausted place g) = Spent place

abbrev pub judged_for : Judgement → Result ℕ code.Denial
judged_for (granted place g) = Ok place
judged_for (denied d) = Err (denial_for d)

-- the ledger's tables and times as a ledger of the definitions
abbrev pub ledger_of_tables : List ℕ → List ℕ → ℕ → ℕ → Ledger
ledger_of_tables counts counters loaded last = record { counts = counts; counters = counters; loaded = loaded; last = last }
