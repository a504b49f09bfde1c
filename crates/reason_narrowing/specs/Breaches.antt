-- What breaks a narrowing: the first new group that its hint does not show to be narrower than its source, and the first test that it fails.
use Rattle.std.specs.Prelude.{ℕ, suc, Result, Ok, Err, List, [], ◌∷◌, Bool, true, false, not, ◌&&◌, leb, if◌then◌else◌}
use Rattle.std.proofs.Math.Option.{Option, none, some}
use Rattle.std.proofs.Math.ListN.{get_elem?}
use Rattle.rules.specs.Basics.{all_zero, present}
use Rattle.rules.specs.Acl.{Action, Group}
use Rattle.rules.specs.Request.{Hint}
use Rattle.rules.specs.Narrow.{kept, kept_number, is_answered, no_wider_than}
use Rattle.reason_limits.specs.Limits.{first_failing}
use Rattle.reason_narrowing.specs.declared.Breach.{Breach}
use Rattle.reason_narrowing.specs.declared.Breach.TheVariants as breach
use Rattle.reason_narrowing.specs.declared.Narrowing.{Narrowing}
use Rattle.reason_narrowing.specs.declared.Narrowing.TheVariants.{Shown, Broken}

-- each new action has a byte of the hint that names an action of the source; "Unused action bytes are zero."
unfoldable pub actions_named : List Action → List ℕ → List Action → Bool
actions_named [] hints old = all_zero hints
actions_named (a ∷ rest) [] old = false
actions_named (a ∷ rest) (h ∷ hs) old = present (get_elem? old h) && actions_named rest hs old

-- the first new action, of those numbered from i, that is of another kind or wider than the action of its hint
unfoldable pub first_wider : ℕ → List Action → List ℕ → List Action → Option ℕ
first_wider i [] hints old = none
first_wider i (a ∷ rest) [] old = some i
first_wider i (a ∷ rest) (h ∷ hs) old = if no_wider_than a (get_elem? old h) then first_wider (suc i) rest hs old else some i

-- an action that is wider breaks a narrowing
abbrev pub wider_breach : Option ℕ → Breach
wider_breach none = breach.Nothing
wider_breach (some i) = breach.Action i

-- a limit of the source that is not answered breaks it; else what comes after the limits
abbrev pub limit_breach : Option ℕ → Breach → Breach
limit_breach none next = next
limit_breach (some i) next = breach.Limit i

-- "Against its source a new group keeps any certifier and mechanism (it may add them), answers each old limit .., and each action is .. no wider": the
-- hint, then each of these in turn.
unfoldable pub group_breach : Group → List ℕ → Group → Breach
group_breach n hints o =
    if not (actions_named n.actions hints o.actions) then breach.Hint
    else if not (kept n.certifier o.certifier && kept_number n.mechanism o.mechanism) then breach.Certifier
    else limit_breach (first_failing (is_answered n.limits) 0 o.limits) (wider_breach (first_wider 0 n.actions hints o.actions))

-- a new group against the source that its hint names; "one naming nothing gives 8"
abbrev pub source_breach : Group → List ℕ → Option Group → Breach
source_breach n hints none = breach.Hint
source_breach n hints (some o) = group_breach n hints o

-- a test failed
abbrev pub is_breach : Breach → Bool
is_breach breach.Nothing = false
is_breach breach.Hint = true
is_breach breach.Certifier = true
is_breach (breach.Limit m) = true
is_breach (breach.Action a) = true

-- a group of an index that breaks the narrowing, or what the groups after it say
abbrev pub broken_or : Breach → ℕ → Narrowing → Narrowing
broken_or b i next = if is_breach b then Broken i b else next

-- "with one hint per new group. Sources rise strictly.": each from `low` on; new groups are numbered from i
unfoldable pub narrowing_from : List Group → ℕ → ℕ → List Group → List Hint → Narrowing
narrowing_from old low i [] [] = Shown
narrowing_from old low i [] (h ∷ hs) = Broken i breach.Hint
narrowing_from old low i (n ∷ ns) [] = Broken i breach.Hint
narrowing_from old low i (n ∷ ns) (h ∷ hs) =
    if leb low h.source
    then broken_or (source_breach n h.actions (get_elem? old h.source)) i (narrowing_from old (suc h.source) (suc i) ns hs)
    else Broken i breach.Hint

-- whether hints show that a new ACL is a narrowing of an old one, and else what breaks it
abbrev pub narrowing_of : List Group → List Group → List Hint → Narrowing
narrowing_of old new hints = narrowing_from old 0 0 new hints

-- what the code says of a group
abbrev pub breach_as : {A : Type 0} → Result A Breach → Breach
breach_as (Ok x) = breach.Nothing
breach_as (Err b) = b
