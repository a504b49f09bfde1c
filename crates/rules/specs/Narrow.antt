-- When a new ACL is a narrowing of an old one by given hints: document 01, "The ledger"; document 02, request i.
use Rattle.std.specs.Prelude.{ℕ, suc, List, [], ◌∷◌, Bool, true, false, ◌&&◌, eqb, leb}
use Rattle.std.proofs.Math.Option.{Option, none, some}
use Rattle.std.proofs.Math.ListN.{get_elem?}
use Rattle.rules.specs.Basics.{Bytes, implies, any, all, all_zero, same, within}
use Rattle.rules.specs.Acl.{Parameters, BlobRule, ArchiveRule, BlobfileRule, Action, permissions, make_blob, make_archive, Limit, Group}
use Rattle.rules.specs.Request.{Hint}
use Rattle.rules.specs.Grant.{tighter}

-- what was there is kept, by a test of the new against the old; what was not may be added
abbrev pub kept_by : {A : Type 0} → (A → A → Bool) → Option A → Option A → Bool
kept_by test new none = true
kept_by test none (some o) = false
kept_by test (some n) (some o) = test n o

-- "restrictions kept equal or added"
abbrev pub kept : Option Bytes → Option Bytes → Bool
kept new old = kept_by same new old

-- "restrictions kept equal or added": a mechanism
abbrev pub kept_number : Option ℕ → Option ℕ → Bool
kept_number new old = kept_by eqb new old

-- "ktparams kept or tighter"
abbrev pub kept_parameters : Option Parameters → Option Parameters → Bool
kept_parameters new old = kept_by tighter new old

-- "allowing flags a subset; restrictions kept equal or added, ktparams kept or tighter"
abbrev pub blob_no_wider : BlobRule → BlobRule → Bool
blob_no_wider n o =
    implies n.km_only o.km_only
    && implies n.non_km0 o.non_km0
    && implies n.null_token o.null_token
    && kept n.kmhash o.kmhash
    && kept n.kthash o.kthash
    && kept_parameters n.ktparams o.ktparams

-- "same mechanism"
abbrev pub archive_no_wider : ArchiveRule → ArchiveRule → Bool
archive_no_wider n o = eqb n.mechanism o.mechanism && kept n.kahash o.kahash

-- "may add or tighten the mask": a mask that is kept is a subset
abbrev pub kept_devices : Option ℕ → Option ℕ → Bool
kept_devices new old = kept_by (within 32) new old

-- "A narrowing keeps flag 6 as it is, may add or tighten the mask or add a template, never drop either."
abbrev pub blobfile_no_wider : Option BlobfileRule → Option BlobfileRule → Bool
blobfile_no_wider none none = true
blobfile_no_wider none (some o) = false
blobfile_no_wider (some n) none = false
blobfile_no_wider (some n) (some o) = kept_devices n.devices o.devices && kept n.template o.template

-- "each action is of the hinted action's kind and no wider: subset of permission bits"
unfoldable pub no_wider : Action → Action → Bool
no_wider (permissions n) (permissions o) = within 16 n o
no_wider (permissions n) (make_blob o h) = false
no_wider (permissions n) (make_archive o h) = false
no_wider (make_blob n f) (permissions o) = false
no_wider (make_blob n f) (make_blob o h) = blob_no_wider n o && blobfile_no_wider f h
no_wider (make_blob n f) (make_archive o h) = false
no_wider (make_archive n f) (permissions o) = false
no_wider (make_archive n f) (make_blob o h) = false
no_wider (make_archive n f) (make_archive o h) = archive_no_wider n o && blobfile_no_wider f h

-- an action against the one that its hint names; "one naming nothing gives 8"
abbrev pub no_wider_than : Action → Option Action → Bool
no_wider_than n none = false
no_wider_than n (some o) = no_wider n o

-- each new action has a hint; "Unused action bytes are zero."
unfoldable pub actions_no_wider : List Action → List ℕ → List Action → Bool
actions_no_wider [] hints old = all_zero hints
actions_no_wider (a ∷ rest) [] old = false
actions_no_wider (a ∷ rest) (h ∷ hs) old = no_wider_than a (get_elem? old h) && actions_no_wider rest hs old

-- "answers each old limit by one of the same sort and counter with a maximum no larger"
unfoldable pub answers : Limit → Limit → Bool
answers o n = eqb n.sort o.sort && eqb n.counter o.counter && leb n.maximum o.maximum

-- an old limit is answered by one of the new limits
unfoldable pub is_answered : List Limit → Limit → Bool
is_answered new o = any (answers o) new

-- "Against its source a new group keeps any certifier and mechanism (it may add them), answers each old limit .., and each action is .. no wider"
abbrev pub group_narrows : Group → List ℕ → Group → Bool
group_narrows n hints o =
    kept n.certifier o.certifier
    && kept_number n.mechanism o.mechanism
    && all (is_answered n.limits) o.limits
    && actions_no_wider n.actions hints o.actions

-- a new group against the source that its hint names; "one naming nothing gives 8"
abbrev pub narrows_source : Group → List ℕ → Option Group → Bool
narrows_source n hints none = false
narrows_source n hints (some o) = group_narrows n hints o

-- "with one hint per new group. Sources rise strictly.": each from `low` on
unfoldable pub narrows_from : List Group → ℕ → List Group → List Hint → Bool
narrows_from old low [] [] = true
narrows_from old low [] (h ∷ hs) = false
narrows_from old low (n ∷ ns) [] = false
narrows_from old low (n ∷ ns) (h ∷ hs) =
    leb low h.source && narrows_source n h.actions (get_elem? old h.source) && narrows_from old (suc h.source) ns hs

-- the hints show that the new ACL is a narrowing of the old
abbrev pub narrows : List Group → List Group → List Hint → Bool
narrows old new hints = narrows_from old 0 new hints
