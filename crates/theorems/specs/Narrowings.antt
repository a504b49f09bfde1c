-- Of narrowings and of ACLs that are well formed: the theorems are in proofs/Hints.antt and proofs/Keyed.antt.
use Rattle.std.specs.Prelude.{◌≤◌, suc, ℕ, true, List, [], ◌∷◌, ◌≡◌}
use Rattle.std.proofs.Math.Option.{none}
use Rattle.rules.specs.Acl.{Action, Group, make_archive, make_blob, permissions}
use Rattle.rules.specs.Basics.{Bytes, Every, joined, present}
use Rattle.rules.specs.Request.{Hint}
use Rattle.rules.specs.Written.{hint_bytes}

-- "Sources rise strictly.": each from `low` on
abbrev pub Rising : ℕ → List Hint → Type 0
Rising low [] = Unit {0}
Rising low (h ∷ hs) = (low ≤ h.source) × Rising (suc h.source) hs

-- the numbers of a list's places, from `place` on
unfoldable pub places : {A : Type 0} → ℕ → List A → List ℕ
places place [] = []
places place (x ∷ xs) = place ∷ places (suc place) xs

-- hint records that name each group and action by its own place, for groups from `place` on
unfoldable pub own_hint_records : ℕ → List Group → List Bytes
own_hint_records place [] = []
own_hint_records place (g ∷ gs) = hint_bytes place (places 0 g.actions) ∷ own_hint_records (suc place) gs

-- the hints file that names each group and action of an ACL by its own place
abbrev pub own_hints : List Group → Bytes
own_hints gs = joined (own_hint_records 0 gs)

-- a MakeArchiveBlob action that has kahash; an action of another kind needs none
abbrev pub HasKey : Action → Type 0
HasKey (permissions bits) = Unit {0}
HasKey (make_blob b f) = Unit {0}
HasKey (make_archive a f) = present a.kahash ≡ true

-- "Open means no certifier.": a group without one has no MakeArchiveBlob action that lacks kahash
abbrev pub Closed : Group → Type 0
Closed g = g.certifier ≡ none → Every HasKey g.actions
