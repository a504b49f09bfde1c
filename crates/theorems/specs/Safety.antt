-- When a group is safe: what an acceptance by the desk means for an ACL. The theorems are in proofs/Monotone.antt and proofs/Accepted.antt.
use Rattle.std.specs.Prelude.{◌<◌, ◌≡◌, ◌⊎◌, true}
use Rattle.std.proofs.Math.Option.{Option}
use Rattle.rules.specs.Sizes.{permissions_max}
use Rattle.rules.specs.Basics.{Bytes, Every, both_same}
use Rattle.rules.specs.Acl.{Action, Group}
use Rattle.rules.specs.Request.{Wanted, operation, working_blob, recovery_blob}
use Rattle.rules.specs.Grant.{admits}

-- a use is of one of the permissions that there are
abbrev pub KnownUse : Wanted → Type 0
KnownUse (operation p) = p < permissions_max
KnownUse (working_blob w f) = Unit {0}
KnownUse (recovery_blob w f) = Unit {0}

-- all that an action admits is good
abbrev pub Confined : (Bytes → Wanted → Type 0) → Action → Type 0
Confined Good a = (km0 : Bytes) (w : Wanted) → KnownUse w → admits km0 w a ≡ true → Good km0 w

-- A group is safe if the officer's key is its certifier, or all that its actions admit is good.
abbrev pub Safe : Option Bytes → (Bytes → Wanted → Type 0) → Group → Type 0
Safe officer Good g = (both_same officer g.certifier ≡ true) ⊎ Every (Confined Good) g.actions
