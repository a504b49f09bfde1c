-- Where the desk's steps over an ACL fail: the first action in record order, with its group and its index among the group's actions.
use Rattle.std.specs.Prelude.{ℕ, zero, suc, ◌+◌, List, [], ◌∷◌, Bool, true, false, ltb, if◌then◌else◌, Some, None}
use Rattle.std.specs.Prelude as prelude
use Rattle.std.proofs.Math.Option.{Option, none, some}
use Rattle.rules.specs.Numbers.{no_group}
use Rattle.rules.specs.Basics.{Bytes, present, both_same, or_next}
use Rattle.rules.specs.Acl.{Action, permissions, make_blob, make_archive, Group}
use Rattle.rules.specs.Bundle.{Policy}
use Rattle.rules.specs.Desk.{failure_under, action_protection}
use Rattle.desk_actions.specs.Classes.{admitted_bit}
use Rattle.reason_actions.specs.declared.Spot.{Spot}

-- "All ones": nothing is named.
abbrev pub all_ones : ℕ
all_ones = no_group

-- a permission in numbers
abbrev pub permission_number : prelude.Option ℕ → ℕ
permission_number None = all_ones
permission_number (Some p) = p

-- The lowest of k permissions from p on that is set and that the policy does not admit.
unfoldable pub unadmitted_from : Policy → ℕ → ℕ → ℕ → ℕ
unadmitted_from policy bits zero p = all_ones
unadmitted_from policy bits (suc k) p = if admitted_bit policy bits p then unadmitted_from policy bits k (p + 1) else p

-- "for ACLV3 the permission bit": of an action of permissions the lowest that is not admitted
unfoldable pub permission_of : Policy → Action → ℕ
permission_of policy (permissions bits) = unadmitted_from policy bits 16 0
permission_of policy (make_blob r f) = all_ones
permission_of policy (make_archive a f) = all_ones

-- "KV3 (protection at least the policy's)": a MakeBlob action whose protection is below the policy's lowest
unfoldable pub below_lowest : ℕ → Action → Bool
below_lowest lowest (permissions bits) = false
below_lowest lowest (make_blob r f) = ltb (action_protection (make_blob r f)) lowest
below_lowest lowest (make_archive a f) = false

-- an action that fails a step of the ACL, or KV3, under a policy and the trusted keys
unfoldable pub at_fault : Bool → Policy → Option Bytes → Option Bytes → Action → Bool
at_fault true policy hkm hkre a = below_lowest policy.lowest_protection a
at_fault false policy hkm hkre a = present (failure_under policy hkm hkre a)

-- "a group whose certifier equals a present field 4 .. is skipped (ACLV1)"
unfoldable pub skipped : Option Bytes → Group → Bool
skipped officer g = both_same officer g.certifier

-- an action, with the index of its group and its own
pub record Located : Type 0 where
  pub group : ℕ
  pub action : ℕ
  pub found : Action

-- the first at fault of the actions of group g, of which the first has index i
unfoldable pub in_actions : (Action → Bool) → ℕ → ℕ → List Action → Option Located
in_actions faulty g i [] = none
in_actions faulty g i (a ∷ rest) =
    if faulty a then some (record { group = g; action = i; found = a }) else in_actions faulty g (i + 1) rest

-- "ACL, in record order": the first at fault of the groups that are not skipped, of which the first has index g
unfoldable pub in_groups : (Group → Bool) → (Action → Bool) → ℕ → List Group → Option Located
in_groups skips faulty g [] = none
in_groups skips faulty g (x ∷ gs) =
    or_next (if skips x then none else in_actions faulty g 0 x.actions) (in_groups skips faulty (g + 1) gs)

-- in numbers
pub record Numbers : Type 0 where
  pub group : ℕ
  pub action : ℕ
  pub permission : ℕ

abbrev pub nowhere : Numbers
nowhere = record { group = all_ones; action = all_ones; permission = all_ones }

abbrev pub spot_of : Policy → Option Located → Numbers
spot_of policy none = nowhere
spot_of policy (some l) = record { group = l.group; action = l.action; permission = permission_of policy l.found }

-- what the code found, in numbers
abbrev pub spot_as : prelude.Option Spot → Numbers
spot_as None = nowhere
spot_as (Some s) = record { group = s.group; action = s.action; permission = permission_number s.permission }
