-- The grade of an ACL at the desk, part by part.
use Rattle.std.specs.Prelude.{ℕ, min, List, [], ◌∷◌, Bool, true, false, ◌||◌, if◌then◌else◌}
use Rattle.std.proofs.Math.Option.{Option, none}
use Rattle.rules.specs.Numbers.{not_kept}
use Rattle.rules.specs.Basics.{Bytes, both_same, or_next}
use Rattle.rules.specs.Acl.{Action, Group}
use Rattle.rules.specs.Bundle.{Policy}
use Rattle.rules.specs.Desk.{Step, failure_under, acl_failure, action_protection, key_protection, is_archive, recoverable_key}
use Rattle.desk_steps.specs.Steps.{failure_as}
use Rattle.bundle_facts.specs.Found.{bytes_as, policy_as}
use Rattle.desk_actions.specs.declared.Terms.{Terms}
use Rattle.desk_grading.specs.declared.Grade.{Grade}

-- the first failing step, the protection, whether the key is recoverable
pub record Graded : Type 0 where
  pub failure : Option Step
  pub protection : ℕ
  pub recoverable : Bool

-- what the code finds
abbrev pub graded_as : Grade → Graded
graded_as g = record { failure = failure_as g.failure; protection = g.protection; recoverable = g.recoverable }

-- "ACL, in record order", "The key's is the smallest": two parts, one after the other
unfoldable pub graded_together : Graded → Graded → Graded
graded_together x y =
    record {
      failure = or_next x.failure y.failure;
      protection = min x.protection y.protection;
      recoverable = x.recoverable || y.recoverable;
    }

-- "with no MakeBlob checked, 4, not kept": no action, of a key that is recoverable or not
abbrev pub no_actions : Bool → Graded
no_actions recoverable = record { failure = none; protection = not_kept; recoverable = recoverable }

-- all parts, one after the other
unfoldable pub all_graded : {A : Type 0} → (A → Graded) → List A → Graded
all_graded f [] = no_actions false
all_graded f (x ∷ xs) = graded_together (f x) (all_graded f xs)

-- "Else per action": one action, under a policy and the trusted keys
unfoldable pub action_graded : Policy → Option Bytes → Option Bytes → Action → Graded
action_graded policy hkm hkre a =
    record { failure = failure_under policy hkm hkre a; protection = action_protection a; recoverable = is_archive a }

-- the grade of a group's actions
unfoldable pub actions_graded : Policy → Option Bytes → Option Bytes → List Action → Graded
actions_graded policy hkm hkre list = all_graded (action_graded policy hkm hkre) list

-- a group, under the officer's key too: one of the officer's "marks the key recoverable and is skipped (ACLV1)"
unfoldable pub group_graded : Option Bytes → Policy → Option Bytes → Option Bytes → Group → Graded
group_graded officer policy hkm hkre g =
    if both_same officer g.certifier then no_actions true else actions_graded policy hkm hkre g.actions

-- the grade of an ACL's groups
unfoldable pub groups_graded : Option Bytes → Policy → Option Bytes → Option Bytes → List Group → Graded
groups_graded officer policy hkm hkre gs = all_graded (group_graded officer policy hkm hkre) gs

-- an ACL, by the desk's definitions
unfoldable pub acl_graded : List Bytes → List Group → Graded
acl_graded b gs = record { failure = acl_failure b gs; protection = key_protection b gs; recoverable = recoverable_key b gs }

-- the same by the terms of judging: an action, the actions of a group, a group, the groups
abbrev pub action_by : Terms → Action → Graded
action_by t a = action_graded (policy_as t.policy) (bytes_as t.hkm) (bytes_as t.hkre) a

abbrev pub actions_by : Terms → List Action → Graded
actions_by t list = actions_graded (policy_as t.policy) (bytes_as t.hkm) (bytes_as t.hkre) list

abbrev pub group_by : Terms → Group → Graded
group_by t g = group_graded (bytes_as t.officer) (policy_as t.policy) (bytes_as t.hkm) (bytes_as t.hkre) g

abbrev pub groups_by : Terms → List Group → Graded
groups_by t gs = groups_graded (bytes_as t.officer) (policy_as t.policy) (bytes_as t.hkm) (bytes_as t.hkre) gs
