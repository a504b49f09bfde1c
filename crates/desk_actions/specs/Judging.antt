-- What the terms that an ACL is judged by say.
use Rattle.std.specs.Prelude.{◌≡◌, List}
use Rattle.std.proofs.Math.Option.{Option}
use Rattle.rules.specs.Basics.{Bytes}
use Rattle.rules.specs.Acl.{Action}
use Rattle.rules.specs.Bundle.{field, policy_of}
use Rattle.rules.specs.Desk.{Step, module_key, recovery_key, failure_under}
use Rattle.bundle_facts.specs.Found.{bytes_as, policy_as}
use Rattle.desk_actions.specs.declared.Terms.{Terms}

-- the terms are those of a bundle
pub record TermsOf (b : List Bytes) (t : Terms) : Type 0 where
  pub policy : policy_as t.policy ≡ policy_of b
  pub officer : bytes_as t.officer ≡ field 4 b
  pub hkm : bytes_as t.hkm ≡ module_key b
  pub hkre : bytes_as t.hkre ≡ recovery_key b

-- the first step that an action fails by them
abbrev pub failure_by : Terms → Action → Option Step
failure_by t a = failure_under (policy_as t.policy) (bytes_as t.hkm) (bytes_as t.hkre) a
