-- What several tests, one after the other, find of a step.
use mathlib.Core.Path.{◌≡◌, refl, ◌∙◌, ap}
use mathlib.Core.List.{List, [], ◌∷◌}
use mathlib.Core.Option.{Option, none, some}
use mathlib.Core.Logic.{◌⊎◌, inl, inr}
use Rattle.rules.specs.Basics.{Bytes, or_next, first_fault}
use Rattle.rules.specs.Desk.{WBCV2}
use Rattle.desk_steps.specs.declared.Step as step
use Rattle.desk_steps.specs.declared.Step.TheVariants as code
use Rattle.desk_steps.specs.Steps.{step_as}
use Rattle.desk_steps.proofs.Laws.{joined}
use Rattle.reason_steps.specs.declared.Flaw.{Flaw}
use Rattle.reason_steps.specs.Defects.{signature_test, field_test, step_tests, step_flaw}

-- a test before others: it fails, or it passes
module _ (x t : Option Flaw) (ts : List (Option Flaw)) where
  pub test_failed : (f : Flaw) → x ≡ some f → some f ≡ t → x ≡ first_fault (t ∷ ts)
  unfolding first_fault
  test_failed f e d = e ∙ ap (λ (o : Option Flaw). or_next o (first_fault ts)) d

  pub test_passed : none ≡ t → x ≡ first_fault ts → x ≡ first_fault (t ∷ ts)
  unfolding first_fault
  test_passed d e = e ∙ ap (λ (o : Option Flaw). or_next o (first_fault ts)) d

-- the last test
pub last_test : (x t : Option Flaw) → x ≡ t → x ≡ first_fault (t ∷ [])
unfolding first_fault
last_test x t e = e ∙ pick t
  where
    pick : (o : Option Flaw) → o ≡ or_next o none
    pick none = refl
    pick (some f) = refl

pub ruleset tests = (test_failed, test_passed, last_test)

-- WBCV2: the tests of a certificate, and one more
pub fips_tests : (b : List Bytes) → or_next (first_fault (signature_test 4 b ∷ field_test 5 b ∷ field_test 6 b ∷ field_test 12 b ∷ [])) (field_test 13 b) ≡ step_flaw WBCV2 b
unfolding step_tests
fips_tests b =
    let ts : List (Option Flaw) = signature_test 4 b ∷ field_test 5 b ∷ field_test 6 b ∷ field_test 12 b ∷ [] in
    ap (λ (o : Option Flaw). or_next (first_fault ts) o) (last_test (field_test 13 b) (field_test 13 b) refl) ∙ joined ts (field_test 13 b ∷ [])

-- the step that a match found
pub of_step_lem : (b : List Bytes) (s t : step.Step) (x : Option Flaw) → s ≡ t → x ≡ step_flaw (step_as t) b → x ≡ step_flaw (step_as s) b
of_step_lem b s t x e p = rw e p

-- a step that looks at the ACL has no tests here
pub acl_step : (b : List Bytes) (s : step.Step) → (s ≡ code.ACLV3) ⊎ ((s ≡ code.WB1) ⊎ ((s ≡ code.WB2) ⊎ ((s ≡ code.WB3) ⊎ ((s ≡ code.WB6) ⊎ ((s ≡ code.RB1) ⊎ ((s ≡ code.RB2) ⊎ ((s ≡ code.RB3) ⊎ (s ≡ code.KV3)))))))) → none ≡ step_flaw (step_as s) b
unfolding step_tests first_fault
acl_step b s (inl e) = rw e
acl_step b s (inr (inl e)) = rw e
acl_step b s (inr (inr (inl e))) = rw e
acl_step b s (inr (inr (inr (inl e)))) = rw e
acl_step b s (inr (inr (inr (inr (inl e))))) = rw e
acl_step b s (inr (inr (inr (inr (inr (inl e)))))) = rw e
acl_step b s (inr (inr (inr (inr (inr (inr (inl e))))))) = rw e
acl_step b s (inr (inr (inr (inr (inr (inr (inr (inl e)))))))) = rw e
acl_step b s (inr (inr (inr (inr (inr (inr (inr (inr e)))))))) = rw e
