-- Runs of steps: what the code's answers say of one, and one after the other.
use mathlib.Core.Path.{◌≡◌, refl, ◌∙◌, ap}
use mathlib.Core.List.{List, [], ◌∷◌, ◌++◌}
use mathlib.Core.Option.{Option, none, some}
use Rattle.rules.specs.Basics.{Bytes, or_next, first_fault}
use Rattle.rules.specs.Desk.{before_acl, basic_failure}
use Rattle.rules.proofs.Choices.{and_is}
use Rattle.rules.proofs.Faults.{fault_here, fault_later}
use Rattle.desk_steps.specs.Steps.{warrant_failure, state_failure, world_failure, key_failure, csr_failure}

-- Runs of steps, one after the other.
pub joined : {F : Type 0} (xs ys : List (Option F)) → or_next (first_fault xs) (first_fault ys) ≡ first_fault (xs ++ ys)
unfolding first_fault
joined [] ys = refl
joined (none ∷ xs) ys = joined xs ys
joined (some f ∷ xs) ys = refl

-- no test is left
pub no_fault : {F : Type 0} → ◌≡◌ {A = Option F} none (first_fault [])
unfolding first_fault
no_fault = refl

-- tests, one after the other: what the code's answers say of a run of steps
pub ruleset tests = (fault_here, fault_later, no_fault, and_is)

-- the runs of both approaches
pub approach_2 : (b : List Bytes) → or_next (or_next (warrant_failure b) (state_failure b)) (or_next (world_failure b) (key_failure b)) ≡ before_acl b
unfolding warrant_failure state_failure world_failure key_failure
approach_2 b = rw (joined, joined, joined)

pub approach_1 : (b : List Bytes) → or_next (warrant_failure b) (or_next (key_failure b) (csr_failure b)) ≡ basic_failure b
unfolding warrant_failure key_failure csr_failure basic_failure
approach_1 b = rw (joined, joined)

-- a run that fails, and one that passes before the next
module _ {F : Type 0} (x a b : Option F) where
  pub run_failed : (f : F) → x ≡ some f → some f ≡ a → x ≡ or_next a b
  run_failed f e d = e ∙ ap (λ (o : Option F). or_next o b) d

  pub run_passed : none ≡ a → x ≡ b → x ≡ or_next a b
  run_passed d e = e ∙ ap (λ (o : Option F). or_next o b) d
