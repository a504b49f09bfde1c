-- What it means that an action is the first at fault.
use Rattle.std.specs.Prelude.{ℕ, ◌+◌, ◌≤◌, ◌<◌, ◌≡◌, List, ◌∷◌, ◌++◌, Bool, true, false, length}
use Rattle.std.proofs.Math.Option.{Option, none, some}
use Rattle.rules.specs.Basics.{Bytes, Every}
use Rattle.rules.specs.Acl.{Action, Group}
use Rattle.rules.specs.Bundle.{Policy}
use Rattle.rules.specs.Desk.{Step, action_failure}
use Rattle.desk_actions.specs.Classes.{admitted_bit}
use Rattle.reason_actions.specs.Spots.{Located}

-- every action of a group that is not skipped passes
abbrev pub Passes : (Group → Bool) → (Action → Bool) → Group → Type 0
Passes skips faulty g = skips g ≡ false → Every (λ a. faulty a ≡ false) g.actions

-- Of groups of which the first has index `from`: the action is at its indices, it is in a group that is not skipped, it is at fault, and every action
-- before it passes.
pub record First (skips : Group → Bool) (faulty : Action → Bool) (from : ℕ) (gs : List Group) (l : Located) : Type 0 where
  pub before : List Group
  pub group : Group
  pub after : List Group
  pub earlier : List Action
  pub later : List Action
  pub groups : gs ≡ before ++ (group ∷ after)
  pub group_index : l.group ≡ from + length before
  pub actions : group.actions ≡ earlier ++ (l.found ∷ later)
  pub action_index : l.action ≡ length earlier
  pub groups_pass : Every (Passes skips faulty) before
  pub checked : skips group ≡ false
  pub earlier_pass : Every (λ a. faulty a ≡ false) earlier
  pub fails : faulty l.found ≡ true

-- the first failing step of an action that was found
abbrev pub step_at : List Bytes → Option Located → Option Step
step_at b none = none
step_at b (some l) = action_failure b l.found

-- the lowest permission that is set and not admitted
pub record LowestBit (policy : Policy) (bits from p : ℕ) : Type 0 where
  pub least : from ≤ p
  pub most : p < 16
  pub refused : admitted_bit policy bits p ≡ false
  pub lower : (q : ℕ) → from ≤ q → q < p → admitted_bit policy bits q ≡ true
