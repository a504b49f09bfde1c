-- What settles the first of several faults: laws for `search`, by the tests that the code made.
use mathlib.Core.Path.{◌≡◌, refl, sym, ◌∙◌}
use mathlib.Core.List.{List, [], ◌∷◌}
use mathlib.Core.Option.{Option, none, some}
use mathlib.Core.Bool.{Bool, true, false, not}
use borrow.Author.Tests.{not-true, not-false}
use Rattle.rules.specs.Basics.{unless, or_next, first_fault}

-- `if !f(..) { return .. }`
module _ {F : Type 0} (f : F) (ts : List (Option F)) (x : Option F) (r t : Bool) (e : r ≡ t) where
  pub fault_here : not r ≡ true → x ≡ some f → x ≡ first_fault (unless t f ∷ ts)
  unfolding first_fault
  fault_here h p = p ∙ rw (sym e ∙ not-true r h)

  pub fault_later : not r ≡ false → x ≡ first_fault ts → x ≡ first_fault (unless t f ∷ ts)
  unfolding first_fault
  fault_later h p = p ∙ rw (sym e ∙ not-false r h)

-- what a call found: a fault, none, or what is the last of the list
module _ {F : Type 0} (o x : Option F) (ts : List (Option F)) where
  pub fault_found : (f : F) → x ≡ o → x ≡ some f → x ≡ first_fault (o ∷ ts)
  unfolding first_fault
  fault_found f e d = d ∙ sym (rw (sym e ∙ d))

  pub fault_passed : o ≡ none → x ≡ first_fault ts → x ≡ first_fault (o ∷ ts)
  unfolding first_fault
  fault_passed e p = p ∙ sym (rw e)

module _ {F : Type 0} (o x : Option F) where
  pub fault_last : x ≡ o → x ≡ first_fault (o ∷ [])
  unfolding first_fault
  fault_last p = p ∙ sym (last o)
    where
      last : (o : Option F) → or_next o none ≡ o
      last none = refl
      last (some f) = refl
