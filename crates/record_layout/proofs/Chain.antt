-- Tests one after the other, each of which ends the chain where it fails, as one chain `a && b && ..`.
use mathlib.Core.Path.{◌≡◌, sym, ◌∙◌, ap}
use mathlib.Core.Bool.{Bool, true, false, not, ◌&&◌}
use borrow.Author.Tests.{not-true, not-false}
use Rattle.record_fields.proofs.Laws.{and_false}

-- a test that the code made, by a call or by itself
pub test_failed : (r a : Bool) → r ≡ a → not r ≡ true → false ≡ a
test_failed r a e h = sym (not-true r h) ∙ e

pub test_passed : (r a : Bool) → r ≡ a → not r ≡ false → true ≡ a
test_passed r a e h = sym (not-false r h) ∙ e

pub own_failed : (a : Bool) → not a ≡ true → false ≡ a
own_failed a h = sym (not-true a h)

pub own_passed : (a : Bool) → not a ≡ false → true ≡ a
own_passed a h = sym (not-false a h)

module _ (p q : Bool) where
  pub left_failed : false ≡ p → false ≡ (p && q)
  left_failed e = ap (λ (t : Bool). t && q) e

  pub right_failed : false ≡ q → false ≡ (p && q)
  right_failed e = sym (and_false p) ∙ ap (λ (t : Bool). p && t) e

  pub both_passed : true ≡ p → true ≡ q → true ≡ (p && q)
  both_passed d e = e ∙ ap (λ (t : Bool). t && q) d

  -- the last test decides
  pub last_decides : (x : Bool) → true ≡ p → x ≡ q → x ≡ (p && q)
  last_decides x d e = e ∙ ap (λ (t : Bool). t && q) d

pub ruleset chain = (test_failed, test_passed, own_failed, own_passed, left_failed, right_failed, both_passed, last_decides)
