-- What settles a choice `if t then a else b`: laws for `search`, by the test that the code made.
use Prim.Native.Nat.{ℕ, ◌≤◌, ◌<◌}
use mathlib.Core.Path.{◌≡◌, sym, ◌∙◌, ap}
use mathlib.Core.Bool.{Bool, true, false, not, ◌&&◌, ◌||◌}
use lib.Dec.{eqb, leb, ltb}
use borrow.Author.Tests.{eq-eqb, ne_eqb, le-ltb, lt-ltb, le-leb, lt-leb, not-true, not-false}
use Rattle.std.specs.Prelude.{if◌then◌else◌}

module _ {A : Type 0} (a b x : A) where
  pub pick_true : (t : Bool) → t ≡ true → x ≡ a → x ≡ (if t then a else b)
  pick_true t h e = e ∙ sym (ap (λ (u : Bool). if u then a else b) h)

  pub pick_false : (t : Bool) → t ≡ false → x ≡ b → x ≡ (if t then a else b)
  pick_false t h e = e ∙ sym (ap (λ (u : Bool). if u then a else b) h)

  -- a test of two numbers
  pub pick_eq : (m n : ℕ) → m ≡ n → x ≡ a → x ≡ (if eqb m n then a else b)
  pick_eq m n h e = pick_true (eqb m n) (eq-eqb m n h) e

  pub pick_ne : (m n : ℕ) → (m ≡ n → ⊥) → x ≡ b → x ≡ (if eqb m n then a else b)
  pick_ne m n h e = pick_false (eqb m n) (ne_eqb m n h) e

  pub pick_le : (m n : ℕ) → m ≤ n → x ≡ a → x ≡ (if leb m n then a else b)
  pick_le m n h e = pick_true (leb m n) (le-leb m n h) e

  pub pick_gt : (m n : ℕ) → n < m → x ≡ b → x ≡ (if leb m n then a else b)
  pick_gt m n h e = pick_false (leb m n) (lt-leb m n h) e

  pub pick_lt : (m n : ℕ) → m < n → x ≡ a → x ≡ (if ltb m n then a else b)
  pick_lt m n h e = pick_true (ltb m n) (lt-ltb m n h) e

  pub pick_ge : (m n : ℕ) → n ≤ m → x ≡ b → x ≡ (if ltb m n then a else b)
  pick_ge m n h e = pick_false (ltb m n) (le-ltb m n h) e

pub ruleset picks = (pick_eq, pick_ne, pick_le, pick_gt, pick_lt, pick_ge, pick_true, pick_false)

-- The test is what a call answered: `if f(..)` and `if !f(..)`.
module _ {A : Type 0} (a b x : A) (r t : Bool) (e : r ≡ t) where
  pub via_true : r ≡ true → x ≡ a → x ≡ (if t then a else b)
  via_true h p = pick_true a b x t (sym e ∙ h) p

  pub via_false : r ≡ false → x ≡ b → x ≡ (if t then a else b)
  via_false h p = pick_false a b x t (sym e ∙ h) p

  pub via_not_true : not r ≡ true → x ≡ b → x ≡ (if t then a else b)
  via_not_true h p = via_false (not-true r h) p

  pub via_not_false : not r ≡ false → x ≡ a → x ≡ (if t then a else b)
  via_not_false h p = via_true (not-false r h) p

pub ruleset vias = (via_true, via_false, via_not_true, via_not_false)

-- `if f(..) { return true; } g(..)`, of a test `s || t`
pub or_taken : (r s t : Bool) → r ≡ s → r ≡ true → true ≡ (s || t)
or_taken r s t e h = sym (ap (λ (x : Bool). x || t) (sym e ∙ h))

pub or_left_out : (r s t x : Bool) → r ≡ s → r ≡ false → x ≡ t → x ≡ (s || t)
or_left_out r s t x e h p = p ∙ sym (ap (λ (y : Bool). y || t) (sym e ∙ h))

-- `f(..) & g(..)`, of what two calls answered
pub and_is : (r s a b : Bool) → r ≡ a → s ≡ b → (r && s) ≡ (a && b)
and_is r s a b p q = rw (p, q)
