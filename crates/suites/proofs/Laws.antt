-- What a lookup says of the definitions' suite.
use Prim.Native.Nat.{ℕ}
use mathlib.Core.Path.{◌≡◌, refl, ◌∙◌, ap}
use mathlib.Core.Option.{Option, none, some}
use borrow.Author.Tests.{ne_eqb}
use Rattle.rules.specs.Numbers.{unknown_suite}
use Rattle.rules.specs.Suites as rules
use Rattle.suites.specs.Calls.{SuiteAnswer, calls, refuses, lookup_for, called_for, Measured}

-- no arm of the match was taken
pub no_suite : (n : ℕ) → (n ≡ 1 → ⊥) → (n ≡ 2 → ⊥) → (n ≡ 3 → ⊥) → (n ≡ 4 → ⊥) → (n ≡ 5 → ⊥) → refuses unknown_suite ≡ called_for n
unfolding called_for rules.suite
no_suite n a b c d e = rw (ne_eqb n 1 a, ne_eqb n 2 b, ne_eqb n 3 c, ne_eqb n 4 d, ne_eqb n 5 e)

-- what an answer calls for, read back
abbrev pub suite_in : SuiteAnswer → Option rules.Suite
suite_in (calls c) = some c.suite
suite_in (refuses f) = none

in_calls : (s : Option rules.Suite) → suite_in (lookup_for s) ≡ s
in_calls none = refl
in_calls (some s) = refl

measured_calls : (s : Option rules.Suite) → Measured (lookup_for s)
measured_calls none = refl
measured_calls (some s) = (refl, refl)

-- the suite of a number, by what the code answered
pub suite_found : (n : ℕ) (a : SuiteAnswer) → a ≡ called_for n → suite_in a ≡ rules.suite n
unfolding called_for
suite_found n a e = ap suite_in e ∙ in_calls (rules.suite n)

-- the lengths that a suite gives
pub suite_measured : (n : ℕ) (a : SuiteAnswer) → a ≡ called_for n → Measured a
unfolding called_for
suite_measured n a e = rw e (measured_calls (rules.suite n))
