-- The numbers of groups in 32 bits.
use Prim.Native.Nat.{ℕ, ◌≤◌, ◌<◌}
use mathlib.Core.Path.{◌≡◌, refl, sym, ◌∙◌}
use mathlib.Core.Bool.{Bool, true, false}
use Rattle.std.specs.Prelude.{Result, Ok, Err}
use Rattle.std.specs.Result.{OkIff, result_unwrap_or}
use native.Mathlib.Omega.{arith}
use lib.Dec.{ltb}
use borrow.Author.Tests.{lt-ltb, le-ltb, ltb-true, ltb-false}
use Rattle.rules.specs.Numbers.{no_group}
use Rattle.c_answers.specs.Surface.{group_number}

group_fits : (n group : ℕ) → group < no_group → n ≡ group → n ≡ group_number group
unfolding group_number
group_fits n group h e = sym (rw (lt-ltb group no_group h, e))

group_past : (n group : ℕ) → no_group ≤ group → n ≡ no_group → n ≡ group_number group
unfolding group_number
group_past n group h e = sym (rw (le-ltb group no_group h, e))

group_by_size : (n group : ℕ) → (group < no_group → n ≡ group) → (no_group ≤ group → n ≡ no_group) → n ≡ group_number group
group_by_size n group f p = pick (ltb group no_group) refl
  where
    pick : (b : Bool) → ltb group no_group ≡ b → n ≡ group_number group
    pick true e = let h = ltb-true group no_group e in group_fits n group h (f h)
    pick false e = let h = ltb-false group no_group e in group_past n group h (p h)

-- what fits, and else all ones: the greatest that fits is all ones itself
pub group_told : {E : Type 0} (r : Result ℕ E) (n group : ℕ) → OkIff r (group < 4294967296) group → n ≡ result_unwrap_or r 4294967295 → n ≡ group_number group
group_told (Ok x) n group h e = group_by_size n group (λ k. e ∙ h.1) (λ k. omega (arith, e, h.1, h.0))
group_told (Err x) n group h e = group_by_size n group (λ k. absurd (h (omega arith))) (λ k. e)
