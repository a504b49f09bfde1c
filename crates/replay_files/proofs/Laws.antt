-- The part of a buffer that was filled.
use Prim.Native.Nat.{ℕ, ◌≤◌}
use mathlib.Core.Path.{◌≡◌, sym}
use mathlib.Core.List.{List}
use lib.ListN.{length, take}
use lib.Seq.{length-take-le}

pub filled : (n : ℕ) (xs : List ℕ) → n ≤ length xs → n ≡ length (take n xs)
filled n xs h = sym (length-take-le n xs h)
