-- Indices in 32 bits; the answers by the arms of the match on a kind.
use Prim.Native.Nat.{ℕ, ◌≤◌, ◌<◌}
use native.Mathlib.Omega.{arith}
use mathlib.Core.Path.{◌≡◌, refl, sym, ◌∙◌}
use mathlib.Core.Bool.{Bool, true, false}
use lib.Dec.{ltb}
use borrow.Author.Tests.{lt-ltb, le-ltb, ltb-true, ltb-false, ne_eqb}
use Rattle.std.specs.Prelude.{Result, Ok, Err}
use Rattle.std.specs.Result.{OkIff, result_unwrap_or}
use Rattle.rules.specs.Numbers.{out_of_range}
use Rattle.rules.specs.Basics.{Bytes}
use Rattle.text_files.specs.declared.Kind.TheVariants as kind
use Rattle.reason_files.specs.Places.{Place, place_in}
use Rattle.c_reasons.specs.Reasons.{unnamed, index_number, FileInNumbers, file_numbers, host_file_for, host_file_of}

index_fits : (n i : ℕ) → i < unnamed → n ≡ i → n ≡ index_number i
unfolding index_number
index_fits n i h e = sym (rw (lt-ltb i unnamed h, e))

index_past : (n i : ℕ) → unnamed ≤ i → n ≡ unnamed → n ≡ index_number i
unfolding index_number
index_past n i h e = sym (rw (le-ltb i unnamed h, e))

index_by_size : (n i : ℕ) → (i < unnamed → n ≡ i) → (unnamed ≤ i → n ≡ unnamed) → n ≡ index_number i
index_by_size n i f p = pick (ltb i unnamed) refl
  where
    pick : (b : Bool) → ltb i unnamed ≡ b → n ≡ index_number i
    pick true e = let h = ltb-true i unnamed e in index_fits n i h (f h)
    pick false e = let h = ltb-false i unnamed e in index_past n i h (p h)

-- what fits, and else all ones: the greatest that fits is all ones itself
pub index_told : {E : Type 0} (r : Result ℕ E) (n i : ℕ) → OkIff r (i < 4294967296) i → n ≡ result_unwrap_or r 4294967295 → n ≡ index_number i
index_told (Ok x) n i h e = index_by_size n i (λ k. e ∙ h.1) (λ k. omega (arith, e, h.1, h.0))
index_told (Err x) n i h e = index_by_size n i (λ k. absurd (h (omega arith))) (λ k. e)

-- the arms of the match on a kind's number
module _ (n : ℕ) (file : Bytes) (x : FileInNumbers) (p : Place) (d : x ≡ host_file_for p) where
  pub file_acl : n ≡ 0 → p ≡ place_in kind.Acl file → x ≡ host_file_of n file
  unfolding host_file_of
  file_acl e f = rw e (rw (← f) d)

  pub file_request : n ≡ 1 → p ≡ place_in kind.Request file → x ≡ host_file_of n file
  unfolding host_file_of
  file_request e f = rw e (rw (← f) d)

  pub file_requests : n ≡ 2 → p ≡ place_in kind.Requests file → x ≡ host_file_of n file
  unfolding host_file_of
  file_requests e f = rw e (rw (← f) d)

  pub file_bundle : n ≡ 3 → p ≡ place_in kind.Bundle file → x ≡ host_file_of n file
  unfolding host_file_of
  file_bundle e f = rw e (rw (← f) d)

  pub file_hints : n ≡ 4 → p ≡ place_in kind.Hints file → x ≡ host_file_of n file
  unfolding host_file_of
  file_hints e f = rw e (rw (← f) d)

-- no arm was taken
pub file_unknown : (n : ℕ) (file : Bytes) (x : FileInNumbers) → (n ≡ 0 → ⊥) → (n ≡ 1 → ⊥) → (n ≡ 2 → ⊥) → (n ≡ 3 → ⊥) → (n ≡ 4 → ⊥) → x ≡ file_numbers out_of_range 0 unnamed → x ≡ host_file_of n file
unfolding host_file_of
file_unknown n file x a b c d e z = z ∙ sym (rw (ne_eqb n 0 a, ne_eqb n 1 b, ne_eqb n 2 c, ne_eqb n 3 d, ne_eqb n 4 e))
