-- Sets of delegations, as numbers: laws of a loop that makes one, from the last record to the first.
use Prim.Native.Nat.{ℕ, suc, ◌+◌, ◌-◌, ◌*◌, ◌^◌, ◌<◌, ◌≤◌}
use native.Mathlib.Omega.{arith}
use mathlib.Core.Path.{◌≡◌, sym, ◌∙◌, ap}
use mathlib.Core.List.{List, [], ◌∷◌}
use mathlib.Core.Bool.{Bool, true, false}
use borrow.Author.Tests.{eq-eqb, ne_eqb}
use mir.Val.{bool_byte}
use lib.ListN.{length, get_or, drop}
use Rattle.std.specs.Prelude.{if◌then◌else◌}
use Rattle.rules.specs.Basics.{Bytes, kind, set_of}
use Rattle.rules.specs.Request.{Delegation, delegation_of, delegations_of}
use Rattle.record_fields.proofs.Walks.{left_at, left_none}

pub set_none : (t : Delegation → Bool) (rs : List Bytes) → 0 ≡ set_of t (delegations_of (drop (length rs) rs))
unfolding set_of delegations_of
set_none t rs = sym (ap (λ (l : List Bytes). set_of t (delegations_of l)) (left_none rs (length rs) (omega arith)))

byte_is : (b : Bool) (m : ℕ) → m ≡ bool_byte b → m ≡ (if b then 1 else 0)
byte_is true m e = e
byte_is false m e = e

pub byte_small : (b : Bool) (m : ℕ) → m ≡ bool_byte b → m ≤ 1
byte_small true m e = omega arith
byte_small false m e = omega arith

pub set_fits_none : (n : ℕ) → 0 < 2 ^ (n - n)
set_fits_none n = let e : n - n ≡ 0 = omega arith in rw e (omega arith)

-- a set of n has less than 2 ^ n for its number, and with one element more twice that
pub set_fits : (n i set m : ℕ) → 0 < i → i ≤ n → set < 2 ^ (n - i) → m ≤ 1 → set * 2 + m < 2 ^ (n - (i - 1))
set_fits n i set m l h f k = let e : n - (i - 1) ≡ suc (n - i) = omega arith in rw e (omega arith)

pub set_fits_still : (n i set : ℕ) → 0 < i → i ≤ n → set < 2 ^ (n - i) → set < 2 ^ (n - (i - 1))
set_fits_still n i set l h f = let e : n - (i - 1) ≡ suc (n - i) = omega arith in rw e (omega arith)

module _ (t : Delegation → Bool) (rs : List Bytes) (i set : ℕ) (low : 0 < i) (high : i ≤ length rs) (inv : set ≡ set_of t (delegations_of (drop i rs))) where
  before : drop (i - 1) rs ≡ get_or rs (i - 1) [] ∷ drop i rs
  before =
      let e : i - 1 + 1 ≡ i = omega arith in
      left_at rs (i - 1) (omega arith) ∙ ap (λ (k : ℕ). get_or rs (i - 1) [] ∷ drop k rs) e

  pub set_skip : (kind (get_or rs (i - 1) []) ≡ 14 → ⊥) → set ≡ set_of t (delegations_of (drop (i - 1) rs))
  unfolding delegations_of
  set_skip n = inv ∙ sym (ap (λ (l : List Bytes). set_of t (delegations_of l)) before ∙ rw (ne_eqb (kind (get_or rs (i - 1) [])) 14 n))

  pub set_more : (r : Bool) (m : ℕ) → kind (get_or rs (i - 1) []) ≡ 14 → r ≡ t (delegation_of (get_or rs (i - 1) [])) → m ≡ bool_byte r → set * 2 + m ≡ set_of t (delegations_of (drop (i - 1) rs))
  unfolding set_of delegations_of
  set_more r m e d f =
      let x : set_of t (delegations_of (drop (i - 1) rs)) ≡ (if t (delegation_of (get_or rs (i - 1) [])) then 1 else 0) + 2 * set_of t (delegations_of (drop i rs)) =
      ap (λ (l : List Bytes). set_of t (delegations_of l)) before ∙ rw (eq-eqb (kind (get_or rs (i - 1) [])) 14 e) in
      let y = byte_is r m f in
      let z : m ≡ (if t (delegation_of (get_or rs (i - 1) [])) then 1 else 0) = rw d at y in
      omega (arith, x, z, inv)
