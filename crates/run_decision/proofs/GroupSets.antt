-- Sets of groups as numbers: the turns of a loop that takes the lowest member out of a set, one after the other; and that the judgement by sets is the
-- gate's.
use Prim.Native.Nat.{ℕ, zero, suc, ◌+◌, ◌-◌, ◌*◌, ◌/◌, ◌%◌, ◌^◌, ◌≤◌, ◌<◌, min}
use native.Mathlib.Omega.{arith}
use native.Mathlib.Nat.{pow-suc, add-zero, zero-add}
use mathlib.Core.Path.{◌≡◌, refl, ◌∙◌, ap}
use mathlib.Core.Logic.{◌⊎◌, inl, inr}
use mathlib.Core.List.{List, [], ◌∷◌}
use mathlib.Core.Option.{none, some}
use mathlib.Core.Bool.{Bool, true, false, ◌&&◌}
use lib.ListN.{length, get_elem?}
use lib.Dec.{eqb}
use lib.Bits.{bit_and, and_step, and_self}
use lib.Count.{count_trailing_zeros, under}
use Rattle.rules.specs.Sizes.{set_bits}
use Rattle.std.specs.Prelude.{if◌then◌else◌}
use Rattle.rules.specs.Basics.{Bytes, holds_at, set_of}
use Rattle.rules.specs.Acl.{Group}
use Rattle.rules.specs.Request.{Request}
use Rattle.rules.specs.Ledger.{Ledger}
use Rattle.rules.specs.Grant.{group_admits, certified, unspent}
use Rattle.rules.specs.Gate.{not_found, group, lowest, granted, admits_certified, grants, or_else}
use Rattle.rules.proofs.Sets.{set_rest}
use Rattle.rules.proofs.Judging.{ungranted}
use Rattle.rules.proofs.GroupSets.{digit, digit_odd, digit_bit}
use Rattle.run_decision.specs.GroupSets.{first_in, placed_at, placed, judged_by_sets, unspent_at}

-- The groups in both of two sets.
pub set_both : (p c : Group → Bool) (gs : List Group) → bit_and (set_of p gs) (set_of c gs) ≡ set_of (λ g. p g && c g) gs
unfolding set_of
set_both p c [] = refl
set_both p c (g ∷ gs) =
    and_step (digit (p g) + 2 * set_of p gs) (digit (c g) + 2 * set_of c gs)
    ∙ rw (set_rest (p g) (set_of p gs), set_rest (c g) (set_of c gs), digit_odd (p g) (set_of p gs), digit_odd (c g) (set_of c gs), set_both p c gs) (sum (p g) (c g) (set_of (λ g. p g && c g) gs))
  where
    sum : (a b : Bool) (n : ℕ) → n * 2 + min (digit a) (digit b) ≡ digit (a && b) + 2 * n
    sum true true n = omega arith
    sum true false n = omega arith
    sum false true n = omega arith
    sum false false n = omega arith

-- a number is even or odd
pub two : (n : ℕ) → (n % 2 ≡ 0) ⊎ (n % 2 ≡ 1)
two n = pick (n % 2) refl
  where
    pick : (r : ℕ) → n % 2 ≡ r → (n % 2 ≡ 0) ⊎ (n % 2 ≡ 1)
    pick zero e = inl e
    pick (suc r) e = inr (omega arith)

-- an even number without the power of two at a place past the first: its half, and that it is even
pub halved : (n z : ℕ) → n % 2 ≡ 0 → (n - 2 ^ suc z) / 2 ≡ n / 2 - 2 ^ z
halved n z e = omega (arith, pow-suc 2 z)

pub still_even : (n z : ℕ) → n % 2 ≡ 0 → (n - 2 ^ suc z) % 2 ≡ 0
still_even n z e = omega (arith, pow-suc 2 z)

-- nothing is left
pub first_done : (test : ℕ → Bool) (w : ℕ) → first_in test w 0 ≡ w
unfolding first_in
first_done test zero = refl
first_done test (suc w) = ap suc (first_done (λ k. test (suc k)) w)

-- the lowest member passes
pub first_stop : (test : ℕ → Bool) (w n : ℕ) → 0 < n → n < 2 ^ w → test (count_trailing_zeros w n) ≡ true → first_in test w n ≡ count_trailing_zeros w n
unfolding first_in count_trailing_zeros
first_stop test zero n p h t = refl
first_stop test (suc w) n p h t = pick (two n) (first_stop (λ k. test (suc k)) w (n / 2))
  where
    pick : (n % 2 ≡ 0) ⊎ (n % 2 ≡ 1) → (0 < n / 2 → n / 2 < 2 ^ w → test (suc (count_trailing_zeros w (n / 2))) ≡ true → first_in (λ k. test (suc k)) w (n / 2) ≡ count_trailing_zeros w (n / 2))
        → first_in test (suc w) n ≡ count_trailing_zeros (suc w) n
    pick (inl e) f = rw e (ap suc (f (omega arith) (omega (arith, pow-suc 2 w)) (rw e at t)))
    pick (inr e) f = let u : test 0 ≡ true = rw e at t in rw (e, u)

-- the lowest member fails, and is taken out
pub first_next : (test : ℕ → Bool) (w n : ℕ) → 0 < n → n < 2 ^ w → test (count_trailing_zeros w n) ≡ false → first_in test w (n - 2 ^ count_trailing_zeros w n) ≡ first_in test w n
unfolding first_in count_trailing_zeros
first_next test zero n p h t = refl
first_next test (suc w) n p h t = pick (two n) (first_next (λ k. test (suc k)) w (n / 2))
  where
    z : ℕ
    z = count_trailing_zeros w (n / 2)

    pick : (n % 2 ≡ 0) ⊎ (n % 2 ≡ 1) → (0 < n / 2 → n / 2 < 2 ^ w → test (suc z) ≡ false → first_in (λ k. test (suc k)) w (n / 2 - 2 ^ z) ≡ first_in (λ k. test (suc k)) w (n / 2))
        → first_in test (suc w) (n - 2 ^ count_trailing_zeros (suc w) n) ≡ first_in test (suc w) n
    pick (inl e) f = rw (e, still_even n z e, halved n z e) (ap suc (f (omega arith) (omega (arith, pow-suc 2 w)) (rw e at t)))
    pick (inr e) f =
        let u : test 0 ≡ false = rw e at t in
        let a : (n - 1) % 2 ≡ 0 = omega arith in
        let b : (n - 1) / 2 ≡ n / 2 = omega arith in
        rw (e, a, b, u)

-- taking the lowest member out: `n & (n - 1)`
pub lowest_out : (w n : ℕ) → 0 < n → n < 2 ^ w → bit_and n (n - 1) ≡ n - 2 ^ count_trailing_zeros w n
unfolding count_trailing_zeros
lowest_out zero n p h = absurd (omega arith)
lowest_out (suc w) n p h = pick (two n) (lowest_out w (n / 2))
  where
    z : ℕ
    z = count_trailing_zeros w (n / 2)

    pick : (n % 2 ≡ 0) ⊎ (n % 2 ≡ 1) → (0 < n / 2 → n / 2 < 2 ^ w → bit_and (n / 2) (n / 2 - 1) ≡ n / 2 - 2 ^ z) → bit_and n (n - 1) ≡ n - 2 ^ count_trailing_zeros (suc w) n
    pick (inl e) f =
        let a : (n - 1) / 2 ≡ n / 2 - 1 = omega arith in
        let b : (n - 1) % 2 ≡ 1 = omega arith in
        let i = f (omega arith) (omega (arith, pow-suc 2 w)) in
        and_step n (n - 1) ∙ rw (e, a, b, i) (omega (arith, pow-suc 2 z))
    pick (inr e) f =
        let a : (n - 1) / 2 ≡ n / 2 = omega arith in
        let b : (n - 1) % 2 ≡ 0 = omega arith in
        and_step n (n - 1) ∙ rw (e, a, b, and_self (n / 2)) (omega arith)

first_cong : (t u : ℕ → Bool) (w n : ℕ) → ((k : ℕ) → t k ≡ u k) → first_in t w n ≡ first_in u w n
unfolding first_in
first_cong t u zero n f = refl
first_cong t u (suc w) n f = rw (f 0, first_cong (λ k. t (suc k)) (λ k. u (suc k)) w (n / 2) (λ k. f (suc k)))

-- The lowest group that passes a test, and a test of its place besides: the lowest member of the set that passes the second test.
lowest_from : (p : Group → Bool) (u : ℕ → Group → Bool) (place : ℕ) (gs : List Group) (w : ℕ) → length gs ≤ w
    → let k = first_in (λ k. holds_at (u (place + k)) (get_elem? gs k)) w (set_of p gs) in
    lowest (λ k g. p g && u k g) place gs ≡ placed_at (place + k) (get_elem? gs k)
unfolding lowest first_in set_of
lowest_from p u place [] w h = refl
lowest_from p u place (g ∷ gs) zero h = absurd (omega arith)
lowest_from p u place (g ∷ gs) (suc w) h =
    rw (set_rest (p g) (set_of p gs), digit_odd (p g) (set_of p gs), digit_bit (p g), add-zero) (pick (p g && u place g) (lowest_from p u (suc place) gs w (omega arith)))
  where
    rest : ℕ → ℕ
    rest from = first_in (λ k. holds_at (u (from + k)) (get_elem? gs k)) w (set_of p gs)

    later : ℕ
    later = first_in (λ k. holds_at (u (place + suc k)) (get_elem? gs k)) w (set_of p gs)

    moved : (k : ℕ) → suc place + k ≡ place + suc k
    moved k = omega arith

    same : rest (suc place) ≡ later
    same = first_cong (λ k. holds_at (u (suc place + k)) (get_elem? gs k)) (λ k. holds_at (u (place + suc k)) (get_elem? gs k)) w (set_of p gs) (λ k. ap (λ (m : ℕ). holds_at (u m) (get_elem? gs k)) (moved k))

    pick : (b : Bool) → lowest (λ k g. p g && u k g) (suc place) gs ≡ placed_at (suc place + rest (suc place)) (get_elem? gs (rest (suc place)))
        → (if b then group place g else lowest (λ k g. p g && u k g) (suc place) gs)
        ≡ placed_at (place + (if b then 0 else suc later)) (get_elem? (g ∷ gs) (if b then 0 else suc later))
    pick true f = rw add-zero
    pick false f = f ∙ rw (same, moved later)

-- The lowest group that passes a test: the lowest member of its set.
lowest_member : (p : Group → Bool) (place : ℕ) (gs : List Group) (w : ℕ) → length gs ≤ w
    → let k = count_trailing_zeros w (set_of p gs) in
    lowest (λ k g. p g) place gs ≡ placed_at (place + k) (get_elem? gs k)
unfolding lowest count_trailing_zeros set_of
lowest_member p place [] w h = refl
lowest_member p place (g ∷ gs) zero h = absurd (omega arith)
lowest_member p place (g ∷ gs) (suc w) h =
    rw (set_rest (p g) (set_of p gs), digit_odd (p g) (set_of p gs)) (pick (p g) (lowest_member p (suc place) gs w (omega arith)))
  where
    later : ℕ
    later = count_trailing_zeros w (set_of p gs)

    moved : suc place + later ≡ place + suc later
    moved = omega arith

    pick : (b : Bool) → lowest (λ k g. p g) (suc place) gs ≡ placed_at (suc place + later) (get_elem? gs later)
        → (if b then group place g else lowest (λ k g. p g) (suc place) gs) ≡ placed_at (place + under (digit b) later) (get_elem? (g ∷ gs) (under (digit b) later))
    pick true f = rw add-zero
    pick false f = f ∙ rw moved

pub sets_judge : (l : Ledger) (km0 : Bytes) (gs : List Group) (q : Request) → length gs ≤ set_bits
    → or_else (lowest (grants l km0 q) 0 gs) granted (ungranted (lowest (λ place. admits_certified km0 q) 0 gs) (lowest (λ place. group_admits km0 q) 0 gs))
    ≡ judged_by_sets gs (set_of (group_admits km0 q) gs) (set_of (certified q) gs) (unspent_at l q gs)
unfolding judged_by_sets
sets_judge l km0 gs q h =
    rw (set_both (group_admits km0 q) (certified q) gs, lowest_member (group_admits km0 q) 0 gs set_bits h, lowest_member (admits_certified km0 q) 0 gs set_bits h, lowest_from (admits_certified km0 q) (λ k. unspent l k q) 0 gs set_bits h)
    (simp zero-add)

-- the lowest member of a set of m bits is below m
pub member_below : (w m n : ℕ) → 0 < n → n < 2 ^ m → m ≤ w → count_trailing_zeros w n < m
unfolding count_trailing_zeros
member_below w zero n p h l = absurd (omega arith)
member_below zero (suc m) n p h l = absurd (omega arith)
member_below (suc w) (suc m) n p h l = pick (two n) (member_below w m (n / 2))
  where
    pick : (n % 2 ≡ 0) ⊎ (n % 2 ≡ 1) → (0 < n / 2 → n / 2 < 2 ^ m → m ≤ w → count_trailing_zeros w (n / 2) < m) → count_trailing_zeros (suc w) n < suc m
    pick (inl e) f = let i = f (omega arith) (omega (arith, pow-suc 2 m)) (omega arith) in rw e (omega arith)
    pick (inr e) f = rw e (omega arith)

-- The group at an index of the list, and past the end.
pub placed_there : (gs : List Group) (k : ℕ) → k < length gs → (g : Group) × (get_elem? gs k ≡ some g) × (placed gs k ≡ group k g)
placed_there [] k h = absurd (omega arith)
placed_there (g ∷ gs) zero h = (g, refl, refl)
placed_there (g ∷ gs) (suc k) h = let r = placed_there gs k (omega arith) in (r.0, r.1, rw r.1)

pub placed_past : (gs : List Group) (k : ℕ) → length gs ≤ k → placed gs k ≡ not_found
placed_past gs k h = rw (past gs k h)
  where
    past : (gs : List Group) (k : ℕ) → length gs ≤ k → get_elem? gs k ≡ none
    past [] k h = refl
    past (g ∷ gs) zero h = absurd (omega arith)
    past (g ∷ gs) (suc k) h = past gs k (omega arith)

-- what a walk over a set of m bits finds: a member below m, or none
pub first_below : (test : ℕ → Bool) (w m n : ℕ) → n < 2 ^ m → m ≤ w → (first_in test w n < m) ⊎ (first_in test w n ≡ w)
unfolding first_in
first_below test zero m n h l = inr refl
first_below test (suc w) zero n h l = let z : n ≡ 0 = omega arith in inr (rw z (ap suc (first_done (λ k. test (suc k)) w)))
first_below test (suc w) (suc m) n h l = pick (eqb (n % 2) 1 && test 0) (first_below (λ k. test (suc k)) w m (n / 2) (omega (arith, pow-suc 2 m)) (omega arith))
  where
    next : ℕ
    next = first_in (λ k. test (suc k)) w (n / 2)

    pick : (b : Bool) → (next < m) ⊎ (next ≡ w) → ((if b then 0 else suc next) < suc m) ⊎ ((if b then 0 else suc next) ≡ suc w)
    pick true f = inl (omega arith)
    pick false (inl f) = inl (omega arith)
    pick false (inr f) = inr (ap suc f)
