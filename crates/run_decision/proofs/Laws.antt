-- The turns of the loops over a set, and what the code's answers say of a judgement by sets.
use Prim.Native.Nat.{ℕ, zero, suc, ◌+◌, ◌-◌, ◌*◌, ◌/◌, ◌%◌, ◌^◌, ◌≤◌, ◌<◌}
use native.Mathlib.Omega.{arith}
use native.Mathlib.Nat.{pow-suc}
use mathlib.Core.Path.{◌≡◌, refl, sym, ◌∙◌, ap}
use mathlib.Core.Logic.{◌⊎◌, inl, inr}
use mathlib.Core.List.{List, [], ◌∷◌}
use mathlib.Core.Option.{none}
use Rattle.std.specs.Prelude.{Option, Some, None}
use Rattle.std.specs.Option.{ok_or}
use mathlib.Core.Bool.{Bool, true, false, not}
use borrow.Author.Tests.{not-true, not-false}
use lib.ListN.{length, get_or}
use lib.Bits.{bit_and, and_le_l, and_zero_l}
use lib.Count.{count_trailing_zeros, trailing_of_zero}
use lib.Pow.{pow_pos, pow_mono}
use Rattle.rules.specs.Sizes.{groups_max}
use Rattle.std.specs.Prelude.{Ok, Err, if◌then◌else◌}
use Rattle.rules.specs.Basics.{Bytes, any, records}
use Rattle.rules.specs.Acl.{actions_of, Group}
use Rattle.rules.specs.Request.{blobfile_next, wanted_of}
use Rattle.rules.specs.Grant.{admits}
use Rattle.rules.specs.Gate.{not_found}
use Rattle.rules.proofs.Rows.{lent_rest, lent_rest_lem, no_rows}
use Rattle.run_decision.proofs.GroupSets.{two, halved, still_even, first_stop, first_next, first_done, lowest_out, member_below, first_below, placed_there, placed_past}
use Rattle.run_decision.specs.GroupSets.{first_in, IsPlace, placed, judged_by_sets}
use Rattle.run_limits.specs.declared.row.Row.{Row}
use Rattle.run_limits.specs.Rows.{row_left, row_at}
use Rattle.refusals.specs.declared.Denial.TheVariants.{NotAdmitted, NotCertified, Spent}
use Rattle.gate_decision.specs.Standings.{judged_for}
use Rattle.run_decision.specs.Deciding.{Within}
use Rattle.run_decision.specs.Members.{left_at, admits_at, members_in}

-- `u64::trailing_zeros(set)` of a set that has a member
pub lowest_below : (n : ℕ) → 0 < n → n < 2 ^ 64 → count_trailing_zeros 64 n < 64
lowest_below n p h = member_below 64 64 n p h (omega arith)

-- the lowest member of a set of groups is the index of a group
pub lowest_group_lem : (n k : ℕ) → 0 < n → n < 2 ^ groups_max → k ≡ count_trailing_zeros 64 n → k < groups_max
lowest_group_lem n k p h e = rw e (member_below 64 groups_max n p h (omega arith))

-- a set gets smaller
pub walk_less : (n : ℕ) → 0 < n → n < 2 ^ groups_max → bit_and n (n - 1) < n
walk_less n p h = let a = lowest_out 64 n p (omega arith) in let b = pow_pos (count_trailing_zeros 64 n) in omega arith

pub walk_within : (n : ℕ) → 0 < n → n < 2 ^ groups_max → bit_and n (n - 1) < 2 ^ groups_max
walk_within n p h = let a = walk_less n p h in omega arith

module _ (test : ℕ → Bool) (set left : ℕ) (inv : first_in test 64 left ≡ first_in test 64 set) (k : ℕ) (e : k ≡ count_trailing_zeros 64 left) (r : Bool) (t : r ≡ test k) where
  pub walk_stop : 0 < left → left < 2 ^ groups_max → r ≡ true → (first_in test 64 set ≡ k) × (k < 64)
  walk_stop p h a = (sym inv ∙ first_stop test 64 left p (omega arith) (ap test (sym e) ∙ sym t ∙ a) ∙ sym e, lowest_group_lem left k p h e)

  pub walk_next : 0 < left → left < 2 ^ groups_max → r ≡ false → first_in test 64 (bit_and left (left - 1)) ≡ first_in test 64 set
  walk_next p h a = ap (first_in test 64) (lowest_out 64 left p (omega arith)) ∙ first_next test 64 left p (omega arith) (ap test (sym e) ∙ sym t ∙ a) ∙ inv

pub walk_done : (test : ℕ → Bool) (set left : ℕ) → first_in test 64 left ≡ first_in test 64 set → left ≤ 0 → first_in test 64 set ≡ 64
walk_done test set left inv z = let e : left ≡ 0 = omega arith in sym inv ∙ ap (first_in test 64) e ∙ first_done test 64

-- The members that pass: the lowest, and the others.
pub low_le : (w n : ℕ) → 0 < n → n < 2 ^ w → 2 ^ count_trailing_zeros w n ≤ n
unfolding count_trailing_zeros
low_le zero n p h = absurd (omega arith)
low_le (suc w) n p h = pick (two n) (low_le w (n / 2))
  where
    pick : (n % 2 ≡ 0) ⊎ (n % 2 ≡ 1) → (0 < n / 2 → n / 2 < 2 ^ w → 2 ^ count_trailing_zeros w (n / 2) ≤ n / 2) → 2 ^ count_trailing_zeros (suc w) n ≤ n
    pick (inl e) f = let i = f (omega arith) (omega (arith, pow-suc 2 w)) in rw e (omega (arith, pow-suc 2 (count_trailing_zeros w (n / 2))))
    pick (inr e) f = rw e (omega arith)

members_out : (test : ℕ → Bool) (w n : ℕ) → 0 < n → n < 2 ^ w → members_in test w n ≡ (if test (count_trailing_zeros w n) then 2 ^ count_trailing_zeros w n else 0) + members_in test w (n - 2 ^ count_trailing_zeros w n)
unfolding members_in count_trailing_zeros
members_out test zero n p h = absurd (omega arith)
members_out test (suc w) n p h = pick (two n) (members_out (λ k. test (suc k)) w (n / 2))
  where
    z : ℕ
    z = count_trailing_zeros w (n / 2)

    rest : ℕ → ℕ
    rest m = members_in (λ k. test (suc k)) w m

    twice : (b : Bool) → rest (n / 2) ≡ (if b then 2 ^ z else 0) + rest (n / 2 - 2 ^ z) → 0 + 2 * rest (n / 2) ≡ (if b then 2 ^ suc z else 0) + (0 + 2 * rest (n / 2 - 2 ^ z))
    twice true e = omega (arith, pow-suc 2 z)
    twice false e = omega arith

    once : (b : Bool) (m : ℕ) → (if b then 1 else 0) + 2 * m ≡ (if b then 1 else 0) + (0 + 2 * m)
    once true m = omega arith
    once false m = omega arith

    pick : (n % 2 ≡ 0) ⊎ (n % 2 ≡ 1) → (0 < n / 2 → n / 2 < 2 ^ w → rest (n / 2) ≡ (if test (suc z) then 2 ^ z else 0) + rest (n / 2 - 2 ^ z))
        → members_in test (suc w) n ≡ (if test (count_trailing_zeros (suc w) n) then 2 ^ count_trailing_zeros (suc w) n else 0) + members_in test (suc w) (n - 2 ^ count_trailing_zeros (suc w) n)
    pick (inl e) f = rw (e, still_even n z e, halved n z e) (twice (test (suc z)) (f (omega arith) (omega (arith, pow-suc 2 w))))
    pick (inr e) f =
        let a : (n - 1) % 2 ≡ 0 = omega arith in
        let b : (n - 1) / 2 ≡ n / 2 = omega arith in
        rw (e, a, b) (once (test 0) (rest (n / 2)))

members_none : (test : ℕ → Bool) (w : ℕ) → members_in test w 0 ≡ 0
unfolding members_in
members_none test zero = refl
members_none test (suc w) = let i = members_none (λ k. test (suc k)) w in omega arith

-- The state of the loop that keeps members: those kept, with the members left that pass, are those of the set that pass.
pub record Keeping (test : ℕ → Bool) (set kept left : ℕ) : Type 0 where
  pub few : set < 2 ^ groups_max
  pub whole : kept + members_in test 64 left ≡ members_in test 64 set

pub keeping_start : (test : ℕ → Bool) (set : ℕ) → set < 2 ^ groups_max → Keeping test set 0 set
keeping_start test set h = record { few = h; whole = omega arith }

module _ (test : ℕ → Bool) (set kept left : ℕ) (keep : Keeping test set kept left) where
  pub keeping_done : left ≤ 0 → kept ≡ members_in test 64 set
  keeping_done z =
      let e : left ≡ 0 = omega arith in
      let a : members_in test 64 left ≡ 0 = ap (members_in test 64) e ∙ members_none test 64 in
      let b = keep.whole in
      omega arith

  module _ (k : ℕ) (r : Bool) (e : k ≡ count_trailing_zeros 64 left) (t : r ≡ test k) (p : 0 < left) (h : left < 2 ^ groups_max) where
    out : bit_and left (left - 1) ≡ left - 2 ^ k
    out = lowest_out 64 left p (omega arith) ∙ ap (λ (n : ℕ). left - 2 ^ n) (sym e)

    lowest_in : 2 ^ k ≤ left
    lowest_in = rw e (low_le 64 left p (omega arith))

    both : members_in test 64 left ≡ (if r then 2 ^ k else 0) + members_in test 64 (bit_and left (left - 1))
    both = members_out test 64 left p (omega arith) ∙ rw (← e, ← t, ← out)

    pub keeping_skip : not r ≡ true → Keeping test set kept (bit_and left (left - 1))
    keeping_skip n =
        let f : r ≡ false = not-true r n in
        let b : members_in test 64 left ≡ 0 + members_in test 64 (bit_and left (left - 1)) = rw f at both in
        let w = keep.whole in
        record { few = keep.few; whole = omega arith }

    pub keeping_next : (next : ℕ) → not r ≡ false → next ≡ kept + (left - bit_and left (left - 1)) → Keeping test set next (bit_and left (left - 1))
    keeping_next next n q =
        let f : r ≡ true = not-false r n in
        let b : members_in test 64 left ≡ 2 ^ k + members_in test 64 (bit_and left (left - 1)) = rw f at both in
        let w = keep.whole in
        let o = out in
        let l = lowest_in in
        record { few = keep.few; whole = omega arith }

pub rest_less : (n : ℕ) → bit_and n (n - 1) ≤ n
rest_less n = and_le_l n (n - 1)

-- what is left at an index, by its row
row_there : (rows : List Row) (k : ℕ) (a : Row) → k < length rows → get_or rows k a ≡ row_at rows k
row_there [] k a h = absurd (omega arith)
row_there (r ∷ rs) zero a h = refl
row_there (r ∷ rs) (suc k) a h = row_there rs k a (omega arith)

pub left_row : (counts counters : List ℕ) (elapsed : ℕ) (rows : List Row) (k : ℕ) (row : Row) (r : Bool) → k < length rows → r ≡ row_left counters (get_or counts k 0) elapsed (get_or rows k row)
    → r ≡ left_at counts counters elapsed rows k
unfolding left_at
left_row counts counters elapsed rows k row r h d = d ∙ ap (row_left counters (get_or counts k 0) elapsed) (row_there rows k row h)

-- whether a group admits; nothing follows the request record
pub admits_lent : (km0 rec acl : Bytes) (bodies : List ℕ) (k : ℕ) (r : Bool)
    → r ≡ any (admits km0 (wanted_of rec (blobfile_next (records [])))) (actions_of (records (lent_rest acl (get_or bodies k 0)))) → r ≡ admits_at km0 (wanted_of rec none) acl bodies k
unfolding admits_at blobfile_next
admits_lent km0 rec acl bodies k r e = e ∙ rw (no_rows [] (omega arith), lent_rest_lem acl (get_or bodies k 0))

pub both_within : (gs : List Group) (a c : ℕ) → length gs ≤ groups_max → a < 2 ^ length gs → bit_and a c < 2 ^ groups_max
both_within gs a c fit h = let m : 2 ^ length gs ≤ 2 ^ groups_max = pow_mono fit in let l = and_le_l a c in omega arith

-- Of a judgement by two sets, the first of groups that there are.
module _ (gs : List Group) (a c : ℕ) (left : ℕ → Bool) (fit : length gs ≤ groups_max) where
  none_there : placed gs 64 ≡ not_found
  none_there = placed_past gs 64 (omega arith)

  pub judged_none : a < 1 → Err NotAdmitted ≡ judged_for (judged_by_sets gs a c left)
  unfolding judged_by_sets
  judged_none h =
      let z : a ≡ 0 = omega arith in
      sym (rw (z, and_zero_l c, trailing_of_zero 64, first_done left 64, none_there))

  module _ (h : a < 2 ^ length gs) where
    pub judged_uncertified : (k : ℕ) → 1 ≤ a → bit_and a c < 1 → k ≡ count_trailing_zeros 64 a → (Err (NotCertified k) ≡ judged_for (judged_by_sets gs a c left)) × (k < groups_max)
    unfolding judged_by_sets
    judged_uncertified k p b e =
        let z : bit_and a c ≡ 0 = omega arith in
        let m : count_trailing_zeros 64 a < length gs = member_below 64 (length gs) a (omega arith) h (omega arith) in
        let g = placed_there gs (count_trailing_zeros 64 a) m in
        (ap (λ (n : ℕ). Err (NotCertified n)) e ∙ sym (rw (z, trailing_of_zero 64, first_done left 64, none_there, g.2)), omega arith)

    both_below : bit_and a c < 2 ^ length gs
    both_below = let l = and_le_l a c in omega arith

    module _ (p : 1 ≤ bit_and a c) where
      member : count_trailing_zeros 64 (bit_and a c) < length gs
      member = member_below 64 (length gs) (bit_and a c) (omega arith) both_below (omega arith)

      exhausted_lem : (j : ℕ) → first_in left 64 (bit_and a c) ≡ 64 → j ≡ count_trailing_zeros 64 (bit_and a c) → Err (Spent j) ≡ judged_for (judged_by_sets gs a c left)
      unfolding judged_by_sets
      exhausted_lem j e d =
          let g = placed_there gs (count_trailing_zeros 64 (bit_and a c)) member in
          ap (λ (n : ℕ). Err (Spent n)) d ∙ sym (rw (ap (placed gs) e ∙ none_there, g.2))

      granted_lem : (k : ℕ) → first_in left 64 (bit_and a c) ≡ k → k < 64 → Ok k ≡ judged_for (judged_by_sets gs a c left)
      unfolding judged_by_sets
      granted_lem k e f =
          let g = placed_there gs (first_in left 64 (bit_and a c)) (past (first_below left 64 (length gs) (bit_and a c) both_below (omega arith))) in
          ap Ok (sym e) ∙ sym (rw g.2)
        where
          past : (first_in left 64 (bit_and a c) < length gs) ⊎ (first_in left 64 (bit_and a c) ≡ 64) → first_in left 64 (bit_and a c) < length gs
          past (inl q) = q
          past (inr q) = absurd (omega arith)

      -- the group that a walk found, or the lowest of those that are spent
      pub judged_found : (o : Option ℕ) (j n : ℕ) → n ≡ first_in left 64 (bit_and a c) → IsPlace o n → j ≡ count_trailing_zeros 64 (bit_and a c)
          → (ok_or o (Spent j) ≡ judged_for (judged_by_sets gs a c left)) × Within (ok_or o (Spent j))
      judged_found None j n e i d = (exhausted_lem j (sym e ∙ i) d, (let m = member in omega arith))
      judged_found (Some k) j n e i d = (granted_lem k (sym e ∙ i.0) i.1, i.1)
