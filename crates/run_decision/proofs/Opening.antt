-- A group that is spent stays so, and a walk may leave it out.
use Prim.Native.Nat.{ℕ, zero, suc, ◌+◌, ◌-◌, ◌*◌, ◌/◌, ◌%◌, ◌^◌, ◌≤◌, ◌<◌, min}
use native.Mathlib.Omega.{arith}
use native.Mathlib.Nat.{pow-suc, mod-eq_of_lt}
use mathlib.Core.Path.{◌≡◌, refl, sym, ◌∙◌, ap}
use mathlib.Core.Logic.{◌⊎◌, inl, inr}
use mathlib.Core.List.{List, [], ◌∷◌}
use mathlib.Core.Bool.{Bool, true, false, ◌&&◌}
use borrow.Author.Tests.{ltb-true, lt-ltb, leb-true, le-leb}
use lib.ListN.{get_or}
use lib.Bits.{bit_and, and_step, and_mask, and_le_l}
use lib.Count.{count_trailing_zeros}
use lib.Pow.{pow_pos, pow_mono}
use lib.Dec.{eqb, leb, ltb}
use Rattle.rules.specs.Sizes.{groups_max}
use Rattle.std.specs.Prelude.{if◌then◌else◌}
use Rattle.rules.specs.Basics.{all}
use Rattle.rules.proofs.Laws.{never, and_left, and_right, and_both}
use Rattle.run_limits.specs.declared.row.Row.{Row}
use Rattle.run_limits.specs.Rows.{word_left, words_of, row_left, row_at}
use Rattle.run_decision.proofs.GroupSets.{two, lowest_out, member_below}
use Rattle.run_decision.specs.GroupSets.{first_in}
use Rattle.run_decision.proofs.Laws.{low_le}
use Rattle.run_decision.specs.Members.{left_at, members_in}
use Rattle.run_decision.specs.Opening.{NoLess, Opened, OpenFrom, Closes, OpenAt}

pub no_less_same : (xs : List ℕ) → NoLess xs xs
unfolding NoLess
no_less_same xs i = omega arith

pub no_less_over : (xs ys zs : List ℕ) → NoLess xs ys → NoLess ys zs → NoLess xs zs
unfolding NoLess
no_less_over xs ys zs p q i = let a = p i in let b = q i in omega arith

below_too : (m n k : ℕ) → m ≤ n → ltb n k ≡ true → ltb m k ≡ true
below_too m n k h e = let l = ltb-true n k e in lt-ltb m k (omega arith)

within_too : (m n k : ℕ) → m ≤ n → leb n k ≡ true → leb m k ≡ true
within_too m n k h e = let l = leb-true n k e in le-leb m k (omega arith)

-- What is left with more used and later was left before.
words_before : (counters counters' ws : List ℕ) → NoLess counters counters' → all (word_left counters') ws ≡ true → all (word_left counters) ws ≡ true
unfolding all word_left NoLess
words_before counters counters' [] c e = refl
words_before counters counters' (w ∷ ws) c e =
    let a = word_left counters' w in
    let b = all (word_left counters') ws in
    and_both (word_left counters w) (all (word_left counters) ws)
    (below_too (get_or counters (w % 256) 0) (get_or counters' (w % 256) 0) (w / 256) (c (w % 256)) (and_left a b e))
    (words_before counters counters' ws c (and_right a b e))

module _ (counts counts' counters counters' : List ℕ) (elapsed elapsed' : ℕ) (rows : List Row) (h : NoLess counts counts') (c : NoLess counters counters') (t : elapsed ≤ elapsed') where
  left_before : (k : ℕ) → left_at counts' counters' elapsed' rows k ≡ true → left_at counts counters elapsed rows k ≡ true
  unfolding left_at row_left NoLess
  left_before k e =
      let own = get_or counts k 0 in
      let own' = get_or counts' k 0 in
      let bound = (row_at rows k).bound in
      let last = (row_at rows k).last in
      let ws = words_of (row_at rows k) in
      let x = ltb own' bound in
      let y = leb elapsed' last in
      let z = all (word_left counters') ws in
      and_both (ltb own bound) (leb elapsed last && all (word_left counters) ws)
      (below_too own own' bound (h k) (and_left x (y && z) e))
      (and_both (leb elapsed last) (all (word_left counters) ws)
      (within_too elapsed elapsed' last t (and_left y z (and_right x (y && z) e)))
      (words_before counters counters' ws c (and_right y z (and_right x (y && z) e))))

  stays_spent : (k : ℕ) → left_at counts counters elapsed rows k ≡ false → left_at counts' counters' elapsed' rows k ≡ false
  stays_spent k e = pick (left_at counts' counters' elapsed' rows k) refl
    where
      pick : (b : Bool) → left_at counts' counters' elapsed' rows k ≡ b → b ≡ false
      pick true q = let x : true ≡ false = sym (left_before k q) ∙ e in absurd (never (cc))
      pick false q = refl

-- Members that fail an earlier test, where failing it means failing this one, may be left out.
and_none : (b : Bool) → (b && false) ≡ false
and_none true = refl
and_none false = refl

and_digit : (a d m : ℕ) → d ≤ 1 → bit_and a (d + 2 * m) ≡ min (a % 2) d + 2 * bit_and (a / 2) m
and_digit a d m h =
    let x : (d + 2 * m) / 2 ≡ m = omega arith in
    let y : (d + 2 * m) % 2 ≡ d = omega arith in
    and_step a (d + 2 * m) ∙ rw (x, y) (omega arith)

first_digit : (t : ℕ → Bool) (w d m : ℕ) → d ≤ 1 → first_in t (suc w) (d + 2 * m) ≡ (if eqb d 1 && t 0 then 0 else suc (first_in (λ k. t (suc k)) w m))
unfolding first_in
first_digit t w d m h =
    let x : (d + 2 * m) / 2 ≡ m = omega arith in
    let y : (d + 2 * m) % 2 ≡ d = omega arith in
    rw (x, y)

min_small : (a d : ℕ) → d ≤ 1 → min a d ≤ 1
min_small a d h = omega arith

first_open : (t u : ℕ → Bool) (w a c : ℕ) → ((k : ℕ) → u k ≡ false → t k ≡ false) → first_in t w (bit_and a (members_in u w c)) ≡ first_in t w (bit_and a c)
unfolding first_in members_in
first_open t u zero a c f = refl
first_open t u (suc w) a c f =
    let i = first_open (λ k. t (suc k)) (λ k. u (suc k)) w (a / 2) (c / 2) (λ k e. f (suc k) e) in
    ap (first_in t (suc w)) (and_digit a d rest d_small) ∙ first_digit t w (min (a % 2) d) (bit_and (a / 2) rest) (min_small (a % 2) d d_small)
    ∙ middle i
    ∙ sym (ap (first_in t (suc w)) (ap (bit_and a) whole ∙ and_digit a (c % 2) (c / 2) (omega arith)) ∙ first_digit t w (min (a % 2) (c % 2)) (bit_and (a / 2) (c / 2)) (min_small (a % 2) (c % 2) (omega arith)))
  where
    d : ℕ
    d = if eqb (c % 2) 1 && u 0 then 1 else 0

    rest : ℕ
    rest = members_in (λ k. u (suc k)) w (c / 2)

    d_small : d ≤ 1
    d_small = pick (eqb (c % 2) 1 && u 0)
      where
        pick : (b : Bool) → (if b then 1 else 0) ≤ 1
        pick true = omega arith
        pick false = omega arith

    whole : c ≡ c % 2 + 2 * (c / 2)
    whole = omega arith

    heads : (c % 2 ≡ 0) ⊎ (c % 2 ≡ 1) → (b : Bool) → u 0 ≡ b → (eqb (min (a % 2) d) 1 && t 0) ≡ (eqb (min (a % 2) (c % 2)) 1 && t 0)
    heads (inl e) b q = rw e
    heads (inr e) true q = rw (e, q)
    heads (inr e) false q = rw (f 0 q) (and_none (eqb (min (a % 2) d) 1) ∙ sym (and_none (eqb (min (a % 2) (c % 2)) 1)))

    middle : first_in (λ k. t (suc k)) w (bit_and (a / 2) rest) ≡ first_in (λ k. t (suc k)) w (bit_and (a / 2) (c / 2))
        → (if eqb (min (a % 2) d) 1 && t 0 then 0 else suc (first_in (λ k. t (suc k)) w (bit_and (a / 2) rest)))
        ≡ (if eqb (min (a % 2) (c % 2)) 1 && t 0 then 0 else suc (first_in (λ k. t (suc k)) w (bit_and (a / 2) (c / 2))))
    middle i = rw (heads (two c) (u 0) refl, i)

-- The groups of the run's certified ones that are unspent before it.
pub open_start : (counts counters : List ℕ) (since loaded last : ℕ) (rows : List Row) (c o c' o' : ℕ) → since ≡ last - loaded
    → o ≡ members_in (left_at counts counters since rows) 64 c → c' ≡ c → o' ≡ o → OpenFrom counts counters (last - loaded) rows c' o'
unfolding OpenFrom Opened
open_start counts counters since loaded last rows c o c' o' s e p q counts' counters' elapsed h k t set =
    rw (q ∙ e, p) (first_open (left_at counts' counters' elapsed rows) (left_at counts counters since rows) 64 set c (stays_spent counts counts' counters counters' since elapsed rows h k (omega arith)))

-- the same when more was used
pub open_on : (counts counts' counters counters' : List ℕ) (since since' : ℕ) (rows : List Row) (c o : ℕ) → NoLess counts counts' → NoLess counters counters' → since ≤ since'
    → OpenFrom counts counters since rows c o → OpenFrom counts' counters' since' rows c o
unfolding OpenFrom
open_on counts counts' counters counters' since since' rows c o h k l f x y e p q m =
    f x y e (no_less_over counts counts' x h p) (no_less_over counters counters' y k q) (omega arith)

pub open_first : (left : ℕ → Bool) (set c o : ℕ) → Opened left c o → first_in left 64 (bit_and set o) ≡ first_in left 64 (bit_and set c)
unfolding Opened
open_first left set c o h = h set

-- A set without one member that fails a test.
module _ (t : ℕ → Bool) (w a o : ℕ) where
  head_of : first_in t (suc w) (bit_and a o) ≡ (if eqb (min (a % 2) (o % 2)) 1 && t 0 then 0 else suc (first_in (λ k. t (suc k)) w (bit_and (a / 2) (o / 2))))
  head_of =
      let e : o ≡ o % 2 + 2 * (o / 2) = omega arith in
      ap (first_in t (suc w)) (ap (bit_and a) e ∙ and_digit a (o % 2) (o / 2) (omega arith))
      ∙ first_digit t w (min (a % 2) (o % 2)) (bit_and (a / 2) (o / 2)) (min_small (a % 2) (o % 2) (omega arith))

  head_fails : t 0 ≡ false → first_in t (suc w) (bit_and a o) ≡ suc (first_in (λ k. t (suc k)) w (bit_and (a / 2) (o / 2)))
  head_fails f = head_of ∙ rw f (rw (and_none (eqb (min (a % 2) (o % 2)) 1)))

mask_odd : (w k : ℕ) → k < w → (2 ^ suc w - 1 - 2 ^ suc k) % 2 ≡ 1
mask_odd w k h =
    let p : 2 ^ suc k ≤ 2 ^ w = pow_mono h in
    omega (arith, pow-suc 2 w, pow-suc 2 k, pow_pos k)

mask_half : (w k : ℕ) → k < w → (2 ^ suc w - 1 - 2 ^ suc k) / 2 ≡ 2 ^ w - 1 - 2 ^ k
mask_half w k h =
    let p : 2 ^ suc k ≤ 2 ^ w = pow_mono h in
    omega (arith, pow-suc 2 w, pow-suc 2 k, pow_pos k)

and_half : (a b : ℕ) → bit_and a b / 2 ≡ bit_and (a / 2) (b / 2)
and_half a b = let e = and_step a b in omega arith

and_odd : (a b : ℕ) → bit_and a b % 2 ≡ min (a % 2) (b % 2)
and_odd a b = let e = and_step a b in omega arith

drop_one : (t : ℕ → Bool) (w k a o : ℕ) → k < w → o < 2 ^ w → t k ≡ false → first_in t w (bit_and a (bit_and o (2 ^ w - 1 - 2 ^ k))) ≡ first_in t w (bit_and a o)
drop_one t zero k a o h l f = absurd (omega arith)
drop_one t (suc w) zero a o h l f =
    let m : 2 ^ suc w - 1 - 2 ^ 0 ≡ 2 * (2 ^ w - 1) = omega (arith, pow-suc 2 w, pow_pos w) in
    let q : bit_and o (2 ^ suc w - 1 - 2 ^ 0) / 2 ≡ o / 2 = half m in
    head_fails t w a (bit_and o (2 ^ suc w - 1 - 2 ^ 0)) f ∙ ap (λ (n : ℕ). suc (first_in (λ k. t (suc k)) w (bit_and (a / 2) n))) q ∙ sym (head_fails t w a o f)
  where
    half : 2 ^ suc w - 1 - 2 ^ 0 ≡ 2 * (2 ^ w - 1) → bit_and o (2 ^ suc w - 1 - 2 ^ 0) / 2 ≡ o / 2
    half m =
        let d : 2 * (2 ^ w - 1) / 2 ≡ 2 ^ w - 1 = omega arith in
        let s : o / 2 < 2 ^ w = omega (arith, pow-suc 2 w) in
        and_half o (2 ^ suc w - 1 - 2 ^ 0) ∙ ap (λ (n : ℕ). bit_and (o / 2) (n / 2)) m ∙ ap (bit_and (o / 2)) d ∙ and_mask (o / 2) w ∙ mod-eq_of_lt s
drop_one t (suc w) (suc k) a o h l f =
    let m = 2 ^ suc w - 1 - 2 ^ suc k in
    let i = drop_one (λ k. t (suc k)) w k (a / 2) (o / 2) (omega arith) (omega (arith, pow-suc 2 w)) f in
    let q : bit_and o m / 2 ≡ bit_and (o / 2) (2 ^ w - 1 - 2 ^ k) = and_half o m ∙ ap (bit_and (o / 2)) (mask_half w k (omega arith)) in
    let r : bit_and o m % 2 ≡ o % 2 = and_odd o m ∙ low (mask_odd w k (omega arith)) in
    head_of t w a (bit_and o m) ∙ rw (q, r, i) (sym (head_of t w a o))
  where
    low : (2 ^ suc w - 1 - 2 ^ suc k) % 2 ≡ 1 → min (o % 2) ((2 ^ suc w - 1 - 2 ^ suc k) % 2) ≡ o % 2
    low e = omega arith

-- A walk that passes over a spent group.
pub closes_start : (left : ℕ → Bool) (unspent : ℕ) → Closes left unspent unspent
unfolding Closes
closes_start left unspent test f set = refl

-- the same by a result that says so
pub closes_kept : (left : ℕ → Bool) (unspent n : ℕ) → n ≡ unspent → Closes left unspent n
closes_kept left unspent n e = rw e (closes_start left unspent)

pub closes_same : (left : ℕ → Bool) (unspent n o : ℕ) → n ≡ o → Closes left unspent o → Closes left unspent n
closes_same left unspent n o e c = rw e c

module _ (left : ℕ → Bool) (unspent still l k : ℕ) (c : Closes left unspent still) (e : k ≡ count_trailing_zeros 64 l) (p : 0 < l) (h : l < 2 ^ groups_max) where
  taken_out : l - bit_and l (l - 1) ≡ 2 ^ k
  taken_out =
      let o : bit_and l (l - 1) ≡ l - 2 ^ k = lowest_out 64 l p (omega arith) ∙ ap (λ (n : ℕ). l - 2 ^ n) (sym e) in
      let i : 2 ^ k ≤ l = rw e (low_le 64 l p (omega arith)) in
      omega arith

  pub closes_next : (r : Bool) → r ≡ left k → r ≡ false → still < 18446744073709551616 → (n : ℕ) → n ≡ bit_and still (18446744073709551615 - (l - bit_and l (l - 1))) → Closes left unspent n
  unfolding Closes
  closes_next r t q s n d test f set =
      let b : k < 64 = rw e (member_below 64 64 l p (omega arith) (omega arith)) in
      rw (d, taken_out) (drop_one test 64 k set still b (omega arith) (f k (sym t ∙ q)) ∙ c test f set)

pub open_word : (o m n : ℕ) → o < 18446744073709551616 → n ≡ bit_and o m → n < 18446744073709551616
open_word o m n h e = let l = and_le_l o m in omega arith

-- What a judgement leaves serves from its request on.
pub open_judged : (counts counters : List ℕ) (since : ℕ) (rows : List Row) (c used o : ℕ) → OpenFrom counts counters since rows c used
    → Closes (left_at counts counters since rows) used o → OpenFrom counts counters since rows c o
unfolding OpenFrom Opened Closes
open_judged counts counters since rows c used o h k counts' counters' elapsed x y t set =
    k (left_at counts' counters' elapsed rows) (stays_spent counts counts' counters counters' since elapsed rows x y t) set
    ∙ h counts' counters' elapsed x y t set

pub open_at : (counts counters : List ℕ) (loaded last time : ℕ) (rows : List Row) (c o : ℕ) → (last ≤ time → OpenFrom counts counters (time - loaded) rows c o)
    → OpenAt counts counters loaded last time rows c o
unfolding OpenAt OpenFrom
open_at counts counters loaded last time rows c o f l = f l counts counters (time - loaded) (no_less_same counts) (no_less_same counters) (omega arith)

-- the same as the code reads that time
pub open_timed : (counts counters : List ℕ) (loaded last time t : ℕ) (rows : List Row) (c o : ℕ) → OpenAt counts counters loaded last t rows c o → time ≡ t → last ≤ time
    → Opened (left_at counts counters (time - loaded) rows) c o
unfolding OpenAt
open_timed counts counters loaded last time t rows c o f e l = rw e (f (omega arith))

pub closes_then : (counts counters : List ℕ) (loaded time t : ℕ) (rows : List Row) (u o : ℕ) → Closes (left_at counts counters (time - loaded) rows) u o → time ≡ t
    → Closes (left_at counts counters (t - loaded) rows) u o
closes_then counts counters loaded time t rows u o h e = rw e at h
