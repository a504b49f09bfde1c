-- What a row says of the limits that it is made of.
use Prim.Native.Nat.{ℕ, zero, suc, ◌-◌, ◌/◌, ◌%◌, ◌≤◌, ◌<◌, min}
use native.Mathlib.Omega.{arith}
use mathlib.Core.Path.{◌≡◌, refl, sym, ◌∙◌, ap}
use mathlib.Core.List.{List, [], ◌∷◌}
use mathlib.Core.Option.{some}
use mathlib.Core.Bool.{Bool, true, false, ◌&&◌}
use borrow.Author.Tests.{eqb-true, eqb-false, ltb-true, ltb-false, lt-ltb, le-ltb, le-leb, lt-leb, leb-true, leb-false}
use lib.ListN.{get_or, get_elem?}
use lib.Dec.{eqb, leb, ltb}
use Rattle.rules.specs.Sizes.{full_count}
use Rattle.std.specs.Prelude.{if◌then◌else◌}
use Rattle.rules.specs.Basics.{Every, all}
use Rattle.rules.specs.Acl.{Limit}
use Rattle.rules.specs.Grant.{counter_left, limit_left, limits_left, unspent_with}
use Rattle.rules.specs.Ledger.{raised, raised_by}
use Rattle.rules.specs.Fits.{LimitFits}
use Rattle.rules.proofs.Laws.{and_left, and_right}
use Rattle.gate_charge.specs.Charges.{limit_not_full, Chargeable}
use Rattle.run_limits.specs.declared.row.Row.{Row}
use Rattle.run_limits.specs.Rows.{no_end, bound_with, last_with, named_word, bound_of, last_of, named_of, word_left, row_left, IsRow, raised_words, Able}

-- Tests of a lesser number.
below_min : (n a b : ℕ) → ltb n (min a b) ≡ (ltb n a && ltb n b)
below_min n a b = pick (ltb n a) (ltb n b) refl refl
  where
    pick : (x y : Bool) → ltb n a ≡ x → ltb n b ≡ y → ltb n (min a b) ≡ (x && y)
    pick true true p q = let h = ltb-true n a p in let k = ltb-true n b q in lt-ltb n (min a b) (omega arith)
    pick true false p q = let k = ltb-false n b q in le-ltb n (min a b) (omega arith)
    pick false y p q = let h = ltb-false n a p in le-ltb n (min a b) (omega arith)

within_min : (n a b : ℕ) → (b ≡ 0 → ⊥) → leb n (min a (b - 1)) ≡ (leb n a && ltb n b)
within_min n a b z = pick (leb n a) (ltb n b) refl refl
  where
    pick : (x y : Bool) → leb n a ≡ x → ltb n b ≡ y → leb n (min a (b - 1)) ≡ (x && y)
    pick true true p q = let h = leb-true n a p in let k = ltb-true n b q in le-leb n (min a (b - 1)) (omega arith)
    pick true false p q = let k = ltb-false n b q in lt-leb n (min a (b - 1)) (less k)
      where
        less : b ≤ n → min a (b - 1) < n
        less k = omega arith
    pick false y p q = let h = leb-false n a p in lt-leb n (min a (b - 1)) (omega arith)

-- one test more, on either side
more_first : (x a c f l : Bool) → (a && c) ≡ (f && l) → ((a && x) && c) ≡ (f && (x && l))
more_first true true c f l e = e
more_first true false c f l e = e
more_first false true c true l e = refl
more_first false true c false l e = refl
more_first false false c true l e = refl
more_first false false c false l e = refl

more_last : (x a b c f l : Bool) → (a && (b && c)) ≡ (f && l) → (a && ((b && x) && c)) ≡ (f && (x && l))
more_last true true true c f l e = e
more_last true true false c f l e = e
more_last true false b c f l e = e
more_last false true true c true l e = refl
more_last false true true c false l e = refl
more_last false true false c true l e = refl
more_last false true false c false l e = refl
more_last false false b c true l e = refl
more_last false false b c false l e = refl

more_word : (x a b c f l : Bool) → (a && (b && c)) ≡ (f && l) → (a && (b && (x && c))) ≡ (f && (x && l))
more_word true a b c f l e = e
more_word false true true c true l e = refl
more_word false true true c false l e = refl
more_word false true false c true l e = refl
more_word false true false c false l e = refl
more_word false false b c true l e = refl
more_word false false b c false l e = refl

none_more : (c f l : Bool) → (false && c) ≡ (f && (false && l))
none_more c true l = refl
none_more c false l = refl

-- the counter and the maximum of a word
word_counter : (counter maximum : ℕ) → counter < 256 → named_word counter maximum % 256 ≡ counter
unfolding named_word
word_counter counter maximum h = omega arith

word_maximum : (counter maximum : ℕ) → counter < 256 → named_word counter maximum / 256 ≡ min maximum full_count
unfolding named_word
word_maximum counter maximum h = omega arith

word_is : (counters : List ℕ) (counter maximum : ℕ) → counter < 256 → word_left counters (named_word counter maximum) ≡ counter_left (get_or counters counter 0) maximum
unfolding word_left
word_is counters counter maximum h = rw (word_counter counter maximum h, word_maximum counter maximum h) (below_min (get_or counters counter 0) maximum full_count)

module _ (counters : List ℕ) (own elapsed : ℕ) (late : elapsed ≤ no_end) where
  row_says : (ms : List Limit) → Every LimitFits ms
      → (ltb own (bound_of ms) && (leb elapsed (last_of ms) && all (word_left counters) (named_of ms))) ≡ (ltb own full_count && limits_left counters own elapsed ms)
  unfolding bound_of last_of named_of all limit_left bound_with last_with
  row_says [] f = rw (le-leb elapsed no_end late)
  row_says (m ∷ ms) f = pick (eqb m.sort 1) refl (eqb m.sort 2) refl (eqb m.maximum 0) refl (row_says ms f.1)
    where
      A : Bool
      A = ltb own (bound_of ms)

      B : Bool
      B = leb elapsed (last_of ms)

      C : Bool
      C = all (word_left counters) (named_of ms)

      F : Bool
      F = ltb own full_count

      L : Bool
      L = limits_left counters own elapsed ms

      pick : (a : Bool) → eqb m.sort 1 ≡ a → (b : Bool) → eqb m.sort 2 ≡ b → (z : Bool) → eqb m.maximum 0 ≡ z → (A && (B && C)) ≡ (F && L)
          → (ltb own (if a then min (bound_of ms) m.maximum else if b then bound_of ms else if z then 0 else bound_of ms)
          && (leb elapsed (if a then last_of ms else if b then last_of ms else if z then 0 else min (last_of ms) (m.maximum - 1))
          && all (word_left counters) (if b then named_word m.counter m.maximum ∷ named_of ms else named_of ms)))
          ≡ (F && ((if a then ltb own m.maximum else if b then counter_left (get_or counters m.counter 0) m.maximum else ltb elapsed m.maximum) && L))
      pick true p true q z r i = let x = eqb-true m.sort 1 p in let y = eqb-true m.sort 2 q in absurd (omega arith)
      pick true p false q z r i = rw (below_min own (bound_of ms) m.maximum) (more_first (ltb own m.maximum) A (B && C) F L i)
      pick false p true q z r i =
          let c : m.counter < 256 = f.0.named (eqb-true m.sort 2 q) in
          rw (word_is counters m.counter m.maximum c) (more_word (counter_left (get_or counters m.counter 0) m.maximum) A B C F L i)
      pick false p false q true r i =
          let x : m.maximum ≡ 0 = eqb-true m.maximum 0 r in
          rw (le-ltb own 0 (omega arith), le-ltb elapsed m.maximum (omega arith)) (none_more (leb elapsed 0 && C) F L)
      pick false p false q false r i =
          let x : m.maximum ≡ 0 → ⊥ = eqb-false m.maximum 0 r in
          rw (within_min elapsed (last_of ms) m.maximum x) (more_last (ltb elapsed m.maximum) A B C F L i)

  -- a row answers as the limits do
  pub row_left_is : (row : Row) (ms : List Limit) → Every LimitFits ms → IsRow row ms → row_left counters own elapsed row ≡ unspent_with counters own elapsed ms
  unfolding row_left
  row_left_is row ms f r = rw (r.bound, r.last, r.words) (row_says ms f)

-- it charges as they do
pub words_raise : (before : List ℕ) (ms : List Limit) (now : List ℕ) → Every LimitFits ms → raised_words before (named_of ms) now ≡ raised_by before ms now
unfolding raised_words raised_by named_of
words_raise before [] now f = refl
words_raise before (m ∷ ms) now f = pick (eqb m.sort 2) refl (λ t. words_raise before ms t f.1)
  where
    pick : (b : Bool) → eqb m.sort 2 ≡ b → ((t : List ℕ) → raised_words before (named_of ms) t ≡ raised_by before ms t)
        → raised_words before (if b then named_word m.counter m.maximum ∷ named_of ms else named_of ms) now ≡ raised_by before ms (if b then raised before m.counter now else now)
    pick true q i = i (raised before (named_word m.counter m.maximum % 256) now) ∙ ap (λ (c : ℕ). raised_by before ms (raised before c now)) (word_counter m.counter m.maximum (f.0.named (eqb-true m.sort 2 q)))
    pick false q i = i now

-- counters that limits do not name
words_apart : (c : ℕ) (ms : List Limit) → Every LimitFits ms → ((j : ℕ) (n : Limit) → get_elem? ms j ≡ some n → n.sort ≡ 2 → n.counter ≡ c → ⊥) → Every (λ v. v % 256 ≡ c → ⊥) (named_of ms)
unfolding named_of
words_apart c [] f d = tt
words_apart c (m ∷ ms) f d = pick (eqb m.sort 2) refl (words_apart c ms f.1 (λ j n e s. d (suc j) n e s))
  where
    pick : (b : Bool) → eqb m.sort 2 ≡ b → Every (λ v. v % 256 ≡ c → ⊥) (named_of ms) → Every (λ v. v % 256 ≡ c → ⊥) (if b then named_word m.counter m.maximum ∷ named_of ms else named_of ms)
    pick true q i =
        let s = eqb-true m.sort 2 q in
        (λ e. d zero m refl s (sym (word_counter m.counter m.maximum (f.0.named s)) ∙ e), i)
    pick false q i = i

others_able : (counters : List ℕ) (m : Limit) (ms : List Limit) → Chargeable counters (m ∷ ms) → Chargeable counters ms
unfolding all
others_able counters m ms able =
    record {
      room = and_right (limit_not_full counters m) (all (limit_not_full counters) ms) able.room;
      apart = λ i j x y l d e. able.apart (suc i) (suc j) x y (omega arith) d e;
    }

pub words_able : (counters : List ℕ) (ms : List Limit) → Every LimitFits ms → Chargeable counters ms → Able counters (named_of ms)
unfolding named_of all limit_not_full
words_able counters [] f able = record { room = tt; apart = tt }
words_able counters (m ∷ ms) f able = pick (eqb m.sort 2) refl (words_able counters ms f.1 (others_able counters m ms able))
  where
    pick : (b : Bool) → eqb m.sort 2 ≡ b → Able counters (named_of ms) → Able counters (if b then named_word m.counter m.maximum ∷ named_of ms else named_of ms)
    pick true q i =
        let s = eqb-true m.sort 2 q in
        let c = word_counter m.counter m.maximum (f.0.named s) in
        let x : limit_not_full counters m ≡ true = and_left (limit_not_full counters m) (all (limit_not_full counters) ms) able.room in
        let y : ltb (get_or counters m.counter 0) full_count ≡ true = rw q at x in
        record {
          room = (rw c (ltb-true (get_or counters m.counter 0) full_count y), i.room);
          apart = (rw c (words_apart m.counter ms f.1 (λ j n e t u. (able.apart zero (suc j) m n (omega arith) refl e (s ∙ sym t)).1 (sym u))), i.apart);
        }
    pick false q i = i
