-- The turns of the loops over the words of a row, and the tests of a row.
use Prim.Native.Nat.{ℕ, ◌+◌, ◌%◌, ◌≤◌, ◌<◌}
use mathlib.Core.Path.{◌≡◌, refl, sym, ◌∙◌, ap}
use mathlib.Core.List.{List, [], ◌∷◌}
use mathlib.Core.Bool.{Bool, true, false, not, ◌&&◌}
use native.Mathlib.Numerals.{add-one}
use borrow.Author.Tests.{le-leb, lt-leb, not-true, not-false}
use lib.ListN.{length, drop, get_or, set, drop_of_length-le}
use lib.Seq.{drop-cons, get_or-set_other}
use lib.Dec.{ltb}
use Rattle.rules.specs.Sizes.{full_count}
use Rattle.rules.specs.Basics.{Every, all}
use Rattle.rules.specs.Ledger.{raised}
use Rattle.run_limits.specs.declared.row.Row.{Row}
use Rattle.run_limits.specs.Rows.{word_left, row_left, words_of, raised_words, Able}

-- what is left of some words
word_here : (ws : List ℕ) (i : ℕ) → i < length ws → drop i ws ≡ get_or ws i 0 ∷ drop (i + 1) ws
word_here ws i h = rw (add-one, drop-cons ws i 0 h)

no_words : (ws : List ℕ) (i : ℕ) → length ws ≤ i → drop i ws ≡ []
no_words ws i h = drop_of_length-le ws {i = i} h

-- The turns of the loop that tests words.
module _ (counters ws : List ℕ) (i : ℕ) (x : Bool) (inv : all (word_left counters) (drop i ws) ≡ x) where
  pub words_done : length ws ≤ i → true ≡ x
  unfolding all
  words_done h = rw (no_words ws i h) at inv

  module _ (t : Bool) (h : i < length ws) (e : t ≡ word_left counters (get_or ws i 0)) where
    first : (t && all (word_left counters) (drop (i + 1) ws)) ≡ x
    unfolding all
    first = rw e (sym (ap (all (word_left counters)) (word_here ws i h)) ∙ inv)

    pub words_failed : not t ≡ true → false ≡ x
    words_failed n = rw (not-true t n) at first

    pub words_next : not t ≡ false → all (word_left counters) (drop (i + 1) ws) ≡ x
    words_next n = rw (not-false t n) at first

-- The turns of the loop that raises counters.
kept_all : (table ws : List ℕ) → Every (λ w. get_or table (w % 256) 0 ≡ get_or table (w % 256) 0) ws
kept_all table [] = tt
kept_all table (w ∷ ws) = (refl, kept_all table ws)

kept_on : (before table : List ℕ) (c v : ℕ) (ws : List ℕ) → Every (λ w. w % 256 ≡ c → ⊥) ws → Every (λ w. get_or table (w % 256) 0 ≡ get_or before (w % 256) 0) ws
    → Every (λ w. get_or (set table c v) (w % 256) 0 ≡ get_or before (w % 256) 0) ws
kept_on before table c v [] d k = tt
kept_on before table c v (w ∷ ws) d k = (get_or-set_other table c (w % 256) v 0 d.0 ∙ k.0, kept_on before table c v ws d.1 k.1)

-- what is left to raise, by the counters as they were before the first
pub record Raising (before all rest table : List ℕ) : Type 0 where
  pub same : raised_words before rest table ≡ raised_words before all before
  pub able : Able before rest
  pub kept : Every (λ w. get_or table (w % 256) 0 ≡ get_or before (w % 256) 0) rest

pub raising_start : (before ws : List ℕ) → Able before ws → Raising before ws ws before
raising_start before ws a = record { same = refl; able = a; kept = kept_all before ws }

module _ (before all ws table : List ℕ) (i : ℕ) (r : Raising before all (drop i ws) table) where
  pub raising_done : length ws ≤ i → table ≡ raised_words before all before
  unfolding raised_words
  raising_done h = sym (ap (λ (l : List ℕ). raised_words before l table) (no_words ws i h)) ∙ r.same

  module _ (h : i < length ws) where
    abbrev w : ℕ
    w = get_or ws i 0

    here : Raising before all (w ∷ drop (i + 1) ws) table
    here = rw (word_here ws i h) at r

    pub raising_room : get_or table (get_or ws i 0 % 256) 0 < full_count
    raising_room = rw here.kept.0 here.able.room.0

    pub raising_next : (next : List ℕ) → next ≡ raised table (get_or ws i 0 % 256) table → Raising before all (drop (i + 1) ws) next
    unfolding raised_words
    raising_next next e =
        rw e (record {
          same = rw here.kept.0 here.same;
          able = record { room = here.able.room.1; apart = here.able.apart.1 };
          kept = kept_on before table (w % 256) (get_or table (w % 256) 0 + 1) (drop (i + 1) ws) here.able.apart.0 here.kept.1;
        })

-- a row that is tested
module _ (counters : List ℕ) (own elapsed : ℕ) (row : Row) (t : Bool) (d : t ≡ ltb own row.bound) where
  pub row_own : not t ≡ true → false ≡ row_left counters own elapsed row
  unfolding row_left
  row_own h = sym (rw (← d, not-true t h))

  pub row_late : not t ≡ false → row.last < elapsed → false ≡ row_left counters own elapsed row
  unfolding row_left
  row_late h k = sym (rw (← d, not-false t h, lt-leb elapsed row.last k))

  pub row_words : (r : Bool) → not t ≡ false → elapsed ≤ row.last → r ≡ all (word_left counters) (words_of row) → r ≡ row_left counters own elapsed row
  unfolding row_left
  row_words r h k e = e ∙ sym (rw (← d, not-false t h, le-leb elapsed row.last k))
