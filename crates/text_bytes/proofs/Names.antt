-- The names of a row one after the other.
use Prim.Native.Nat.{ℕ, suc, ◌+◌, ◌-◌, ◌≤◌, ◌<◌}
use native.Mathlib.Omega.{arith}
use mathlib.Core.Path.{◌≡◌, refl, ap}
use mathlib.Core.List.{[], ◌∷◌}
use mathlib.Core.Bool.{Bool, true, false}
use lib.ListN.{length, take, drop, get_or, length-drop}
use lib.Seq.{take-length}
use lib.Dec.{leb, ltb}
use borrow.Author.Tests.{ltb-false}
use Rattle.std.proofs.Common.{Option, Some, None, cond}
use Rattle.std.specs.List.{position_or_len}
use Rattle.std.specs.Prelude.{if◌then◌else◌}
use Rattle.rules.specs.Basics.{Bytes}
use Rattle.text_rules.specs.Words.{space}
use Rattle.text_rules.specs.Listing.{onto_first}
use Rattle.text_bytes.specs.Names.{words_of, NameEnds}
use Rattle.text_bytes.proofs.Laws.{left, left_next, piece_ends}

-- the length of a row's first name
unfoldable pub word_length : Bytes → ℕ
word_length [] = 0
word_length (c ∷ t) = if leb (get_or t 0 0) space then 1 else suc (word_length t)

-- The step of a loop over names: a row's first name, and the rest.
abbrev Next : Bytes → Type 0
Next t = words_of t ≡ take (word_length t) t ∷ words_of (drop (word_length t) t)

next_word : (c : ℕ) (t : Bytes) → Next (c ∷ t)
unfolding words_of word_length
next_word c [] = refl
next_word c (d ∷ t) = pick (leb d space) refl (next_word d t)
  where
    pick : (b : Bool) → leb d space ≡ b → Next (d ∷ t) → Next (c ∷ d ∷ t)
    pick true e i = rw e
    pick false e i = rw e (ap (onto_first c) i)

name_ends : (t : Bytes) (at end : ℕ) → at < length t → at < end → end ≤ length t → end ≡ at + word_length (left t at) → NameEnds t at end
name_ends t at end h p l e = record { past = p; inside = l; words = piece_ends words_of word_length t at end next e }
  where
    next : Next (left t at)
    next = rw (left_next t at h) (next_word (get_or t at 0) (left t (at + 1)))

-- A name's end by the first space past its first byte, or by the row's length where there is none.
abbrev ends : ℕ → Bool
ends c = leb c 32

-- how far that space is
abbrev next_space : Bytes → ℕ
next_space t = position_or_len ends t

space_within : (t : Bytes) → next_space t ≤ length t
space_within [] = omega arith
space_within (d ∷ t) = pick (ends d) refl (space_within t)
  where
    pick : (b : Bool) → ends d ≡ b → next_space t ≤ length t → next_space (d ∷ t) ≤ length (d ∷ t)
    pick true e i = rw e (omega arith)
    pick false e i = rw e (omega arith)

word_space : (c : ℕ) (t : Bytes) → word_length (c ∷ t) ≡ next_space t + 1
unfolding word_length
word_space c [] = refl
word_space c (d ∷ t) = pick (ends d) refl (word_space d t)
  where
    pick : (b : Bool) → ends d ≡ b → word_length (d ∷ t) ≡ next_space t + 1 → word_length (c ∷ d ∷ t) ≡ next_space (d ∷ t) + 1
    pick true e i = rw e refl
    pick false e i = rw e (omega arith)

module _ (t : Bytes) (at : ℕ) (h : at < length t) where
  space_ends : (end : ℕ) → end ≡ at + 1 + next_space (drop (at + 1) t) → NameEnds t at end
  unfolding left
  space_ends end e =
      let l : word_length (left t at) ≡ next_space (drop (at + 1) t) + 1 = rw (left_next t at h) (word_space (get_or t at 0) (drop (at + 1) t)) in
      let w = space_within (drop (at + 1) t) in
      let d = length-drop (at + 1) t in
      name_ends t at end h (omega arith) (omega arith) (omega arith)

  -- what the search for the space goes over, and what it says
  pub rest_whole : take (length t - (at + 1)) (drop (at + 1) t) ≡ drop (at + 1) t
  rest_whole = rw (← length-drop (at + 1) t) (take-length (drop (at + 1) t))

  abbrev pub Searched : Option ℕ → Type 0
  Searched r = r ≡ cond (ltb (next_space (drop (at + 1) t)) (length (drop (at + 1) t))) (Some (next_space (drop (at + 1) t))) None

  pub space_found : (n : ℕ) → Searched (Some n) → NameEnds t at (at + 1 + n)
  space_found n s = pick (ltb (next_space (drop (at + 1) t)) (length (drop (at + 1) t))) s
    where
      pick : (b : Bool) → Some n ≡ cond b (Some (next_space (drop (at + 1) t))) None → NameEnds t at (at + 1 + n)
      pick true e = let m : n ≡ next_space (drop (at + 1) t) = cc in space_ends (at + 1 + n) (omega arith)
      pick false e = cc

  pub space_none : Searched None → NameEnds t at (length t)
  space_none s = pick (ltb (next_space (drop (at + 1) t)) (length (drop (at + 1) t))) refl s
    where
      pick : (b : Bool) → ltb (next_space (drop (at + 1) t)) (length (drop (at + 1) t)) ≡ b → None ≡ cond b (Some (next_space (drop (at + 1) t))) None → NameEnds t at (length t)
      pick true e f = cc
      pick false e f =
          let w = space_within (drop (at + 1) t) in
          let d = length-drop (at + 1) t in
          let g = ltb-false (next_space (drop (at + 1) t)) (length (drop (at + 1) t)) e in
          space_ends (length t) (omega arith)
