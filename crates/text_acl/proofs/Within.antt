-- A line that does not end among the first bytes that a written line can have is bad, without a look at the bytes past them.
use Prim.Native.Nat.{ℕ, zero, suc, ◌+◌, ◌-◌, ◌≤◌, ◌<◌}
use native.Mathlib.Omega.{arith}
use mathlib.Core.Path.{◌≡◌, refl, sym, ◌∙◌, ap}
use mathlib.Core.List.{[], ◌∷◌}
use mathlib.Core.Bool.{Bool, true, false, false≢true}
use lib.ListN.{length, take, drop, get_or, length-take, length-drop}
use lib.Seq.{length-take-le, get_or-take, get_or-drop}
use lib.Dec.{eqb}
use borrow.Author.Tests.{eqb-true, eqb-false}
use Rattle.rules.specs.Basics.{Bytes}
use Rattle.rules.specs.Acl.{AclState}
use Rattle.text_rules.specs.Words.{newline, line_max}
use Rattle.text_rules.specs.Kinds.{FileKind, acl_kind}
use Rattle.text_rules.specs.Listing.{line_length, good_in}
use Rattle.text_rules.proofs.Lines.{one_line}
use Rattle.text_rules.proofs.Acl.{acl_lawful}
use Rattle.text_rules.proofs.Longest.{good_short, acl_longest}
use Rattle.text_bytes.proofs.Laws.{left}
use Rattle.text_lexer.specs.Telling.{LineEnds, LineWithin}
use Rattle.text_lexer.proofs.Laws.{line_ends}
use Rattle.text_acl.specs.Answers.{lines_found}
use Rattle.std.specs.Prelude.{Err}
use Rattle.text_acl.specs.declared.TextError.TheVariants.{BadLine}
use Rattle.text_acl.proofs.Reading.{LinesJudged, lent_line, judged_false}

-- the length of a text's first line
line_length_some : (c : ℕ) (t : Bytes) → 0 < line_length (c ∷ t)
unfolding line_length
line_length_some c t = pick (eqb c newline) refl
  where
    pick : (b : Bool) → eqb c newline ≡ b → 0 < line_length (c ∷ t)
    pick true e = rw e (omega arith)
    pick false e = rw e (omega arith)

line_length_any : (t : Bytes) → 0 < length t → 0 < line_length t
line_length_any [] h = absurd (omega arith)
line_length_any (c ∷ t) h = line_length_some c t

line_length_most : (t : Bytes) → line_length t ≤ length t
unfolding line_length
line_length_most [] = omega arith
line_length_most (c ∷ t) = pick (eqb c newline) refl (line_length_most t)
  where
    pick : (b : Bool) → eqb c newline ≡ b → line_length t ≤ length t → line_length (c ∷ t) ≤ length (c ∷ t)
    pick true e l = rw e (omega arith)
    pick false e l = rw e (omega arith)

-- a line that is short is whole among the first bytes
short_whole : (w : ℕ) (t : Bytes) → line_length t ≤ w → line_length (take w t) ≡ line_length t
unfolding line_length
short_whole zero [] h = refl
short_whole zero (c ∷ t) h = let l = line_length_some c t in absurd (omega arith)
short_whole (suc w) [] h = refl
short_whole (suc w) (c ∷ t) h = pick (eqb c newline) refl (short_whole w t)
  where
    pick : (b : Bool) → eqb c newline ≡ b → (line_length t ≤ w → line_length (take w t) ≡ line_length t) → line_length (take (suc w) (c ∷ t)) ≡ line_length (c ∷ t)
    pick true e f = rw e
    pick false e f =
        let l : suc (line_length t) ≤ suc w = rw e at h in
        rw e (ap suc (f (omega arith)))

-- a line that ends with a newline among the first bytes ends there
ended_whole : (w : ℕ) (t : Bytes) → 0 < length (take w t) → get_or (take w t) (line_length (take w t) - 1) 0 ≡ newline → line_length (take w t) ≡ line_length t
unfolding line_length
ended_whole zero t h n = absurd (omega arith)
ended_whole (suc w) [] h n = absurd (omega arith)
ended_whole (suc w) (c ∷ t) h n = pick (eqb c newline) refl (ended_whole w t)
  where
    after : (u : Bytes) → eqb c newline ≡ false → get_or (c ∷ u) (suc (line_length u) - 1) 0 ≡ newline → (0 < length u) × (get_or u (line_length u - 1) 0 ≡ newline)
    after [] e m = absurd (eqb-false c newline e m)
    after (d ∷ u) e m =
        let l = line_length_some d u in
        let k : suc (line_length (d ∷ u)) - 1 ≡ suc (line_length (d ∷ u) - 1) = omega arith in
        (omega arith, rw k at m)

    pick : (b : Bool) → eqb c newline ≡ b → (0 < length (take w t) → get_or (take w t) (line_length (take w t) - 1) 0 ≡ newline → line_length (take w t) ≡ line_length t) → line_length (take (suc w) (c ∷ t)) ≡ line_length (c ∷ t)
    pick true e f = rw e
    pick false e f =
        let a = after (take w t) e (rw e at n) in
        rw e (ap suc (f a.0 a.1))

-- the last byte of one line
one_last : (l : Bytes) → one_line l ≡ true → get_or l (length l - 1) 0 ≡ newline
unfolding one_line
one_last [] e = absurd (false≢true e)
one_last (c ∷ l) e = pick (eqb c newline) refl l e (one_last l)
  where
    pick : (b : Bool) → eqb c newline ≡ b → (u : Bytes) → one_line (c ∷ u) ≡ true → (one_line u ≡ true → get_or u (length u - 1) 0 ≡ newline) → get_or (c ∷ u) (length (c ∷ u) - 1) 0 ≡ newline
    pick true d [] f g = eqb-true c newline d
    pick true d (x ∷ u) f g = absurd (false≢true (rw d at f))
    pick false d [] f g = absurd (false≢true (rw d at f))
    pick false d (x ∷ u) f g =
        let k : length (c ∷ x ∷ u) - 1 ≡ suc (length (x ∷ u) - 1) = omega arith in
        rw k (g (rw d at f))

module _ (w : ℕ) (text : Bytes) (at n : ℕ) (p : LineWithin w text at n) where
  -- a byte of the line that is left, by its offset in the text
  byte_left : (l : ℕ) → 0 < l → get_or (drop at text) (l - 1) 0 ≡ get_or text (at + l - 1) 0
  byte_left l h =
      let e : at + (l - 1) ≡ at + l - 1 = omega arith in
      get_or-drop at text (l - 1) 0 ∙ ap (λ (i : ℕ). get_or text i 0) e

  last_byte : get_or (take w (drop at text)) (line_length (take w (drop at text)) - 1) 0 ≡ get_or text (n - 1) 0
  last_byte =
      let a : ℕ = line_length (take w (drop at text)) in
      let h = p.past in
      let f = p.first in
      let m = line_length_most (take w (drop at text)) in
      let t = length-take w (drop at text) in
      get_or-take w (drop at text) (a - 1) 0 (omega arith) ∙ byte_left a (omega arith) ∙ ap (λ (i : ℕ). get_or text (i - 1) 0) (sym f)

  -- the byte before the end found is 10: the line ends there
  pub within_ends : get_or text (n - 1) 0 ≡ 10 → LineEnds text at n
  unfolding left
  within_ends e =
      let h = p.past in
      let i = p.inside in
      let f = p.first in
      let s : line_length (take w (drop at text)) ≡ line_length (drop at text) = ended_whole w (drop at text) (omega (arith, line_length_most (take w (drop at text)))) (last_byte ∙ e) in
      line_ends text at n (omega arith) h i (f ∙ ap (λ (k : ℕ). at + k) s)

  -- it is another byte: the line is bad
  module _ {S : Type 0} (k : FileKind S) (short : (s : S) (l : Bytes) → good_in k s l ≡ true → (length l ≤ w) × (one_line l ≡ true)) (s : S) (line : ℕ) (j : LinesJudged k text s at line) (no : get_or text (n - 1) 0 ≡ 10 → ⊥) where
    abbrev end : ℕ
    end = at + line_length (drop at text)

    abbrev whole : Bytes
    whole = lent_line text at end

    ends : LineEnds text at end
    unfolding left
    ends =
        let h = p.past in
        let i = p.inside in
        let m = line_length_most (drop at text) in
        let d = length-drop at text in
        let z = line_length_any (drop at text) (omega arith) in
        line_ends text at end (omega arith) (omega arith) (omega arith) refl

    never_good : good_in k s whole ≡ true → ⊥
    never_good g =
        let q = short s whole g in
        let m = line_length_most (drop at text) in
        let z : end - at ≡ line_length (drop at text) = omega arith in
        let y : whole ≡ take (line_length (drop at text)) (drop at text) = ap (λ (x : ℕ). take x (drop at text)) z in
        let l : length whole ≡ line_length (drop at text) = ap length y ∙ length-take-le (line_length (drop at text)) (drop at text) m in
        let o = q.0 in
        let f = p.first in
        let x = short_whole w (drop at text) (omega arith) in
        let e : end ≡ n = omega arith in
        let u = ends.past in
        let c : get_or (take (line_length (drop at text)) (drop at text)) (line_length (drop at text) - 1) 0 ≡ 10 = ap (λ (b : Bytes). get_or b (line_length (drop at text) - 1) 0) (sym y) ∙ ap (λ (i : ℕ). get_or whole (i - 1) 0) (sym l) ∙ one_last whole q.1 in
        no (ap (λ (i : ℕ). get_or text (i - 1) 0) (sym e) ∙ sym (byte_left (line_length (drop at text)) (omega arith)) ∙ sym (get_or-take (line_length (drop at text)) (drop at text) (line_length (drop at text) - 1) 0 (omega arith)) ∙ c)

    pub within_bad : Err (BadLine line) ≡ lines_found k text
    within_bad = pick (good_in k s whole) refl
      where
        pick : (b : Bool) → good_in k s whole ≡ b → Err (BadLine line) ≡ lines_found k text
        pick true g = absurd (never_good g)
        pick false g = judged_false k text s at line end ends j g

-- a line of an ACL
pub acl_unended : (text : Bytes) (at n : ℕ) → LineWithin line_max text at n → (s : AclState) (line : ℕ) → LinesJudged acl_kind text s at line → (get_or text (n - 1) 0 ≡ 10 → ⊥) → Err (BadLine line) ≡ lines_found acl_kind text
acl_unended text at n p = within_bad line_max text at n p acl_kind (good_short acl_kind line_max acl_lawful acl_longest)
