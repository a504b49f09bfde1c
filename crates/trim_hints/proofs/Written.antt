-- Results written piece by piece into a lent buffer.
use Prim.Native.Nat.{ℕ, ◌+◌, ◌-◌, ◌≤◌}
use native.Mathlib.Omega.{arith}
use mathlib.Core.Path.{◌≡◌, refl, sym, ◌∙◌, ap}
use mathlib.Core.List.{List, [], ◌++◌, append_assoc, append-nil}
use lib.ListN.{length, take, drop, length-append}
use Rattle.rules.specs.Basics.{Bytes}
use Rattle.subject.specs.Writing.{overwritten}
use Rattle.subject.proofs.Laws.{over_length, over_next}

-- A result written piece by piece over the front of a buffer: what was written, and what is left to write.
pub record Writing (result old new rest : Bytes) (to : ℕ) : Type 0 where
  pub done : Bytes
  pub wrote : new ≡ overwritten done old
  pub size : length done ≡ to
  pub whole : done ++ rest ≡ result

pub writing_start : (result old : Bytes) → Writing result old old result 0
unfolding overwritten
writing_start result old = record { done = []; wrote = refl; size = refl; whole = refl }

module _ (result old new rest : Bytes) (to : ℕ) (inv : Writing result old new rest to) (fits : length result ≤ length old) where
  pub writing_room : to + length rest ≤ length old
  writing_room = let s = inv.size in let l = sym (length-append inv.done rest) ∙ ap length inv.whole in omega arith

  -- the buffer keeps its length, and the next piece begins inside it
  pub writing_kept : length new ≡ length old
  writing_kept = let l = writing_room in let k = inv.size in ap length inv.wrote ∙ over_length inv.done old (omega arith)

  pub writing_inside : to ≤ length new
  writing_inside = let l = writing_room in let k = writing_kept in omega arith

  pub writing_next : (piece more e : Bytes) (size : ℕ) → rest ≡ piece ++ more → size ≡ length piece → e ≡ overwritten piece (take (length new - to) (drop to new))
      → Writing result old (take to new ++ (e ++ drop (length new - to) (drop to new))) more (to + size)
  writing_next piece more e size p s q =
      let d : List ℕ = inv.done in
      let l = writing_room in
      let k = inv.size in
      record {
        done = d ++ piece;
        wrote = over_next d piece old new e to inv.wrote (sym k) (omega arith) q;
        size = length-append d piece ∙ omega arith;
        whole = append_assoc d piece more ∙ ap (λ (z : Bytes). d ++ z) (sym p) ∙ inv.whole;
      }

  pub writing_done : rest ≡ [] → new ≡ overwritten result old
  writing_done e = inv.wrote ∙ ap (λ (z : Bytes). overwritten z old) (sym (append-nil inv.done) ∙ ap (λ (z : Bytes). inv.done ++ z) (sym e) ∙ inv.whole)
