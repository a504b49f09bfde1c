-- The loop over the requests of a run answers as asking one by one does.
use Prim.Native.Nat.{ℕ, ◌+◌, ◌*◌, ◌≤◌}
use native.Mathlib.Omega.{arith}
use native.Mathlib.Nat.{add-zero}
use mathlib.Core.Path.{◌≡◌, refl, sym, ◌∙◌, ap, ap₂}
use mathlib.Core.List.{List, [], ◌∷◌, ◌++◌, append_assoc}
use lib.ListN.{length, take, drop, length-append, length-drop, take-append-drop}
use lib.Seq.{take_at, drop_at, drop-drop, length-take-le}
use Rattle.rules.specs.Sizes.{answer_bytes}
use Rattle.rules.specs.Basics.{Bytes}
use Rattle.rules.specs.Ledger.{Ledger}
use Rattle.rules.specs.Gate.{Answer, done, permit, refuse, Outcome}
use Rattle.rules.specs.Written.{big_endian}
use Rattle.rules.specs.Runs.{bytes_of_answer, asked_in_order}
use Rattle.run_requests.specs.Written.{over_at, writing}

-- each answer has eight bytes
answer_length : (a : Answer) → length (bytes_of_answer a) ≡ answer_bytes
unfolding bytes_of_answer big_endian
answer_length done = refl
answer_length (permit place) = refl
answer_length (refuse f near) = refl

pub answers_length : (ask : Ledger → Bytes → Outcome) (l : Ledger) (rs : List Bytes) → length (asked_in_order ask l rs).answers ≡ length rs * answer_bytes
unfolding asked_in_order
answers_length ask l [] = refl
answers_length ask l (r ∷ rs) =
    let i = answers_length ask (ask l r).ledger rs in
    let n = answer_length (ask l r).answer in
    omega (arith, length-append (bytes_of_answer (ask l r).answer) (asked_in_order ask (ask l r).ledger rs).answers)

over_none : (at : ℕ) (old : Bytes) → over_at at [] old ≡ old
unfolding over_at
over_none at old = rw add-zero (take-append-drop at old)

over_over : (at : ℕ) (new rest old : Bytes) → at + (length new + length rest) ≤ length old → over_at (at + length new) rest (over_at at new old) ≡ over_at at (new ++ rest) old
unfolding over_at
over_over at new rest old h =
    let p : Bytes = take at old ++ new in
    let q : Bytes = drop (at + length new) old in
    let t : length (take at old) ≡ at = length-take-le at old (omega arith) in
    let n : length p ≡ at + length new = length-append (take at old) new ∙ rw t in
    let s : take at old ++ (new ++ q) ≡ p ++ q = sym (append_assoc (take at old) new q) in
    let a : take (at + length new) (p ++ q) ≡ p = take_at p q (at + length new) n in
    let b : drop (at + length new) (p ++ q) ≡ q = drop_at p q (at + length new) n in
    let c : drop (at + length new + length rest) (p ++ q) ≡ drop (length rest) q = sym (drop-drop (length rest) (at + length new) (p ++ q)) ∙ ap (drop (length rest)) b in
    let m : at + length new + length rest ≡ at + length (new ++ rest) = omega (arith, length-append new rest) in
    let e : drop (length rest) q ≡ drop (at + length (new ++ rest)) old = drop-drop (length rest) (at + length new) old ∙ ap (λ (k : ℕ). drop k old) m in
    rw s (ap₂ (λ (x y : Bytes). x ++ (rest ++ y)) a (c ∙ e) ∙ append_assoc (take at old) new (rest ++ drop (at + length (new ++ rest)) old)
    ∙ ap (λ (x : Bytes). take at old ++ x) (sym (append_assoc new rest (drop (at + length (new ++ rest)) old))))

pub length_over : (at : ℕ) (new old : Bytes) → at + length new ≤ length old → length (over_at at new old) ≡ length old
unfolding over_at
length_over at new old h =
    let t : length (take at old) ≡ at = length-take-le at old (omega arith) in
    omega (arith, length-append (take at old) (new ++ drop (at + length new) old), length-append new (drop (at + length new) old), length-drop (at + length new) old)

-- The loop answers as asking one by one does: a loop's invariant is that what is left has the whole's answer.
pub writing_is : (ask : Ledger → Bytes → Outcome) (l : Ledger) (buffer : Bytes) (at : ℕ) (rs : List Bytes) → at + length rs * answer_bytes ≤ length buffer
    → writing ask l buffer at rs ≡ record { ledger = (asked_in_order ask l rs).ledger; buffer = over_at at (asked_in_order ask l rs).answers buffer }
unfolding writing asked_in_order
writing_is ask l buffer at [] h = rw over_none
writing_is ask l buffer at (r ∷ rs) h =
    let o = ask l r in
    let a = bytes_of_answer o.answer in
    let n : length a ≡ answer_bytes = answer_length o.answer in
    let k = answers_length ask o.ledger rs in
    let m : at + answer_bytes ≡ at + length a = omega arith in
    let sized : length (over_at at a buffer) ≡ length buffer = length_over at a buffer (omega arith) in
    let i = writing_is ask o.ledger (over_at at a buffer) (at + answer_bytes) rs (omega arith) in
    i ∙ rw m (ap (λ (b : Bytes). record { ledger = (asked_in_order ask o.ledger rs).ledger; buffer = b }) (over_over at a (asked_in_order ask o.ledger rs).answers buffer (omega arith)))
