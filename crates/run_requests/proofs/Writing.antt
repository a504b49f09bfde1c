-- The turns of the loop over the requests of a run, and the bytes of an answer.
use Prim.Native.Nat.{ℕ, ◌≤◌, ◌<◌, ◌+◌, ◌*◌, ◌/◌, ◌%◌}
use native.Mathlib.Omega.{arith}
use native.Mathlib.Numerals.{add-one, add-two, add-three}
use mathlib.Core.Path.{◌≡◌, sym, ◌∙◌, ap, ap₂}
use mathlib.Core.List.{List, [], ◌∷◌, ◌++◌, append_assoc}
use lib.ListN.{length, take, drop, get_or, set, length-append}
use lib.Seq.{sets-eq, length-take-le, take-append-le, take-take, drop_at}
use Rattle.rules.specs.Basics.{Bytes, number, records}
use Rattle.rules.specs.Ledger.{Ledger}
use Rattle.rules.specs.Gate.{Outcome}
use Rattle.rules.specs.Written.{big_endian}
use Rattle.rules.specs.Runs.{answer_with}
use Rattle.rules.proofs.Laws.{chunks_length}
use Rattle.record_fields.proofs.Walks as walks
use Rattle.run_requests.specs.Written.{Running, over_at, writing}
use Rattle.run_requests.proofs.Loop.{length_over}
use Rattle.gate_decision.specs.Standings.{ledger_of_tables}
use Rattle.run_requests.specs.Answers.{IsOutcome}

-- The turns of a loop over the requests of a run.
module _ (ask : Ledger → Bytes → Outcome) (rows : List Bytes) (x : Running) (l : Ledger) (buf : Bytes) (i : ℕ) (inv : writing ask l buf (i * 8) (drop i rows) ≡ x) where
  pub writing_next : (counts counters : List ℕ) (loaded n place last : ℕ) (after : Bytes) → i < length rows → IsOutcome (ask l (get_or rows i [])) counts counters loaded n place last
      → after ≡ over_at (i * 8) (answer_with n place) buf → writing ask (ledger_of_tables counts counters loaded last) after ((i + 1) * 8) (drop (i + 1) rows) ≡ x
  unfolding writing
  writing_next counts counters loaded n place last after h a d =
      let o : (i + 1) * 8 ≡ i * 8 + 8 = omega arith in
      rw (a.ledger, d, a.answer, o) (sym (ap (writing ask l buf (i * 8)) (walks.left_at rows i h)) ∙ inv)

  pub writing_done : length rows ≤ i → record { ledger = l; buffer = buf } ≡ x
  unfolding writing
  writing_done h = sym (ap (writing ask l buf (i * 8)) (walks.left_none rows i h)) ∙ inv

-- the room for an answer
pub answer_room : (s : Bytes) (rows : List Bytes) (i n : ℕ) → rows ≡ records s → i < length rows → length s / 64 * 8 ≤ n → i * 8 + 8 ≤ n
unfolding records
answer_room s rows i n e h f = let l = chunks_length (length s / 64) s in let m = ap length e in omega arith

-- Bytes that are stored one by one, and two parts side by side.
pub stored_four : (buf : Bytes) (at n : ℕ) → at + 4 ≤ length buf
    → set (set (set (set buf at (n / 16777216)) (at + 1) (n / 65536 % 256)) (at + 2) (n / 256 % 256)) (at + 3) (n % 256) ≡ over_at at (big_endian 4 n) buf
unfolding over_at big_endian
stored_four buf at n h = rw (add-one, add-two, add-three) (sets-eq v buf at h ∙ append_assoc (take at buf) v (drop (at + 4) buf) ∙ sym bytes)
  where
    v : Bytes
    v = n / 16777216 ∷ n / 65536 % 256 ∷ n / 256 % 256 ∷ n % 256 ∷ []

    high : n / 256 / 256 / 256 ≡ n / 16777216
    high = omega arith

    middle : n / 256 / 256 ≡ n / 65536
    middle = omega arith

    bytes : take at buf ++ ((n / 256 / 256 / 256 ∷ n / 256 / 256 % 256 ∷ n / 256 % 256 ∷ n % 256 ∷ []) ++ drop (at + 4) buf) ≡ take at buf ++ (v ++ drop (at + 4) buf)
    bytes = rw (high, middle)

-- the second part is stored first
over_back : (at : ℕ) (a b old : Bytes) → at + (length a + length b) ≤ length old → over_at at a (over_at (at + length a) b old) ≡ over_at at (a ++ b) old
unfolding over_at
over_back at a b old h =
    let n : ℕ = at + length a in
    let q : Bytes = b ++ drop (n + length b) old in
    let t : length (take n old) ≡ n = length-take-le n old (omega arith) in
    let x : take at (take n old ++ q) ≡ take at old = take-append-le at (take n old) q (omega arith) ∙ take-take at n old (omega arith) in
    let y : drop n (take n old ++ q) ≡ q = drop_at (take n old) q n t in
    let m : n + length b ≡ at + length (a ++ b) = omega (arith, length-append a b) in
    ap₂ (λ (u v : Bytes). u ++ (a ++ v)) x y ∙ ap (λ (u : Bytes). take at old ++ u) (sym (append_assoc a b (drop (n + length b) old)))
    ∙ ap (λ (k : ℕ). take at old ++ ((a ++ b) ++ drop k old)) m

pub stored_answer : (at number place : ℕ) (old mid new : Bytes) → at + 8 ≤ length old → mid ≡ over_at (at + 4) (big_endian 4 place) old → new ≡ over_at at (big_endian 4 number) mid
    → new ≡ over_at at (answer_with number place) old
unfolding big_endian
stored_answer at number place old mid new h d e = e ∙ ap (over_at at (big_endian 4 number)) d ∙ over_back at (big_endian 4 number) (big_endian 4 place) old (omega arith)

pub same_lengths : (a b c : ℕ) → a ≡ b → b ≡ c → a ≡ c
same_lengths a b c p q = p ∙ q

pub answer_sized : (out number place : ℕ) (old new : Bytes) → out + 8 ≤ length old → new ≡ over_at out (answer_with number place) old → length new ≡ length old
unfolding big_endian
answer_sized out number place old new h e = ap length e ∙ length_over out (answer_with number place) old (omega arith)
