-- The turns of the loops of this crate, and its tests in the definitions' terms.
use Prim.Native.Nat.{ℕ, suc, ◌+◌, ◌-◌, ◌/◌, ◌≤◌, ◌<◌}
use native.Mathlib.Numerals.{add-one}
use native.Mathlib.Omega.{arith}
use mathlib.Core.Path.{◌≡◌, refl, sym, ◌∙◌, ap}
use mathlib.Core.List.{List, [], ◌∷◌}
use mathlib.Core.Bool.{Bool, ◌&&◌, true, false}
use borrow.Author.Tests.{eq-eqb, ne_eqb, lt-ltb}
use denote.Enum.Bare.{sameb}
use lib.ListN.{length, take, drop, get_or, length-take, length-drop}
use lib.Dec.{eqb, ltb}
use Rattle.std.specs.Prelude.{Result, Ok, Err, if◌then◌else◌, cond}
use Rattle.std.specs.List.{list_all, take_while}
use Rattle.std.proofs.lemmas.List.Sums.{take_while-cons}
use Rattle.rules.specs.Sizes.{full_count}
use Rattle.rules.specs.Basics.{Bytes, any, all, same, number, byte, kind, records}
use Rattle.rules.specs.Acl.{Limit, limit_of, limits_of, Action, Group, group_of, groups_of}
use Rattle.rules.specs.Request.{Wanted, blobfile_next, wanted_of, Request, request_of}
use Rattle.rules.specs.Grant.{admits, certified, counter_left, limit_left, unspent_with}
use Rattle.rules.proofs.Laws.{same_eq, chunks_length}
use Rattle.rules.proofs.Rows.{wanted_first, lent_rest, lent_rest_lem}
use Rattle.gate_decision.specs.declared.GroupResult.{GroupResult}
use Rattle.gate_decision.specs.declared.GroupResult.TheVariants.{NotAdmitting, Admitting, Certified, Granting}
use Rattle.gate_decision.specs.contracts.GroupResult.{the_type}
use Rattle.gate_decision.specs.declared.Nearest.{Nearest}
use Rattle.refusals.specs.declared.Denial.{Denial}
use Rattle.gate_decision.specs.Standings.{is_granting, nearer, denial_of, judged_from, result_with, group_result, record_result}

-- a limit by its sort
module _ (counters : List ℕ) (own elapsed : ℕ) (r : Bytes) (x : ℕ) (e : x ≡ number 8 4 r) where
  pub sort_1 : byte 4 r ≡ 1 → ltb own x ≡ limit_left counters own elapsed (limit_of r)
  unfolding limit_left
  sort_1 d = sym (rw (eq-eqb (byte 4 r) 1 d, e))

  pub sort_2 : (t : Bool) → byte 4 r ≡ 2 → t ≡ counter_left (get_or counters (byte 5 r) 0) x → t ≡ limit_left counters own elapsed (limit_of r)
  unfolding limit_left
  sort_2 t d p =
      let z : eqb (byte 4 r) 1 ≡ false = rw d in
      p ∙ sym (rw (z, eq-eqb (byte 4 r) 2 d, e))

  pub sort_3 : (m : ℕ) → m ≡ x → (byte 4 r ≡ 1 → ⊥) → (byte 4 r ≡ 2 → ⊥) → ltb elapsed m ≡ limit_left counters own elapsed (limit_of r)
  unfolding limit_left
  sort_3 m f n k = sym (rw (ne_eqb (byte 4 r) 1 n, ne_eqb (byte 4 r) 2 k, f, e))

-- the limits of a group are the records of their kind that come first
pub limits_all : (p : Limit → Bool) (rs : List Bytes) → list_all (λ r. p (limit_of r)) (take_while (λ r. eqb (kind r) 2) rs) ≡ all p (limits_of rs)
unfolding all limits_of
limits_all p [] = refl
limits_all p (r ∷ rs) = ap (list_all (λ x. p (limit_of x))) (take_while-cons (λ x. eqb (kind x) 2) r rs) ∙ pick (eqb (kind r) 2) (limits_all p rs)
  where
    pick : (b : Bool) → list_all (λ x. p (limit_of x)) (take_while (λ x. eqb (kind x) 2) rs) ≡ all p (limits_of rs)
        → list_all (λ x. p (limit_of x)) (cond b (r ∷ take_while (λ x. eqb (kind x) 2) rs) []) ≡ all p (if b then limit_of r ∷ limits_of rs else [])
    pick true h = ap (λ (z : Bool). p (limit_of r) && z) h
    pick false h = refl

-- a group whose count is not full is unspent if they leave room
pub unspent_is : (counters : List ℕ) (own elapsed : ℕ) (rs : List Bytes) → own < full_count
    → unspent_with counters own elapsed (limits_of rs) ≡ list_all (λ x. limit_left counters own elapsed (limit_of x)) (take_while (λ x. eqb (kind x) 2) rs)
unspent_is counters own elapsed rs h = rw (lt-ltb own full_count h) (sym (limits_all (limit_left counters own elapsed) rs))

-- A loop over the groups, by those that are left; the next of them is g, at the index k.
module _ (f : ℕ → Group → GroupResult) (near : Nearest) (place : ℕ) (left : List Group) (x : Result ℕ Denial) (inv : judged_from f near place left ≡ x) where
  pub groups_done : left ≡ [] → (d : Denial) → d ≡ denial_of near → Err d ≡ x
  unfolding judged_from
  groups_done h d e = ap Err e ∙ sym (ap (judged_from f near place) h) ∙ inv

  module _ (g : Group) (gs : List Group) (step : left ≡ g ∷ gs) (k : ℕ) (e : k ≡ place) (t : GroupResult) (d : t ≡ f k g) where
    result_is : f place g ≡ t
    result_is = ap (λ (n : ℕ). f n g) (sym e) ∙ sym d

    pub group_grants : is_granting t ≡ true → Ok k ≡ x
    unfolding judged_from
    group_grants y = ap Ok e ∙ sym (ap (judged_from f near place) step ∙ rw (ap is_granting result_is ∙ y)) ∙ inv

    pub group_next : is_granting t ≡ false → (n : Nearest) → n ≡ nearer near t k → (m : ℕ) → m ≡ place + 1 → judged_from f n m gs ≡ x
    unfolding judged_from
    group_next y n p m q =
        let a : n ≡ nearer near (f place g) place = p ∙ ap (nearer near t) e ∙ ap (λ (z : GroupResult). nearer near z place) (sym result_is) in
        rw (a, q, add-one) (sym (ap (judged_from f near place) step ∙ rw (ap is_granting result_is ∙ y)) ∙ inv)

-- the groups of a file are no more than its bytes
groups_few : (rs : List Bytes) → length (groups_of rs) ≤ length rs
unfolding groups_of
groups_few [] = omega arith
groups_few (r ∷ rs) = pick (eqb (kind r) 1) (groups_few rs)
  where
    pick : (b : Bool) → length (groups_of rs) ≤ length rs → length (if b then group_of r rs ∷ groups_of rs else groups_of rs) ≤ suc (length rs)
    pick true h = omega arith
    pick false h = omega arith

pub groups_within : (s : Bytes) → length (groups_of (records s)) ≤ length s
unfolding records
groups_within s = omega (arith, groups_few (records s), chunks_length (length s / 64) s)

-- the last test that a group passes, as the code asked for it
pub result_at : (counts counters : List ℕ) (own elapsed : ℕ) (km0 : Bytes) (q : Request) (place : ℕ) (r : Bytes) (rest : List Bytes) (t : GroupResult)
    → own ≡ get_or counts place 0 → t ≡ record_result counters own elapsed km0 q r rest → t ≡ group_result counts counters elapsed km0 q place (group_of r rest)
unfolding group_result record_result
result_at counts counters own elapsed km0 q place r rest t o e = e ∙ ap (λ (n : ℕ). result_with counters n elapsed km0 q (group_of r rest)) o

-- a group that admits what the request record and what follows it ask for admits the request
pub admits_asked : (km0 s rec : Bytes) (acts : List Action) (r b : Bool) → 64 ≤ length s → rec ≡ take 64 s
    → r ≡ any (admits km0 (wanted_of rec (blobfile_next (records (take (length s - 64) (drop 64 s)))))) acts → r ≡ b → any (admits km0 (request_of s).wanted) acts ≡ b
admits_asked km0 s rec acts r b h a e y =
    sym (ap (λ (x : Bytes). any (admits km0 (wanted_of x (blobfile_next (records (lent_rest s 64))))) acts) a ∙ ap (λ (w : Wanted). any (admits km0 w) acts) (wanted_first s (lent_rest s 64) (lent_rest_lem s 64) h))
    ∙ sym e ∙ y

-- whether a group grants, as the code asks
pub granting_is : (t : GroupResult) (b : Bool) → b ≡ sameb the_type t Granting → b ≡ is_granting t
granting_is NotAdmitting b e = e
granting_is Admitting b e = e
granting_is Certified b e = e
granting_is Granting b e = e

-- a part of a request file has few records
pub few_records : (s : Bytes) (k n : ℕ) (rs : List Bytes) → length s ≤ 4032 → rs ≡ records (take n (drop k s)) → length rs ≤ 63
unfolding records
few_records s k n rs h e =
    let p = take n (drop k s) in
    let l = chunks_length (length p / 64) p in
    omega (arith, ap length e, l, length-take n (drop k s), length-drop k s)

-- the answer for the last group serves one whose first record is the same
pub told_again : (q : Request) (old new : Bytes) (held r : Bool) → held ≡ certified q (group_of old []) → r ≡ same new old → r ≡ true → held ≡ certified q (group_of new [])
told_again q old new held r m e y = m ∙ ap (λ (x : Bytes). certified q (group_of x [])) (sym (same_eq new old (sym e ∙ y)))
