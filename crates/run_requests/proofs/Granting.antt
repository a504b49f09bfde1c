-- From a judgement by sets to the answer: the group that grants is at its index, is not full, names no counter twice, and is charged; a denial keeps
-- the tables.
use Prim.Native.Nat.{ℕ, zero, suc, ◌-◌, ◌/◌, ◌%◌, ◌≤◌, ◌<◌}
use native.Mathlib.Omega.{arith}
use mathlib.Core.Path.{◌≡◌, refl, sym, ◌∙◌, ap}
use mathlib.Core.List.{List, [], ◌∷◌}
use mathlib.Core.Option.{Option, none, some}
use mathlib.Core.Bool.{Bool, true, false, not, ◌&&◌}
use borrow.Author.Tests.{ltb-true, eq-eqb, not-true, not-false}
use lib.ListN.{length, get_or, get_elem?}
use lib.Bits.{bit_and}
use lib.Count.{count_trailing_zeros}
use lib.Dec.{eqb, ltb}
use Rattle.rules.specs.Sizes.{full_count, set_bits}
use Rattle.rules.specs.Numbers.{malformed, no_group}
use Rattle.std.specs.Prelude.{Ok, Err, if◌then◌else◌}
use Rattle.rules.specs.Basics.{Bytes, Every, kind, flag, number, holds_at}
use Rattle.rules.specs.Layout.{use_laid_out}
use Rattle.rules.specs.Acl.{Group, announces_blobfile, acl_of}
use Rattle.rules.specs.Request.{wanted_of, request_laid_out, stands_alone, request_record_fault}
use Rattle.rules.specs.Ledger.{Ledger, raised, raised_by, charge}
use Rattle.rules.specs.Grant.{limits_left, unspent}
use Rattle.rules.specs.Gate.{Lowest, not_found, group, Denial, early, unadmitted, uncertified, exhausted, number_of, nearest, Judgement, granted, denied, too_early, or_else, permitted, settle}
use Rattle.rules.specs.Runs.{request_with, group_or, bytes_of_answer}
use Rattle.rules.proofs.Laws.{never, and_left, and_right, there_below}
use Rattle.rules.proofs.Judging.{ungranted}
use Rattle.run_decision.specs.GroupSets.{first_in, placed, placed_at, judged_by_sets, unspent_at}
use Rattle.rules.specs.Fits.{GroupFits}
use Rattle.rules.proofs.AclSizes.{acl_fits}
use Rattle.refusals.specs.Refusals.{denial_number, denial_group}
use Rattle.gate_charge.specs.Charges.{Chargeable}
use Rattle.gate_charge.proofs.Granting.{limits_room}
use Rattle.run_form.specs.declared.Prepared.{Prepared}
use Rattle.run_limits.specs.declared.row.Row.{Row}
use Rattle.run_limits.specs.Rows.{named_of, words_of, row_at, Rows, raised_words, Able}
use Rattle.run_limits.proofs.Meaning.{words_raise, words_able}
use Rattle.refusals.specs.declared.Denial as code
use Rattle.refusals.specs.declared.Denial.TheVariants.{ClockBack}
use Rattle.gate_decision.specs.Standings.{denial_for, judged_for, ledger_of_tables}
use Rattle.run_decision.specs.Ready.{Ready}
use Rattle.run_decision.specs.Deciding.{admitting_set, set_judge, ask_sets}
use Rattle.run_decision.proofs.Deciding.{place_group, ready_few}
use Rattle.run_requests.specs.Answers.{IsOutcome}

-- what a walk finds passes
first_true : (test : ℕ → Bool) (w n : ℕ) → first_in test w n < w → test (first_in test w n) ≡ true
unfolding first_in
first_true test zero n h = absurd (omega arith)
first_true test (suc w) n h = pick (eqb (n % 2) 1 && test 0) refl (first_true (λ k. test (suc k)) w (n / 2))
  where
    next : ℕ
    next = first_in (λ k. test (suc k)) w (n / 2)

    pick : (b : Bool) → (eqb (n % 2) 1 && test 0) ≡ b → (next < w → test (suc next) ≡ true) → test (if eqb (n % 2) 1 && test 0 then 0 else suc next) ≡ true
    pick true q f = rw q (and_right (eqb (n % 2) 1) (test 0) q)
    pick false q f = let l : suc next < suc w = rw q at h in rw q (f (omega arith))

none_granted : (k : ℕ) (d : Denial) → Ok k ≡ Err (denial_for d) → ⊥
none_granted k d f = never (cc)

none_ungranted : (k : ℕ) (x y : Lowest) → Ok k ≡ judged_for (ungranted x y) → ⊥
none_ungranted k not_found not_found f = never (cc)
none_ungranted k not_found (group p g) f = never (cc)
none_ungranted k (group p g) y f = never (cc)

-- The group that grants, by the code's answer.
module _ (l : Ledger) (km0 : Bytes) (gs : List Group) (c : ℕ) (r : Bytes) (fit : length gs ≤ set_bits) where
  abbrev left : ℕ → Bool
  left = unspent_at l (request_with r []) gs

  granted_found : (k : ℕ) → Ok k ≡ judged_for (set_judge l km0 gs c r)
      → (g : Group) × (set_judge l km0 gs c r ≡ granted k g) × (get_elem? gs k ≡ some g) × (unspent l k (request_with r []) g ≡ true)
  unfolding set_judge judged_by_sets
  granted_found k e = pick (too_early l (request_with r [])) refl
    where
      both : ℕ
      both = bit_and (admitting_set km0 (wanted_of r none) gs) c

      f : ℕ
      f = first_in left set_bits both

      found : (x y : Lowest) (o : Option Group) → get_elem? gs f ≡ o → Ok k ≡ judged_for (or_else (placed_at f o) granted (ungranted x y))
          → (g : Group) × (or_else (placed_at f o) granted (ungranted x y) ≡ granted k g) × (get_elem? gs k ≡ some g) × (unspent l k (request_with r []) g ≡ true)
      found x y none p q = absurd (none_ungranted k x y q)
      found x y (some g) p q =
          let a : f ≡ k = cc in
          let b : f < set_bits = let h = there_below gs f g p in omega arith in
          let t : holds_at (unspent l f (request_with r [])) (get_elem? gs f) ≡ true = first_true left set_bits both b in
          let u : unspent l f (request_with r []) g ≡ true = rw p at t in
          (g, ap (λ (n : ℕ). granted n g) a, rw (← a) p, rw (← a) u)

      pick : (b : Bool) → too_early l (request_with r []) ≡ b
          → (g : Group) × (set_judge l km0 gs c r ≡ granted k g) × (get_elem? gs k ≡ some g) × (unspent l k (request_with r []) g ≡ true)
      pick true q = let n : Ok k ≡ Err ClockBack = rw q at e in absurd (none_granted k early n)
      pick false q = rw q (found (placed gs (count_trailing_zeros set_bits both)) (placed gs (count_trailing_zeros set_bits (admitting_set km0 (wanted_of r none) gs))) (get_elem? gs f) refl (rw q at e))

-- every element, and one of them
every_at : {A : Type 0} (P : A → Type 0) (xs : List A) (k : ℕ) (x : A) → Every P xs → get_elem? xs k ≡ some x → P x
every_at P [] zero x h e = absurd (never (cc))
every_at P [] (suc k) x h e = every_at P [] k x h e
every_at P (y ∷ ys) zero x h e = let q : y ≡ x = cc in rw (← q) h.0
every_at P (y ∷ ys) (suc k) x h e = every_at P ys k x h.1 e

module _ (counts counters : List ℕ) (loaded last : ℕ) (km0 acl : Bytes) (bodies : List ℕ) (form : Prepared) (c : ℕ) (r : Bytes) (ready : Ready acl bodies form) where
  abbrev tables : Ledger
  tables = ledger_of_tables counts counters loaded last

  fits : length (acl_of acl) ≤ set_bits
  fits = let h = ready_few acl bodies form ready in omega arith

  module _ (k : ℕ) (e : Ok k ≡ judged_for (set_judge tables km0 (acl_of acl) c r)) where
    pub granted_count : get_or counts k 0 < full_count
    granted_count =
        let g = granted_found tables km0 (acl_of acl) c r fits k e in
        ltb-true (get_or counts k 0) full_count (and_left (ltb (get_or counts k 0) full_count) (limits_left counters (get_or counts k 0) (number 56 8 r - loaded) g.0.limits) g.3)

    module _ (rows : List Row) (table : Rows acl bodies rows) where
      -- the words of the row of the group that grants
      row_words : (g : Group) → get_elem? (acl_of acl) k ≡ some g → words_of (row_at rows k) ≡ named_of g.limits
      row_words g q = (table.filled k (there_below (acl_of acl) k g q)).words ∙ ap named_of (sym (place_group acl bodies ready.places k g q).0)

      group_fits : (g : Group) → get_elem? (acl_of acl) k ≡ some g → GroupFits g
      group_fits g q = every_at GroupFits (acl_of acl) k g (acl_fits acl ready.sound).each q

      pub granted_able : Able counters (words_of (row_at rows k))
      granted_able =
          let g = granted_found tables km0 (acl_of acl) c r fits k e in
          let f = group_fits g.0 g.2 in
          let m = limits_room counters (get_or counts k 0) (number 56 8 r - loaded) g.0.limits (and_right (ltb (get_or counts k 0) full_count) (limits_left counters (get_or counts k 0) (number 56 8 r - loaded) g.0.limits) g.3) in
          let able : Chargeable counters g.0.limits = record { room = m; apart = f.apart } in
          rw (row_words g.0 g.2) (words_able counters g.0.limits f.each able)

      pub answered_permit : (laid : Bool) (counts' counters' : List ℕ) (time n place after : ℕ) → laid ≡ stands_alone r → not laid ≡ false → time ≡ number 56 8 r
          → counts' ≡ raised counts k counts → counters' ≡ raised_words counters (words_of (row_at rows k)) counters → n ≡ 0 → place ≡ k → after ≡ time
          → IsOutcome (ask_sets km0 (acl_of acl) c tables r) counts' counters' loaded n place after
      unfolding ask_sets request_record_fault charge bytes_of_answer
      answered_permit laid counts' counters' time n place after t h s a b x y z =
          let g = granted_found tables km0 (acl_of acl) c r fits k e in
          let m : counters' ≡ raised_by counters g.0.limits counters = b ∙ ap (λ (ws : List ℕ). raised_words counters ws counters) (row_words g.0 g.2) ∙ words_raise counters g.0.limits counters (group_fits g.0 g.2).each in
          let laid_out : stands_alone r ≡ true = sym t ∙ not-false laid h in
          rw (laid_out, g.1, a, m, x, y, z, s) (record { ledger = refl; answer = refl })

  pub answered_denied : (d : code.Denial) (laid : Bool) (n place after : ℕ) → Err d ≡ judged_for (set_judge tables km0 (acl_of acl) c r) → laid ≡ stands_alone r → not laid ≡ false
      → n ≡ denial_number d → place ≡ group_or (denial_group d) → after ≡ last
      → IsOutcome (ask_sets km0 (acl_of acl) c tables r) counts counters loaded n place after
  unfolding ask_sets request_record_fault bytes_of_answer
  answered_denied d laid n place after e t h x y z = rw (laid_out, z) (pick (set_judge tables km0 (acl_of acl) c r) e)
    where
      laid_out : stands_alone r ≡ true
      laid_out = sym t ∙ not-false laid h

      number_same : (d : Denial) → denial_number (denial_for d) ≡ number_of d
      number_same early = refl
      number_same unadmitted = refl
      number_same (uncertified p g) = refl
      number_same (exhausted p g) = refl

      near_same : (d : Denial) → denial_group (denial_for d) ≡ nearest d
      near_same early = refl
      near_same unadmitted = refl
      near_same (uncertified p g) = refl
      near_same (exhausted p g) = refl

      pick : (v : Judgement) → Err d ≡ judged_for v → IsOutcome (settle tables (number 56 8 r) permitted v) counts counters loaded n place last
      pick (granted p g) q = absurd (never (cc))
      pick (denied w) q =
          let s : d ≡ denial_for w = cc in
          rw (x, y, s, number_same w, near_same w) (record { ledger = refl; answer = refl })

  pub answered_malformed : (laid : Bool) (n place after : ℕ) → laid ≡ stands_alone r → not laid ≡ true → n ≡ malformed → place ≡ no_group → after ≡ last
      → IsOutcome (ask_sets km0 (acl_of acl) c tables r) counts counters loaded n place after
  unfolding ask_sets request_record_fault bytes_of_answer
  answered_malformed laid n place after t h x y z =
      let bad : stands_alone r ≡ false = sym t ∙ not-true laid h in
      rw (bad, x, y, z) (record { ledger = refl; answer = refl })

-- a use by itself
pub use_alone : (r : Bytes) (laid announced : Bool) → get_or r 0 0 ≡ 6 → laid ≡ use_laid_out r → announced ≡ flag 6 r → (laid && not announced) ≡ stands_alone r
unfolding stands_alone request_laid_out
use_alone r laid announced e p q = rw (p, q, eq-eqb (kind r) 6 e)

pub is_laid_out : (r : Bytes) (laid : Bool) → laid ≡ stands_alone r → not laid ≡ false → request_laid_out r ≡ true
unfolding stands_alone
is_laid_out r laid t h = and_left (request_laid_out r) (not (announces_blobfile r)) (sym t ∙ not-false laid h)
