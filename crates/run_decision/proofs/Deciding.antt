-- The judgement of a request record by sets of groups: what the code's tests and calls say of it.
use Prim.Native.Nat.{ℕ, zero, suc, ◌-◌, ◌/◌, ◌^◌, ◌≤◌, ◌<◌}
use native.Mathlib.Omega.{arith}
use native.Mathlib.Nat.{pow-suc, lt_of_lt_of_le}
use mathlib.Core.Path.{◌≡◌, refl, sym, ◌∙◌, ap}
use mathlib.Core.List.{List, [], ◌∷◌}
use mathlib.Core.Option.{Option, none, some}
use mathlib.Core.Bool.{Bool, true, false, ◌&&◌}
use borrow.Author.Tests.{eq-eqb, ne_eqb, ltb-true, lt-ltb, le-ltb}
use lib.ListN.{length, get_or, get_elem?, drop}
use lib.Bits.{bit_and, and_le_l}
use lib.Dec.{eqb}
use lib.Pow.{pow_mono}
use Rattle.rules.specs.Sizes.{groups_max, set_bits}
use Rattle.std.specs.Prelude.{Result, Err, if◌then◌else◌}
use Rattle.rules.specs.Basics.{Bytes, any, kind, byte, number, part, set_of, records}
use Rattle.rules.specs.Layout.{use_laid_out}
use Rattle.rules.specs.Acl.{Action, limits_of, actions_of, Group, group_of, acl_of, acl_fault}
use Rattle.rules.specs.Request.{Wanted, working_blob, recovery_blob, WorkingBlob, RecoveryBlob, Blobfile, working_blob_of, recovery_blob_of, wanted_of, request_laid_out}
use Rattle.rules.specs.Ledger.{Ledger}
use Rattle.rules.specs.Grant.{admits, unspent_with}
use Rattle.rules.specs.Desk.{is_archive}
use Rattle.rules.specs.Runs.{request_with}
use Rattle.rules.specs.Prepared.{is_blob_action, Form, form_of}
use Rattle.rules.proofs.Laws.{and_left, and_right, there_below}
use Rattle.rules.proofs.Sets.{set_rest, set_alike, set_bits_lem}
use Rattle.rules.proofs.GroupSets.{digit_odd, digit_bit}
use Rattle.run_decision.specs.GroupSets.{first_in, judged_by_sets, unspent_at}
use Rattle.run_decision.proofs.GroupSets.{first_done}
use Rattle.rules.proofs.Forms.{form_use, any_part, working_part, recovery_part}
use Rattle.rules.proofs.AclSizes.{acl_fits}
use Rattle.run_form.specs.Places.{Offsets}
use Rattle.run_limits.specs.declared.row.Row.{Row}
use Rattle.run_limits.specs.Rows.{row_at, Rows}
use Rattle.run_limits.proofs.Filling.{group_fits}
use Rattle.run_limits.proofs.Meaning.{row_left_is}
use Rattle.refusals.specs.declared.Denial.{Denial}
use Rattle.refusals.specs.declared.Denial.TheVariants.{ClockBack}
use Rattle.gate_decision.specs.Standings.{judged_for, ledger_of_tables}
use Rattle.run_decision.specs.Members.{left_at, admits_at, members_in}
use Rattle.run_form.specs.declared.Prepared.{Prepared}
use Rattle.run_decision.specs.Ready.{Ready}
use Rattle.run_decision.specs.Deciding.{admitting_set, candidates, set_judge}

ruleset conj = (and_left, and_right)

-- The group at a place, by the table.
module _ (acl : Bytes) (bodies : List ℕ) (b : Offsets acl bodies) where
  at_place : (k : ℕ) → k < length (acl_of acl) → get_elem? (acl_of acl) k ≡ some (group_of (part (get_or bodies k 0 - 64) 64 acl) (records (drop (get_or bodies k 0) acl)))
  at_place k h = (b.filled k h).there

  some_same : (g h : Group) → some g ≡ some h → g ≡ h
  some_same g h e = cc

  pub place_group : (k : ℕ) (g : Group) → get_elem? (acl_of acl) k ≡ some g
      → (g.limits ≡ limits_of (records (drop (get_or bodies k 0) acl))) × (g.actions ≡ actions_of (records (drop (get_or bodies k 0) acl)))
  place_group k g e =
      let s = some_same g _ (sym e ∙ at_place k (there_below (acl_of acl) k g e)) in
      (ap (λ (x : Group). x.limits) s, ap (λ (x : Group). x.actions) s)

  pub left_is : (rows : List Row) (l : Ledger) (r : Bytes) (elapsed k : ℕ) → acl_fault (records acl) ≡ none → Rows acl bodies rows → elapsed < 18446744073709551616
      → elapsed ≡ number 56 8 r - l.loaded → k < length (acl_of acl) → left_at l.counts l.counters elapsed rows k ≡ unspent_at l (request_with r []) (acl_of acl) k
  unfolding left_at
  left_is rows l r elapsed k sound t late e h =
      let ms = limits_of (records (drop (get_or bodies k 0) acl)) in
      let a : unspent_at l (request_with r []) (acl_of acl) k ≡ unspent_with l.counters (get_or l.counts k 0) elapsed ms = rw (e, at_place k h) in
      row_left_is l.counters (get_or l.counts k 0) elapsed (omega arith) (row_at rows k) ms (group_fits acl bodies sound b k h).each (t.filled k h) ∙ sym a

-- two tests that agree on the places of a set of m bits
first_alike : (t u : ℕ → Bool) (w m n : ℕ) → n < 2 ^ m → ((k : ℕ) → k < m → t k ≡ u k) → first_in t w n ≡ first_in u w n
unfolding first_in
first_alike t u zero m n h f = refl
first_alike t u (suc w) zero n h f = let z : n ≡ 0 = omega arith in ap (first_in t (suc w)) z ∙ first_done t (suc w) ∙ sym (first_done u (suc w)) ∙ ap (first_in u (suc w)) (sym z)
first_alike t u (suc w) (suc m) n h f =
    let a : t 0 ≡ u 0 = f 0 (omega arith) in
    let i = first_alike (λ k. t (suc k)) (λ k. u (suc k)) w m (n / 2) (omega (arith, pow-suc 2 m)) (λ k l. f (suc k) (omega arith)) in
    rw (a, i)

judged_alike : (gs : List Group) (a c : ℕ) (t u : ℕ → Bool) → a < 2 ^ length gs → ((k : ℕ) → k < length gs → t k ≡ u k) → judged_by_sets gs a c t ≡ judged_by_sets gs a c u
unfolding judged_by_sets
judged_alike gs a c t u h f =
    let l = and_le_l a c in
    rw (first_alike t u set_bits (length gs) (bit_and a c) (omega arith) f)

pub admitting_below : (km0 : Bytes) (w : Wanted) (gs : List Group) (a : ℕ) → a ≡ admitting_set km0 w gs → a < 2 ^ length gs
unfolding admitting_set
admitting_below km0 w gs a e = rw e (set_bits_lem (λ g. any (admits km0 w) g.actions) gs)

-- The judgement, by the code's tests of the time.
module _ (counts counters : List ℕ) (loaded last : ℕ) (km0 : Bytes) (gs : List Group) (c : ℕ) (r : Bytes) (time : ℕ) (e : time ≡ number 56 8 r) where
  pub judged_early : time < loaded → Err ClockBack ≡ judged_for (set_judge (ledger_of_tables counts counters loaded last) km0 gs c r)
  unfolding set_judge
  judged_early h = sym (rw (← e, lt-ltb time loaded h))

  pub judged_late : loaded ≤ time → time < last → Err ClockBack ≡ judged_for (set_judge (ledger_of_tables counts counters loaded last) km0 gs c r)
  unfolding set_judge
  judged_late k h = sym (rw (← e, le-ltb time loaded k, lt-ltb time last h))

pub judged_sets : (counts counters : List ℕ) (loaded last : ℕ) (km0 acl : Bytes) (bodies : List ℕ) (rows : List Row) (form : Prepared) (c : ℕ) (r : Bytes) (time a : ℕ) (j : Result ℕ Denial)
    → Ready acl bodies form → Rows acl bodies rows → time < 18446744073709551616 → time ≡ number 56 8 r → loaded ≤ time → last ≤ time → a ≡ admitting_set km0 (wanted_of r none) (acl_of acl)
    → j ≡ judged_for (judged_by_sets (acl_of acl) a c (left_at counts counters (time - loaded) rows)) → j ≡ judged_for (set_judge (ledger_of_tables counts counters loaded last) km0 (acl_of acl) c r)
unfolding set_judge
judged_sets counts counters loaded last km0 acl bodies rows form c r time a j ready table late e h k d p =
    let l = ledger_of_tables counts counters loaded last in
    let q : time - loaded ≡ number 56 8 r - loaded = rw e in
    let m : judged_by_sets (acl_of acl) a c (unspent_at l (request_with r []) (acl_of acl)) ≡ judged_by_sets (acl_of acl) (admitting_set km0 (wanted_of r none) (acl_of acl)) c (unspent_at l (request_with r []) (acl_of acl)) = rw d in
    let s = judged_alike (acl_of acl) a c (left_at counts counters (time - loaded) rows) (unspent_at l (request_with r []) (acl_of acl)) (admitting_below km0 (wanted_of r none) (acl_of acl) a d) (λ i b. left_is acl bodies ready.places rows l r (time - loaded) i ready.sound table (omega arith) q b) in
    p ∙ ap judged_for (s ∙ m) ∙ sym (rw (← e, le-ltb time loaded h, le-ltb time last k))

-- The groups that admit, by the form.
members_set : (test : ℕ → Bool) (p u : Group → Bool) (gs : List Group) (w : ℕ) → length gs ≤ w → ((k : ℕ) (g : Group) → get_elem? gs k ≡ some g → test k ≡ u g)
    → members_in test w (set_of p gs) ≡ set_of (λ g. p g && u g) gs
unfolding members_in set_of
members_set test p u [] w h f = none test w
  where
    none : (test : ℕ → Bool) (w : ℕ) → members_in test w 0 ≡ 0
    none test zero = refl
    none test (suc w) = let i = none (λ k. test (suc k)) w in omega arith
members_set test p u (g ∷ gs) zero h f = absurd (omega arith)
members_set test p u (g ∷ gs) (suc w) h f =
    let i = members_set (λ k. test (suc k)) p u gs w (omega arith) (λ k x e. f (suc k) x e) in
    let t : test 0 ≡ u g = f 0 g refl in
    rw (set_rest (p g) (set_of p gs), digit_odd (p g) (set_of p gs), digit_bit (p g), t, i)

working_admits : (km0 : Bytes) (w : WorkingBlob) (f : Option Blobfile) (a : Action) → admits km0 (working_blob w f) a ≡ true → is_blob_action a ≡ true
unfolding admits
working_admits km0 w f a e = working_part km0 w f a e

recovery_admits : (km0 : Bytes) (w : RecoveryBlob) (f : Option Blobfile) (a : Action) → admits km0 (recovery_blob w f) a ≡ true → is_archive a ≡ true
unfolding admits
recovery_admits km0 w f a e = recovery_part w f a e

-- a use asks for one of the permissions
pub ready_permission : (r : Bytes) → request_laid_out r ≡ true → get_or r 0 0 ≡ 6 → get_or r 4 0 < 16
unfolding request_laid_out use_laid_out
ready_permission r d e =
    let f : use_laid_out r ≡ true = rw (eq-eqb (kind r) 6 e) at d in
    ltb-true (byte 4 r) 16 (search conj)

module _ (acl : Bytes) (bodies : List ℕ) (form : Prepared) (ready : Ready acl bodies form) where
  working_is : form.working ≡ (form_of (acl_of acl)).working
  working_is = ap (λ (f : Form). f.working) ready.form_is

  recovery_is : form.recovery ≡ (form_of (acl_of acl)).recovery
  recovery_is = ap (λ (f : Form). f.recovery) ready.form_is

  pub ready_few : length (acl_of acl) ≤ groups_max
  ready_few = (acl_fits acl ready.sound).groups

  pub ready_blob_below : (kind set : ℕ) → set ≡ candidates kind form.working form.recovery → set < 2 ^ groups_max
  unfolding form_of
  ready_blob_below kind set e = rw e (pick (eqb kind 7))
    where
      below : (test : Group → Bool) → set_of test (acl_of acl) < 2 ^ groups_max
      below test = lt_of_lt_of_le (set_bits_lem test (acl_of acl)) (pow_mono ready_few)

      pick : (b : Bool) → (if b then form.working else form.recovery) < 2 ^ groups_max
      pick true = rw working_is (below (λ g. any is_blob_action g.actions))
      pick false = rw recovery_is (below (λ g. any is_archive g.actions))

  module _ (km0 r : Bytes) where
    pub ready_use : (n : ℕ) → get_or r 0 0 ≡ 6 → get_or r 4 0 < 16 → n ≡ get_or form.uses (get_or r 4 0) 0 → n ≡ admitting_set km0 (wanted_of r none) (acl_of acl)
    unfolding admitting_set wanted_of admits
    ready_use n e h d = d ∙ ap (λ (f : Form). get_or f.uses (get_or r 4 0) 0) ready.form_is ∙ form_use (acl_of acl) (get_or r 4 0) h ∙ sym (rw (eq-eqb (kind r) 6 e))

    tests : (w : Wanted) (k : ℕ) (g : Group) → get_elem? (acl_of acl) k ≡ some g → admits_at km0 w acl bodies k ≡ any (admits km0 w) g.actions
    unfolding admits_at
    tests w k g e = sym (ap (any (admits km0 w)) (place_group acl bodies ready.places k g e).1)

    pub ready_blob : (set n : ℕ) → (get_or r 0 0 ≡ 6 → ⊥) → set ≡ candidates (get_or r 0 0) form.working form.recovery → n ≡ members_in (admits_at km0 (wanted_of r none) acl bodies) 64 set
        → n ≡ admitting_set km0 (wanted_of r none) (acl_of acl)
    unfolding admitting_set wanted_of form_of
    ready_blob set n other e d = d ∙ pick (eqb (get_or r 0 0) 7) refl
      where
        fit : length (acl_of acl) ≤ 64
        fit = let h = ready_few in omega arith

        no6 : eqb (get_or r 0 0) 6 ≡ false
        no6 = ne_eqb (get_or r 0 0) 6 other

        kept : (w : Wanted) (p : Group → Bool) → ((g : Group) → (p g && any (admits km0 w) g.actions) ≡ any (admits km0 w) g.actions)
            → members_in (admits_at km0 w acl bodies) 64 (set_of p (acl_of acl)) ≡ set_of (λ g. any (admits km0 w) g.actions) (acl_of acl)
        kept w p f = members_set (admits_at km0 w acl bodies) p (λ g. any (admits km0 w) g.actions) (acl_of acl) 64 fit (tests w) ∙ set_alike (λ g. p g && any (admits km0 w) g.actions) (λ g. any (admits km0 w) g.actions) (acl_of acl) f

        pick : (b : Bool) → eqb (get_or r 0 0) 7 ≡ b → members_in (admits_at km0 (wanted_of r none) acl bodies) 64 set ≡ set_of (λ g. any (admits km0 (wanted_of r none)) g.actions) (acl_of acl)
        pick true q =
            let s : set ≡ set_of (λ g. any is_blob_action g.actions) (acl_of acl) = e ∙ rw (q, working_is) in
            rw (no6, q, s) (kept (working_blob (working_blob_of r) none) (λ g. any is_blob_action g.actions) (λ g. any_part is_blob_action (admits km0 (working_blob (working_blob_of r) none)) g.actions (working_admits km0 (working_blob_of r) none)))
        pick false q =
            let s : set ≡ set_of (λ g. any is_archive g.actions) (acl_of acl) = e ∙ rw (q, recovery_is) in
            rw (no6, q, s) (kept (recovery_blob (recovery_blob_of r) none) (λ g. any is_archive g.actions) (λ g. any_part is_archive (admits km0 (recovery_blob (recovery_blob_of r) none)) g.actions (recovery_admits km0 (recovery_blob_of r) none)))
