-- The turns of the loops of this crate.
use Prim.Native.Nat.{ℕ, zero, suc, ◌+◌, ◌*◌, ◌/◌, ◌%◌, ◌≤◌, ◌<◌}
use native.Mathlib.Omega.{arith}
use native.Mathlib.Numerals.{add-one}
use native.Mathlib.Nat.{lt_of_lt_of_le, mod-lt}
use mathlib.Core.Path.{◌≡◌, refl, sym, ◌∙◌, ap, ap₂}
use mathlib.Core.List.{List, [], ◌∷◌, ◌++◌, append_assoc}
use mathlib.Core.Bool.{Bool, true, false, ◌||◌, false≢true}
use borrow.Author.Tests.{eq-eqb, ne_eqb}
use lib.ListN.{length, take, drop, get_or, set, length-set, replicate, drop_of_length-le}
use lib.Seq.{drop-cons, drop-set-lt, take-suc-set, take_all}
use Rattle.std.proofs.lemmas.List.{append-nil}
use lib.Dec.{eqb}
use lib.Bits.{bit_or}
use lib.Pow.{pow_mono}
use Rattle.rules.specs.Sizes.{permissions_max, set_bits}
use Rattle.std.specs.Prelude.{if◌then◌else◌}
use Rattle.rules.specs.Basics.{Bytes, Every, any, bit, kind, number, set_of, records}
use Rattle.rules.specs.Acl.{Action, permissions, make_blob, make_archive, blobfile_rule_next, action_of, actions_of, Group, group_of, groups_of, acl_of}
use Rattle.rules.specs.Grant.{admits_use}
use Rattle.rules.specs.Desk.{is_archive}
use Rattle.rules.specs.Prepared.{is_blob_action, use_set, use_sets, form_of}
use Rattle.rules.proofs.Sets.{set_bits_lem}
use Rattle.rules.proofs.GroupSets.{bit_zero, bit_suc, bit_or_lem}
use Rattle.acl_groups.specs.Parts.{passed_over}
use Rattle.run_form.specs.Forms.{doubled, bits_with, bits_of}

-- neither of two
or_not_left : (a b : Bool) → (a || b) ≡ false → a ≡ false
or_not_left true b e = e
or_not_left false b e = refl

or_not_right : (a b : Bool) → (a || b) ≡ false → b ≡ false
or_not_right true b e = absurd (false≢true (sym e))
or_not_right false b e = e

-- How far doubling is: the sets before place p have their new group, those from p on get it from the bits that are left.
pub record Doubling (bits : ℕ) (before : List ℕ) (left p : ℕ) (uses : List ℕ) : Type 0 where
  pub sized : length uses ≡ permissions_max
  pub below : Every (λ n. n < 9223372036854775808) (drop p uses)
  pub rest : take p uses ++ doubled left (drop p uses) ≡ doubled bits before

pub doubling_start : (bits : ℕ) (uses : List ℕ) → length uses ≡ permissions_max → Every (λ n. n < 9223372036854775808) uses → Doubling bits uses bits 0 uses
doubling_start bits uses n b = record { sized = n; below = b; rest = refl }

module _ (bits : ℕ) (before : List ℕ) (left p : ℕ) (uses : List ℕ) (d : Doubling bits before left p uses) where
  split_here : p < 16 → drop p uses ≡ get_or uses p 0 ∷ drop (p + 1) uses
  split_here h = drop-cons uses p 0 (let n = d.sized in omega arith) ∙ rw add-one

  pub doubling_below : p < 16 → get_or uses p 0 < 9223372036854775808
  doubling_below h = let b : Every (λ n. n < 9223372036854775808) (get_or uses p 0 ∷ drop (p + 1) uses) = rw (split_here h) at d.below in b.0

  pub doubling_next : (v : ℕ) → p < 16 → v ≡ get_or uses p 0 * 2 + left % 2 → Doubling bits before (left / 2) (p + 1) (set uses p v)
  unfolding doubled
  doubling_next v h e =
      let n : p < length uses = let m = d.sized in omega arith in
      let b : Every (λ n. n < 9223372036854775808) (get_or uses p 0 ∷ drop (p + 1) uses) = rw (split_here h) at d.below in
      let t : take (p + 1) (set uses p v) ≡ take p uses ++ (v ∷ []) = rw add-one (take-suc-set uses p v n) in
      let r : drop (p + 1) (set uses p v) ≡ drop (p + 1) uses = drop-set-lt (p + 1) uses p v (omega arith) in
      record {
        sized = length-set uses p v ∙ d.sized;
        below = rw r b.1;
        rest = rw (t, r) (append_assoc (take p uses) (v ∷ []) (doubled (left / 2) (drop (p + 1) uses)) ∙ ap (λ (n : ℕ). take p uses ++ (n ∷ doubled (left / 2) (drop (p + 1) uses))) e ∙ sym (ap (λ (z : List ℕ). take p uses ++ doubled left z) (split_here h)) ∙ d.rest);
      }

  pub doubling_done : 16 ≤ p → uses ≡ doubled bits before
  unfolding doubled
  doubling_done h =
      let m = d.sized in
      let t : take p uses ≡ uses = take_all p uses (omega arith) in
      let r : drop p uses ≡ [] = drop_of_length-le uses {i = p} (omega arith) in
      sym (append-nil uses) ∙ (rw (t, r) at d.rest)

-- a test of a group by its actions, as a digit
abbrev digit : Bool → ℕ
digit b = if b then 1 else 0

-- the bits that actions set tell which permissions they admit
bits_tell : (p : ℕ) (acts : List Action) → bit p (bits_of acts) ≡ any (admits_use p) acts
unfolding bits_of bits_with any admits_use
bits_tell p [] = zero_bit p
  where
    zero_bit : (p : ℕ) → bit p 0 ≡ false
    zero_bit zero = bit_zero 0
    zero_bit (suc p) = bit_suc p 0 ∙ zero_bit p
bits_tell p (permissions b ∷ acts) = bit_or_lem p b (bits_of acts) ∙ ap (λ (t : Bool). bit p b || t) (bits_tell p acts)
bits_tell p (make_blob b f ∷ acts) = bits_tell p acts
bits_tell p (make_archive a f ∷ acts) = bits_tell p acts

odd_digit : (n : ℕ) → n % 2 ≡ digit (eqb (n % 2) 1)
odd_digit n = pick (n % 2) (mod-lt n (omega arith))
  where
    pick : (m : ℕ) → m < 2 → m ≡ digit (eqb m 1)
    pick zero h = refl
    pick (suc zero) h = refl
    pick (suc (suc m)) h = absurd (omega arith)

-- the sets with one group more
sets_more : (g : Group) (gs : List Group) (from n bits : ℕ) → ((p : ℕ) → bit p bits ≡ any (admits_use (from + p)) g.actions)
    → use_sets (g ∷ gs) from n ≡ doubled bits (use_sets gs from n)
unfolding use_sets doubled set_of
sets_more g gs from zero bits f = refl
sets_more g gs from (suc n) bits f = ap₂ (λ (x : ℕ) (xs : List ℕ). x ∷ xs) here (sets_more g gs (suc from) n (bits / 2) later)
  where
    a : any (admits_use from) g.actions ≡ eqb (bits % 2) 1
    a = let e : from + 0 ≡ from = omega arith in ap (λ (k : ℕ). any (admits_use k) g.actions) (sym e) ∙ sym (f 0) ∙ bit_zero bits

    here : digit (any (admits_use from) g.actions) + 2 * use_set gs from ≡ use_set gs from * 2 + bits % 2
    here = rw a (let o = odd_digit bits in omega arith)

    later : (p : ℕ) → bit p (bits / 2) ≡ any (admits_use (suc from + p)) g.actions
    later p = let e : from + suc p ≡ suc from + p = omega arith in sym (bit_suc p bits) ∙ f (suc p) ∙ ap (λ (k : ℕ). any (admits_use k) g.actions) e

sets_below : (gs : List Group) (from n : ℕ) → length gs < 64 → Every (λ n. n < 9223372036854775808) (use_sets gs from n)
unfolding use_sets
sets_below gs from zero h = tt
sets_below gs from (suc n) h = (set_small (λ g. any (admits_use from) g.actions) gs h, sets_below gs (suc from) n h)
  where
    set_small : (test : Group → Bool) (gs : List Group) → length gs < 64 → set_of test gs < 9223372036854775808
    set_small test gs h = lt_of_lt_of_le (set_bits_lem test gs) (pow_mono {j = 63} (omega arith))

-- One record before others.
module _ (r : Bytes) (rs : List Bytes) where
  groups_here : kind r ≡ 1 → groups_of (r ∷ rs) ≡ group_of r rs ∷ groups_of rs
  unfolding groups_of
  groups_here e = rw (eq-eqb (kind r) 1 e)

  groups_skip : (kind r ≡ 1 → ⊥) → groups_of (r ∷ rs) ≡ groups_of rs
  unfolding groups_of
  groups_skip n = rw (ne_eqb (kind r) 1 n)

  actions_none : kind r ≡ 1 → actions_of (r ∷ rs) ≡ []
  unfolding actions_of
  actions_none e = rw (eq-eqb (kind r) 1 e)

  -- the action of a record: whether a record of kind 15 follows makes no difference to a form
  abbrev action_here : Action
  action_here = action_of r (blobfile_rule_next rs)

  actions_skip : (kind r ≡ 1 → ⊥) → passed_over (kind r) ≡ true → actions_of (r ∷ rs) ≡ actions_of rs
  unfolding actions_of
  actions_skip n e = rw (ne_eqb (kind r) 1 n) (pick (eqb (kind r) 2) (eqb (kind r) 15) e)
    where
      pick : (a b : Bool) → (a || b) ≡ true → (if a then actions_of rs else if b then actions_of rs else action_here ∷ actions_of rs) ≡ actions_of rs
      pick true b e = refl
      pick false true e = refl
      pick false false e = absurd (false≢true e)

  actions_more : (kind r ≡ 1 → ⊥) → passed_over (kind r) ≡ false → actions_of (r ∷ rs) ≡ action_here ∷ actions_of rs
  unfolding actions_of
  actions_more n e = rw (ne_eqb (kind r) 1 n, or_not_left (eqb (kind r) 2) (eqb (kind r) 15) e, or_not_right (eqb (kind r) 2) (eqb (kind r) 15) e)

-- What is in the sets after the records rs were passed, and what the actions set that were passed since the last group record.
pub record Made (rs : List Bytes) (uses : List ℕ) (working recovery bits blob archive : ℕ) : Type 0 where
  pub uses_is : uses ≡ use_sets (groups_of rs) 0 permissions_max
  pub working_is : working ≡ set_of (λ g. any is_blob_action g.actions) (groups_of rs)
  pub recovery_is : recovery ≡ set_of (λ g. any is_archive g.actions) (groups_of rs)
  pub bits_is : bits ≡ bits_of (actions_of rs)
  pub blob_is : blob ≡ digit (any is_blob_action (actions_of rs))
  pub archive_is : archive ≡ digit (any is_archive (actions_of rs))

made_start : Made [] (replicate permissions_max 0) 0 0 0 0 0
unfolding groups_of actions_of use_sets set_of bits_of any
made_start = record { uses_is = refl; working_is = refl; recovery_is = refl; bits_is = refl; blob_is = refl; archive_is = refl }

-- One more record: what it changes. No more groups than a set has bits.
module _ (r : Bytes) (rs : List Bytes) (uses : List ℕ) (working recovery bits blob archive : ℕ) (m : Made rs uses working recovery bits blob archive) where
  module _ (few : length (groups_of (r ∷ rs)) ≤ set_bits) (e : kind r ≡ 1) where
    groups_left : length (groups_of rs) < 64
    groups_left = let n = ap length (groups_here r rs e) in omega arith

    set_small : (test : Group → Bool) → set_of test (groups_of rs) < 9223372036854775808
    set_small test = lt_of_lt_of_le (set_bits_lem test (groups_of rs)) (pow_mono {j = 63} (let g = groups_left in omega arith))

    -- a group record: what stood in the way of its sets does not overflow
    made_below : Every (λ n. n < 9223372036854775808) uses
    made_below = rw m.uses_is (sets_below (groups_of rs) 0 permissions_max groups_left)

    made_working : working < 9223372036854775808
    made_working = rw m.working_is (set_small (λ g. any is_blob_action g.actions))

    made_recovery : recovery < 9223372036854775808
    made_recovery = rw m.recovery_is (set_small (λ g. any is_archive g.actions))

  digit_small : (b : Bool) → digit b ≤ 1
  digit_small true = omega arith
  digit_small false = omega arith

  made_blob_digit : blob ≤ 1
  made_blob_digit = rw m.blob_is (digit_small (any is_blob_action (actions_of rs)))

  made_archive_digit : archive ≤ 1
  made_archive_digit = rw m.archive_is (digit_small (any is_archive (actions_of rs)))

  set_next : (test : Action → Bool) (n d : ℕ) → kind r ≡ 1 → n ≡ set_of (λ g. any test g.actions) (groups_of rs) → d ≡ digit (any test (actions_of rs))
      → n * 2 + d ≡ set_of (λ g. any test g.actions) (groups_of (r ∷ rs))
  unfolding set_of
  set_next test n d e a b = sym (ap (set_of (λ g. any test g.actions)) (groups_here r rs e) ∙ (let x : ℕ = digit (any test (actions_of rs)) in let q : x + 2 * set_of (λ g. any test g.actions) (groups_of rs) ≡ n * 2 + d = omega arith in q))

  made_group : (next : List ℕ) (w c : ℕ) → kind r ≡ 1 → next ≡ doubled bits uses → w ≡ working * 2 + blob → c ≡ recovery * 2 + archive → Made (r ∷ rs) next w c 0 0 0
  unfolding bits_of any
  made_group next w c e d p q =
      let none : actions_of (r ∷ rs) ≡ [] = actions_none r rs e in
      record {
        uses_is = d ∙ rw (m.uses_is, m.bits_is) (sym (ap (λ (gs : List Group). use_sets gs 0 permissions_max) (groups_here r rs e) ∙ sets_more (group_of r rs) (groups_of rs) 0 permissions_max (bits_of (actions_of rs)) tells));
        working_is = p ∙ set_next is_blob_action working blob e m.working_is m.blob_is;
        recovery_is = q ∙ set_next is_archive recovery archive e m.recovery_is m.archive_is;
        bits_is = rw none;
        blob_is = rw none;
        archive_is = rw none;
      }
    where
      tells : (p : ℕ) → bit p (bits_of (actions_of rs)) ≡ any (admits_use (0 + p)) (actions_of rs)
      tells p = let e : 0 + p ≡ p = omega arith in bits_tell p (actions_of rs) ∙ ap (λ (n : ℕ). any (admits_use n) (actions_of rs)) (sym e)

  module _ (no_group_lem : kind r ≡ 1 → ⊥) where
    groups_same : groups_of (r ∷ rs) ≡ groups_of rs
    groups_same = groups_skip r rs no_group_lem

    -- a limit, or a record of kind 15
    made_over : (t : Bool) → t ≡ passed_over (kind r) → t ≡ true → Made (r ∷ rs) uses working recovery bits blob archive
    made_over t d e =
        let same = actions_skip r rs no_group_lem (sym d ∙ e) in
        record {
          uses_is = rw groups_same m.uses_is;
          working_is = rw groups_same m.working_is;
          recovery_is = rw groups_same m.recovery_is;
          bits_is = rw same m.bits_is;
          blob_is = rw same m.blob_is;
          archive_is = rw same m.archive_is;
        }

    module _ (t : Bool) (d : t ≡ passed_over (kind r)) (is-action : t ≡ false) where
      abbrev action : Action
      action = action_here r rs

      more : actions_of (r ∷ rs) ≡ action ∷ actions_of rs
      more = actions_more r rs no_group_lem (sym d ∙ is-action)

      made_action : (b c d : ℕ) → b ≡ bits_with action bits → c ≡ digit (is_blob_action action || any is_blob_action (actions_of rs))
          → d ≡ digit (is_archive action || any is_archive (actions_of rs)) → Made (r ∷ rs) uses working recovery b c d
      unfolding bits_of any
      made_action b c d p q r =
          record {
            uses_is = rw groups_same m.uses_is;
            working_is = rw groups_same m.working_is;
            recovery_is = rw groups_same m.recovery_is;
            bits_is = p ∙ rw (m.bits_is, more);
            blob_is = q ∙ rw more;
            archive_is = r ∙ rw more;
          }

      made_permissions : (b : ℕ) → kind r ≡ 3 → b ≡ number 4 2 r → Made (r ∷ rs) uses working recovery (bit_or b bits) blob archive
      unfolding action_of bits_with
      made_permissions b e n = let t = eq-eqb (kind r) 3 e in made_action (bit_or b bits) blob archive (rw (t, n)) (rw t m.blob_is) (rw t m.archive_is)

      module _ (no-permissions : kind r ≡ 3 → ⊥) where
        made_blob : kind r ≡ 4 → Made (r ∷ rs) uses working recovery bits 1 archive
        unfolding action_of bits_with
        made_blob e =
            let t = ne_eqb (kind r) 3 no-permissions in
            let u = eq-eqb (kind r) 4 e in
            made_action bits 1 archive (rw (t, u)) (rw (t, u)) (rw (t, u) m.archive_is)

        made_archive : (kind r ≡ 4 → ⊥) → Made (r ∷ rs) uses working recovery bits blob 1
        unfolding action_of bits_with
        made_archive n =
            let t = ne_eqb (kind r) 3 no-permissions in
            let u = ne_eqb (kind r) 4 n in
            made_action bits blob 1 (rw (t, u)) (rw (t, u) m.blob_is) (rw (t, u))

-- How far the loop is: some records of an ACL are left, the others, behind them, were passed.
pub record Passing (acl : Bytes) (left : List Bytes) (uses : List ℕ) (working recovery bits blob archive : ℕ) : Type 0 where
  pub few : length (acl_of acl) ≤ set_bits
  pub passed : List Bytes
  pub whole : left ++ passed ≡ records acl
  pub made : Made passed uses working recovery bits blob archive

pub passing_start : (acl : Bytes) (left : List Bytes) → length (acl_of acl) ≤ set_bits → left ≡ records acl → Passing acl left (replicate permissions_max 0) 0 0 0 0 0
passing_start acl left few e = record { few = few; passed = []; whole = append-nil left ∙ e; made = made_start }

groups_behind : (xs ys : List Bytes) → length (groups_of ys) ≤ length (groups_of (xs ++ ys))
unfolding groups_of
groups_behind [] ys = omega arith
groups_behind (x ∷ xs) ys = pick (eqb (kind x) 1) (groups_behind xs ys)
  where
    pick : (b : Bool) → length (groups_of ys) ≤ length (groups_of (xs ++ ys)) → length (groups_of ys) ≤ length (if b then group_of x (xs ++ ys) ∷ groups_of (xs ++ ys) else groups_of (xs ++ ys))
    pick true h = omega arith
    pick false h = h

module _ (acl : Bytes) (left : List Bytes) (uses : List ℕ) (working recovery bits blob archive : ℕ) (p : Passing acl left uses working recovery bits blob archive) where
  pub passing_done : length left ≡ 0 → record { uses = uses; working = working; recovery = recovery } ≡ form_of (acl_of acl)
  unfolding form_of
  passing_done h =
      let e : p.passed ≡ records acl = none left h p.whole in
      let a : uses ≡ use_sets (acl_of acl) 0 permissions_max = rw e at p.made.uses_is in
      let b : working ≡ set_of (λ g. any is_blob_action g.actions) (acl_of acl) = rw e at p.made.working_is in
      let c : recovery ≡ set_of (λ g. any is_archive g.actions) (acl_of acl) = rw e at p.made.recovery_is in
      rw (a, b, c)
    where
      none : (left : List Bytes) → length left ≡ 0 → left ++ p.passed ≡ records acl → p.passed ≡ records acl
      none [] h e = e
      none (r ∷ rs) h e = absurd (omega arith)

  module _ (next : List Bytes) (r : Bytes) (e : left ≡ next ++ (r ∷ [])) where
    whole_next : next ++ (r ∷ p.passed) ≡ records acl
    whole_next = sym (append_assoc next (r ∷ []) p.passed) ∙ (rw e at p.whole)

    few_here : length (groups_of (r ∷ p.passed)) ≤ set_bits
    few_here = let h = groups_behind next (r ∷ p.passed) in let f = p.few in let n = ap (λ (rs : List Bytes). length (groups_of rs)) whole_next in omega arith

    passing_next : {u : List ℕ} {w c b l a : ℕ} → Made (r ∷ p.passed) u w c b l a → Passing acl next u w c b l a
    passing_next m = record { few = p.few; passed = r ∷ p.passed; whole = whole_next; made = m }

    module _ (is_group_lem : kind r ≡ 1) where
      pub passing_below : Every (λ n. n < 9223372036854775808) uses
      passing_below = made_below r p.passed uses working recovery bits blob archive p.made few_here is_group_lem

      pub passing_working : (working < 9223372036854775808) × (blob ≤ 1)
      passing_working = (made_working r p.passed uses working recovery bits blob archive p.made few_here is_group_lem, made_blob_digit r p.passed uses working recovery bits blob archive p.made)

      pub passing_recovery : (recovery < 9223372036854775808) × (archive ≤ 1)
      passing_recovery = (made_recovery r p.passed uses working recovery bits blob archive p.made few_here is_group_lem, made_archive_digit r p.passed uses working recovery bits blob archive p.made)

      pub passing_group : (u : List ℕ) (w c : ℕ) → u ≡ doubled bits uses → w ≡ working * 2 + blob → c ≡ recovery * 2 + archive → Passing acl next u w c 0 0 0
      passing_group u w c d x y = passing_next (made_group r p.passed uses working recovery bits blob archive p.made u w c is_group_lem d x y)

    module _ (no_group_lem : kind r ≡ 1 → ⊥) (t : Bool) (d : t ≡ passed_over (kind r)) where
      pub passing_over : t ≡ true → Passing acl next uses working recovery bits blob archive
      passing_over h = passing_next (made_over r p.passed uses working recovery bits blob archive p.made no_group_lem t d h)

      pub passing_permissions : t ≡ false → (b : ℕ) → kind r ≡ 3 → b ≡ number 4 2 r → Passing acl next uses working recovery (bit_or b bits) blob archive
      passing_permissions h b k n = passing_next (made_permissions r p.passed uses working recovery bits blob archive p.made no_group_lem t d h b k n)

      pub passing_blob : t ≡ false → (kind r ≡ 3 → ⊥) → kind r ≡ 4 → Passing acl next uses working recovery bits 1 archive
      passing_blob h n k = passing_next (made_blob r p.passed uses working recovery bits blob archive p.made no_group_lem t d h n k)

      pub passing_archive : t ≡ false → (kind r ≡ 3 → ⊥) → (kind r ≡ 4 → ⊥) → Passing acl next uses working recovery bits blob 1
      passing_archive h n k = passing_next (made_archive r p.passed uses working recovery bits blob archive p.made no_group_lem t d h n k)
