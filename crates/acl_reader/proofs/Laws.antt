-- The turns of the loops of this crate, and a key added to those of a group.
use Prim.Native.Nat.{ℕ, zero, suc, ◌+◌, ◌-◌, ◌*◌, ◌/◌, ◌%◌, ◌≤◌, ◌<◌}
use native.Mathlib.Omega.{arith}
use mathlib.Core.Path.{◌≡◌, refl, sym, ◌∙◌, ap, ap₂}
use mathlib.Core.List.{List, [], ◌∷◌, ◌++◌}
use mathlib.Core.Option.{Option, none, some}
use mathlib.Core.Bool.{Bool, true, false, not, ◌&&◌, ◌||◌}
use lib.ListN.{length, length-append, drop, get_or}
use lib.Arith.{mod-mul}
use lib.Dec.{eqb, ltb}
use borrow.Author.Tests.{eq-eqb, ne_eqb, ltb-true}
use Rattle.rules.specs.Sizes.{groups_max, limits_max, actions_max}
use Rattle.rules.specs.Basics.{Bytes, any, kind, flag, or_next, first_fault, scan}
use Rattle.rules.specs.Numbers.{malformed, too_many, open_archive}
use Rattle.rules.specs.Acl.{AclState, acl_start, among, limit_key, limit_in_place, in_place, has_room_under, has_room, keyed, record_fault_under, acl_record_fault, limit_added, group_begun, action_added, after_record, acl_end, acl_fault_under, acl_fault}
use Rattle.record_fields.proofs.Walks.{left_at, left_none}
use Rattle.refusals.specs.Refusals.{refusal_number}
use Rattle.refusals.specs.declared.Refusal.{Refusal}
use Rattle.acl_reader.specs.declared.state.State.{State}
use Rattle.acl_reader.specs.Places.{keys_of, acl_state_as, begun_with, added_with, AclReading, stopped, on, read_past, reading}

-- A key among some, by a loop: what is left has the whole's answer.
any_last : {A : Type 0} (t : A → Bool) (xs : List A) (x : A) → any t (xs ++ (x ∷ [])) ≡ (t x || any t xs)
unfolding any
any_last t [] x = refl
any_last t (y ∷ xs) x = pick (t y) (t x) (any_last t xs x)
  where
    pick : (a b : Bool) → any t (xs ++ (x ∷ [])) ≡ (b || any t xs) → (a || any t (xs ++ (x ∷ []))) ≡ (b || (a || any t xs))
    pick true true e = refl
    pick true false e = refl
    pick false true e = e
    pick false false e = e

module _ (key n k left : ℕ) (x : Bool) (inv : among key (keys_of (n - k) left) ≡ x) where
  among_at : k < n → (eqb (left % 65536) key || among key (keys_of (n - (k + 1)) (left / 65536))) ≡ x
  unfolding among keys_of
  among_at h =
      let e : n - k ≡ suc (n - (k + 1)) = omega arith in
      sym (ap (λ (m : ℕ). any (λ k. eqb k key) (keys_of m left)) e ∙ any_last (λ k. eqb k key) (keys_of (n - (k + 1)) (left / 65536)) (left % 65536)) ∙ inv

  pub among_stop : k < n → left % 65536 ≡ key → true ≡ x
  among_stop h e = rw (eq-eqb (left % 65536) key e) at (among_at h)

  pub among_next : k < n → (left % 65536 ≡ key → ⊥) → among key (keys_of (n - (k + 1)) (left / 65536)) ≡ x
  among_next h d = rw (ne_eqb (left % 65536) key d) at (among_at h)

  pub among_done : n ≤ k → false ≡ x
  unfolding among any keys_of
  among_done h =
      let e : n - k ≡ 0 = omega arith in
      rw e at inv

pub not_is : (r t : Bool) → r ≡ t → not r ≡ not t
not_is r t e = ap not e

-- as many keys as limits
keys_length : (n keys : ℕ) → length (keys_of n keys) ≡ n
unfolding keys_of
keys_length zero keys = refl
keys_length (suc n) keys = length-append (keys_of n (keys / 65536)) (keys % 65536 ∷ []) ∙ omega (arith, keys_length n (keys / 65536))

pub room_left : (n k keys : ℕ) → ltb n k ≡ ltb (length (keys_of n keys)) k
room_left n k keys = ap (λ (m : ℕ). ltb m k) (sym (keys_length n keys))

-- the lowest parts are those of a remainder
module _ (m k : ℕ) (h : 0 < m) where
  parts : k % (m * 65536) ≡ (k / 65536 % m) * 65536 + k % 65536
  parts = mod-mul k h (omega arith)

  last_part : k % (m * 65536) % 65536 ≡ k % 65536
  last_part = omega (arith, parts)

  other_parts : k % (m * 65536) / 65536 ≡ k / 65536 % m
  other_parts = omega (arith, parts)

low_step : (n m k : ℕ) → 0 < m → keys_of n (k / 65536 % m) ≡ keys_of n (k / 65536) → keys_of (suc n) (k % (m * 65536)) ≡ keys_of (suc n) k
unfolding keys_of
low_step n m k h e =
    ap₂ (λ (l : List ℕ) (x : ℕ). l ++ (x ∷ [])) (ap (keys_of n) (other_parts m k h) ∙ e) (last_part m k h)

low_none : (m k : ℕ) → keys_of 0 (k % m) ≡ keys_of 0 k
unfolding keys_of
low_none m k = refl

low_keys : (n keys : ℕ) → n < limits_max → keys_of n (keys % 281474976710656) ≡ keys_of n keys
low_keys zero keys h = low_none 281474976710656 keys
low_keys (suc zero) keys h = low_step 0 4294967296 keys (omega arith) (low_none 4294967296 (keys / 65536))
low_keys (suc (suc zero)) keys h =
    low_step 1 4294967296 keys (omega arith) (low_step 0 65536 (keys / 65536) (omega arith) (low_none 65536 (keys / 65536 / 65536)))
low_keys (suc (suc (suc zero))) keys h =
    low_step 2 4294967296 keys (omega arith)
    (low_step 1 65536 (keys / 65536) (omega arith) (low_step 0 1 (keys / 65536 / 65536) (omega arith) (low_none 1 (keys / 65536 / 65536 / 65536))))
low_keys (suc (suc (suc (suc n)))) keys h = absurd (omega arith)

-- a key added
key_added : (n key keys : ℕ) → n < limits_max → key < 65536 → keys_of (n + 1) (keys % 281474976710656 * 65536 + key) ≡ keys_of n keys ++ (key ∷ [])
unfolding keys_of
key_added n key keys h l =
    let e : n + 1 ≡ suc n = omega arith in
    let p : (keys % 281474976710656 * 65536 + key) / 65536 ≡ keys % 281474976710656 = omega arith in
    let q : (keys % 281474976710656 * 65536 + key) % 65536 ≡ key = omega arith in
    rw (e, p, q, low_keys n keys h)

pub place_added : (p q : State) (key : ℕ) → p.limits < limits_max → key < 65536
    → q.groups ≡ p.groups → q.opened ≡ p.opened → q.actions ≡ p.actions → q.file_due ≡ p.file_due → q.limits ≡ p.limits + 1 → q.keys ≡ p.keys % 281474976710656 * 65536 + key
    → acl_state_as q ≡ limit_added (acl_state_as p) key
place_added p q key h l g o a f n k = rw (g, o, a, f, n, k, key_added p.limits key p.keys h l)

-- The fault of a record by its three tests.
module _ (s : AclState) (r : Bytes) (a : Bool) (e : a ≡ in_place s r) where
  pub acl_bad : a ≡ false → acl_record_fault s r ≡ some malformed
  unfolding record_fault_under first_fault
  acl_bad h = rw (sym e ∙ h)

  module _ (b : Bool) (d : b ≡ has_room s r) (h : a ≡ true) where
    pub acl_full : b ≡ false → acl_record_fault s r ≡ some too_many
    unfolding record_fault_under first_fault
    acl_full k = rw (sym e ∙ h, sym d ∙ k)

    module _ (c : Bool) (f : c ≡ keyed s.is_open r) (k : b ≡ true) where
      pub acl_open : c ≡ false → acl_record_fault s r ≡ some open_archive
      unfolding record_fault_under first_fault
      acl_open l = rw (sym e ∙ h, sym d ∙ k, sym f ∙ l)

      pub acl_sound_lem : c ≡ true → acl_record_fault s r ≡ none
      unfolding record_fault_under first_fault
      acl_sound_lem l = rw (sym e ∙ h, sym d ∙ k, sym f ∙ l)

-- a group begun, and an action added, by the flag that the code read
pub group_begun_lem : (s t : AclState) (r : Bytes) (b : Bool) → b ≡ flag 0 r → t ≡ begun_with s (not b) → t ≡ group_begun s r
group_begun_lem s t r b e d = d ∙ ap (λ (x : Bool). begun_with s (not x)) e

pub action_added_lem : (s t : AclState) (r : Bytes) (b : Bool) → b ≡ flag 6 r → t ≡ added_with s b → t ≡ action_added s r
action_added_lem s t r b e d = d ∙ ap (added_with s) e

-- the end: a record of kind 15 is missing or not
pub end_due : (s : AclState) → s.file_due ≡ true → some malformed ≡ acl_end s
end_due s e = rw e

pub end_sound : (s : AclState) → s.file_due ≡ false → none ≡ acl_end s
end_sound s e = rw e

-- what room says of each kind
module _ (p : State) (r : Bytes) (h : has_room (acl_state_as p) r ≡ true) where
  pub group_fits : kind r ≡ 1 → p.groups < groups_max
  unfolding has_room_under
  group_fits e = ltb-true p.groups groups_max (rw (eq-eqb (kind r) 1 e) at h)

  pub limit_fits : (kind r ≡ 1 → ⊥) → kind r ≡ 2 → p.limits < limits_max
  unfolding has_room_under
  limit_fits n e =
      ltb-true p.limits limits_max (room_left p.limits limits_max p.keys ∙ rw (ne_eqb (kind r) 1 n, eq-eqb (kind r) 2 e) at h)

  pub action_fits : (kind r ≡ 1 → ⊥) → (kind r ≡ 2 → ⊥) → (kind r ≡ 15 → ⊥) → p.actions < actions_max
  unfolding has_room_under
  action_fits n m k =
      ltb-true p.actions actions_max (rw (ne_eqb (kind r) 1 n, ne_eqb (kind r) 2 m, ne_eqb (kind r) 15 k) at h)

-- a limit's key, as `be16` read it
module _ (s : AclState) (r : Bytes) (key : ℕ) (e : key ≡ limit_key r) where
  pub limit_placed : (b : Bool) → b ≡ limit_in_place s key → b ≡ limit_in_place s (limit_key r)
  limit_placed b q = q ∙ ap (limit_in_place s) e

  pub limit_next : (t : AclState) → t ≡ limit_added s key → t ≡ limit_added s (limit_key r)
  limit_next t p = p ∙ ap (limit_added s) e

-- a well-formed action comes where a group has begun
pub action_placed : (r t g : Bool) → r ≡ t → r ≡ true → g ≡ (t && g)
action_placed r t g e h = sym (ap (λ (x : Bool). x && g) (sym e ∙ h))

-- The turns of the loop over records: what is left is read as the whole.
module _ (rs : List Bytes) (i : ℕ) (st : AclState) (x : AclReading) (inv : reading st (drop i rs) ≡ x) where
  read_step : i < length rs → read_past (acl_record_fault st (get_or rs i [])) (reading (after_record st (get_or rs i [])) (drop (i + 1) rs)) ≡ x
  unfolding reading
  read_step h = sym (ap (reading st) (left_at rs i h)) ∙ inv

  pub read_stop : (f : ℕ) → i < length rs → acl_record_fault st (get_or rs i []) ≡ some f → stopped f ≡ x
  read_stop f h e = rw e at (read_step h)

  pub read_next : (t : AclState) → i < length rs → acl_record_fault st (get_or rs i []) ≡ none → t ≡ after_record st (get_or rs i []) → reading t (drop (i + 1) rs) ≡ x
  read_next t h e d = ap (λ (z : AclState). reading z (drop (i + 1) rs)) d ∙ rw e at (read_step h)

  pub read_done : length rs ≤ i → on st ≡ x
  unfolding reading
  read_done h = sym (ap (reading st) (left_none rs i h)) ∙ inv

-- the first fault of records, by the result of reading them
abbrev ended : AclReading → Option ℕ
ended (stopped f) = some f
ended (on s) = acl_end s

scan_is : (s : AclState) (rs : List Bytes) → scan acl_record_fault after_record acl_end s rs ≡ ended (reading s rs)
unfolding scan reading
scan_is s [] = refl
scan_is s (r ∷ rs) = pick (acl_record_fault s r) (scan_is (after_record s r) rs)
  where
    pick : (f : Option ℕ) → scan acl_record_fault after_record acl_end (after_record s r) rs ≡ ended (reading (after_record s r) rs)
        → or_next f (scan acl_record_fault after_record acl_end (after_record s r) rs) ≡ ended (read_past f (reading (after_record s r) rs))
    pick none e = e
    pick (some n) e = refl

-- what the code answers, where reading failed, and where it came to the end
pub fault_stopped : (s : AclState) (r : Refusal) (rs : List Bytes) → s ≡ acl_start → stopped (refusal_number r) ≡ reading s rs → some (refusal_number r) ≡ acl_fault rs
unfolding acl_fault_under
fault_stopped s r rs b e = ap ended (e ∙ ap (λ (y : AclState). reading y rs) b) ∙ sym (scan_is acl_start rs)

pub fault_ended : (s q : AclState) (rs : List Bytes) (x : Option ℕ) → s ≡ acl_start → on q ≡ reading s rs → x ≡ acl_end q → x ≡ acl_fault rs
unfolding acl_fault_under
fault_ended s q rs x b e d = d ∙ ap ended (e ∙ ap (λ (y : AclState). reading y rs) b) ∙ sym (scan_is acl_start rs)
