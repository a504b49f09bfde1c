-- How much an ACL can hold: "Raise groups to 64", "4 limits and 8 actions per group", each action with a record of kind 15, for any
-- weight of a group, a limit, an action and a record of kind 15.
use Prim.Native.Nat.{ℕ, suc, ◌+◌, ◌-◌, ◌*◌, ◌≤◌, ◌<◌}
use native.Mathlib.Omega.{arith}
use mathlib.Core.Path.{◌≡◌, refl}
use mathlib.Core.List.{List, [], ◌∷◌}
use mathlib.Core.Option.{none}
use mathlib.Core.Bool.{Bool, true, false, ◌&&◌, false≢true}
use lib.ListN.{length, length-append}
use lib.Dec.{eqb, ltb}
use borrow.Author.Tests.{eqb-true, ltb-true, lt-ltb}
use Rattle.rules.specs.Sizes.{groups_max, limits_max, actions_max, acl_records}
use Rattle.rules.specs.Numbers.{malformed, too_many}
use Rattle.std.specs.Prelude.{if◌then◌else◌}
use Rattle.rules.specs.Basics.{Bytes, kind, record_fault, scan}
use Rattle.rules.specs.Layout.{limit_laid_out}
use Rattle.rules.specs.Acl.{AclState, acl_start, announces_blobfile, limit_key, limit_in_place, action_in_place, action_laid_out, placed_under, in_place, has_room_under, has_room, after_record, record_fault_under, acl_record_fault}
use Rattle.rules.proofs.Laws.{and_left, and_right, and_both, unless_passed, or_next_first, or_next_next, fault_none_every}
use Rattle.text_rules.specs.Kinds.{FileKind, acl_kind}
use Rattle.text_rules.specs.Listing.{going_on, so_far}
use Rattle.rules.proofs.Places.{placed, file_due_lem}

ruleset conj = (and_left, and_right, and_both)

-- a record without fault is in place, and there is room for it
pub record_passed : (s : AclState) (r : Bytes) → acl_record_fault s r ≡ none → (in_place s r ≡ true) × (has_room s r ≡ true)
unfolding record_fault_under record_fault
record_passed s r e =
    let h = fault_none_every _ e in
    (unless_passed (in_place s r) malformed h.0, unless_passed (has_room s r) too_many h.1.0)

-- a sum over records
unfoldable pub total : (Bytes → ℕ) → List Bytes → ℕ
total f [] = 0
total f (r ∷ rs) = f r + total f rs

-- Records that are a file so far weigh no more than there is room for at its start, if each takes its weight from the room that is left.
pub total_room : {S : Type 0} (k : FileKind S) (w : Bytes → ℕ) (room : S → ℕ) → ((s : S) (r : Bytes) → k.fault s r ≡ none → w r + room (k.after s r) ≤ room s) → (s : S) (rs : List Bytes) → going_on k s rs ≡ none → total w rs ≤ room s
unfolding scan total
total_room k w room spent s [] e = omega arith
total_room k w room spent s (r ∷ rs) e =
    let later = going_on k (k.after s r) rs in
    let f = spent s r (or_next_first (k.fault s r) later e) in
    let i = total_room k w room spent (k.after s r) rs (or_next_next (k.fault s r) later e) in
    omega arith

-- the same with a weight of 1 for each record
pub total_count : (rs : List Bytes) → total (λ r. 1) rs ≡ length rs
unfolding total
total_count [] = refl
total_count (r ∷ rs) = let i = total_count rs in omega arith

module _ (g l a f : ℕ) where
  -- what a record weighs, by its kind
  unfoldable pub weight : Bytes → ℕ
  weight r =
      if eqb (kind r) 1 then g
      else if eqb (kind r) 2 then l
      else if eqb (kind r) 15 then f
      else a

  -- a group with all that it can have
  abbrev full : ℕ
  full = g + limits_max * l + actions_max * (a + f)

  -- what the group that is being read, and the groups to come, can still have
  abbrev open_room : AclState → ℕ
  open_room s = (limits_max - length s.limits) * l + (actions_max - s.actions) * (a + f)

  abbrev room : AclState → ℕ
  room s = (groups_max - s.groups) * full + (if ltb 0 s.groups then open_room s else 0) + (if s.file_due then f else 0)

  one_less : (m n x : ℕ) → n < m → (m - n) * x ≡ x + (m - (n + 1)) * x
  one_less m n x h = let e : m - n ≡ suc (m - (n + 1)) = omega arith in rw e (omega arith)

  room_after : (s : AclState) (r : Bytes) → acl_record_fault s r ≡ none → weight r + room (after_record s r) ≤ room s
  unfolding placed_under action_laid_out has_room_under after_record weight limit_in_place
  room_after s r e = pick s.file_due refl (eqb (kind r) 1) refl (eqb (kind r) 2) refl (eqb (kind r) 15) refl
    where
      due_most : (b : Bool) → (if b then f else 0) ≤ f
      due_most true = omega arith
      due_most false = omega arith

      pick : (u : Bool) → s.file_due ≡ u → (b : Bool) → eqb (kind r) 1 ≡ b → (c : Bool) → eqb (kind r) 2 ≡ c → (d : Bool) → eqb (kind r) 15 ≡ d → weight r + room (after_record s r) ≤ room s
      pick true v b p c q d w =
          let k = (file_due_lem s r v (record_passed s r e).0).0 in
          rw (k, v) (omega arith)
      pick false v true p c q d w =
          let i : ltb s.groups groups_max ≡ true = rw p at (record_passed s r e).1 in
          let m = one_less groups_max s.groups full (ltb-true s.groups groups_max i) in
          let t = lt-ltb 0 (s.groups + 1) (omega arith) in
          rw (p, t) (omega arith)
      pick false v false p true q d w =
          let i : ltb (length s.limits) limits_max ≡ true = rw (p, q) at (record_passed s r e).1 in
          let j : (limit_laid_out r && limit_in_place s (limit_key r)) ≡ true = rw (p, q) at (placed s r v (record_passed s r e).0) in
          let t : ltb 0 s.groups ≡ true = search conj in
          let n = length-append s.limits (limit_key r ∷ []) in
          let m = one_less limits_max (length s.limits) l (ltb-true (length s.limits) limits_max i) in
          rw (p, q, t, n) (omega arith)
      pick false v false p false q true w =
          let k = eqb-true (kind r) 15 w in
          let j : (false && action_in_place s) ≡ true = rw k at (placed s r v (record_passed s r e).0) in
          absurd (false≢true j)
      pick false v false p false q false w =
          let i : ltb s.actions actions_max ≡ true = rw (p, q, w) at (record_passed s r e).1 in
          let j : (action_laid_out r && action_in_place s) ≡ true = rw (p, q) at (placed s r v (record_passed s r e).0) in
          let t : ltb 0 s.groups ≡ true = and_right (action_laid_out r) (action_in_place s) j in
          let m = one_less actions_max s.actions (a + f) (ltb-true s.actions actions_max i) in
          let n = due_most (announces_blobfile r) in
          rw (p, q, w, t) (omega arith)

  -- The records of an ACL without fault weigh no more than 64 full groups.
  pub acl_weight : (rs : List Bytes) → so_far acl_kind rs ≡ none → total weight rs ≤ groups_max * full
  acl_weight rs e = let t = total_room acl_kind weight room room_after acl_start rs e in omega arith

weight_one : (r : Bytes) → weight 1 1 1 1 r ≡ 1
unfolding weight
weight_one r = pick (eqb (kind r) 1) refl (eqb (kind r) 2) refl (eqb (kind r) 15) refl
  where
    pick : (b : Bool) → eqb (kind r) 1 ≡ b → (c : Bool) → eqb (kind r) 2 ≡ c → (d : Bool) → eqb (kind r) 15 ≡ d → weight 1 1 1 1 r ≡ 1
    pick true p c q d w = rw p
    pick false p true q d w = rw (p, q)
    pick false p false q true w = rw (p, q, w)
    pick false p false q false w = rw (p, q, w)

total_one : (rs : List Bytes) → total (weight 1 1 1 1) rs ≡ length rs
unfolding total
total_one [] = refl
total_one (r ∷ rs) = let i = total_one rs in rw (weight_one r) (omega arith)

-- "An ACL may then reach 86,016 bytes": records that are an ACL so far are never too many for a file.
pub acl_few : (rs : List Bytes) → so_far acl_kind rs ≡ none → length rs ≤ acl_records
acl_few rs e = let t = acl_weight 1 1 1 1 rs e in let c = total_one rs in omega arith
