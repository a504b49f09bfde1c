-- The counts that new groups take over, and those that a replacement leaves.
use Prim.Native.Nat.{ℕ, zero, suc, ◌+◌, ◌-◌, ◌≤◌, ◌<◌}
use native.Mathlib.Omega.{arith}
use native.Mathlib.Numerals.{add-one}
use mathlib.Core.Path.{◌≡◌, sym, ◌∙◌, ap}
use mathlib.Core.List.{List, [], ◌∷◌, ◌++◌, map, append_assoc}
use mathlib.Core.Bool.{Bool, true, false}
use lib.ListN.{length, take, drop, get_or, set, replicate, length-set, length-replicate, take-append-drop}
use lib.Seq.{take-suc-set, drop-set-lt, set_out}
use Rattle.rules.specs.Sizes.{groups_max}
use Rattle.rules.specs.Basics.{Bytes, byte}
use Rattle.rules.specs.Request.{Hint, hint_of}
use Rattle.rules.specs.Ledger.{carried}
use Rattle.rules.specs.Gate.{Answer}
use Rattle.record_fields.proofs.Walks.{left_at, left_none}
use Rattle.gate_charge.specs.Charges.{is_permit}
use Rattle.gate_counts.specs.Carried.{carried_from, counts_after}

-- an index past the table changes nothing
pub carry_past : (t : List ℕ) (i v : ℕ) → length t ≤ i → t ≡ set t i v
carry_past t i v h = sym (set_out t i v h)

-- the table when the hints are done
snoc : (xs : List ℕ) (v : ℕ) (ys : List ℕ) → (xs ++ (v ∷ [])) ++ ys ≡ xs ++ (v ∷ ys)
snoc xs v ys = append_assoc xs (v ∷ []) ys

carried_table : (counts : List ℕ) (i : ℕ) (hs : List Hint) (table : List ℕ) → i + length hs ≤ length table
    → carried_from counts i hs table ≡ take i table ++ (map (λ h. get_or counts h.source 0) hs ++ drop (i + length hs) table)
unfolding carried_from
carried_table counts i [] table l =
    let e : i + 0 ≡ i = omega arith in
    sym (ap (λ (k : ℕ). take i table ++ drop k table) e ∙ take-append-drop i table)
carried_table counts i (h ∷ hs) table l =
    let v = get_or counts h.source 0 in
    let t : List ℕ = set table i v in
    let n : length t ≡ length table = length-set table i v in
    let a : take (i + 1) t ≡ take i table ++ (v ∷ []) = rw add-one (take-suc-set table i v (omega arith)) in
    let k : (i + 1) + length hs ≡ i + suc (length hs) = omega arith in
    let b : drop ((i + 1) + length hs) t ≡ drop (i + suc (length hs)) table = drop-set-lt ((i + 1) + length hs) table i v (omega arith) ∙ ap (λ (m : ℕ). drop m table) k in
    carried_table counts (i + 1) hs t (omega arith)
    ∙ rw (a, b) (snoc (take i table) v (map (λ h. get_or counts h.source 0) hs ++ drop (i + suc (length hs)) table))

abbrev zeros : ℕ → List ℕ
zeros n = replicate {A = ℕ} n 0

drop_zeros : (n k : ℕ) → drop k (zeros n) ≡ zeros (n - k)
drop_zeros n zero = let e : n - 0 ≡ n = omega arith in ap zeros (sym e)
drop_zeros zero (suc k) = let e : 0 ≡ 0 - suc k = omega arith in ap zeros e
drop_zeros (suc n) (suc k) = drop_zeros n k ∙ (let e : n - k ≡ suc n - suc k = omega arith in ap zeros e)

pub carried_is : (counts : List ℕ) (hs : List Hint) → length hs ≤ groups_max → carried_from counts 0 hs (replicate groups_max 0) ≡ carried counts hs
carried_is counts hs h =
    let l = length-replicate {A = ℕ} groups_max 0 in
    carried_table counts 0 hs (replicate groups_max 0) (omega arith)
    ∙ ap (λ (z : List ℕ). map (λ h. get_or counts h.source 0) hs ++ z) ((let e : 0 + length hs ≡ length hs = omega arith in ap (λ (m : ℕ). drop m (replicate groups_max 0)) e) ∙ drop_zeros groups_max (length hs))

-- A loop over the hints: those from the i-th record on.
module _ (counts : List ℕ) (rs : List Bytes) (i : ℕ) (table x : List ℕ) (inv : carried_from counts i (map hint_of (drop i rs)) table ≡ x) where
  pub carry_next : (next : List ℕ) → i < length rs → next ≡ set table i (get_or counts (byte 4 (get_or rs i [])) 0) → carried_from counts (i + 1) (map hint_of (drop (i + 1) rs)) next ≡ x
  unfolding carried_from
  carry_next next h e = rw e (sym (ap (λ (l : List Bytes). carried_from counts i (map hint_of l) table) (left_at rs i h)) ∙ inv)

  pub carry_done : length rs ≤ i → table ≡ x
  unfolding carried_from
  carry_done h = sym (ap (λ (l : List Bytes). carried_from counts i (map hint_of l) table) (left_none rs i h)) ∙ inv

-- The counts that a replacement leaves.
module _ (f : List ℕ → List ℕ) (a : Answer) (counts : List ℕ) (b : Bool) (e : b ≡ is_permit a) where
  pub counts_kept : b ≡ false → counts ≡ counts_after f a counts
  unfolding counts_after
  counts_kept h = sym (rw (sym e ∙ h))

  pub counts_replaced : b ≡ true → (t : List ℕ) → t ≡ f counts → t ≡ counts_after f a counts
  unfolding counts_after
  counts_replaced h t d = d ∙ sym (rw (sym e ∙ h))
