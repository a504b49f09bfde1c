-- A certificate against a group's record, and the groups of an ACL from the last to the first.
use Prim.Native.Nat.{ℕ, zero, suc, ◌+◌, ◌-◌, ◌*◌, ◌/◌, ◌%◌, ◌^◌}
use native.Mathlib.Omega.{arith}
use native.Mathlib.Nat.{zero-mod}
use mathlib.Core.Path.{◌≡◌, refl, sym, ◌∙◌, ap}
use mathlib.Core.List.{List, [], ◌∷◌, ◌++◌, append_assoc}
use Rattle.std.proofs.lemmas.List.{append-nil}
use mathlib.Core.Bool.{Bool, true, false, not, ◌&&◌, ◌||◌}
use borrow.Author.Tests.{eq-eqb, ne_eqb}
use lib.ListN.{length, take, drop}
use lib.Dec.{eqb, leb}
use Rattle.rules.specs.Sizes.{hash_bytes, acl_records, certificates_max, set_bits}
use Rattle.rules.specs.Basics.{Bytes, any, same, kind, flag, part, number, optional, matches_number, set_of, fits, records}
use Rattle.rules.specs.Acl.{group_of, groups_of, acl_of}
use Rattle.rules.specs.Request as rules
use Rattle.rules.specs.Chain.{serves}
use lib.Pow.{mod-pow-add}
use Rattle.rules.proofs.GroupSets.{digit_odd}
use Rattle.rules.proofs.Sets.{set_rest}
use Rattle.run_certificates.specs.Rows.{serving, certified_in, certified_set, digit, readable_of}

-- a certificate against a group's record, by the code's tests
pub serving_lent : (g h : Bytes) (a m : Bool) (n mi : ℕ) → a ≡ same h (take (24 - 4) (drop 4 g)) → m ≡ flag 1 g → n ≡ number 24 2 g → (a && (not m || eqb n mi)) ≡ serving g (record { hash = h; mechanism = mi })
unfolding serving serves
serving_lent g h a m n mi d e f = rw (d, f) (pick m e)
  where
    pick : (m : Bool) → m ≡ flag 1 g → (same h (part 4 20 g) && (not m || eqb (number 24 2 g) mi)) ≡ (same h (part 4 20 g) && matches_number (optional (flag 1 g) (number 24 2 g)) mi)
    pick true e = rw (← e)
    pick false e = rw (← e)

-- the first n of a set
pub set_take : {X : Type 0} (t : X → Bool) (n : ℕ) (xs : List X) → set_of t (take n xs) ≡ set_of t xs % 2 ^ n
unfolding set_of
set_take t zero xs = let e : set_of t xs % 1 ≡ 0 = omega arith in sym e
set_take t (suc n) [] = sym (zero-mod (2 ^ suc n))
set_take t (suc n) (x ∷ xs) =
    let all : ℕ = digit (t x) + 2 * set_of t xs in
    let i = set_take t n xs in
    let m : n + 1 ≡ suc n = omega arith in
    let e : all % 2 ^ (n + 1) ≡ (all / 2 % 2 ^ n) * 2 + all % 2 = mod-pow-add all n 1 in
    let h : all / 2 ≡ set_of t xs = set_rest (t x) (set_of t xs) in
    let o : all % 2 ≡ digit (t x) = digit_odd (t x) (set_of t xs) in
    let f : all % 2 ^ (n + 1) ≡ (set_of t xs % 2 ^ n) * 2 + digit (t x) = rw (h, o) at e in
    let g : all % 2 ^ suc n ≡ (set_of t xs % 2 ^ n) * 2 + digit (t x) = ap (λ (k : ℕ). all % 2 ^ k) (sym m) ∙ f in
    omega (arith, i, g)

serves_is : (r : Bytes) (cs : List rules.Certificate) → any (serves (part 4 hash_bytes r) (optional (flag 1 r) (number 24 2 r))) cs ≡ any (serving r) cs
unfolding any serving
serves_is r [] = refl
serves_is r (c ∷ cs) = rw (serves_is r cs)

-- a group is certified, by its record
certified_record : (row : List rules.Certificate) (r : Bytes) (found : Bool) → found ≡ any (serving r) row
    → certified_in row (optional (flag 0 r) (part 4 hash_bytes r)) (optional (flag 1 r) (number 24 2 r)) ≡ (not (flag 0 r) || found)
unfolding certified_in
certified_record row r found e = pick (flag 0 r)
  where
    pick : (b : Bool) → certified_in row (optional b (part 4 hash_bytes r)) (optional (flag 1 r) (number 24 2 r)) ≡ (not b || found)
    pick true = serves_is r row ∙ sym e
    pick false = refl

-- The state of the loop that makes the set of certified groups: some records of an ACL are left, and the groups of the others, behind them, are marked.
pub record Marking (row : List rules.Certificate) (acl : Bytes) (left : List Bytes) (set : ℕ) : Type 0 where
  pub passed : List Bytes
  pub whole : left ++ passed ≡ records acl
  pub set_is : set ≡ certified_set row (groups_of passed) % 18446744073709551616

pub mark_start : (row : List rules.Certificate) (acl : Bytes) (left : List Bytes) → left ≡ records acl → Marking row acl left 0
unfolding groups_of certified_set set_of
mark_start row acl left e = record { passed = []; whole = append-nil left ∙ e; set_is = refl }

module _ (row : List rules.Certificate) (acl : Bytes) (left : List Bytes) (set : ℕ) (m : Marking row acl left set) where
  pub mark_done : length left ≡ 0 → set ≡ certified_set row (take set_bits (acl_of acl))
  unfolding certified_set
  mark_done h =
      let e : m.passed ≡ records acl = none left h m.whole in
      let s : set ≡ certified_set row (acl_of acl) % 18446744073709551616 = rw e at m.set_is in
      s ∙ sym (set_take (λ g. certified_in row g.certifier g.mechanism) set_bits (acl_of acl))
    where
      none : (left : List Bytes) → length left ≡ 0 → left ++ m.passed ≡ records acl → m.passed ≡ records acl
      none [] h e = e
      none (r ∷ rs) h e = absurd (omega arith)

  module _ (next : List Bytes) (r : Bytes) (e : left ≡ next ++ (r ∷ [])) where
    whole_next : next ++ (r ∷ m.passed) ≡ records acl
    whole_next = sym (append_assoc next (r ∷ []) m.passed) ∙ (rw e at m.whole)

    pub mark_over : (kind r ≡ 1 → ⊥) → Marking row acl next set
    unfolding groups_of
    mark_over n = record { passed = r ∷ m.passed; whole = whole_next; set_is = rw (ne_eqb (kind r) 1 n) m.set_is }

    pub mark_group : (marked : ℕ) (certified : Bool) → kind r ≡ 1 → certified ≡ (not (flag 0 r) || any (serving r) row) → marked ≡ (digit certified + 2 * set) % 18446744073709551616 → Marking row acl next marked
    unfolding groups_of certified_set set_of
    mark_group marked certified k f d =
        let c = certified_record row r (any (serving r) row) refl in
        let s = m.set_is in
        let total : certified_set row (groups_of (r ∷ m.passed)) ≡ digit certified + 2 * certified_set row (groups_of m.passed) =
        ap (certified_set row) (here k) ∙ ap (λ (b : Bool). digit b + 2 * certified_set row (groups_of m.passed)) (c ∙ sym f) in
        record { passed = r ∷ m.passed; whole = whole_next; set_is = omega (arith, d, total, s) }
      where
        here : kind r ≡ 1 → groups_of (r ∷ m.passed) ≡ group_of r m.passed ∷ groups_of m.passed
        here k = rw (eq-eqb (kind r) 1 k)

-- the ACL, by the code's test of the lengths
module _ (acl : Bytes) (count : ℕ) (w : Bool) (e : w ≡ fits acl_records acl) where
  pub readable_whole : (w && leb count certificates_max) ≡ true → acl ≡ readable_of acl count
  unfolding readable_of
  readable_whole h = let t : (fits acl_records acl && leb count certificates_max) ≡ true = ap (λ (b : Bool). b && leb count certificates_max) (sym e) ∙ h in sym (rw t)

  pub readable_none : (w && leb count certificates_max) ≡ false → take 0 acl ≡ readable_of acl count
  unfolding readable_of
  readable_none h = let t : (fits acl_records acl && leb count certificates_max) ≡ false = ap (λ (b : Bool). b && leb count certificates_max) (sym e) ∙ h in sym (rw t)
