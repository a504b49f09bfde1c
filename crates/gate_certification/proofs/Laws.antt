-- The tests of this crate in the definitions' terms.
use Prim.Native.Nat.{ℕ, ◌+◌, ◌/◌, ◌^◌, ◌≤◌, ◌<◌}
use native.Mathlib.Omega.{arith}
use native.Mathlib.Nat.{div-eq_of_lt}
use mathlib.Core.Path.{◌≡◌, refl, sym, ◌∙◌, ap}
use mathlib.Core.List.{List, [], ◌∷◌}
use mathlib.Core.Option.{Option}
use mathlib.Core.Bool.{Bool, true, false, not}
use borrow.Author.Tests.{eq-eqb, ne_eqb, le-ltb}
use lib.ListN.{length, take, drop, get_or}
use lib.Seq.{get_or-take}
use lib.Pow.{pow_mono}
use lib.Dec.{eqb, ltb}
use Rattle.std.specs.Prelude.{if◌then◌else◌}
use Rattle.rules.specs.Sizes.{chain_max}
use Rattle.rules.specs.Basics.{Bytes, any, same, bit, part, number, byte, kind, flag, optional, matches_number, records}
use Rattle.rules.specs.Acl.{group_of}
use Rattle.rules.specs.Request.{Wanted, working_blob, recovery_blob, working_blob_of, recovery_blob_of, blobfile_next, wanted_of, Certificate, certificate_of, certificates_of, Delegation, delegation_of, Request, request_of}
use Rattle.rules.specs.Chain.{serves, holds, chained, delegated, vouched}
use Rattle.rules.specs.Grant.{certified}
use Rattle.rules.proofs.Rows.{wanted_first}
use Rattle.record_fields.proofs.Walks.{left_at, left_none}

-- no number of sixteen bits has a bit past the sixteenth
high_bit : (p n : ℕ) → n < 65536 → 16 ≤ p → bit p n ≡ false
high_bit p n h k =
    let b : 2 ^ 16 ≤ 2 ^ p = pow_mono k in
    let z : n / 2 ^ p ≡ 0 = div-eq_of_lt (omega arith) in
    rw z

module _ (p n : ℕ) (del : Bytes) (e : n ≡ number 44 2 del) where
  pub holds_high : n < 65536 → 16 ≤ p → ltb p 16 ≡ holds p (delegation_of del)
  unfolding holds
  holds_high h k = le-ltb p 16 k ∙ sym (rw (← e) (high_bit p n h k))

  pub holds_is : (q : ℕ) → q ≡ p → bit q n ≡ holds p (delegation_of del)
  unfolding holds
  holds_is q d = rw (d, e)

-- a certificate by what was asked of it
module _ (g c : Bytes) (a : Bool) (p : a ≡ same (part 4 20 c) (part 4 20 g)) where
  pub serves_not : a ≡ false → a ≡ serves (part 4 20 g) (optional (flag 1 g) (number 24 2 g)) (certificate_of c)
  unfolding serves
  serves_not e = e ∙ sym (rw (sym p ∙ e))

  pub serves_is : (b : Bool) → a ≡ true → b ≡ matches_number (optional (flag 1 g) (number 24 2 g)) (number 24 2 c) → b ≡ serves (part 4 20 g) (optional (flag 1 g) (number 24 2 g)) (certificate_of c)
  unfolding serves
  serves_is b e t = t ∙ sym (rw (sym p ∙ e))

-- A loop over certificates.
module _ (t : Certificate → Bool) (rs : List Bytes) (i : ℕ) (x : Bool) (inv : any t (certificates_of (drop i rs)) ≡ x) where
  module _ (h : i < length rs) where
    pub certs_skip : (kind (get_or rs i []) ≡ 9 → ⊥) → any t (certificates_of (drop (i + 1) rs)) ≡ x
    unfolding certificates_of
    certs_skip n = sym (ap (λ (l : List Bytes). any t (certificates_of l)) (left_at rs i h) ∙ rw (ne_eqb (kind (get_or rs i [])) 9 n)) ∙ inv

    module _ (e : kind (get_or rs i []) ≡ 9) (r : Bool) (d : r ≡ t (certificate_of (get_or rs i []))) where
      certs_step : certificates_of (drop i rs) ≡ certificate_of (get_or rs i []) ∷ certificates_of (drop (i + 1) rs)
      unfolding certificates_of
      certs_step = ap certificates_of (left_at rs i h) ∙ rw (eq-eqb (kind (get_or rs i [])) 9 e)

      pub certs_found : r ≡ true → true ≡ x
      unfolding any
      certs_found y = sym (ap (any t) certs_step ∙ rw (sym d ∙ y)) ∙ inv

      pub certs_next : r ≡ false → any t (certificates_of (drop (i + 1) rs)) ≡ x
      unfolding any
      certs_next y = sym (ap (any t) certs_step ∙ rw (sym d ∙ y)) ∙ inv

  pub certs_none : length rs ≤ i → false ≡ x
  unfolding any certificates_of
  certs_none h = sym (ap (λ (l : List Bytes). any t (certificates_of l)) (left_none rs i h)) ∙ inv

-- what a request file asks for, by its first byte and, where that is a use, its permission
module _ (s : Bytes) (h : 64 ≤ length s) where
  asked : wanted_of (take 64 s) (blobfile_next (records (drop 64 s))) ≡ (request_of s).wanted
  asked = wanted_first s (drop 64 s) refl h

  asked_byte : (i : ℕ) → i < 64 → byte i (take 64 s) ≡ byte i s
  asked_byte i k = get_or-take 64 s i 0 k

  module _ (k : Bytes) (m : Option ℕ) (cs : List Certificate) (ds : List Delegation) where
    pub delegated_use : (r : Bool) → kind s ≡ 6 → r ≡ chained chain_max (byte 4 s) k m cs ds → r ≡ delegated (request_of s).wanted k m cs ds
    unfolding delegated wanted_of
    delegated_use r e p =
        p ∙ sym (ap (λ (w : Wanted). delegated w k m cs ds) (sym asked) ∙ rw (asked_byte 0 (omega arith), asked_byte 4 (omega arith), eq-eqb (kind s) 6 e))

    pub delegated_blob : (kind s ≡ 6 → ⊥) → eqb (kind s) 6 ≡ delegated (request_of s).wanted k m cs ds
    unfolding delegated wanted_of
    delegated_blob n =
        ne_eqb (kind s) 6 n ∙ sym (ap (λ (w : Wanted). delegated w k m cs ds) (sym asked) ∙ rw (asked_byte 0 (omega arith), ne_eqb (kind s) 6 n) (pick (eqb (kind s) 7)))
      where
        pick : (b : Bool) → delegated (if b then working_blob (working_blob_of (take 64 s)) (blobfile_next (records (drop 64 s))) else recovery_blob (recovery_blob_of (take 64 s)) (blobfile_next (records (drop 64 s)))) k m cs ds ≡ false
        pick true = refl
        pick false = refl

-- a group by its certifier, and by what a request asks for and presents
module _ (g : Bytes) (q : Request) (f : Bool) (d : f ≡ flag 0 g) where
  pub certifier_absent : f ≡ false → not f ≡ certified q (group_of g [])
  certifier_absent e = ap not e ∙ sym (rw (sym d ∙ e))

  module _ (e : f ≡ true) (cs : List Certificate) (c : cs ≡ q.certificates) (r : Bool) (t : r ≡ any (serves (part 4 20 g) (optional (flag 1 g) (number 24 2 g))) cs) where
    pub certifier_shown : r ≡ true → r ≡ certified q (group_of g [])
    unfolding vouched
    certifier_shown y = y ∙ sym (rw (sym d ∙ e, ← c, sym t ∙ y))

    pub certifier_delegates : (ds : List Delegation) (x : Bool) → ds ≡ q.delegations → r ≡ false
        → x ≡ delegated q.wanted (part 4 20 g) (optional (flag 1 g) (number 24 2 g)) cs ds → x ≡ certified q (group_of g [])
    unfolding vouched
    certifier_delegates ds x p y z = z ∙ sym (rw (sym d ∙ e, ← c, ← p, sym t ∙ y))
