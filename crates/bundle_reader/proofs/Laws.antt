-- The tests of this crate in the definitions' terms.
use Prim.Native.Nat.{ℕ, ◌+◌, ◌≤◌, ◌<◌}
use native.Mathlib.Omega.{arith}
use mathlib.Core.Path.{◌≡◌, refl, sym, ◌∙◌}
use mathlib.Core.Option.{none, some}
use mathlib.Core.Bool.{Bool, true, false, ◌&&◌}
use lib.Dec.{eqb, ltb, leb}
use borrow.Author.Tests.{eqb-true, eqb-false, ltb-true, ltb-false, lt-ltb, le-ltb, le-leb, lt-leb}
use Rattle.rules.specs.Numbers.{malformed, too_many}
use Rattle.rules.specs.Sizes.{listed_max}
use Rattle.std.specs.Prelude.{if◌then◌else◌}
use Rattle.rules.specs.Basics.{Bytes, implies, first_fault, record_fault}
use Rattle.rules.specs.Bundle.{BundleState, order_of, in_order, listed_order, policy_order, bundle_record_laid_out, bundle_in_place, bundle_has_room, bundle_record_fault, listed_after, after_bundle_record, bundle_end}

-- A record's position in the order, as the code computed it, and 1 where it is field 14's.
module _ (r : Bytes) (order again : ℕ) (e : order ≡ order_of r) (f : again ≡ (if eqb order listed_order then 1 else 0)) where
  one_at_most : again ≤ 1
  one_at_most = pick (eqb order listed_order) refl
    where
      pick : (b : Bool) → eqb order listed_order ≡ b → again ≤ 1
      pick true q = let d : again ≡ 1 = rw q at f in omega arith
      pick false q = let d : again ≡ 0 = rw q at f in omega arith

  pub order_fits : order < 65536 → order + again < 65536
  order_fits h = pick (eqb order listed_order) refl
    where
      pick : (b : Bool) → eqb order listed_order ≡ b → order + again < 65536
      pick true q = let o = eqb-true order listed_order q in let k = one_at_most in omega arith
      pick false q = let d : again ≡ 0 = rw q at f in omega arith

  rises : (last : ℕ) → ltb last (order + again) ≡ in_order last order
  rises last = pick (eqb order listed_order) refl (ltb last order) refl (eqb last listed_order) refl
    where
      pick : (a : Bool) → eqb order listed_order ≡ a → (b : Bool) → ltb last order ≡ b → (c : Bool) → eqb last listed_order ≡ c → ltb last (order + again) ≡ in_order last order
      pick a q true p c u = let l = ltb-true last order p in rw p (lt-ltb last (order + again) (omega arith))
      pick true q false p true u =
          let d : again ≡ 1 = rw q at f in
          let o = eqb-true order listed_order q in
          let n = eqb-true last listed_order u in
          rw (q, p, u) (lt-ltb last (order + again) (omega arith))
      pick true q false p false u =
          let k = one_at_most in
          let o = eqb-true order listed_order q in
          let l = ltb-false last order p in
          let n : last ≡ listed_order → ⊥ = eqb-false last listed_order u in
          rw (q, p, u) (le-ltb last (order + again) (omega arith))
      pick false q false p true u =
          let d : again ≡ 0 = rw q at f in
          let l = ltb-false last order p in
          rw (q, p, u) (le-ltb last (order + again) (omega arith))
      pick false q false p false u =
          let d : again ≡ 0 = rw q at f in
          let l = ltb-false last order p in
          rw (q, p, u) (le-ltb last (order + again) (omega arith))

  pub placed : (last : ℕ) (a : Bool) → a ≡ bundle_record_laid_out r → (a && ltb last (order + again)) ≡ bundle_in_place last r
  unfolding bundle_in_place
  placed last a p = rw (p, rises last, e)

  pub listed_is : (listed : ℕ) → listed + again ≡ listed_after listed r
  unfolding listed_after
  listed_is listed = rw (← e) (pick (eqb order listed_order) refl)
    where
      pick : (b : Bool) → eqb order listed_order ≡ b → listed + again ≡ (if b then listed + 1 else listed)
      pick true q = let d : again ≡ 1 = rw q at f in omega arith
      pick false q = let d : again ≡ 0 = rw q at f in omega arith

  room_is : (listed : ℕ) → listed ≤ listed_max → leb (listed + again) listed_max ≡ bundle_has_room listed r
  unfolding bundle_has_room
  room_is listed h = rw (← e) (pick (eqb order listed_order) refl (ltb listed listed_max) refl)
    where
      pick : (b : Bool) → eqb order listed_order ≡ b → (c : Bool) → ltb listed listed_max ≡ c → leb (listed + again) listed_max ≡ implies b c
      pick true q true p = let d : again ≡ 1 = rw q at f in let l = ltb-true listed listed_max p in le-leb (listed + again) listed_max (omega arith)
      pick true q false p = let d : again ≡ 1 = rw q at f in let l = ltb-false listed listed_max p in lt-leb (listed + again) listed_max (omega arith)
      pick false q c p = let d : again ≡ 0 = rw q at f in le-leb (listed + again) listed_max (omega arith)

  -- the fault of a record, by its two tests
  module _ (last listed : ℕ) (t : Bool) (p : t ≡ bundle_in_place last r) (h : listed ≤ listed_max) where
    pub bundle_full : t ≡ true → listed_max < listed + again → bundle_record_fault (record { last = last; listed_count = listed }) r ≡ some too_many
    unfolding bundle_record_fault record_fault first_fault
    bundle_full n l = rw (sym p ∙ n, sym (room_is listed h) ∙ lt-leb (listed + again) listed_max l)

    pub bundle_sound : t ≡ true → listed + again ≤ listed_max → bundle_record_fault (record { last = last; listed_count = listed }) r ≡ none
    unfolding bundle_record_fault record_fault first_fault
    bundle_sound n l = rw (sym p ∙ n, sym (room_is listed h) ∙ le-leb (listed + again) listed_max l)

pub bundle_bad : (r : Bytes) (s : BundleState) (t : Bool) → t ≡ bundle_in_place s.last r → t ≡ false → bundle_record_fault s r ≡ some malformed
unfolding bundle_record_fault record_fault first_fault
bundle_bad r s t p n = rw (sym p ∙ n)

-- the reader's state after a record, from its two numbers
pub bundle_next : (s : BundleState) (r : Bytes) (last listed : ℕ) → last ≡ order_of r → listed ≡ listed_after s.listed_count r
    → ◌≡◌ {A = BundleState} (record { last = last; listed_count = listed }) (after_bundle_record s r)
bundle_next s r last listed e d = rw (e, d)

-- the end of a bundle
module _ (s : BundleState) where
  pub end_bad : eqb s.last policy_order ≡ false → some malformed ≡ bundle_end s
  unfolding bundle_end
  end_bad h = sym (rw h)

  pub end_sound : eqb s.last policy_order ≡ true → none ≡ bundle_end s
  unfolding bundle_end
  end_sound h = sym (rw h)
