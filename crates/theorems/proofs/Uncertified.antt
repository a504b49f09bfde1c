-- Refusal 6, and what does not matter to it: document 02, request f. Two wrong products that this rules out: one that refuses with 6 a use for which
-- there is a chain, and one that is led astray by a loop.
use Prim.Native.Nat.{ℕ}
use mathlib.Core.Path.{◌≡◌}
use mathlib.Core.Logic.{◌⊎◌, inl, inr}
use mathlib.Core.List.{List}
use mathlib.Core.Option.{Option, none, some}
use mathlib.Core.Bool.{true, false, false≢true}
use Rattle.rules.specs.Numbers.{not_certified}
use Rattle.rules.specs.Basics.{Bytes, any}
use Rattle.rules.specs.Acl.{Group, acl_of}
use Rattle.rules.specs.Request.{Request, request_of}
use Rattle.rules.specs.Ledger.{Ledger}
use Rattle.rules.specs.Grant.{group_admits, certified}
use Rattle.rules.specs.Gate.{Outcome, refuse, admits_certified, request_files, request, narrow_files, narrow, expand_files, expand}
use Rattle.rules.proofs.Laws.{and_left, and_right, and_both, not_both, decided}
use Rattle.theorems.specs.Certification.{Uncertified}
use Rattle.theorems.proofs.Certification.{any_member, member_any, uncertified_is}
use Rattle.theorems.specs.Demands.{one_of}
use Rattle.theorems.specs.Numbers.{RefusalIn, request_numbers, narrow_numbers}
use Rattle.theorems.proofs.Refusals.{request_number, narrow_number, expand_number}
use Rattle.theorems.proofs.Demand2.{some_passes, request_refused, narrow_refused, expand_refused}
use Rattle.theorems.specs.Permits.{RefusedExactly, RefusedBy, AllUncertified, UncertifiedExactly}

module _ (km0 : Bytes) (gs : List Group) (q : Request) where
  all_uncertified : any (admits_certified km0 q) gs ≡ false → AllUncertified km0 gs q
  all_uncertified e place g t a = pick (decided (certified q g))
    where
      pick : (certified q g ≡ true) ⊎ (certified q g ≡ false) → Uncertified q g
      pick (inl c) = absurd (not_both (any (admits_certified km0 q) gs) (member_any (admits_certified km0 q) gs g (place, t) (and_both (group_admits km0 q g) (certified q g) a c)) e)
      pick (inr c) = (uncertified_is q g).0 c

  none_certified : AllUncertified km0 gs q → any (admits_certified km0 q) gs ≡ false
  none_certified f = pick (decided (any (admits_certified km0 q) gs))
    where
      pick : (any (admits_certified km0 q) gs ≡ true) ⊎ (any (admits_certified km0 q) gs ≡ false) → any (admits_certified km0 q) gs ≡ false
      pick (inl e) =
          let r = any_member (admits_certified km0 q) gs e in
          let g = r.0 in
          let u = f r.1.0 g r.1.1 (and_left (group_admits km0 q g) (certified q g) r.2) in
          absurd (not_both (certified q g) (and_right (group_admits km0 q g) (certified q g) r.2) ((uncertified_is q g).1 u))
      pick (inr e) = e

-- of a call whose refusals are known: 6 carries the lowest group that admits
exactly_6 : (ns : List ℕ) (fault : Option ℕ) (l : Ledger) (km0 : Bytes) (gs : List Group) (q : Request) (o : Outcome) → RefusalIn ns o → RefusedExactly fault l km0 gs q o → UncertifiedExactly fault l km0 gs q o
unfolding one_of any
exactly_6 ns fault l km0 gs q o carried r f t a = (λ e. to_groups e.0 e.1, from_groups)
  where
    to_groups : (near : Option ℕ) → o.answer ≡ refuse not_certified near → AllUncertified km0 gs q
    to_groups none e = absurd (false≢true (carried not_certified none e).1)
    to_groups (some k) e = all_uncertified km0 gs q ((r.none_certified k).0 e).2

    from_groups : AllUncertified km0 gs q → RefusedBy not_certified o
    from_groups u =
        let k = some_passes (group_admits km0 q) gs a in
        (some k.0, (r.none_certified k.0).1 (record { files = f; in_time = t }, (k.1, k.2), none_certified km0 gs q u))

pub request_uncertified : (l : Ledger) (km0 acl req : Bytes) → UncertifiedExactly (request_files km0 acl req) l km0 (acl_of acl) (request_of req) (request l km0 acl req)
request_uncertified l km0 acl req = exactly_6 request_numbers _ l km0 (acl_of acl) (request_of req) _ (request_number l km0 acl req) (request_refused l km0 acl req)

pub expand_uncertified : (l : Ledger) (km0 acl req new : Bytes) → UncertifiedExactly (expand_files km0 acl req new) l km0 (acl_of acl) (request_of req) (expand l km0 acl req new)
expand_uncertified l km0 acl req new = exactly_6 request_numbers _ l km0 (acl_of acl) (request_of req) _ (expand_number l km0 acl req new) (expand_refused l km0 acl req new)

pub narrow_uncertified : (l : Ledger) (km0 acl req new hints : Bytes) → UncertifiedExactly (narrow_files km0 acl req new hints) l km0 (acl_of acl) (request_of req) (narrow l km0 acl req new hints)
narrow_uncertified l km0 acl req new hints = exactly_6 narrow_numbers _ l km0 (acl_of acl) (request_of req) _ (narrow_number l km0 acl req new hints) (narrow_refused l km0 acl req new hints)
