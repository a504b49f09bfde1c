-- The judgement: what it grants is the lowest group that grants, in time; and its denials.
use Prim.Native.Nat.{ℕ}
use mathlib.Core.Path.{◌≡◌, refl}
use mathlib.Core.List.{List}
use mathlib.Core.Bool.{Bool, true, false}
use Rattle.rules.specs.Basics.{Bytes}
use Rattle.rules.specs.Acl.{Group}
use Rattle.rules.specs.Request.{Request}
use Rattle.rules.specs.Ledger.{Ledger}
use Rattle.rules.specs.Grant.{group_admits}
use Rattle.rules.specs.Gate.{Lowest, not_found, group, lowest, early, unadmitted, uncertified, exhausted, Judgement, granted, denied, too_early, grants, admits_certified, or_else, judge}
use Rattle.rules.proofs.Laws.{never}

-- where no group grants: by the lowest that admits and is certified, and the lowest that admits
abbrev pub ungranted : Lowest → Lowest → Judgement
ungranted certifying admitting =
    or_else certifying (λ place g. denied (exhausted place g)) (or_else admitting (λ place g. denied (uncertified place g)) (denied unadmitted))

-- a denial is no grant
ungranted_not : (c a : Lowest) (k : ℕ) (g : Group) → ungranted c a ≡ granted k g → ⊥
ungranted_not not_found not_found k g e = never (cc)
ungranted_not not_found (group p h) k g e = never (cc)
ungranted_not (group p h) a k g e = never (cc)

pub judge_lowest : (l : Ledger) (km0 : Bytes) (gs : List Group) (q : Request) (k : ℕ) (g : Group) → judge l km0 gs q ≡ granted k g
    → (too_early l q ≡ false) × (lowest (grants l km0 q) 0 gs ≡ group k g)
unfolding judge
judge_lowest l km0 gs q k g e = pick (too_early l q) refl
  where
    low : (r c a : Lowest) → or_else r granted (ungranted c a) ≡ granted k g → r ≡ group k g
    low not_found c a f = absurd (ungranted_not c a k g f)
    low (group j x) c a f = let m : j ≡ k = cc in let n : x ≡ g = cc in rw (m, n)

    pick : (b : Bool) → too_early l q ≡ b → (too_early l q ≡ false) × (lowest (grants l km0 q) 0 gs ≡ group k g)
    pick true d = let c : denied early ≡ granted k g = rw d at e in absurd (never (cc))
    pick false d = (d, low (lowest (grants l km0 q) 0 gs) (lowest (λ place. admits_certified km0 q) 0 gs) (lowest (λ place. group_admits km0 q) 0 gs) (rw d at e))
