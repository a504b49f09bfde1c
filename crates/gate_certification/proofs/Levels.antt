-- The search by levels finds a chain exactly where the definition does; and the levels, one after the other.
use Prim.Native.Nat.{ℕ, zero, suc, ◌+◌, ◌≤◌}
use native.Mathlib.Omega.{arith}
use native.Mathlib.Numerals.{add-one}
use mathlib.Core.Path.{◌≡◌, refl, sym, ◌∙◌, ap, ap₂}
use mathlib.Core.Logic.{◌⊎◌, inl, inr}
use mathlib.Core.List.{List, [], ◌∷◌}
use mathlib.Core.Option.{Option}
use mathlib.Core.Bool.{Bool, true, false, ◌&&◌, ◌||◌}
use Rattle.rules.specs.Sizes.{chain_max}
use Rattle.rules.specs.Basics.{Bytes, any, Every, same, set_of}
use Rattle.rules.specs.Request.{Certificate, Delegation}
use Rattle.rules.specs.Chain.{serves, holds, chained}
use Rattle.rules.proofs.Laws.{and_left, and_right, and_both, or_cases, or_left, or_right, every_map, any_some, same_eq, eq_same}
use Rattle.rules.proofs.Sets.{set_first, set_rest}
use Rattle.gate_certification.specs.Levels.{any_in, leads_to, leads_to_presented, starts_at, continues, next_level, level}

-- one of those that pass a test passes another
pub any_in_set : (t p : Delegation → Bool) (ds : List Delegation) → any_in (set_of t ds) p ds ≡ any (λ d. t d && p d) ds
unfolding set_of any_in any
any_in_set t p [] = refl
any_in_set t p (d ∷ ds) =
    ap₂ (λ (a : Bool) (n : ℕ). a && p d || any_in n p ds) (set_first (t d) (set_of t ds)) (set_rest (t d) (set_of t ds))
    ∙ ap (λ (b : Bool). t d && p d || b) (any_in_set t p ds)

-- of the empty set none does
pub any_in_none : (p : Delegation → Bool) (ds : List Delegation) → any_in 0 p ds ≡ false
unfolding any_in
any_in_none p [] = refl
any_in_none p (d ∷ ds) = any_in_none p ds

-- tests that agree on every delegation
any_alike : (t u : Delegation → Bool) (ds : List Delegation) → ((d : Delegation) → t d ≡ u d) → any t ds ≡ any u ds
unfolding any
any_alike t u [] f = refl
any_alike t u (d ∷ ds) f = ap₂ (λ (a b : Bool). a || b) (f d) (any_alike t u ds f)

-- two tests that imply each other
alike : (a b : Bool) → (a ≡ true → b ≡ true) → (b ≡ true → a ≡ true) → a ≡ b
alike true b f g = sym (f refl)
alike false true f g = g refl
alike false false f g = refl

-- every delegation of a list makes `any` true by a test that it passes
each_in : (ds : List Delegation) → Every (λ d. (t : Delegation → Bool) → t d ≡ true → any t ds ≡ true) ds
unfolding any
each_in [] = tt
each_in (d ∷ ds) = (
  λ t e. or_left (t d) (any t ds) e,
  every_map (λ x. (t : Delegation → Bool) → t x ≡ true → any t ds ≡ true) (λ x. (t : Delegation → Bool) → t x ≡ true → (t d || any t ds) ≡ true) ds
      (λ x f t e. or_right (t d) (any t ds) (f t e)) (each_in ds),
)

-- A chain of at most n from a key to a delegation that passes a test: by its first link, as the definition goes.
unfoldable reaches : ℕ → List Delegation → ℕ → Bytes → (Delegation → Bool) → Bool
reaches p ds zero k t = false
reaches p ds (suc n) k t = any (λ d. holds p d && same d.from k && (t d || reaches p ds n d.to t)) ds

module _ (p : ℕ) (ds : List Delegation) where
  -- a chain by its last link, as the levels have it
  abbrev ended : ℕ → Bytes → (Delegation → Bool) → Delegation → Bool
  ended n k t d = holds p d && (same d.from k || reaches p ds n k (leads_to d.from)) && t d

  -- a delegation presented, that passes a test
  abbrev Presented : Delegation → Type 0
  Presented d = (u : Delegation → Bool) → u d ≡ true → any u ds ≡ true

  some : (t : Delegation → Bool) → any t ds ≡ true → (d : Delegation) × Presented d × (t d ≡ true)
  some t e = any_some Presented t ds (each_in ds) e

  module _ (n : ℕ) (before : (k : Bytes) (t : Delegation → Bool) → reaches p ds (suc n) k t ≡ any (ended n k t) ds) (k : Bytes) (t : Delegation → Bool) where
    -- a chain with one link more, from its first to its last
    first_last : reaches p ds (suc (suc n)) k t ≡ true → any (ended (suc n) k t) ds ≡ true
    unfolding reaches leads_to
    first_last e =
        let r = some (λ d. holds p d && same d.from k && (t d || reaches p ds (suc n) d.to t)) e in
        let d = r.0 in
        let a = and_left (holds p d && same d.from k) (t d || reaches p ds (suc n) d.to t) r.2 in
        pick d r.1 (and_left (holds p d) (same d.from k) a) (and_right (holds p d) (same d.from k) a)
        (or_cases (t d) (reaches p ds (suc n) d.to t) (and_right (holds p d && same d.from k) (t d || reaches p ds (suc n) d.to t) r.2))
      where
        met : (d e : Delegation) → (same e.from d.to ≡ true) ⊎ (reaches p ds n d.to (leads_to e.from) ≡ true) → (leads_to e.from d || reaches p ds n d.to (leads_to e.from)) ≡ true
        met d e (inl x) = or_left (same d.to e.from) _ (eq_same d.to e.from (sym (same_eq e.from d.to x)))
        met d e (inr x) = or_right (same d.to e.from) _ x

        pick : (d : Delegation) → Presented d → holds p d ≡ true → same d.from k ≡ true → (t d ≡ true) ⊎ (reaches p ds (suc n) d.to t ≡ true) → any (ended (suc n) k t) ds ≡ true
        pick d i a b (inl x) =
            i (ended (suc n) k t) (and_both (holds p d && (same d.from k || reaches p ds (suc n) k (leads_to d.from))) (t d) (and_both (holds p d) _ a (or_left (same d.from k) _ b)) x)
        pick d i a b (inr x) =
            let y = some (ended n d.to t) (sym (before d.to t) ∙ x) in
            let e = y.0 in
            let c = and_left (holds p e && (same e.from d.to || reaches p ds n d.to (leads_to e.from))) (t e) y.2 in
            let f = and_right (holds p e && (same e.from d.to || reaches p ds n d.to (leads_to e.from))) (t e) y.2 in
            let g = met d e (or_cases (same e.from d.to) _ (and_right (holds p e) _ c)) in
            let h : reaches p ds (suc n) k (leads_to e.from) ≡ true = i (λ d. holds p d && same d.from k && (leads_to e.from d || reaches p ds n d.to (leads_to e.from))) (and_both (holds p d && same d.from k) _ (and_both (holds p d) (same d.from k) a b) g) in
            y.1 (ended (suc n) k t) (and_both (holds p e && (same e.from k || reaches p ds (suc n) k (leads_to e.from))) (t e) (and_both (holds p e) _ (and_left (holds p e) _ c) (or_right (same e.from k) _ h)) f)

    -- the other way
    last_first : any (ended (suc n) k t) ds ≡ true → reaches p ds (suc (suc n)) k t ≡ true
    unfolding reaches leads_to
    last_first e =
        let y = some (ended (suc n) k t) e in
        let d = y.0 in
        let c = and_left (holds p d && (same d.from k || reaches p ds (suc n) k (leads_to d.from))) (t d) y.2 in
        pick d y.1 (and_left (holds p d) _ c) (and_right (holds p d && (same d.from k || reaches p ds (suc n) k (leads_to d.from))) (t d) y.2)
        (or_cases (same d.from k) (reaches p ds (suc n) k (leads_to d.from)) (and_right (holds p d) _ c))
      where
        met : (d e : Delegation) → (leads_to e.from d ≡ true) ⊎ (reaches p ds n d.to (leads_to e.from) ≡ true) → (same e.from d.to || reaches p ds n d.to (leads_to e.from)) ≡ true
        met d e (inl x) = or_left (same e.from d.to) _ (eq_same e.from d.to (sym (same_eq d.to e.from x)))
        met d e (inr x) = or_right (same e.from d.to) _ x

        pick : (e : Delegation) → Presented e → holds p e ≡ true → t e ≡ true → (same e.from k ≡ true) ⊎ (reaches p ds (suc n) k (leads_to e.from) ≡ true) → reaches p ds (suc (suc n)) k t ≡ true
        pick e i a f (inl x) =
            i (λ d. holds p d && same d.from k && (t d || reaches p ds (suc n) d.to t)) (and_both (holds p e && same e.from k) _ (and_both (holds p e) (same e.from k) a x) (or_left (t e) _ f))
        pick e i a f (inr x) =
            let r = some (λ d. holds p d && same d.from k && (leads_to e.from d || reaches p ds n d.to (leads_to e.from))) x in
            let d = r.0 in
            let c = and_left (holds p d && same d.from k) _ r.2 in
            let g = met d e (or_cases (leads_to e.from d) _ (and_right (holds p d && same d.from k) _ r.2)) in
            let h : reaches p ds (suc n) d.to t ≡ true = before d.to t ∙ i (ended n d.to t) (and_both (holds p e && (same e.from d.to || reaches p ds n d.to (leads_to e.from))) (t e) (and_both (holds p e) _ a g) f) in
            r.1 (λ d. holds p d && same d.from k && (t d || reaches p ds (suc n) d.to t)) (and_both (holds p d && same d.from k) _ c (or_right (t d) _ h))

  one_link : (a b c : Bool) → (a && b && (c || false)) ≡ (a && (b || false) && c)
  one_link true true true = refl
  one_link true true false = refl
  one_link true false c = refl
  one_link false b c = refl

  reaches_last : (n : ℕ) (k : Bytes) (t : Delegation → Bool) → reaches p ds (suc n) k t ≡ any (ended n k t) ds
  unfolding reaches
  reaches_last zero k t = any_alike _ _ ds (λ d. one_link (holds p d) (same d.from k) (t d))
  reaches_last (suc n) k t = alike _ _ (first_last n (reaches_last n) k t) (last_first n (reaches_last n) k t)

  level_reaches : (n : ℕ) (k : Bytes) (t : Delegation → Bool) → any_in (level n p k ds) t ds ≡ reaches p ds n k t
  unfolding level next_level continues starts_at reaches
  level_reaches zero k t = any_in_none t ds
  level_reaches (suc n) k t =
      any_in_set (continues p k ds (level n p k ds)) t ds
      ∙ any_alike _ (ended n k t) ds (λ d. ap (λ (b : Bool). holds p d && (same d.from k || b) && t d) (level_reaches n k (leads_to d.from)))
      ∙ sym (reaches_last n k t)

  reaches_chained : (n : ℕ) (k : Bytes) (m : Option ℕ) (cs : List Certificate) → reaches p ds n k (leads_to_presented m cs) ≡ chained n p k m cs ds
  unfolding reaches chained leads_to_presented
  reaches_chained zero k m cs = refl
  reaches_chained (suc n) k m cs = any_alike _ _ ds (λ d. ap (λ (b : Bool). holds p d && same d.from k && (any (serves d.to m) cs || b)) (reaches_chained n d.to m cs))

-- The law: one of the n-th level leads to a presented key exactly if there is a chain of at most n.
pub level_chained : (n p : ℕ) (k : Bytes) (m : Option ℕ) (cs : List Certificate) (ds : List Delegation) → any_in (level n p k ds) (leads_to_presented m cs) ds ≡ chained n p k m cs ds
level_chained n p k m cs ds = level_reaches p ds n k (leads_to_presented m cs) ∙ reaches_chained p ds n k m cs

-- Where no delegation starts at the key, there is no chain.
level_none : (p : ℕ) (k : Bytes) (ds : List Delegation) (n : ℕ) → next_level p k ds 0 ≡ 0 → level n p k ds ≡ 0
unfolding level
level_none p k ds zero e = refl
level_none p k ds (suc n) e = ap (next_level p k ds) (level_none p k ds n e) ∙ e

pub chained_none : (p : ℕ) (k : Bytes) (m : Option ℕ) (cs : List Certificate) (ds : List Delegation) (a : ℕ) → a ≡ next_level p k ds 0 → a ≡ 0 → false ≡ chained chain_max p k m cs ds
chained_none p k m cs ds a e z =
    sym (sym (level_chained chain_max p k m cs ds) ∙ ap (λ (n : ℕ). any_in n (leads_to_presented m cs) ds) (level_none p k ds chain_max (sym e ∙ z)) ∙ any_in_none (leads_to_presented m cs) ds)

-- Otherwise the levels, one after the other, up to that of the longest chains.
pub level_first : (p : ℕ) (k : Bytes) (ds : List Delegation) (a : ℕ) → a ≡ next_level p k ds 0 → a ≡ level 1 p k ds
unfolding level
level_first p k ds a e = e

pub level_next : (p : ℕ) (k : Bytes) (ds : List Delegation) (n a b : ℕ) → a ≡ level n p k ds → b ≡ next_level p k ds a → b ≡ level (n + 1) p k ds
unfolding level
level_next p k ds n a b e d = rw add-one (d ∙ ap (next_level p k ds) e)

pub chained_last : (p : ℕ) (k : Bytes) (m : Option ℕ) (cs : List Certificate) (ds : List Delegation) (n a : ℕ) (r : Bool)
    → n ≤ chain_max → chain_max ≤ n → a ≡ level n p k ds → r ≡ any_in a (leads_to_presented m cs) ds → r ≡ chained chain_max p k m cs ds
chained_last p k m cs ds n a r h l e d =
    let z : n ≡ chain_max = omega arith in
    d ∙ ap (λ (x : ℕ). any_in x (leads_to_presented m cs) ds) (e ∙ ap (λ (x : ℕ). level x p k ds) z) ∙ level_chained chain_max p k m cs ds
