-- One pass over the groups gives the judgement of the definitions, which look for the lowest group of each sort by itself.
use Prim.Native.Nat.{ℕ, suc, ◌-◌, ◌≤◌, ◌<◌}
use mathlib.Core.Path.{◌≡◌, refl, sym, ◌∙◌, ap}
use mathlib.Core.Logic.{◌⊎◌, inl, inr}
use mathlib.Core.List.{List, [], ◌∷◌}
use mathlib.Core.Bool.{Bool, true, false, ◌&&◌}
use borrow.Author.Tests.{lt-ltb, le-ltb}
use lib.Dec.{ltb}
use Rattle.std.specs.Prelude.{Result, Ok, Err}
use Rattle.rules.specs.Basics.{Bytes}
use Rattle.rules.specs.Acl.{Group}
use Rattle.rules.specs.Request.{Request}
use Rattle.rules.specs.Ledger.{Ledger}
use Rattle.rules.specs.Grant.{group_admits, certified, unspent}
use Rattle.rules.specs.Gate.{Lowest, not_found, group, lowest, Judgement, granted, admits_certified, grants, or_else, judge}
use Rattle.rules.proofs.Judging.{ungranted}
use Rattle.gate_decision.specs.declared.GroupResult.{GroupResult}
use Rattle.gate_decision.specs.declared.Nearest.{Nearest}
use Rattle.gate_decision.specs.declared.Nearest.TheVariants as near
use Rattle.refusals.specs.declared.Denial.{Denial}
use Rattle.refusals.specs.declared.Denial.TheVariants.{ClockBack, NotCertified, Spent}
use Rattle.gate_decision.specs.Standings.{result_of, denial_of, judged_from, group_result, judged_for, ledger_of_tables}

-- a judgement of the code
abbrev Judged : Type 0
Judged = Result ℕ Denial

-- why no group grants, by the nearest before and the lowest groups from there on
abbrev combined : Nearest → Lowest → Lowest → Judged
combined near.Nothing c a = judged_for (ungranted c a)
combined (near.Admitting k) not_found a = Err (NotCertified k)
combined (near.Admitting k) (group p g) a = Err (Spent p)
combined (near.Certified k) c a = Err (Spent k)

-- a denial, unless a group grants
abbrev unless_granted : Judged → Lowest → Judged
unless_granted d not_found = d
unless_granted d (group p g) = Ok p

-- an admitting group that came before hides those that come later, and serves where none did
later_hidden : (k : ℕ) (c a b : Lowest) → combined (near.Admitting k) c a ≡ combined (near.Admitting k) c b
later_hidden k not_found a b = refl
later_hidden k (group p g) a b = refl

first_serves : (k : ℕ) (g : Group) (c a : Lowest) → combined (near.Admitting k) c a ≡ combined near.Nothing c (group k g)
first_serves k g not_found a = refl
first_serves k g (group p h) a = refl

-- the last test that a group passes, by three tests of it, and the three searches
module _ (admitting certifying : Group → Bool) (left : ℕ → Group → Bool) where
  abbrev by : ℕ → Group → GroupResult
  by place g = result_of (admitting g) (certifying g) (left place g)

  abbrev searched : Nearest → ℕ → List Group → Judged
  searched n place gs =
      unless_granted (combined n (lowest (λ k g. admitting g && certifying g) place gs) (lowest (λ k g. admitting g) place gs))
      (lowest (λ k g. admitting g && certifying g && left k g) place gs)

  at_end_lem : (n : Nearest) (place : ℕ) → Err (denial_of n) ≡ searched n place []
  unfolding lowest
  at_end_lem near.Nothing place = refl
  at_end_lem (near.Admitting k) place = refl
  at_end_lem (near.Certified k) place = refl

  one_pass : (n : Nearest) (place : ℕ) (gs : List Group) → judged_from by n place gs ≡ searched n place gs
  unfolding judged_from lowest
  one_pass n place [] = at_end_lem n place
  one_pass n place (g ∷ gs) =
      pick (admitting g) refl (certifying g) refl (left place g) refl n (λ m. one_pass m (suc place) gs)
    where
      admitters : Lowest
      admitters = lowest (λ k g. admitting g) (suc place) gs

      certifiers : Lowest
      certifiers = lowest (λ k g. admitting g && certifying g) (suc place) gs

      granting : Lowest
      granting = lowest (λ k g. admitting g && certifying g && left k g) (suc place) gs

      pick : (a : Bool) → admitting g ≡ a → (c : Bool) → certifying g ≡ c → (u : Bool) → left place g ≡ u → (n : Nearest) → ((m : Nearest) → judged_from by m (suc place) gs ≡ searched m (suc place) gs)
          → judged_from by n place (g ∷ gs) ≡ searched n place (g ∷ gs)
      pick false p c q u r n f = rw p (f n)
      pick true p false q u r near.Nothing f =
          rw (p, q) (f (near.Admitting place) ∙ ap (λ (d : Judged). unless_granted d granting) (first_serves place g certifiers admitters))
      pick true p false q u r (near.Admitting k) f =
          rw (p, q) (f (near.Admitting k) ∙ ap (λ (d : Judged). unless_granted d granting) (later_hidden k certifiers admitters (group place g)))
      pick true p false q u r (near.Certified k) f = rw (p, q) (f (near.Certified k))
      pick true p true q false r near.Nothing f = rw (p, q, r) (f (near.Certified place))
      pick true p true q false r (near.Admitting k) f = rw (p, q, r) (f (near.Certified place))
      pick true p true q false r (near.Certified k) f = rw (p, q, r) (f (near.Certified k))
      pick true p true q true r n f = rw (p, q, r)

-- one pass over the groups, for the ledger and the request
module _ (l : Ledger) (km0 : Bytes) (q : Request) where
  pub judged_is : (gs : List Group) → judged_from (group_result l.counts l.counters (q.time - l.loaded) km0 q) near.Nothing 0 gs
      ≡ judged_for (or_else (lowest (grants l km0 q) 0 gs) granted (ungranted (lowest (λ place. admits_certified km0 q) 0 gs) (lowest (λ place. group_admits km0 q) 0 gs)))
  unfolding group_result
  judged_is gs = one_pass (group_admits km0 q) (certified q) (λ k. unspent l k q) near.Nothing 0 gs ∙ settle (lowest (grants l km0 q) 0 gs) _
    where
      settle : (g : Lowest) (j : Judgement) → unless_granted (judged_for j) g ≡ judged_for (or_else g granted j)
      settle not_found j = refl
      settle (group p g) j = refl

-- the clock: `if t < loaded`, `if t < last`
module _ (counts counters : List ℕ) (loaded last t : ℕ) (km0 : Bytes) (gs : List Group) (q : Request) (e : t ≡ q.time) where
  early_loaded : t < loaded → Err ClockBack ≡ judged_for (judge (ledger_of_tables counts counters loaded last) km0 gs q)
  unfolding judge
  early_loaded h = sym (rw (← e, lt-ltb t loaded h))

  early_last : t < last → Err ClockBack ≡ judged_for (judge (ledger_of_tables counts counters loaded last) km0 gs q)
  unfolding judge
  early_last h = pick (ltb t loaded) refl
    where
      pick : (b : Bool) → ltb t loaded ≡ b → Err ClockBack ≡ judged_for (judge (ledger_of_tables counts counters loaded last) km0 gs q)
      pick true d = sym (rw (← e, d))
      pick false d = sym (rw (← e, d, lt-ltb t last h))

  pub early_either : (t < loaded) ⊎ ((loaded ≤ t) × (t < last)) → Err ClockBack ≡ judged_for (judge (ledger_of_tables counts counters loaded last) km0 gs q)
  early_either (inl h) = early_loaded h
  early_either (inr h) = early_last h.1

  pub in_time_lem : (r : Judged) → loaded ≤ t → last ≤ t → r ≡ judged_from (group_result counts counters (t - loaded) km0 q) near.Nothing 0 gs
      → r ≡ judged_for (judge (ledger_of_tables counts counters loaded last) km0 gs q)
  unfolding judge
  in_time_lem r h k d =
      let x : judged_from (group_result counts counters (t - loaded) km0 q) near.Nothing 0 gs ≡ judged_from (group_result counts counters (q.time - loaded) km0 q) near.Nothing 0 gs = ap (λ (n : ℕ). judged_from (group_result counts counters (n - loaded) km0 q) near.Nothing 0 gs) e in
      d ∙ x ∙ judged_is (ledger_of_tables counts counters loaded last) km0 q gs ∙ sym (rw (← e, le-ltb t loaded h, le-ltb t last k))
