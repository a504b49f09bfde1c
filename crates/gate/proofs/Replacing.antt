-- Narrowing and expansion: the outcome of a permit.
use Prim.Native.Nat.{ℕ, ◌≤◌}
use mathlib.Core.Path.{◌≡◌, refl, ◌∙◌, ap}
use mathlib.Core.List.{List}
use mathlib.Core.Option.{none}
use mathlib.Core.Bool.{Bool, true, false}
use lib.ListN.{length}
use Rattle.rules.specs.Sizes.{groups_max}
use Rattle.rules.specs.Numbers.{not_narrower}
use Rattle.std.specs.Prelude.{Result, Ok, Err, if◌then◌else◌}
use Rattle.rules.specs.Basics.{Bytes}
use Rattle.rules.specs.Acl.{Group, acl_of}
use Rattle.rules.specs.Request.{Request, request_of, Hint, hints_of}
use Rattle.rules.specs.Ledger.{Ledger, charge, recounted, carried}
use Rattle.rules.specs.Narrow.{narrows}
use Rattle.rules.specs.Gate.{Answer, done, permit, refuse, Outcome, Judgement, granted, denied, judge, settle, refused, permitted, narrowed, expanded, narrow_files, narrow, expand_files, expand}
use Rattle.request_reader.specs.Parts.{Sound}
use Rattle.refusals.specs.declared.Denial as code
use Rattle.refusals.specs.declared.Refusal.{Refusal}
use Rattle.refusals.specs.Refusals.{refusal_number}
use Rattle.files.specs.Faults.{fault_as}
use Rattle.gate_decision.specs.Standings.{judged_for}
use Rattle.gate_charge.specs.Charges.{decided, counters_charged, counts_charged, last_after}
use Rattle.gate_counts.specs.Carried.{carried_of, no_counts, counts_after}
use Rattle.gate_counts.proofs.Laws.{carried_is}
use Rattle.gate_files.proofs.Passed.{narrow_sound, expand_sound, no_fault, a_fault}
use Rattle.gate.specs.Outcomes.{permitted_if, outcome_with, narrowed_counts, Settles}
use Rattle.gate.proofs.Settling.{settled_by, refused_by, not_refused, settles_refused, settles_judged, settles_outcome}

-- what a replacement makes of an outcome: of a permit's group counts others, and nothing else
abbrev replaced : (List ℕ → List ℕ) → Outcome → Outcome
replaced f o = record { answer = o.answer; ledger = recounted o.ledger (counts_after f o.answer o.ledger.counts) }

-- A request is settled, then the counts are replaced.
module _ (l : Ledger) (time : ℕ) where
  settled_narrowed : (old new : List Group) (hs : List Hint) → length hs ≤ groups_max → (j : Judgement)
      → replaced (carried_of hs) (settle l time (permitted_if l (narrows old new hs)) j) ≡ settle l time (narrowed l old new hs) j
  unfolding counts_after permitted_if
  settled_narrowed old new hs few (granted k g) = pick (narrows old new hs)
    where
      m : Ledger
      m = charge l k g time

      pick : (b : Bool) → replaced (carried_of hs) (permitted_if l b k m) ≡ (if b then permitted k (recounted m (carried m.counts hs)) else refused l not_narrower)
      pick true = ap (λ (t : List ℕ). permitted k (recounted m t)) (carried_is m.counts hs few)
      pick false = refl
  settled_narrowed old new hs few (denied d) = refl

  settled_expanded : (j : Judgement) → replaced no_counts (settle l time (permitted_if l true) j) ≡ settle l time expanded j
  unfolding counts_after permitted_if
  settled_expanded (granted k g) = refl
  settled_expanded (denied d) = refl

-- From the tables as `settle` left them to the outcome: the group counts replaced, the last time by the answer.
module _ (l : Ledger) (km0 : Bytes) (gs : List Group) (q : Request) (a : Answer) (counts counters : List ℕ) (loaded last when n : ℕ) (end : List ℕ)
    (e : n ≡ last_after a last when) (w : when ≡ q.time) where
  abbrev o : Outcome
  o = record { answer = a; ledger = record { counts = end; counters = counters; loaded = loaded; last = n } }

  replaced_is : (f : List ℕ → List ℕ) → end ≡ counts_after f a counts → o ≡ replaced f (outcome_with a counts counters loaded last q.time)
  replaced_is f d =
      ap (λ (x : List ℕ). record { answer = a; ledger = record { counts = x; counters = counters; loaded = loaded; last = n } }) d
      ∙ ap (λ (x : ℕ). record { answer = a; ledger = record { counts = counts_after f a counts; counters = counters; loaded = loaded; last = x } }) (e ∙ ap (last_after a last) w)

  pub narrow_settled : (new : List Group) (hs : List Hint) (shown : Bool) → length hs ≤ groups_max → shown ≡ narrows gs new hs
      → outcome_with a counts counters loaded last q.time ≡ settle l q.time (permitted_if l shown) (judge l km0 gs q) → end ≡ counts_after (carried_of hs) a counts
      → o ≡ settle l q.time (narrowed l gs new hs) (judge l km0 gs q)
  narrow_settled new hs shown few s p d =
      replaced_is (carried_of hs) d
      ∙ ap (replaced (carried_of hs)) (p ∙ ap (λ (b : Bool). settle l q.time (permitted_if l b) (judge l km0 gs q)) s)
      ∙ settled_narrowed l q.time gs new hs few (judge l km0 gs q)

  pub expand_settled : outcome_with a counts counters loaded last q.time ≡ settle l q.time (permitted_if l true) (judge l km0 gs q) → end ≡ counts_after no_counts a counts
      → o ≡ settle l q.time expanded (judge l km0 gs q)
  expand_settled p d = replaced_is no_counts d ∙ ap (replaced no_counts) p ∙ settled_expanded l q.time (judge l km0 gs q)

-- A narrowing: its files have a fault, or it is judged.
module _ (km0 acl req new hints : Bytes) (x : Result (Unit {0}) Refusal) (e : fault_as x ≡ narrow_files km0 acl req new hints) where
  pub narrow_begun : x ≡ Ok tt → Sound req
  narrow_begun p = (narrow_sound km0 acl req new hints (no_fault _ x e tt p)).0

  pub narrow_refused : (l : Ledger) (why : Refusal) → x ≡ Err why
      → Settles l (acl_of acl) (request_of req).time (narrowed_counts (hints_of hints)) (refuse (refusal_number why) none) (narrow l km0 acl req new hints)
  unfolding narrow counts_after
  narrow_refused l why p =
      settles_refused l (acl_of acl) (request_of req).time (narrowed_counts (hints_of hints)) (narrow l km0 acl req new hints) (refusal_number why) refl
      (refused_by l (narrow_files km0 acl req new hints) _ _ (refusal_number why) (a_fault _ x e why p) refl)

  pub narrow_judged : (l : Ledger) (shown : Bool) (j : Result ℕ code.Denial) (a : Answer) → x ≡ Ok tt → j ≡ judged_for (judge l km0 (acl_of acl) (request_of req)) → shown ≡ narrows (acl_of acl) (acl_of new) (hints_of hints) → a ≡ decided shown j
      → Settles l (acl_of acl) (request_of req).time (narrowed_counts (hints_of hints)) a (narrow l km0 acl req new hints)
  unfolding narrow
  narrow_judged l shown j a p f s d =
      let q = request_of req in
      let n = no_fault _ x e tt p in
      let t = narrow_sound km0 acl req new hints n in
      settles_judged l km0 acl q shown j a (narrowed_counts (hints_of hints)) (narrow l km0 acl req new hints) t.1 f d
      (not_refused l (narrow_files km0 acl req new hints) _ _ n
      (narrow_settled l km0 (acl_of acl) q a (counts_charged a l.counts) (counters_charged (acl_of acl) a l.counters) l.loaded l.last q.time _ _ refl refl (acl_of new) (hints_of hints) shown t.2 s
      (settled_by l km0 (acl_of acl) q shown j a _ _ f d refl refl) refl))

-- the tables that a narrowing leaves
pub narrow_outcome : (l : Ledger) (gs : List Group) (time : ℕ) (hs : List Hint) (a : Answer) (o : Outcome) (counts charged counters : List ℕ) (when n : ℕ) → Settles l gs time (narrowed_counts hs) a o
    → counters ≡ counters_charged gs a l.counters → charged ≡ counts_charged a l.counts → counts ≡ counts_after (carried_of hs) a charged → n ≡ last_after a l.last when → when ≡ time
    → record { answer = a; ledger = record { counts = counts; counters = counters; loaded = l.loaded; last = n } } ≡ o
narrow_outcome l gs time hs a o counts charged counters when n s f g h e w =
    settles_outcome l gs time (narrowed_counts hs) a o counts counters when n s f (h ∙ ap (counts_after (carried_of hs) a) g) e w

-- counts that become zero need no charge before
zeroed : (a : Answer) (counts : List ℕ) → counts_after no_counts a counts ≡ counts_after no_counts a (counts_charged a counts)
unfolding counts_after
zeroed done counts = refl
zeroed (permit place) counts = refl
zeroed (refuse n near) counts = refl

-- An expansion: its files have a fault, or it is judged.
module _ (km0 acl req new : Bytes) (x : Result (Unit {0}) Refusal) (e : fault_as x ≡ expand_files km0 acl req new) where
  pub expand_begun : x ≡ Ok tt → Sound req
  expand_begun p = (expand_sound km0 acl req new (no_fault _ x e tt p)).0

  pub expand_refused : (l : Ledger) (why : Refusal) → x ≡ Err why
      → Settles l (acl_of acl) (request_of req).time (counts_after no_counts) (refuse (refusal_number why) none) (expand l km0 acl req new)
  unfolding expand counts_after
  expand_refused l why p =
      settles_refused l (acl_of acl) (request_of req).time (counts_after no_counts) (expand l km0 acl req new) (refusal_number why) refl
      (refused_by l (expand_files km0 acl req new) _ _ (refusal_number why) (a_fault _ x e why p) refl)

  pub expand_judged : (l : Ledger) (j : Result ℕ code.Denial) (a : Answer) → x ≡ Ok tt → j ≡ judged_for (judge l km0 (acl_of acl) (request_of req)) → a ≡ decided true j
      → Settles l (acl_of acl) (request_of req).time (counts_after no_counts) a (expand l km0 acl req new)
  unfolding expand
  expand_judged l j a p f d =
      let q = request_of req in
      let n = no_fault _ x e tt p in
      settles_judged l km0 acl q true j a (counts_after no_counts) (expand l km0 acl req new) (expand_sound km0 acl req new n).1 f d
      (not_refused l (expand_files km0 acl req new) _ _ n
      (expand_settled l km0 (acl_of acl) q a (counts_charged a l.counts) (counters_charged (acl_of acl) a l.counters) l.loaded l.last q.time _ _ refl refl
      (settled_by l km0 (acl_of acl) q true j a _ _ f d refl refl) (zeroed a l.counts)))
