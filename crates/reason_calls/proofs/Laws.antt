-- The answer to a call, by what the code found.
use Prim.Native.Nat.{ℕ, suc, ◌+◌, ◌-◌}
use native.Mathlib.Omega.{arith}
use mathlib.Core.Path.{◌≡◌, refl, sym, ◌∙◌, ap}
use mathlib.Core.List.{List, [], ◌∷◌}
use mathlib.Core.Bool.{Bool, true, false}
use lib.ListN.{get_or, drop}
use mathlib.Core.Option.{some}
use Rattle.std.specs.Prelude.{Result, Ok, Err, if◌then◌else◌}
use Rattle.rules.specs.Basics.{Bytes, records}
use Rattle.rules.specs.Acl.{Group, limits_of, acl_of}
use Rattle.rules.specs.Request.{Request, request_of, hints_of}
use Rattle.rules.specs.Ledger.{Ledger}
use Rattle.rules.specs.Grant.{group_admits}
use Rattle.rules.specs.Gate.{Lowest, not_found, group, lowest, early, unadmitted, uncertified, exhausted, Judgement, granted, denied, too_early, grants, admits_certified, or_else, judge}
use Rattle.rules.proofs.Laws.{never}
use Rattle.acl_groups.specs.Parts.{first_limits}
use Rattle.refusals.specs.Refusals.{denial_number, denial_group}
use Rattle.refusals.specs.declared.Denial as code
use Rattle.refusals.specs.declared.Denial.TheVariants.{Spent}
use Rattle.gate_decision.specs.Standings.{judged_for}
use Rattle.request_reader.specs.Parts.{Sound}
use Rattle.gate_files.proofs.Passed.{files_sound, narrow_sound, expand_sound}
use Rattle.reason_files.specs.Places.{place_as}
use Rattle.reason_files.specs.declared.FilePlace.{FilePlace}
use Rattle.reason_inputs.specs.declared.Input.{Input}
use Rattle.reason_inputs.proofs.Laws.{err_is_fault}
use Rattle.reason_inputs.specs.Inputs.{InputPlace, no_input, input_at, is_fault, inputs_place, request_inputs, narrow_inputs, expand_inputs}
use Rattle.reason_inputs.proofs.Inputs.{request_inputs_sound, narrow_inputs_sound, expand_inputs_sound}
use Rattle.reason_limits.specs.Limits.{spent_with}
use Rattle.reason_limits.specs.declared.SpentBy.{SpentBy}
use Rattle.reason_narrowing.specs.Breaches.{narrowing_of}
use Rattle.reason_narrowing.specs.declared.Narrowing.{Narrowing}
use Rattle.reason_calls.specs.Calls.{CallPlace, permitted, bad_input, denial, judged_place, input_or, narrowing_place, locate_request, locate_narrow, locate_expand, spent_at, judged_at}

-- an input at fault, or none
input_bad : (q : InputPlace) (next : CallPlace) (i : Input) (f : FilePlace) → input_at i (place_as (Err f)) ≡ q → bad_input (some i) (place_as (Err f)) ≡ input_or q next
input_bad q next i f e =
    let h : input_or (input_at i (place_as (Err f))) next ≡ bad_input (some i) (place_as (Err f)) = rw (err_is_fault f) in
    sym h ∙ ap (λ (z : InputPlace). input_or z next) e

input_good : (q : InputPlace) (next r : CallPlace) → no_input ≡ q → r ≡ next → r ≡ input_or q next
input_good q next r e f = f ∙ ap (λ (z : InputPlace). input_or z next) e

not_at_fault : (q : InputPlace) → no_input ≡ q → is_fault q.place ≡ false
not_at_fault q e = sym (ap (λ (z : InputPlace). is_fault z.place) e)

-- the limits of the lowest group that passes a test
lowest_limits : (test : ℕ → Group → Bool) (place : ℕ) (gs : List Group) (k : ℕ) (g : Group) → lowest test place gs ≡ group k g → (i : ℕ) × (k ≡ place + i) × (first_limits (drop i gs) ≡ g.limits)
unfolding lowest
lowest_limits test place [] k g e = absurd (never (cc))
lowest_limits test place (x ∷ xs) k g e = pick (test place x) refl (lowest_limits test (suc place) xs k g)
  where
    pick : (b : Bool) → test place x ≡ b → (lowest test (suc place) xs ≡ group k g → (i : ℕ) × (k ≡ suc place + i) × (first_limits (drop i xs) ≡ g.limits))
        → (i : ℕ) × (k ≡ place + i) × (first_limits (drop i (x ∷ xs)) ≡ g.limits)
    pick true q f =
        let d : group place x ≡ group k g = rw q at e in
        let a : place ≡ k = cc in
        let b : x ≡ g = cc in
        (0, omega arith, ap (λ (z : Group). z.limits) b)
    pick false q f =
        let r = f (rw q at e) in
        (suc r.0, omega (arith, r.1), r.2)

module _ (l : Ledger) (km0 : Bytes) (gs : List Group) (q : Request) where
  -- the group that a refusal 7 carries is the one at its index
  exhausted_limits : (k : ℕ) (g : Group) → judge l km0 gs q ≡ denied (exhausted k g) → first_limits (drop k gs) ≡ g.limits
  unfolding judge
  exhausted_limits k g e = pick (too_early l q) (lowest (grants l km0 q) 0 gs) (lowest (λ place. admits_certified km0 q) 0 gs) refl (lowest (λ place. group_admits km0 q) 0 gs) e
    where
      at_index : (i : ℕ) × (k ≡ 0 + i) × (first_limits (drop i gs) ≡ g.limits) → first_limits (drop k gs) ≡ g.limits
      at_index (i, d, h) = let a : k ≡ i = omega (arith, d) in ap (λ (n : ℕ). first_limits (drop n gs)) a ∙ h

      pick : (b : Bool) (m n : Lowest) → lowest (λ place. admits_certified km0 q) 0 gs ≡ n → (o : Lowest)
          → (if b then denied early else or_else m granted (or_else n (λ place h. denied (exhausted place h)) (or_else o (λ place h. denied (uncertified place h)) (denied unadmitted)))) ≡ denied (exhausted k g)
          → first_limits (drop k gs) ≡ g.limits
      pick true m n f o z = absurd (never (cc))
      pick false (group j h) n f o z = absurd (never (cc))
      pick false not_found (group j h) f o z =
          let a : j ≡ k = cc in
          let b : h ≡ g = cc in
          let w = lowest_limits (λ place. admits_certified km0 q) 0 gs j h f in
          at_index (w.0, omega (arith, w.1, a), w.2 ∙ ap (λ (y : Group). y.limits) b)
      pick false not_found not_found f (group j h) z = absurd (never (cc))
      pick false not_found not_found f not_found z = absurd (never (cc))

  -- the answer to the code's judgement is that to the definition's
  pub judged_is : (on_permit r : CallPlace) (j : Result ℕ code.Denial) (since time : ℕ) → j ≡ judged_for (judge l km0 gs q) → time ≡ q.time → since ≡ time - l.loaded
      → r ≡ judged_at l.counts l.counters since gs on_permit j → r ≡ judged_place l q on_permit (judge l km0 gs q)
  judged_is on_permit r j since time e t s p =
      p ∙ ap (judged_at l.counts l.counters since gs on_permit) e ∙ pick (judge l km0 gs q) refl
    where
      pick : (y : Judgement) → judge l km0 gs q ≡ y → judged_at l.counts l.counters since gs on_permit (judged_for y) ≡ judged_place l q on_permit y
      pick (granted k g) d = refl
      pick (denied early) d = refl
      pick (denied unadmitted) d = refl
      pick (denied (uncertified k g)) d = refl
      pick (denied (exhausted k g)) d = rw (exhausted_limits k g d, s, t)

-- what is spent, by the denial
module _ (counts counters : List ℕ) (since : ℕ) (acl : Bytes) (d : code.Denial) (k : ℕ) where
  pub spent_is : (s : SpentBy) (own : ℕ) (body : Bytes) → d ≡ Spent k → own ≡ get_or counts k 0 → limits_of (records body) ≡ first_limits (drop k (acl_of acl)) → s ≡ spent_with counters own since (limits_of (records body))
      → s ≡ spent_at counts counters since (acl_of acl) d
  spent_is s own body e f g h =
      let z : spent_with counters own since (limits_of (records body)) ≡ spent_with counters (get_or counts k 0) since (first_limits (drop k (acl_of acl))) = rw (f, g) in
      h ∙ z ∙ sym (ap (spent_at counts counters since (acl_of acl)) e)

-- the answer to a judgement, by its case
module _ (counts counters : List ℕ) (since : ℕ) (gs : List Group) (p : CallPlace) (j : Result ℕ code.Denial) where
  pub at_granted : (k : ℕ) → j ≡ Ok k → p ≡ judged_at counts counters since gs p j
  at_granted k e = sym (ap (judged_at counts counters since gs p) e)

  pub at_denied : (d : code.Denial) (s : SpentBy) → j ≡ Err d → s ≡ spent_at counts counters since gs d → denial (denial_number d) (denial_group d) s ≡ judged_at counts counters since gs p j
  at_denied d s e f = ap (denial (denial_number d) (denial_group d)) f ∙ sym (ap (judged_at counts counters since gs p) e)

-- The three calls, by the input at fault and the judgement.
module _ (km0 acl req : Bytes) where
  pub request_bad : (l : Ledger) (i : Input) (f : FilePlace) → input_at i (place_as (Err f)) ≡ inputs_place (request_inputs km0 acl req) → bad_input (some i) (place_as (Err f)) ≡ locate_request l km0 acl req
  unfolding locate_request
  request_bad l i f e = input_bad _ _ i f e

  pub request_ready : no_input ≡ inputs_place (request_inputs km0 acl req) → Sound req
  request_ready e = (files_sound km0 acl req (request_inputs_sound km0 acl req (not_at_fault _ e))).0

  pub request_judged : (l : Ledger) (r : CallPlace) → no_input ≡ inputs_place (request_inputs km0 acl req) → r ≡ judged_place l (request_of req) permitted (judge l km0 (acl_of acl) (request_of req)) → r ≡ locate_request l km0 acl req
  unfolding locate_request
  request_judged l r e f = input_good _ _ r e f

module _ (km0 acl req new hints : Bytes) where
  pub narrow_bad : (l : Ledger) (i : Input) (f : FilePlace) → input_at i (place_as (Err f)) ≡ inputs_place (narrow_inputs km0 acl req new hints) → bad_input (some i) (place_as (Err f)) ≡ locate_narrow l km0 acl req new hints
  unfolding locate_narrow
  narrow_bad l i f e = input_bad _ _ i f e

  pub narrow_ready : no_input ≡ inputs_place (narrow_inputs km0 acl req new hints) → Sound req
  narrow_ready e = (narrow_sound km0 acl req new hints (narrow_inputs_sound km0 acl req new hints (not_at_fault _ e))).0

  pub narrow_judged : (l : Ledger) (r on_permit : CallPlace) (n : Narrowing) → no_input ≡ inputs_place (narrow_inputs km0 acl req new hints) → n ≡ narrowing_of (acl_of acl) (acl_of new) (hints_of hints) → on_permit ≡ narrowing_place n
      → r ≡ judged_place l (request_of req) on_permit (judge l km0 (acl_of acl) (request_of req)) → r ≡ locate_narrow l km0 acl req new hints
  unfolding locate_narrow
  narrow_judged l r on_permit n e f g k =
      input_good _ _ r e (k ∙ ap (λ (z : CallPlace). judged_place l (request_of req) z (judge l km0 (acl_of acl) (request_of req))) (g ∙ ap narrowing_place f))

module _ (km0 acl req new : Bytes) where
  pub expand_bad : (l : Ledger) (i : Input) (f : FilePlace) → input_at i (place_as (Err f)) ≡ inputs_place (expand_inputs km0 acl req new) → bad_input (some i) (place_as (Err f)) ≡ locate_expand l km0 acl req new
  unfolding locate_expand
  expand_bad l i f e = input_bad _ _ i f e

  pub expand_ready : no_input ≡ inputs_place (expand_inputs km0 acl req new) → Sound req
  expand_ready e = (expand_sound km0 acl req new (expand_inputs_sound km0 acl req new (not_at_fault _ e))).0

  pub expand_judged : (l : Ledger) (r : CallPlace) → no_input ≡ inputs_place (expand_inputs km0 acl req new) → r ≡ judged_place l (request_of req) permitted (judge l km0 (acl_of acl) (request_of req)) → r ≡ locate_expand l km0 acl req new
  unfolding locate_expand
  expand_judged l r e f = input_good _ _ r e f
