-- Every call keeps the lengths of the ledger's tables, whatever these are: at today's sizes, and at those before document 02's request g. Two wrong products that
-- this rules out: one whose narrowing hands back as many counts as there are new groups, and one whose expansion drops the counts.
use Prim.Native.Nat.{ℕ, ◌+◌, ◌-◌, ◌≤◌}
use native.Mathlib.Omega.{arith}
use mathlib.Core.Path.{◌≡◌, refl, ◌∙◌, subst}
use mathlib.Core.List.{List, [], ◌∷◌, map}
use mathlib.Core.Option.{Option, none, some}
use mathlib.Core.Bool.{Bool, true, false, ◌&&◌}
use lib.ListN.{length, get_or, replicate, length-set, length-append, length-replicate, length-map}
use lib.Dec.{ltb}
use Rattle.rules.specs.Sizes.{groups_max, counters_max, Capacity, today, acl_records_under}
use Rattle.rules.specs.Numbers.{bad_length}
use Rattle.rules.specs.Basics.{fits}
use Rattle.rules.specs.Acl.{Group, acl_of}
use Rattle.rules.specs.Request.{Hint, request_of, hints_of}
use Rattle.rules.specs.Ledger.{Ledger, charge, fresh_ledger}
use Rattle.rules.specs.Narrow.{narrows}
use Rattle.rules.specs.Gate.{Outcome, Judgement, granted, denied, judge, permitted, outcome_unless, settle}
use Rattle.rules.specs.Fits.{Sized}
use Rattle.rules.proofs.Laws.{and_right, unless_passed, fault_none_every}
use Rattle.rules.proofs.Ledgers.{raised_by_length}
use Rattle.theorems.specs.Demands.{Call, requesting, loading, clearing, narrowing, expanding, State, outcome, after, after_all}
use Rattle.theorems.specs.Capacity.{SizedUnder, lengths_fit_under, request_files_under, narrow_files_under, expand_files_under, carried_under, narrowed_under, expanded_under, outcome_under}
use Rattle.theorems.proofs.Larger.{today_outcome, hints_few}

pub fresh_sized : Sized fresh_ledger
fresh_sized = record { groups = length-replicate {A = ℕ} groups_max 0; named = length-replicate {A = ℕ} counters_max 0 }

pub carried_sized : (z : Capacity) (counts : List ℕ) (hints : List Hint) → length hints ≤ z.groups → length (carried_under z counts hints) ≡ z.groups
carried_sized z counts hints h =
    let a = length-map hints (λ (x : Hint). get_or counts x.source 0) in
    let b = length-append (map (λ (x : Hint). get_or counts x.source 0) hints) (replicate (z.groups - length hints) 0) in
    let c = length-replicate {A = ℕ} (z.groups - length hints) 0 in
    omega arith

module _ (z : Capacity) where
  charged_sized : (l : Ledger) (k : ℕ) (g : Group) (time : ℕ) → SizedUnder z l → SizedUnder z (charge l k g time)
  unfolding charge
  charged_sized l k g time h =
      record { groups = length-set l.counts k (get_or l.counts k 0 + 1) ∙ h.groups; named = raised_by_length l.counters g.limits l.counters ∙ h.named }

  -- a call that is judged, by what a permit leaves
  settled_sized : (l : Ledger) (fault : Option ℕ) (time : ℕ) (on_permit : ℕ → Ledger → Outcome) (j : Judgement) → SizedUnder z l
      → (fault ≡ none → (k : ℕ) (m : Ledger) → SizedUnder z m → SizedUnder z (on_permit k m).ledger) → SizedUnder z (outcome_unless l fault (settle l time on_permit j)).ledger
  settled_sized l (some f) time on_permit j h p = h
  settled_sized l none time on_permit (denied d) h p = h
  settled_sized l none time on_permit (granted k g) h p = p refl k (charge l k g time) (charged_sized l k g time h)

  narrowed_sized : (l : Ledger) (old new : List Group) (hints : List Hint) (k : ℕ) (m : Ledger) → length hints ≤ z.groups → SizedUnder z l → SizedUnder z m → SizedUnder z (narrowed_under z l old new hints k m).ledger
  narrowed_sized l old new hints k m few h t = pick (narrows old new hints) refl
    where
      pick : (b : Bool) → narrows old new hints ≡ b → SizedUnder z (narrowed_under z l old new hints k m).ledger
      pick true e = rw e (record { groups = carried_sized z m.counts hints few; named = t.named })
      pick false e = rw e h

-- The tables keep their sizes, over the sizes.
pub sized_under : (z : Capacity) (s : State) (c : Call) → SizedUnder z s.ledger → SizedUnder z (outcome_under z s c).ledger
unfolding outcome_under
sized_under z s (requesting km0 req) h =
    settled_sized z s.ledger (request_files_under z km0 s.acl req) (request_of req).time permitted (judge s.ledger km0 (acl_of s.acl) (request_of req)) h (λ f k m t. t)
sized_under z s (loading time) h = record { groups = length-replicate {A = ℕ} z.groups 0; named = h.named }
sized_under z s (clearing counter) h = pick (ltb counter z.counters) refl
  where
    pick : (b : Bool) → ltb counter z.counters ≡ b → SizedUnder z (outcome_under z s (clearing counter)).ledger
    pick true e = rw e (record { groups = h.groups; named = length-set s.ledger.counters counter 0 ∙ h.named })
    pick false e = rw e h
sized_under z s (narrowing km0 req new hints) h =
    settled_sized z s.ledger (narrow_files_under z km0 s.acl req new hints) (request_of req).time (narrowed_under z s.ledger (acl_of s.acl) (acl_of new) (hints_of hints)) (judge s.ledger km0 (acl_of s.acl) (request_of req)) h
    (λ f k m t. narrowed_sized z s.ledger (acl_of s.acl) (acl_of new) (hints_of hints) k m
    (hints_few z.groups hints (and_right (lengths_fit_under z km0 s.acl req && fits (acl_records_under z) new) (fits z.groups hints)
    (unless_passed (lengths_fit_under z km0 s.acl req && fits (acl_records_under z) new && fits z.groups hints) bad_length (fault_none_every _ f).0))) h t)
sized_under z s (expanding km0 req new) h =
    settled_sized z s.ledger (expand_files_under z km0 s.acl req new) (request_of req).time (expanded_under z) (judge s.ledger km0 (acl_of s.acl) (request_of req)) h
    (λ f k m t. record { groups = length-replicate {A = ℕ} z.groups 0; named = t.named })

-- At today's sizes.
pub call_sized : (s : State) (c : Call) → Sized s.ledger → Sized (outcome s c).ledger
call_sized s c h =
    let u = sized_under today s c (record { groups = h.groups; named = h.named }) in
    subst (λ (o : Outcome). Sized o.ledger) (today_outcome s c) (record { groups = u.groups; named = u.named })

pub calls_sized : (s : State) (cs : List Call) → Sized s.ledger → Sized (after_all s cs).ledger
unfolding after_all after
calls_sized s [] h = h
calls_sized s (c ∷ cs) h = calls_sized (after s c) cs (call_sized s c h)
