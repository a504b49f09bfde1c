-- A record's step by what the tests answered.
use Prim.Native.Nat.{ℕ, ◌+◌, ◌≤◌, ◌<◌}
use native.Mathlib.Omega.{arith}
use mathlib.Core.Path.{◌≡◌, refl, sym, ◌∙◌, ap}
use mathlib.Core.Option.{Option, none, some}
use mathlib.Core.Bool.{Bool, true, false, not, ◌&&◌}
use lib.ListN.{get_or}
use lib.Dec.{eqb, ltb}
use borrow.Author.Tests.{eq-eqb, ne_eqb, lt-ltb, le-ltb, not-true, not-false}
use Rattle.rules.specs.Numbers.{malformed, too_many}
use Rattle.rules.specs.Sizes.{certificates_max, delegations_max, day_records, hint_records, listed_max}
use Rattle.std.specs.Prelude.{if◌then◌else◌}
use Rattle.rules.specs.Basics.{Bytes, flag, first_fault, record_fault}
use Rattle.rules.specs.Request.{request_laid_out, blobfile_request_record, stands_alone, hint_record, certificate_record, delegation_record, certificate_fault, delegation_fault, presented_record_fault, after_presented}
use Rattle.rules.specs.Bundle.{order_of, listed_order, bundle_in_place, bundle_has_room, bundle_record_fault, listed_after}
use Rattle.rules.proofs.Rows.{bad_record, full_record, sound_record}
use Rattle.text_rules.specs.Kinds.{request_due, blob_file_due, presenting}
use Rattle.text_states.specs.States.{AnyState, of_request, of_requests, of_bundle, of_hints, state_fault, state_after, state_as, Stepped, stopped, on, past, step_of, step_as, one_more}
use Rattle.text_states.specs.declared.State.{State}
use Rattle.std.specs.Prelude.{Result, Ok, Err, IsErr}
use Rattle.std.specs.Result.{IsErrAnd}
use Rattle.refusals.specs.declared.Refusal.{Refusal}
use Rattle.refusals.specs.declared.Refusal.TheVariants.{Malformed, TooMany}
use Rattle.refusals.specs.Refusals.{refusal_number}

-- a step by the record's fault
step_stop : (s : AnyState) (r : Bytes) (f : ℕ) {x : Stepped} → x ≡ stopped f → state_fault s r ≡ some f → x ≡ step_of s r
unfolding step_of
step_stop s r f d e = d ∙ sym (ap (λ (o : Option ℕ). past o (state_after s r)) e)

step_on : (s t : AnyState) (r : Bytes) {x : Stepped} → x ≡ on t → state_fault s r ≡ none → state_after s r ≡ t → x ≡ step_of s r
unfolding step_of
step_on s t r d e a = d ∙ sym (ap (λ (o : Option ℕ). past o (state_after s r)) e ∙ ap on a)

-- a count against its greatest number
full : (n most : ℕ) → most ≤ n → not (ltb n most) ≡ true
full n most h = ap not (le-ltb n most h)

room : (n most : ℕ) → n < most → not (ltb n most) ≡ false
room n most h = ap not (lt-ltb n most h)

-- the request record
module _ (rec : Bytes) (b : Bool) (e : b ≡ request_laid_out rec) where
  pub request_bad : (x : Stepped) → x ≡ stopped malformed → not b ≡ true → x ≡ step_of (of_request request_due) rec
  request_bad x d n = step_stop (of_request request_due) rec malformed d (rw (sym e ∙ not-true b n))

  module _ (n : not b ≡ false) (f : Bool) (g : f ≡ flag 6 rec) where
    pub request_files_lem : (x : Stepped) → x ≡ on (of_request blob_file_due) → f ≡ true → x ≡ step_of (of_request request_due) rec
    request_files_lem x d y = step_on (of_request request_due) (of_request blob_file_due) rec d (rw (sym e ∙ not-false b n)) (rw (sym g ∙ y))

    pub request_alone : (x : Stepped) → x ≡ on (of_request (presenting (record { certificates = 0; delegations = 0 }))) → f ≡ false → x ≡ step_of (of_request request_due) rec
    request_alone x d y = step_on (of_request request_due) (of_request (presenting (record { certificates = 0; delegations = 0 }))) rec d (rw (sym e ∙ not-false b n)) (rw (sym g ∙ y))

-- its record of kind 15
module _ (rec : Bytes) (b : Bool) (e : b ≡ blobfile_request_record rec) where
  pub blobfile_bad : (x : Stepped) → x ≡ stopped malformed → not b ≡ true → x ≡ step_of (of_request blob_file_due) rec
  blobfile_bad x d n = step_stop (of_request blob_file_due) rec malformed d (rw (sym e ∙ not-true b n))

  pub blobfile_good : (x : Stepped) → x ≡ on (of_request (presenting (record { certificates = 0; delegations = 0 }))) → not b ≡ false → x ≡ step_of (of_request blob_file_due) rec
  blobfile_good x d n = step_on (of_request blob_file_due) (of_request (presenting (record { certificates = 0; delegations = 0 }))) rec d (rw (sym e ∙ not-false b n)) refl

-- one record more of at most so many
pub more_bad : (good : Bool) (n most : ℕ) → not good ≡ true → Err Malformed ≡ one_more good n most
more_bad good n most h = rw (not-true good h) refl

pub more_full : (good : Bool) (n most : ℕ) → not good ≡ false → most ≤ n → Err TooMany ≡ one_more good n most
more_full good n most h l = rw (not-false good h, le-ltb n most l) refl

pub more_fits : (good : Bool) (n most : ℕ) → not good ≡ false → n < most → Ok (n + 1) ≡ one_more good n most
more_fits good n most h l = rw (not-false good h, lt-ltb n most l) refl

stop_by : (good less : Bool) (n : ℕ) (r : Refusal) → Err r ≡ (if good then (if less then Ok (n + 1) else Err TooMany) else Err Malformed) → record_fault good less ≡ some (refusal_number r)
unfolding record_fault first_fault
stop_by false less n r e = let d : r ≡ Malformed = cc in rw d refl
stop_by true false n r e = let d : r ≡ TooMany = cc in rw d refl
stop_by true true n r e = cc

next_by : (good less : Bool) (n k : ℕ) → Ok k ≡ (if good then (if less then Ok (n + 1) else Err TooMany) else Err Malformed) → (record_fault good less ≡ none) × (k ≡ n + 1)
unfolding record_fault first_fault
next_by false less n k e = cc
next_by true false n k e = cc
next_by true true n k e = let d : k ≡ n + 1 = cc in (refl, d)

step_passed : (x : Result State Refusal) (r : Refusal) → IsErr x × IsErrAnd x (λ e. e ≡ r) → step_as x ≡ stopped (refusal_number r)
step_passed (Ok s) r h = absurd h.1
step_passed (Err e) r h = ap (λ (f : Refusal). stopped (refusal_number f)) h.1

module _ (s : AnyState) (rec : Bytes) (good : Bool) (n most : ℕ) (is : state_fault s rec ≡ record_fault good (ltb n most)) where
  more_stop : (x : Result State Refusal) (r : Refusal) → IsErr x × IsErrAnd x (λ e. e ≡ r) → Err r ≡ one_more good n most → step_as x ≡ step_of s rec
  more_stop x r h e = step_stop s rec (refusal_number r) (step_passed x r h) (is ∙ stop_by good (ltb n most) n r e)

  more_next : (k : ℕ) (t : AnyState) → Ok k ≡ one_more good n most → (k ≡ n + 1 → state_after s rec ≡ t) → on t ≡ step_of s rec
  more_next k t e a = let d = next_by good (ltb n most) n k e in step_on s t rec refl (is ∙ d.0) (a d.1)

-- certificates and delegations
module _ (certs dels : ℕ) (rec : Bytes) (b : Bool) where
  abbrev Here : AnyState
  Here = of_request (presenting (record { certificates = certs; delegations = dels }))

  module _ (k : get_or rec 0 0 ≡ 9) (e : b ≡ certificate_record rec) where
    certificate_is : state_fault Here rec ≡ record_fault (b && eqb dels 0) (ltb certs certificates_max)
    unfolding presented_record_fault certificate_fault
    certificate_is = rw (eq-eqb (get_or rec 0 0) 9 k, e) refl

    pub certificate_stop : (x : Result State Refusal) (r : Refusal) → IsErr x × IsErrAnd x (λ f. f ≡ r) → Err r ≡ one_more (b && eqb dels 0) certs certificates_max → step_as x ≡ step_of Here rec
    certificate_stop x r h d = more_stop Here rec (b && eqb dels 0) certs certificates_max certificate_is x r h d

    pub certificate_next : (m : ℕ) → Ok m ≡ one_more (b && eqb dels 0) certs certificates_max → on (of_request (presenting (record { certificates = m; delegations = dels }))) ≡ step_of Here rec
    unfolding after_presented
    certificate_next m d = more_next Here rec (b && eqb dels 0) certs certificates_max certificate_is m _ d (λ q. rw (eq-eqb (get_or rec 0 0) 9 k, q) refl)

  module _ (k : get_or rec 0 0 ≡ 9 → ⊥) (e : b ≡ delegation_record rec) where
    delegation_is : state_fault Here rec ≡ record_fault b (ltb dels delegations_max)
    unfolding presented_record_fault delegation_fault
    delegation_is = rw (ne_eqb (get_or rec 0 0) 9 k, e) refl

    pub delegation_stop : (x : Result State Refusal) (r : Refusal) → IsErr x × IsErrAnd x (λ f. f ≡ r) → Err r ≡ one_more b dels delegations_max → step_as x ≡ step_of Here rec
    delegation_stop x r h d = more_stop Here rec b dels delegations_max delegation_is x r h d

    pub delegation_next : (m : ℕ) → Ok m ≡ one_more b dels delegations_max → on (of_request (presenting (record { certificates = certs; delegations = m }))) ≡ step_of Here rec
    unfolding after_presented
    delegation_next m d = more_next Here rec b dels delegations_max delegation_is m _ d (λ q. rw (ne_eqb (get_or rec 0 0) 9 k, q) refl)

-- records that stand by themselves
module _ (n : ℕ) (rec : Bytes) (b : Bool) where
  module _ (e : b ≡ stands_alone rec) where
    alone_is : state_fault (of_requests n) rec ≡ record_fault b (ltb n day_records)
    alone_is = rw e refl

    pub alone_stop : (x : Result State Refusal) (r : Refusal) → IsErr x × IsErrAnd x (λ f. f ≡ r) → Err r ≡ one_more b n day_records → step_as x ≡ step_of (of_requests n) rec
    alone_stop x r h d = more_stop (of_requests n) rec b n day_records alone_is x r h d

    pub alone_next : (m : ℕ) → Ok m ≡ one_more b n day_records → on (of_requests m) ≡ step_of (of_requests n) rec
    alone_next m d = more_next (of_requests n) rec b n day_records alone_is m _ d (λ q. ap of_requests (sym q))

  module _ (e : b ≡ hint_record rec) where
    hint_is : state_fault (of_hints n) rec ≡ record_fault b (ltb n hint_records)
    hint_is = rw e refl

    pub hint_stop : (x : Result State Refusal) (r : Refusal) → IsErr x × IsErrAnd x (λ f. f ≡ r) → Err r ≡ one_more b n hint_records → step_as x ≡ step_of (of_hints n) rec
    hint_stop x r h d = more_stop (of_hints n) rec b n hint_records hint_is x r h d

    pub hint_next : (m : ℕ) → Ok m ≡ one_more b n hint_records → on (of_hints m) ≡ step_of (of_hints n) rec
    hint_next m d = more_next (of_hints n) rec b n hint_records hint_is m _ d (λ q. ap of_hints (sym q))

-- records of a bundle
module _ (last listed : ℕ) (rec : Bytes) (here again : ℕ) (eh : here ≡ order_of rec) (ea : again ≡ (if eqb here listed_order then 1 else 0)) (b : Bool) (e : b ≡ bundle_in_place last rec) where
  abbrev At : AnyState
  At = of_bundle (record { last = last; listed_count = listed })

  repeated : (x : Bool) → eqb here listed_order ≡ x → eqb (order_of rec) listed_order ≡ x
  repeated x q = ap (λ (n : ℕ). eqb n listed_order) (sym eh) ∙ q

  once : again ≡ 0 → eqb here listed_order ≡ false
  once z = pick (eqb here listed_order) refl
    where
      pick : (x : Bool) → eqb here listed_order ≡ x → x ≡ false
      pick false q = refl
      pick true q = let d : again ≡ 1 = rw q at ea in let y : ◌≡◌ {A = ℕ} 0 1 = sym z ∙ d in absurd (omega arith)

  twice : (again ≡ 0 → ⊥) → eqb here listed_order ≡ true
  twice z = pick (eqb here listed_order) refl
    where
      pick : (x : Bool) → eqb here listed_order ≡ x → x ≡ true
      pick true q = refl
      pick false q = let d : again ≡ 0 = rw q at ea in absurd (z d)

  pub bundle_bad : (x : Stepped) → x ≡ stopped malformed → not b ≡ true → x ≡ step_of At rec
  unfolding bundle_record_fault
  bundle_bad x d h = step_stop At rec malformed d (bad_record _ _ _ _ refl e h)

  pub bundle_once : (x : Stepped) → x ≡ on (of_bundle (record { last = here; listed_count = listed })) → not b ≡ false → again ≡ 0 → x ≡ step_of At rec
  unfolding bundle_record_fault bundle_has_room listed_after
  bundle_once x d h z = step_on At _ rec d (sound_record _ _ _ _ refl e true (sym (rw (repeated false (once z)))) h refl) (rw (← eh, once z))

  pub bundle_full : (x : Stepped) → x ≡ stopped too_many → not b ≡ false → (again ≡ 0 → ⊥) → listed_max ≤ listed → x ≡ step_of At rec
  unfolding bundle_record_fault bundle_has_room
  bundle_full x d h z m = step_stop At rec too_many d (full_record _ _ _ _ refl e (ltb listed listed_max) (sym (rw (repeated true (twice z)))) h (full listed listed_max m))

  pub bundle_more : (x : Stepped) → x ≡ on (of_bundle (record { last = here; listed_count = listed + 1 })) → not b ≡ false → (again ≡ 0 → ⊥) → listed < listed_max → x ≡ step_of At rec
  unfolding bundle_record_fault bundle_has_room listed_after
  bundle_more x d h z m = step_on At _ rec d (sound_record _ _ _ _ refl e (ltb listed listed_max) (sym (rw (repeated true (twice z)))) h (room listed listed_max m)) (rw (← eh, twice z))

-- a state by its variant
pub next_is : (s t : State) (rec : Bytes) (x : Stepped) → s ≡ t → x ≡ step_of (state_as t) rec → x ≡ step_of (state_as s) rec
next_is s t rec x e d = d ∙ ap (λ (q : State). step_of (state_as q) rec) (sym e)
