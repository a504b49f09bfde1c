-- The ways that the tool ends, by what the code met: the reply, and both buffers.
use Prim.Native.Nat.{ℕ, ◌+◌, ◌*◌, ◌≤◌, ◌<◌}
use native.Mathlib.Omega.{arith}
use mathlib.Core.Path.{◌≡◌, refl, sym, ◌∙◌, ap, ap₂}
use mathlib.Core.List.{List, [], ◌∷◌}
use mathlib.Core.Option.{none, some}
use mathlib.Core.Bool.{Bool, true, false}
use borrow.Author.Tests.{le-leb, lt-leb}
use lib.ListN.{length}
use lib.Dec.{eqb}
use Rattle.rules.specs.Sizes.{record_bytes}
use Rattle.rules.specs.Numbers.{short_buffer}
use Rattle.rules.specs.Basics.{Bytes, Every, kind, scan, records}
use Rattle.rules.specs.Acl.{AclState, acl_start, after_record, acl_record_fault, acl_fault_under, acl_fault}
use Rattle.rules.specs.Desk.{before_acl, desk_fault}
use Rattle.rules.specs.Trim.{is_checked, kept_indices, hints_from, trimmed_acl, trim_hints, TrimReply, trimmed, untrimmed, unread, trim_fault, trim_reply, trim_acl_buffer, trim_hint_buffer, roomy}
use Rattle.rules.proofs.Laws.{and_both, or_next_next, fault_none_every}
use Rattle.rules.proofs.Joined.{Whole, joined_length}
use Rattle.rules.proofs.Places.{acl_from}
use Rattle.rules.proofs.Written.{hint_whole}
use Rattle.rules.proofs.Trim.{group_places, fault_refused, fault_step, fault_short, fault_none}
use Rattle.std.specs.Prelude.{Result, Ok, Err}
use Rattle.std.specs.Result.{IsErrAnd, IsErr}
use Rattle.refusals.specs.declared.Refusal.{Refusal}
use Rattle.refusals.specs.Refusals.{refusal_number}
use Rattle.desk_steps.specs.declared.Step.{Step}
use Rattle.desk_steps.specs.Steps.{step_as}
use Rattle.subject.specs.Writing.{overwritten}
use Rattle.trimming.specs.declared.Lengths.{Lengths}
use Rattle.trimming.specs.declared.Untrimmed.{Untrimmed}
use Rattle.trimming.specs.declared.Untrimmed.TheVariants.{Failed, Refused}
use Rattle.trimming.specs.Trimming.{trim_reply_as}

-- Each hint has 64 bytes.
hints_whole : (b : List Bytes) (place : ℕ) (s : AclState) (rs : List Bytes) → acl_from s rs ≡ none → Every Whole (hints_from b place rs)
unfolding scan hints_from
hints_whole b place s [] e = tt
hints_whole b place s (r ∷ rs) e =
    pick (eqb (kind r) 1) refl (or_next_next (acl_record_fault s r) _ e) (λ k. hints_whole b k (after_record s r) rs (or_next_next (acl_record_fault s r) _ e))
  where
    pick : (x : Bool) → eqb (kind r) 1 ≡ x → acl_from (after_record s r) rs ≡ none → ((k : ℕ) → Every Whole (hints_from b k rs)) → Every Whole (hints_from b place (r ∷ rs))
    pick true p d f = rw p (hint_whole place (kept_indices b (is_checked b r) 0 rs) (group_places b s r rs p d), f (place + 1))
    pick false p d f = rw p (f place)

hints_length : (b : List Bytes) (acl : Bytes) → acl_fault (records acl) ≡ none → length (trim_hints b acl) ≡ length (hints_from b 0 (records acl)) * record_bytes
unfolding acl_fault_under trim_hints
hints_length b acl e = joined_length (hints_from b 0 (records acl)) (hints_whole b 0 acl_start (records acl) e)

-- files that the desk reads: the ACL has no fault
pub acl_read : (bundle acl : Bytes) → desk_fault bundle acl ≡ none → acl_fault (records acl) ≡ none
unfolding desk_fault
acl_read bundle acl e = (fault_none_every _ e).1.1.0

-- the hints have the length that was counted
pub room_hints : (bundle acl : Bytes) → desk_fault bundle acl ≡ none → (m most : ℕ) → m ≡ length (hints_from (records bundle) 0 (records acl)) * record_bytes → m ≤ most → length (trim_hints (records bundle) acl) ≤ most
room_hints bundle acl read m most e l = let d = hints_length (records bundle) acl (acl_read bundle acl read) in omega arith

-- what `?` returns
passed_on : (x : Result Lengths Untrimmed) (u : Untrimmed) → IsErr x × IsErrAnd x (λ v. v ≡ u) → x ≡ Err u
passed_on (Ok n) u h = absurd h.1
passed_on (Err v) u h = ap (λ (z : Untrimmed). Err z) h.1

module _ (bundle acl new hints : Bytes) where
  -- the reply, and what both buffers hold afterwards
  abbrev pub Ends : TrimReply → Bytes → Bytes → Type 0
  Ends reply x y = record { reply : reply ≡ trim_reply bundle acl new hints; trimmed : x ≡ trim_acl_buffer bundle acl new hints; hinted : y ≡ trim_hint_buffer bundle acl new hints }

  end_fault : (f : TrimReply) → trim_fault bundle acl new hints ≡ some f → Ends f new hints
  unfolding trim_reply trim_acl_buffer trim_hint_buffer
  end_fault f e = rw e record { reply = refl; trimmed = refl; hinted = refl }

  pub ends_refused : (x : Result Lengths Untrimmed) (r : Refusal) → IsErr x × IsErrAnd x (λ u. u ≡ Refused r) → some (refusal_number r) ≡ desk_fault bundle acl → Ends (trim_reply_as x) new hints
  ends_refused x r h e = rw (passed_on x (Refused r) h) (end_fault (unread (refusal_number r)) (fault_refused bundle acl new hints (refusal_number r) (sym e)))

  module _ (read : desk_fault bundle acl ≡ none) where
    pub ends_step : (x : Result Lengths Untrimmed) (s : Step) → IsErr x × IsErrAnd x (λ u. u ≡ Failed s) → some (step_as s) ≡ before_acl (records bundle) → Ends (trim_reply_as x) new hints
    ends_step x s h e = rw (passed_on x (Failed s) h) (end_fault (untrimmed (step_as s)) (fault_step bundle acl new hints (step_as s) read (sym e)))

    module _ (passed : before_acl (records bundle) ≡ none) (n m : ℕ) (is : (n ≡ length (trimmed_acl (records bundle) acl)) × (m ≡ length (hints_from (records bundle) 0 (records acl)) * record_bytes)) where
      hints_is : m ≡ length (trim_hints (records bundle) acl)
      hints_is = is.1 ∙ sym (hints_length (records bundle) acl (acl_read bundle acl read))

      short : roomy bundle acl new hints ≡ false → Ends (unread short_buffer) new hints
      short e = end_fault (unread short_buffer) (fault_short bundle acl new hints read passed e)

      pub ends_short_acl : length new < n → Ends (unread short_buffer) new hints
      ends_short_acl h = short (rw (lt-leb (length (trimmed_acl (records bundle) acl)) (length new) (omega (arith, is.0))))

      pub ends_short_hints : n ≤ length new → length hints < m → Ends (unread short_buffer) new hints
      ends_short_hints l h =
          short (rw (le-leb (length (trimmed_acl (records bundle) acl)) (length new) (omega (arith, is.0)), lt-leb (length (trim_hints (records bundle) acl)) (length hints) (omega (arith, hints_is))))

      pub ends_written : (x y : Bytes) → n ≤ length new → m ≤ length hints → x ≡ overwritten (trimmed_acl (records bundle) acl) new → y ≡ overwritten (trim_hints (records bundle) acl) hints → Ends (trimmed n m) x y
      unfolding trim_reply trim_acl_buffer trim_hint_buffer overwritten
      ends_written x y l h p q =
          let e = fault_none bundle acl new hints read passed (and_both _ _ (le-leb (length (trimmed_acl (records bundle) acl)) (length new) (omega (arith, is.0))) (le-leb (length (trim_hints (records bundle) acl)) (length hints) (omega (arith, hints_is)))) in
          rw e record { reply = ap₂ trimmed is.0 hints_is; trimmed = p; hinted = q }
