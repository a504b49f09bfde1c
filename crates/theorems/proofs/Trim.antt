-- Request l: the trimming tool's results. Two wrong products that this rules out: one that drops an action which fails no step, and one that writes
-- hints by which the gate answers 8.
use Prim.Native.Nat.{ℕ, suc, ◌+◌, ◌-◌, ◌*◌, ◌/◌, ◌%◌, ◌≤◌}
use native.Mathlib.Omega.{arith}
use native.Mathlib.Nat.{zero-add}
use native.Mathlib.Numerals.{add-one}
use mathlib.Core.Path.{◌≡◌, refl, sym, ◌∙◌, ap}
use mathlib.Core.Logic.{inl, inr}
use mathlib.Core.List.{List, [], ◌∷◌, ◌++◌}
use mathlib.Core.Option.{Option, none, some}
use mathlib.Core.Bool.{Bool, true, false, not, ◌&&◌}
use lib.ListN.{length, drop, replicate, get_elem?, length-append, length-drop}
use lib.Dec.{eqb, leb}
use borrow.Author.Tests.{leb-true, le-leb}
use Rattle.rules.specs.Sizes.{acl_records, bundle_records, hint_records, actions_max}
use Rattle.rules.specs.Numbers.{bad_length, short_buffer}
use Rattle.rules.specs.Basics.{Bytes, implies, all, bit, both_same, within, records, joined, fits, unless, or_next, first_fault, each_fault, file_fault}
use Rattle.rules.specs.Acl.{Action, Group, acl_of, acl_start, acl_fault_under, acl_fault, acl_file_fault}
use Rattle.rules.specs.Request.{request_of, use_of, reduce_acl, request_fault, Hint, hints_of, hint_record, hint_fault, hints_fault, hints_file_fault}
use Rattle.rules.specs.Ledger.{Ledger}
use Rattle.rules.specs.Narrow.{kept, kept_number, no_wider, no_wider_than, actions_no_wider, is_answered, group_narrows, narrows_source, narrows_from, narrows}
use Rattle.rules.specs.Gate.{permit, lengths_fit, narrow_files, narrow}
use Rattle.rules.specs.Written.{Octets}
use Rattle.rules.specs.Bundle.{field, policy_of}
use Rattle.rules.specs.Desk.{Step, class_of, policy_admits, acl_failure, before_acl, after_acl, full_failure, desk_fault, faulty, failed, desk}
use Rattle.rules.specs.Trim.{trimmed_from, hints_from, trimmed_acl, trim_hints, TrimReply, trimmed, untrimmed, unread, trim_fault, trim_reply, trim_acl_buffer, trim_hint_buffer, roomy}
use Rattle.theorems.specs.Trimmed.{Trimmed, LosesBits, KeptAs, ActionsTrimmed, no_action, keeping, removing, GroupTrimmed, GroupsTrimmed, no_group_lem, group}
use Rattle.rules.proofs.Laws.{never, and_left, and_right, and_both, implication, every_map, chunks_length, all_below_all, unless_passed, fault_none_every}
use Rattle.rules.proofs.Rows.{records_sized}
use Rattle.rules.proofs.Joined.{Whole, joined_records, joined_fits, fits_joined}
use Rattle.rules.proofs.Written.{joined_octets, records_octets}
use Rattle.rules.proofs.Trim.{trimmed_whole, trimmed_few, fault_refused, fault_step, fault_short, fault_none}
use Rattle.theorems.proofs.Lists.{every_fault_none}
use Rattle.theorems.proofs.Hints.{kept_self, kept_number_self, action_self, StandsAt, stands_here, stands_next, all_zero_lem, limits_self}
use Rattle.theorems.proofs.Permit.{narrow_needs, narrow_comes}
use Rattle.theorems.specs.Permits.{Permitted}
use Rattle.rules.proofs.AclSizes.{acl_fits}
use Rattle.theorems.proofs.TrimmedAcl.{trimmed_acl_sound, same_groups, trimmed_passes, passing_untouched, hints_sound, hints_many, trimmed_octets, hints_octets}

ruleset conj = (and_left, and_right, and_both)

-- A trimmed ACL is a narrowing of the old one by its hints. One action:
loses_no_wider : (b : List Bytes) (o n : Action) → LosesBits b o n → no_wider n o ≡ true
unfolding no_wider within
loses_no_wider b o n h =
    rw (h.was_set, h.is_set)
    (all_below_all 16 (λ i. implies (bit i h.left) (bit i h.before))
    (λ i l. implication (bit i h.left) (bit i h.before)
    (λ e. and_left (bit i h.before) (policy_admits (policy_of b) (class_of i)) (sym (h.exactly i l) ∙ e))))

kept_no_wider : (b : List Bytes) (checked : Bool) (o n : Action) → KeptAs b checked o n → no_wider n o ≡ true
kept_no_wider b checked o n (inl e) = rw e (action_self o)
kept_no_wider b checked o n (inr h) = loses_no_wider b o n h.1

-- the actions of a group
module _ (b : List Bytes) (checked : Bool) (old : List Action) (pad : ℕ) where
  actions_narrow : (place : ℕ) (xs ns : List Action) (ps : List ℕ) → StandsAt old place xs → ActionsTrimmed b checked place xs ns ps → actions_no_wider ns (ps ++ replicate pad 0) old ≡ true
  unfolding actions_no_wider
  actions_narrow place xs ns ps f no_action = all_zero_lem pad
  actions_narrow place xs ns ps f (keeping {a = a} {n = n} {os = os} {ns = ms} {ps = qs} k t) =
      let e : no_wider_than n (get_elem? old place) ≡ true = rw (stands_here old place a os f) (kept_no_wider b checked a n k) in
      and_both (no_wider_than n (get_elem? old place)) (actions_no_wider ms (qs ++ replicate pad 0) old) e
      (actions_narrow (place + 1) os ms qs (rw add-one (stands_next old place a os f)) t)
  actions_narrow place xs ns ps f (removing {a = a} {os = os} c k s t) = actions_narrow (place + 1) os ns ps (rw add-one (stands_next old place a os f)) t

-- a group
group_narrow : (b : List Bytes) (place : ℕ) (o n : Group) (h : Hint) → GroupTrimmed b place o n h → group_narrows n h.actions o ≡ true
group_narrow b place o n h t =
    let x : kept n.certifier o.certifier ≡ true = rw t.certifier (kept_self o.certifier) in
    let y : kept_number n.mechanism o.mechanism ≡ true = rw t.mechanism (kept_number_self o.mechanism) in
    let z : all (is_answered n.limits) o.limits ≡ true = rw t.limits (limits_self o.limits) in
    let a : actions_no_wider n.actions h.actions o.actions ≡ true =
    rw t.named
    (actions_narrow b (not (both_same (field 4 b) o.certifier)) o.actions (actions_max - length t.places) 0 o.actions n.actions t.places (λ j x e. rw zero-add e) t.actions) in
    search conj

-- all groups
module _ (b : List Bytes) (old : List Group) where
  groups_narrow : (place : ℕ) (gs ns : List Group) (hs : List Hint) → StandsAt old place gs → GroupsTrimmed b place gs ns hs → narrows_from old place ns hs ≡ true
  unfolding narrows_from
  groups_narrow place gs ns hs f no_group_lem = refl
  groups_narrow place gs ns hs f (group {o = o} {n = n} {h = h} {os = os} {ns = ms} {hs = ks} t rest) =
      let s = t.source in
      let x : leb place h.source ≡ true = le-leb place h.source (omega arith) in
      let y : narrows_source n h.actions (get_elem? old h.source) ≡ true = rw (s, stands_here old place o os f) (group_narrow b place o n h t) in
      let z : narrows_from old (suc h.source) ms ks ≡ true = rw (s, ← (add-one place)) (groups_narrow (place + 1) os ms ks (rw add-one (stands_next old place o os f)) rest) in
      and_both (leb place h.source && narrows_source n h.actions (get_elem? old h.source)) (narrows_from old (suc h.source) ms ks) (and_both (leb place h.source) (narrows_source n h.actions (get_elem? old h.source)) x y) z

-- five tests that find no fault
all_none : (t : Bool) → t ≡ true → (u : Option ℕ) → u ≡ none → (v : Option ℕ) → v ≡ none → (w : Option ℕ) → w ≡ none → (x : Option ℕ) → x ≡ none → first_fault (unless t bad_length ∷ u ∷ v ∷ w ∷ x ∷ []) ≡ none
unfolding first_fault
all_none t a u b v c w d x e = rw (a, b, c, d, e)

both_none : (t : Bool) → t ≡ true → (u : Option ℕ) → u ≡ none → first_fault (unless t bad_length ∷ u ∷ []) ≡ none
unfolding first_fault
both_none t p u q = rw (p, q)

-- The trimmed ACL and its hints, of an ACL file without fault. b is any bundle's records.
trimmed_records : (b : List Bytes) (acl : Bytes) (fit : fits acl_records acl ≡ true) (sound : acl_fault (records acl) ≡ none) → records (trimmed_acl b acl) ≡ trimmed_from b false true (records acl)
unfolding trimmed_acl
trimmed_records b acl fit sound = joined_records (trimmed_from b false true (records acl)) (trimmed_whole b false true (records acl) (records_sized acl))

hint_records_lem : (b : List Bytes) (acl : Bytes) (fit : fits acl_records acl ≡ true) (sound : acl_fault (records acl) ≡ none) → records (trim_hints b acl) ≡ hints_from b 0 (records acl)
unfolding trim_hints acl_fault_under
hint_records_lem b acl fit sound =
    joined_records (hints_from b 0 (records acl)) (every_map (λ h. Whole h × (hint_record h ≡ true)) Whole (hints_from b 0 (records acl)) (λ h k. k.0) (hints_sound b 0 acl_start (records acl) sound))

-- The result is read without fault ..
pub trimmed_fits : (b : List Bytes) (acl : Bytes) (fit : fits acl_records acl ≡ true) (sound : acl_fault (records acl) ≡ none) → fits acl_records (trimmed_acl b acl) ≡ true
unfolding trimmed_acl records fits
trimmed_fits b acl fit sound =
    let l = leb-true (length acl) (acl_records * 64) (and_right (eqb (length acl % 64) 0) (leb (length acl) (acl_records * 64)) fit) in
    let c = chunks_length (length acl / 64) acl in
    let f = trimmed_few b false true (records acl) in
    joined_fits acl_records (trimmed_from b false true (records acl)) (trimmed_whole b false true (records acl) (records_sized acl)) (omega arith)

pub trimmed_sound : (b : List Bytes) (acl : Bytes) (fit : fits acl_records acl ≡ true) (sound : acl_fault (records acl) ≡ none) → acl_fault (records (trimmed_acl b acl)) ≡ none
trimmed_sound b acl fit sound = rw (trimmed_records b acl fit sound) (trimmed_acl_sound b (records acl) (records_sized acl) sound)

pub trimmed_read : (b : List Bytes) (acl : Bytes) (fit : fits acl_records acl ≡ true) (sound : acl_fault (records acl) ≡ none) → acl_file_fault (trimmed_acl b acl) ≡ none
unfolding file_fault first_fault
trimmed_read b acl fit sound = rw (trimmed_fits b acl fit sound, trimmed_sound b acl fit sound)

-- So are its hints.
pub hints_fit : (b : List Bytes) (acl : Bytes) (fit : fits acl_records acl ≡ true) (sound : acl_fault (records acl) ≡ none) → fits hint_records (trim_hints b acl) ≡ true
unfolding trim_hints acl_fault_under
hints_fit b acl fit sound =
    let m = hints_many b 0 (records acl) in
    let l = (acl_fits acl sound).groups in
    joined_fits hint_records (hints_from b 0 (records acl)) (every_map (λ h. Whole h × (hint_record h ≡ true)) Whole (hints_from b 0 (records acl)) (λ h k. k.0) (hints_sound b 0 acl_start (records acl) sound)) (omega arith)

pub hints_no_fault : (b : List Bytes) (acl : Bytes) (fit : fits acl_records acl ≡ true) (sound : acl_fault (records acl) ≡ none) → hints_fault (records (trim_hints b acl)) ≡ none
unfolding hints_fault each_fault hint_fault acl_fault_under
hints_no_fault b acl fit sound =
    rw (hint_records_lem b acl fit sound)
    (every_fault_none hint_fault (hints_from b 0 (records acl))
    (every_map (λ h. Whole h × (hint_record h ≡ true)) (λ h. hint_fault h ≡ none) (hints_from b 0 (records acl)) (λ h k. rw k.1) (hints_sound b 0 acl_start (records acl) sound)))

pub hints_read : (b : List Bytes) (acl : Bytes) (fit : fits acl_records acl ≡ true) (sound : acl_fault (records acl) ≡ none) → hints_file_fault (trim_hints b acl) ≡ none
unfolding file_fault first_fault
hints_read b acl fit sound = rw (hints_fit b acl fit sound, hints_no_fault b acl fit sound)

-- Nothing but the failing actions and bits is gone: every group is kept with its certifier, mechanism and limits, each action of it is kept or failed
-- a WB or RB step, each bit of it is kept or failed ACLV3, and the hints name the old places.
pub trimmed_exactly : (b : List Bytes) (acl : Bytes) (fit : fits acl_records acl ≡ true) (sound : acl_fault (records acl) ≡ none) → GroupsTrimmed b 0 (acl_of acl) (acl_of (trimmed_acl b acl)) (hints_of (trim_hints b acl))
unfolding acl_fault_under
trimmed_exactly b acl fit sound = rw (trimmed_records b acl fit sound, hint_records_lem b acl fit sound) (same_groups b false true 0 acl_start (records acl) (records_sized acl) sound)

-- "The result is a narrowing of the old ACL"
pub trimmed_narrows : (b : List Bytes) (acl : Bytes) (fit : fits acl_records acl ≡ true) (sound : acl_fault (records acl) ≡ none) → narrows (acl_of acl) (acl_of (trimmed_acl b acl)) (hints_of (trim_hints b acl)) ≡ true
trimmed_narrows b acl fit sound = groups_narrow b (acl_of acl) 0 (acl_of acl) (acl_of (trimmed_acl b acl)) (hints_of (trim_hints b acl)) (λ j g e. rw zero-add e) (trimmed_exactly b acl fit sound)

-- "fails none of those steps"
pub trimmed_fails_none : (b : List Bytes) (acl : Bytes) (fit : fits acl_records acl ≡ true) (sound : acl_fault (records acl) ≡ none) → acl_failure b (acl_of (trimmed_acl b acl)) ≡ none
trimmed_fails_none b acl fit sound = rw (trimmed_records b acl fit sound) (trimmed_passes b false true (records acl) (records_sized acl))

-- "An ACL that fails none comes back byte for byte."
pub passing_unchanged : (b : List Bytes) (acl : Bytes) (fit : fits acl_records acl ≡ true) (sound : acl_fault (records acl) ≡ none) → acl_failure b (acl_of acl) ≡ none → trimmed_acl b acl ≡ acl
unfolding trimmed_acl
passing_unchanged b acl fit sound e = ap joined (passing_untouched b (records acl) e) ∙ fits_joined acl_records acl fit

-- the results are of bytes, if the ACL is
pub results_octets : (b : List Bytes) (acl : Bytes) (fit : fits acl_records acl ≡ true) (sound : acl_fault (records acl) ≡ none) → Octets acl → Octets (trimmed_acl b acl) × Octets (trim_hints b acl)
unfolding trimmed_acl trim_hints acl_fault_under
results_octets b acl fit sound h = (
  joined_octets (trimmed_from b false true (records acl)) (trimmed_octets b false true (records acl) (records_octets acl h)),
  joined_octets (hints_from b 0 (records acl)) (hints_octets b 0 acl_start (records acl) sound refl),
)

-- so, of the desk's steps under approach 2, only one before the ACL, KV3 or CSRL1 can fail on the result
pub trimmed_attested : (b : List Bytes) (acl : Bytes) (fit : fits acl_records acl ≡ true) (sound : acl_fault (records acl) ≡ none) → before_acl b ≡ none → full_failure b (acl_of (trimmed_acl b acl)) ≡ after_acl b (acl_of (trimmed_acl b acl))
unfolding full_failure first_fault
trimmed_attested b acl fit sound e = rw (e, trimmed_fails_none b acl fit sound) (last (after_acl b (acl_of (trimmed_acl b acl))))
  where
    last : (o : Option Step) → or_next o none ≡ o
    last none = refl
    last (some s) = refl

-- and the gate takes it as a narrowing, wherever a use of ReduceACL is granted
pub gate_accepts : (b : List Bytes) (acl : Bytes) (fit : fits acl_records acl ≡ true) (sound : acl_fault (records acl) ≡ none) (l : Ledger) (km0 req : Bytes) (k : ℕ) (g : Group)
    → Permitted (first_fault (unless (lengths_fit km0 acl req) bad_length ∷ request_fault (use_of reduce_acl) (records req) ∷ [])) l km0 (acl_of acl) (request_of req) k g
    → (narrow l km0 acl req (trimmed_acl b acl) (trim_hints b acl)).answer ≡ permit k
gate_accepts b acl fit sound l km0 req k g p = rw (narrow_comes l km0 acl req (trimmed_acl b acl) (trim_hints b acl) k g p' (trimmed_narrows b acl fit sound))
  where
    files : narrow_files km0 acl req (trimmed_acl b acl) (trim_hints b acl) ≡ none
    files =
        let h = fault_none_every _ p.files in
        let a : lengths_fit km0 acl req ≡ true = unless_passed (lengths_fit km0 acl req) bad_length h.0 in
        all_none (lengths_fit km0 acl req && fits acl_records (trimmed_acl b acl) && fits hint_records (trim_hints b acl))
        (and_both (lengths_fit km0 acl req && fits acl_records (trimmed_acl b acl)) (fits hint_records (trim_hints b acl)) (and_both (lengths_fit km0 acl req) (fits acl_records (trimmed_acl b acl)) a (trimmed_fits b acl fit sound)) (hints_fit b acl fit sound))
        (acl_fault (records acl)) sound (request_fault (use_of reduce_acl) (records req)) h.1.0 (acl_fault (records (trimmed_acl b acl))) (trimmed_sound b acl fit sound) (hints_fault (records (trim_hints b acl))) (hints_no_fault b acl fit sound)

    p' : Permitted (narrow_files km0 acl req (trimmed_acl b acl) (trim_hints b acl)) l km0 (acl_of acl) (request_of req) k g
    p' = record { files = files; in_time = p.in_time; lowest_group = p.lowest_group }

-- In short: whatever narrowing of the old ACL the gate takes with this request, it takes this one, by the same group
pub gate_takes : (b : List Bytes) (acl : Bytes) (fit : fits acl_records acl ≡ true) (sound : acl_fault (records acl) ≡ none) (l : Ledger) (km0 req new hints : Bytes) (k : ℕ) → (narrow l km0 acl req new hints).answer ≡ permit k
    → (narrow l km0 acl req (trimmed_acl b acl) (trim_hints b acl)).answer ≡ permit k
gate_takes b acl fit sound l km0 req new hints k e =
    let r = narrow_needs l km0 acl req new hints k e in
    let h = fault_none_every _ r.1.files in
    let a : lengths_fit km0 acl req ≡ true = and_left (lengths_fit km0 acl req) (fits acl_records new) (and_left (lengths_fit km0 acl req && fits acl_records new) (fits hint_records hints) (unless_passed (lengths_fit km0 acl req && fits acl_records new && fits hint_records hints) bad_length h.0)) in
    gate_accepts b acl fit sound l km0 req k r.0 (record { files = both_none (lengths_fit km0 acl req) a (request_fault (use_of reduce_acl) (records req)) h.1.1.0; in_time = r.1.in_time; lowest_group = r.1.lowest_group })

-- The reply and the buffers. The ways that the tool ends: as the desk refuses, at a step before the ACL, with 9, or with both results written.
-- "Refusals and failing steps before the ACL are reported as the desk reports them"
pub refused_as_desk : (bundle acl aclBuffer hintBuffer : Bytes) (f : ℕ) → desk_fault bundle acl ≡ some f → (trim_reply bundle acl aclBuffer hintBuffer ≡ unread f) × (desk bundle acl ≡ faulty f)
unfolding trim_reply desk
refused_as_desk bundle acl aclBuffer hintBuffer f e = (rw (fault_refused bundle acl aclBuffer hintBuffer f e), rw e)

pub fails_as_desk : (bundle acl aclBuffer hintBuffer : Bytes) (s : Step) → desk_fault bundle acl ≡ none → before_acl (records bundle) ≡ some s
    → (trim_reply bundle acl aclBuffer hintBuffer ≡ untrimmed s) × (eqb (policy_of (records bundle)).approach 2 ≡ true → desk bundle acl ≡ failed s)
unfolding trim_reply desk full_failure first_fault
fails_as_desk bundle acl aclBuffer hintBuffer s e d = (rw (fault_step bundle acl aclBuffer hintBuffer s e d), λ a. rw (e, a, d))

-- "If either buffer is short the answer is 9"
pub short_refused : (bundle acl aclBuffer hintBuffer : Bytes) → desk_fault bundle acl ≡ none → before_acl (records bundle) ≡ none → roomy bundle acl aclBuffer hintBuffer ≡ false → trim_reply bundle acl aclBuffer hintBuffer ≡ unread short_buffer
unfolding trim_reply
short_refused bundle acl aclBuffer hintBuffer e d r = rw (fault_short bundle acl aclBuffer hintBuffer e d r)

-- "on any of these both stay untouched": where the reply is not both lengths
pub buffers_stand : (bundle acl aclBuffer hintBuffer : Bytes) → ((n m : ℕ) → trim_reply bundle acl aclBuffer hintBuffer ≡ trimmed n m → ⊥)
    → (trim_acl_buffer bundle acl aclBuffer hintBuffer ≡ aclBuffer) × (trim_hint_buffer bundle acl aclBuffer hintBuffer ≡ hintBuffer)
unfolding trim_reply trim_acl_buffer trim_hint_buffer
buffers_stand bundle acl aclBuffer hintBuffer h = pick (trim_fault bundle acl aclBuffer hintBuffer) refl
  where
    pick : (o : Option TrimReply) → trim_fault bundle acl aclBuffer hintBuffer ≡ o
        → (trim_acl_buffer bundle acl aclBuffer hintBuffer ≡ aclBuffer) × (trim_hint_buffer bundle acl aclBuffer hintBuffer ≡ hintBuffer)
    pick none e = absurd (h (length (trimmed_acl (records bundle) acl)) (length (trim_hints (records bundle) acl)) (rw e))
    pick (some f) e = (rw e, rw e)

-- "otherwise the reply is both lengths and bytes past the results stay"
pub both_written : (bundle acl aclBuffer hintBuffer : Bytes) → trim_fault bundle acl aclBuffer hintBuffer ≡ none
    → (trim_reply bundle acl aclBuffer hintBuffer ≡ trimmed (length (trimmed_acl (records bundle) acl)) (length (trim_hints (records bundle) acl)))
    × (trim_acl_buffer bundle acl aclBuffer hintBuffer ≡ trimmed_acl (records bundle) acl ++ drop (length (trimmed_acl (records bundle) acl)) aclBuffer)
    × (trim_hint_buffer bundle acl aclBuffer hintBuffer ≡ trim_hints (records bundle) acl ++ drop (length (trim_hints (records bundle) acl)) hintBuffer)
unfolding trim_reply trim_acl_buffer trim_hint_buffer
both_written bundle acl aclBuffer hintBuffer e = (rw e, rw e, rw e)

-- "The tool judges by approach 2 whatever the policy names", "KV3 and CSRL1 are not judged": nothing else is asked
pub trims : (bundle acl aclBuffer hintBuffer : Bytes) → desk_fault bundle acl ≡ none → before_acl (records bundle) ≡ none → roomy bundle acl aclBuffer hintBuffer ≡ true
    → trim_reply bundle acl aclBuffer hintBuffer ≡ trimmed (length (trimmed_acl (records bundle) acl)) (length (trim_hints (records bundle) acl))
trims bundle acl aclBuffer hintBuffer e d r = (both_written bundle acl aclBuffer hintBuffer (fault_none bundle acl aclBuffer hintBuffer e d r)).0

-- a desk that finds no fault has read a sound ACL file
desk_reads : (bundle acl : Bytes) → desk_fault bundle acl ≡ none → (fits acl_records acl ≡ true) × (acl_fault (records acl) ≡ none)
unfolding desk_fault
desk_reads bundle acl e =
    let n = fault_none_every _ e in
    (and_right (fits bundle_records bundle) (fits acl_records acl) (unless_passed (fits bundle_records bundle && fits acl_records acl) bad_length n.0), n.1.1.0)

over_length : (new old : Bytes) → length new ≤ length old → length (new ++ drop (length new) old) ≡ length old
over_length new old h = simp (length-append, length-drop) (omega arith)

-- Request l, whole: where the tool replies with two lengths, its results are these.
pub trim_result : (bundle acl aclBuffer hintBuffer : Bytes) (m n : ℕ) → trim_reply bundle acl aclBuffer hintBuffer ≡ trimmed m n → Trimmed bundle acl aclBuffer hintBuffer m n
trim_result bundle acl aclBuffer hintBuffer m n e =
    pick (desk_fault bundle acl) refl (before_acl (records bundle)) refl (roomy bundle acl aclBuffer hintBuffer) refl
  where
    pick : (f : Option ℕ) → desk_fault bundle acl ≡ f → (s : Option Step) → before_acl (records bundle) ≡ s → (r : Bool) → roomy bundle acl aclBuffer hintBuffer ≡ r → Trimmed bundle acl aclBuffer hintBuffer m n
    pick (some f) p s q r t = let x = (refused_as_desk bundle acl aclBuffer hintBuffer f p).0 in absurd (never (cc))
    pick none p (some s) q r t = let x = (fails_as_desk bundle acl aclBuffer hintBuffer s p q).0 in absurd (never (cc))
    pick none p none q false t = let x = short_refused bundle acl aclBuffer hintBuffer p q t in absurd (never (cc))
    pick none p none q true t = ending (both_written bundle acl aclBuffer hintBuffer (fault_none bundle acl aclBuffer hintBuffer p q t)) (desk_reads bundle acl p)
      where
        new : Bytes
        new = trimmed_acl (records bundle) acl

        hints : Bytes
        hints = trim_hints (records bundle) acl

        ending : (trim_reply bundle acl aclBuffer hintBuffer ≡ trimmed (length new) (length hints)) × (trim_acl_buffer bundle acl aclBuffer hintBuffer ≡ new ++ drop (length new) aclBuffer) × (trim_hint_buffer bundle acl aclBuffer hintBuffer ≡ hints ++ drop (length hints) hintBuffer)
            → (fits acl_records acl ≡ true) × (acl_fault (records acl) ≡ none) → Trimmed bundle acl aclBuffer hintBuffer m n
        ending w r =
            let x : trimmed (length new) (length hints) ≡ trimmed m n = sym w.0 ∙ e in
            let k : length new ≡ m = cc in
            let l : length hints ≡ n = cc in
            record {
              acl_long = sym k;
              hints_long = sym l;
              acl_written = rw (← k) w.1;
              hints_written = rw (← l) w.2;
              acl_sized = ap length w.1 ∙ over_length new aclBuffer (leb-true (length new) (length aclBuffer) (and_left (leb (length new) (length aclBuffer)) (leb (length hints) (length hintBuffer)) t));
              hints_sized = ap length w.2 ∙ over_length hints hintBuffer (leb-true (length hints) (length hintBuffer) (and_right (leb (length new) (length aclBuffer)) (leb (length hints) (length hintBuffer)) t));
              readable = trimmed_read (records bundle) acl r.0 r.1;
              hints_readable = hints_read (records bundle) acl r.0 r.1;
              exactly = trimmed_exactly (records bundle) acl r.0 r.1;
              narrower = trimmed_narrows (records bundle) acl r.0 r.1;
              passes = trimmed_fails_none (records bundle) acl r.0 r.1;
              unchanged = passing_unchanged (records bundle) acl r.0 r.1;
            }
