-- The words of request l (document 02): what a trimmed ACL and its hints have to do with the old ACL. In these definitions b is a bundle's list of
-- records.
use Rattle.std.specs.Prelude.{ℕ, ◌+◌, ◌-◌, ◌<◌, List, [], ◌∷◌, ◌++◌, ◌≡◌, ◌⊎◌, Bool, true, false, not, ◌&&◌, length, drop, replicate}
use Rattle.std.proofs.Math.Option.{none, some}
use Rattle.rules.specs.Sizes.{actions_max}
use Rattle.rules.specs.Basics.{Bytes, bit, records}
use Rattle.rules.specs.Acl.{Action, permissions, make_blob, make_archive, Group, acl_of, acl_file_fault}
use Rattle.rules.specs.Request.{Hint, hints_of, hints_file_fault}
use Rattle.rules.specs.Narrow.{narrows}
use Rattle.rules.specs.Bundle.{policy_of}
use Rattle.rules.specs.Desk.{Step, class_of, policy_admits, action_failure, officers_group, acl_failure}
use Rattle.rules.specs.Trim.{trimmed_acl, trim_hints, trim_acl_buffer, trim_hint_buffer}

-- an action fails one of ACLV3, WB and RB
abbrev pub Fails : List Bytes → Action → Type 0
Fails b a = (s : Step) × (action_failure b a ≡ some s)

-- a MakeBlob or MakeArchiveBlob action
abbrev pub is_blob : Action → Bool
is_blob (permissions bits) = false
is_blob (make_blob r f) = true
is_blob (make_archive a f) = true

-- "drop every permission bit that fails ACLV3": of an OpPermissions action that fails, a bit is left exactly if it was set and the policy admits its
-- class
pub record LosesBits (b : List Bytes) (old new : Action) : Type 0 where
  pub before : ℕ
  pub left : ℕ
  pub was_set : old ≡ permissions before
  pub is_set : new ≡ permissions left
  pub exactly : (p : ℕ) → p < 16 → bit p left ≡ (bit p before && policy_admits (policy_of b) (class_of p))
  pub failed : Fails b old

-- a kept action is as it was, its blobfile too, or, in a group that is checked, has lost its failing bits
abbrev pub KeptAs : List Bytes → Bool → Action → Action → Type 0
KeptAs b checked old new = (new ≡ old) ⊎ ((checked ≡ true) × LosesBits b old new)

-- Old actions, the first of them at a place, with the new ones and the old places of these: each is kept, or it is a blob action of a checked group and
-- failed a step.
pub data ActionsTrimmed (b : List Bytes) (checked : Bool) : ℕ → List Action → List Action → List ℕ → Type 0 where
  no_action : {place : ℕ} → ActionsTrimmed b checked place [] [] []
  keeping : {place : ℕ} {a n : Action} {os ns : List Action} {ps : List ℕ} → KeptAs b checked a n → ActionsTrimmed b checked (place + 1) os ns ps → ActionsTrimmed b checked place (a ∷ os) (n ∷ ns) (place ∷ ps)
  removing : {place : ℕ} {a : Action} {os ns : List Action} {ps : List ℕ} → checked ≡ true → is_blob a ≡ true → Fails b a → ActionsTrimmed b checked (place + 1) os ns ps → ActionsTrimmed b checked place (a ∷ os) ns ps

-- An old group at a place, with the new one and its hint: "keep all else", "hints naming each kept group and action by its old place".
pub record GroupTrimmed (b : List Bytes) (place : ℕ) (old new : Group) (hint : Hint) : Type 0 where
  pub certifier : new.certifier ≡ old.certifier
  pub mechanism : new.mechanism ≡ old.mechanism
  pub limits : new.limits ≡ old.limits
  pub source : hint.source ≡ place
  pub places : List ℕ
  pub named : hint.actions ≡ places ++ replicate (actions_max - length places) 0
  pub actions : ActionsTrimmed b (not (officers_group b old)) 0 old.actions new.actions places

-- Old groups, the first of them at a place, with the new ones and the hints: every group is kept.
pub data GroupsTrimmed (b : List Bytes) : ℕ → List Group → List Group → List Hint → Type 0 where
  no_group_lem : {place : ℕ} → GroupsTrimmed b place [] [] []
  group : {place : ℕ} {o n : Group} {h : Hint} {os ns : List Group} {hs : List Hint} → GroupTrimmed b place o n h → GroupsTrimmed b (place + 1) os ns hs → GroupsTrimmed b place (o ∷ os) (n ∷ ns) (h ∷ hs)

-- All that holds where the reply is both lengths.
pub record Trimmed (bundle acl aclBuffer hintBuffer : Bytes) (acl_length hintLength : ℕ) : Type 0 where
  pub acl_long : acl_length ≡ length (trimmed_acl (records bundle) acl)
  pub hints_long : hintLength ≡ length (trim_hints (records bundle) acl)
  pub acl_written : trim_acl_buffer bundle acl aclBuffer hintBuffer ≡ trimmed_acl (records bundle) acl ++ drop acl_length aclBuffer
  pub hints_written : trim_hint_buffer bundle acl aclBuffer hintBuffer ≡ trim_hints (records bundle) acl ++ drop hintLength hintBuffer
  pub acl_sized : length (trim_acl_buffer bundle acl aclBuffer hintBuffer) ≡ length aclBuffer
  pub hints_sized : length (trim_hint_buffer bundle acl aclBuffer hintBuffer) ≡ length hintBuffer
  pub readable : acl_file_fault (trimmed_acl (records bundle) acl) ≡ none
  pub hints_readable : hints_file_fault (trim_hints (records bundle) acl) ≡ none
  pub exactly : GroupsTrimmed (records bundle) 0 (acl_of acl) (acl_of (trimmed_acl (records bundle) acl)) (hints_of (trim_hints (records bundle) acl))
  pub narrower : narrows (acl_of acl) (acl_of (trimmed_acl (records bundle) acl)) (hints_of (trim_hints (records bundle) acl)) ≡ true
  pub passes : acl_failure (records bundle) (acl_of (trimmed_acl (records bundle) acl)) ≡ none
  pub unchanged : acl_failure (records bundle) (acl_of acl) ≡ none → trimmed_acl (records bundle) acl ≡ acl
