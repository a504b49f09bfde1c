-- Rows of the gate that no example has: which group is charged and what for, blobs, narrowings and expansions, each with the whole ledger handed
-- back. A row is a field, so that one that does not hold is named.
use Prim.Native.Nat.{ℕ, ◌-◌}
use mathlib.Core.Path.{◌≡◌, refl}
use mathlib.Core.List.{[], ◌∷◌, ◌++◌}
use mathlib.Core.Option.{some}
use lib.ListN.{replicate}
use Rattle.rules.specs.Sizes.{full_count}
use Rattle.rules.specs.Basics.{Bytes}
use Rattle.rules.specs.Ledger.{Ledger, fresh_ledger}
use Rattle.rules.specs.Gate.{Outcome, refused_near, refused, permitted, finished, request, load, clear, narrow, expand}
use Rattle.rules.proofs.Computing.{computing}
use Rattle.rules.proofs.Samples.{rec, timed, hash, open_group, sign_action, sign_group, limited, certified_group, sign, counting, reducible, reduce, enlarge, hint, blob, cardset, softcard, archive, stored_archive, on_devices, stored_recovery, hint_to}
use Rattle.rules.proofs.Examples.{ledger_of}

-- a request of a fresh ledger loaded at 0
abbrev asks : Bytes → Bytes → Outcome
asks acl req = request (load fresh_ledger 0).ledger (hash 0) acl req

-- the request is refused, and the ledger is unchanged
abbrev refuses : ℕ → Outcome
refuses n = refused (load fresh_ledger 0).ledger n

-- "3 OpPermissions: 4-5, sixteen bits"
abbrev permitting : ℕ → ℕ → Bytes
permitting high low = rec (3 ∷ 0 ∷ 0 ∷ 0 ∷ high ∷ low ∷ [])

abbrev decrypt_group : Bytes
decrypt_group = open_group ++ permitting 2 0

-- "2 limit: byte 4 sort .., byte 5 counter .., 8-11 maximum"
abbrev limit : ℕ → ℕ → ℕ → Bytes
limit sort counter maximum = rec (2 ∷ 0 ∷ 0 ∷ 0 ∷ sort ∷ counter ∷ 0 ∷ 0 ∷ 0 ∷ 0 ∷ 0 ∷ maximum ∷ [])

-- a certificate by the certifier of certified_group, at its mechanism
abbrev right_mechanism : Bytes
right_mechanism = rec (9 ∷ 0 ∷ 0 ∷ 0 ∷ [] ++ hash 9 ++ (0 ∷ 1 ∷ []))

-- a ledger in use: group counts 3 and 5, counter 0 at 7
abbrev used : Ledger
used = ledger_of (3 ∷ 5 ∷ []) (7 ∷ []) 0 0

-- a group that names counters 2 and 1 and has a limit of each other sort
abbrev four : Bytes
four = open_group ++ limit 1 0 9 ++ limit 2 2 9 ++ limit 2 1 9 ++ limit 3 0 9 ++ sign_action

-- Which group replies, and what it is charged.
pub record ChargeRows : Type 0 where
  pub second_group : asks (decrypt_group ++ sign_group) (sign 5) ≡ permitted 1 (ledger_of (0 ∷ 1 ∷ []) [] 0 5)
  pub lowest_group_lem : asks (sign_group ++ sign_group) (sign 5) ≡ permitted 0 (ledger_of (1 ∷ []) [] 0 5)
  pub first_spent : asks (limited 1 0 ++ sign_group) (sign 5) ≡ permitted 1 (ledger_of (0 ∷ 1 ∷ []) [] 0 5)
  pub first_uncertified : asks (certified_group ++ sign_group) (sign 5) ≡ permitted 1 (ledger_of (0 ∷ 1 ∷ []) [] 0 5)
  pub first_certified : asks (certified_group ++ sign_group) (sign 5 ++ right_mechanism) ≡ permitted 0 (ledger_of (1 ∷ []) [] 0 5)
  pub named_counters_only : asks (decrypt_group ++ four) (sign 5) ≡ permitted 1 (ledger_of (0 ∷ 1 ∷ []) (0 ∷ 1 ∷ 1 ∷ []) 0 5)
  pub counted_on : request used (hash 0) (decrypt_group ++ counting 0 9) (sign 5) ≡ permitted 1 (ledger_of (3 ∷ 6 ∷ []) (8 ∷ []) 0 5)
  pub spent_counter : request used (hash 0) (counting 0 7) (sign 5) ≡ refused_near used 7 (some 0)
  pub spent_count : request used (hash 0) (limited 1 3) (sign 5) ≡ refused_near used 7 (some 0)
  pub nearest_uncertified : request used (hash 0) (decrypt_group ++ certified_group ++ certified_group) (sign 5) ≡ refused_near used 6 (some 1)
  pub nearest_spent : request used (hash 0) (decrypt_group ++ certified_group ++ limited 1 0 ++ limited 1 0) (sign 5) ≡ refused_near used 7 (some 2)
  pub full_count_lem : request (ledger_of (full_count ∷ []) [] 0 0) (hash 0) sign_group (sign 5) ≡ refused_near (ledger_of (full_count ∷ []) [] 0 0) 7 (some 0)
  pub almost_full_count : request (ledger_of ((full_count - 1) ∷ []) [] 0 0) (hash 0) sign_group (sign 5) ≡ permitted 0 (ledger_of (full_count ∷ []) [] 0 5)
  pub before_last_time : request (ledger_of [] [] 3 9) (hash 0) sign_group (sign 8) ≡ refused (ledger_of [] [] 3 9) 4
  pub at_last_time : request (ledger_of [] [] 3 9) (hash 0) sign_group (sign 9) ≡ permitted 0 (ledger_of (1 ∷ []) [] 3 9)
  pub load_again : load (ledger_of (3 ∷ 5 ∷ []) (7 ∷ []) 4 8) 6 ≡ finished (ledger_of [] (7 ∷ []) 6 6)
  pub clear_in_use : clear (ledger_of (3 ∷ 5 ∷ []) (7 ∷ 7 ∷ 7 ∷ []) 4 8) 1 ≡ finished (ledger_of (3 ∷ 5 ∷ []) (7 ∷ 0 ∷ 7 ∷ []) 4 8)

pub charge_rows : ChargeRows
unfolding computing
charge_rows =
    record {
      second_group = refl;
      lowest_group_lem = refl;
      first_spent = refl;
      first_uncertified = refl;
      first_certified = refl;
      named_counters_only = refl;
      counted_on = refl;
      spent_counter = refl;
      spent_count = refl;
      nearest_uncertified = refl;
      nearest_spent = refl;
      full_count_lem = refl;
      almost_full_count = refl;
      before_last_time = refl;
      at_last_time = refl;
      load_again = refl;
      clear_in_use = refl;
    }

-- "7 blob, flag 0 token used, 4-23 module key hash, 24-43 token hash, 44-51 token parameters"
abbrev direct : Bytes → Bytes
direct key = timed (7 ∷ 0 ∷ 0 ∷ 0 ∷ [] ++ key) 5

abbrev under_token : Bytes → Bytes → Bytes
under_token key parameters = timed (7 ∷ 0 ∷ 0 ∷ 1 ∷ [] ++ key ++ hash 20 ++ parameters) 5

-- "01, then nineteen zero bytes"
abbrev null_key : Bytes
null_key = 1 ∷ replicate 19 0

-- a MakeBlob action with these flags and no hash
abbrev plain_blob : ℕ → Bytes
plain_blob flags = open_group ++ rec (4 ∷ 0 ∷ 0 ∷ flags ∷ [])

-- "8 recovery blob, 4-23 key hash, 24-25 mechanism"
abbrev recovery : ℕ → ℕ → Bytes
recovery key mechanism = timed (8 ∷ 0 ∷ 0 ∷ 0 ∷ [] ++ hash key ++ (0 ∷ mechanism ∷ [])) 5

-- recovery blobs stored under this record of kind 15
abbrev storing : Bytes → Bytes
storing file = stored_archive ++ file

-- "a device mask (4-7, flag 0) and an ACL template hash (8-27, flag 1)": neither, a template alone, device 0 with a template
abbrev anywhere : Bytes
anywhere = rec (15 ∷ [])

abbrev template : ℕ → Bytes
template n = rec (15 ∷ 0 ∷ 0 ∷ 2 ∷ 0 ∷ 0 ∷ 0 ∷ 0 ∷ [] ++ hash n)

abbrev device_and_template : ℕ → Bytes
device_and_template n = rec (15 ∷ 0 ∷ 0 ∷ 3 ∷ 0 ∷ 0 ∷ 0 ∷ 1 ∷ [] ++ hash n)

-- a direct blob under KM0 that is to be stored
abbrev stored_direct : Bytes
stored_direct = timed (7 ∷ 0 ∷ 0 ∷ 64 ∷ [] ++ hash 0) 5

-- a charge of group 0 of a fresh ledger
abbrev permits : Outcome
permits = permitted 0 (ledger_of (1 ∷ []) [] 0 5)

-- "Blob: every present restriction holds." "Recovery blob: same mechanism, and same key hash if kahash is present."
pub record BlobRows : Type 0 where
  pub direct_under_km0 : asks (plain_blob 1) (direct (hash 0)) ≡ permits
  pub direct_under_another : asks (plain_blob 1) (direct (hash 6)) ≡ refuses 5
  pub direct_non_km0 : asks (plain_blob 3) (direct (hash 6)) ≡ permits
  pub direct_without_km_only : asks (plain_blob 2) (direct (hash 0)) ≡ refuses 5
  pub direct_with_kthash : asks (open_group ++ blob 15 (hash 20) []) (direct (hash 6)) ≡ refuses 5
  pub direct_with_ktparams : asks (open_group ++ blob 23 (hash 0) cardset) (direct (hash 6)) ≡ refuses 5
  pub kmhash_another : asks (open_group ++ blob 7 (hash 0) []) (direct (hash 7)) ≡ refuses 5
  pub token_as_given : asks (open_group ++ blob 30 (hash 20) cardset) (under_token (hash 6) cardset) ≡ permits
  pub token_soft : asks (open_group ++ blob 30 (hash 20) cardset) (under_token (hash 6) softcard) ≡ refuses 5
  pub token_another : asks (open_group ++ blob 30 (hash 21) cardset) (under_token (hash 6) cardset) ≡ refuses 5
  pub token_tighter : asks (open_group ++ blob 30 (hash 20) softcard) (under_token (hash 6) (0 ∷ 0 ∷ 2 ∷ 2 ∷ 0 ∷ 0 ∷ 0 ∷ 9 ∷ [])) ≡ permits
  pub token_fewer_shares : asks (open_group ++ blob 30 (hash 20) (0 ∷ 0 ∷ 2 ∷ 2 ∷ 0 ∷ 0 ∷ 0 ∷ 0 ∷ [])) (under_token (hash 6) cardset) ≡ refuses 5
  pub token_more_in_all : asks (open_group ++ blob 30 (hash 20) cardset) (under_token (hash 6) (0 ∷ 0 ∷ 1 ∷ 3 ∷ 0 ∷ 0 ∷ 0 ∷ 0 ∷ [])) ≡ refuses 5
  pub token_no_time_limit : asks (open_group ++ blob 30 (hash 20) (0 ∷ 0 ∷ 1 ∷ 2 ∷ 0 ∷ 0 ∷ 0 ∷ 9 ∷ [])) (under_token (hash 6) cardset) ≡ refuses 5
  pub null_key_direct : request fresh_ledger null_key (plain_blob 3) (direct null_key) ≡ refused fresh_ledger 5
  pub null_key_token : request fresh_ledger null_key (plain_blob 2) (under_token null_key cardset) ≡ refused fresh_ledger 5
  pub null_key_token_allowed : request fresh_ledger null_key (plain_blob 34) (under_token null_key cardset) ≡ permits
  pub recovery_same : asks (open_group ++ archive) (recovery 7 2) ≡ permits
  pub recovery_another_key : asks (open_group ++ archive) (recovery 8 2) ≡ refuses 5
  pub recovery_another_mechanism : asks (open_group ++ archive) (recovery 7 1) ≡ refuses 5
  pub stored_anywhere : asks (open_group ++ storing anywhere) (stored_recovery ++ on_devices 8) ≡ permits
  pub template_same : asks (open_group ++ storing (template 3)) (stored_recovery ++ device_and_template 3) ≡ permits
  pub template_another : asks (open_group ++ storing (template 3)) (stored_recovery ++ device_and_template 4) ≡ refuses 5
  pub template_unused : asks (open_group ++ storing (template 3)) (stored_recovery ++ on_devices 1) ≡ refuses 5
  pub template_unrestricted : asks (open_group ++ storing (on_devices 1)) (stored_recovery ++ device_and_template 3) ≡ permits
  pub no_device : asks (open_group ++ storing anywhere) (stored_recovery ++ anywhere) ≡ refuses 2
  pub stored_working_blob : asks (plain_blob 65 ++ on_devices 5) (stored_direct ++ on_devices 4) ≡ permits
  pub working_device_outside : asks (plain_blob 65 ++ on_devices 5) (stored_direct ++ on_devices 2) ≡ refuses 5
  pub working_template_same : asks (plain_blob 65 ++ template 3) (stored_direct ++ device_and_template 3) ≡ permits
  pub working_template_another : asks (plain_blob 65 ++ template 3) (stored_direct ++ device_and_template 4) ≡ refuses 5
  pub returned_working_blob : asks (plain_blob 65 ++ on_devices 1) (direct (hash 0)) ≡ refuses 5

pub blob_rows : BlobRows
unfolding computing
blob_rows =
    record {
      direct_under_km0 = refl;
      direct_under_another = refl;
      direct_non_km0 = refl;
      direct_without_km_only = refl;
      direct_with_kthash = refl;
      direct_with_ktparams = refl;
      kmhash_another = refl;
      token_as_given = refl;
      token_soft = refl;
      token_another = refl;
      token_tighter = refl;
      token_fewer_shares = refl;
      token_more_in_all = refl;
      token_no_time_limit = refl;
      null_key_direct = refl;
      null_key_token = refl;
      null_key_token_allowed = refl;
      recovery_same = refl;
      recovery_another_key = refl;
      recovery_another_mechanism = refl;
      stored_anywhere = refl;
      template_same = refl;
      template_another = refl;
      template_unused = refl;
      template_unrestricted = refl;
      no_device = refl;
      stored_working_blob = refl;
      working_device_outside = refl;
      working_template_same = refl;
      working_template_another = refl;
      returned_working_blob = refl;
    }

-- a narrowing of a ledger in use: old ACL, new ACL, hints
abbrev narrows : Bytes → Bytes → Bytes → Outcome
narrows acl new hints = narrow used (hash 0) acl (reduce 6) new hints

-- a hint for a group of several actions
abbrev hint_for : ℕ → Bytes → Bytes
hint_for source actions = rec (13 ∷ 0 ∷ 0 ∷ 0 ∷ source ∷ 0 ∷ 0 ∷ 0 ∷ [] ++ actions)

-- Sign and ReduceACL, under a limit
abbrev reducible_under : Bytes → Bytes
reducible_under limits = open_group ++ limits ++ permitting 0 0x14

abbrev sign_under : Bytes → Bytes
sign_under limits = open_group ++ limits ++ sign_action

-- certified by the certifier of certified_group
abbrev reducible_certified : Bytes
reducible_certified = rec (1 ∷ 0 ∷ 0 ∷ 3 ∷ [] ++ hash 9 ++ (0 ∷ 1 ∷ [])) ++ permitting 0 0x14

-- "Each new group takes its source's count after charging"; each breach once; expansions.
pub record ReplaceRows : Type 0 where
  pub first_dropped : narrows (reducible ++ reducible) sign_group (hint 1) ≡ permitted 0 (ledger_of (5 ∷ []) (7 ∷ []) 0 6)
  pub charged_then_carried : narrows (sign_group ++ reducible) sign_group (hint 1) ≡ permitted 1 (ledger_of (6 ∷ []) (7 ∷ []) 0 6)
  pub second_dropped : narrows (reducible ++ reducible) sign_group (hint 0) ≡ permitted 0 (ledger_of (4 ∷ []) (7 ∷ []) 0 6)
  pub both_kept : narrows (reducible ++ reducible) (sign_group ++ sign_group) (hint 0 ++ hint 1) ≡ permitted 0 (ledger_of (4 ∷ 5 ∷ []) (7 ∷ []) 0 6)
  pub swapped : narrows (reducible ++ reducible) (sign_group ++ sign_group) (hint 1 ++ hint 0) ≡ refused used 8
  pub none_left : narrows reducible [] [] ≡ permitted 0 (ledger_of [] (7 ∷ []) 0 6)
  pub counter_charged_lem : narrows (reducible_under (limit 2 0 9)) (sign_under (limit 2 0 8)) (hint 0) ≡ permitted 0 (ledger_of (4 ∷ []) (8 ∷ []) 0 6)
  pub hint_too_few : narrows reducible sign_group [] ≡ refused used 8
  pub source_missing : narrows reducible sign_group (hint 1) ≡ refused used 8
  pub action_missing : narrows reducible sign_group (hint_for 0 (1 ∷ [])) ≡ refused used 8
  pub action_byte_unused : narrows reducible sign_group (hint_for 0 (0 ∷ 1 ∷ [])) ≡ refused used 8
  pub two_actions_from_one : narrows reducible (sign_group ++ sign_action) (hint 0) ≡ permitted 0 (ledger_of (4 ∷ []) (7 ∷ []) 0 6)
  pub bit_added : narrows reducible (open_group ++ permitting 0 0x30) (hint 0) ≡ refused used 8
  pub another_kind : narrows reducible (plain_blob 1) (hint 0) ≡ refused used 8
  pub mask_added : narrows (reducible ++ storing anywhere) (open_group ++ storing (on_devices 1)) (hint_to 0 1) ≡ permitted 0 (ledger_of (4 ∷ []) (7 ∷ []) 0 6)
  pub mask_dropped : narrows (reducible ++ storing (on_devices 1)) (open_group ++ storing anywhere) (hint_to 0 1) ≡ refused used 8
  pub template_added : narrows (reducible ++ storing (on_devices 1)) (open_group ++ storing (device_and_template 3)) (hint_to 0 1) ≡ permitted 0 (ledger_of (4 ∷ []) (7 ∷ []) 0 6)
  pub template_changed : narrows (reducible ++ storing (template 3)) (open_group ++ storing (template 4)) (hint_to 0 1) ≡ refused used 8
  pub template_dropped : narrows (reducible ++ storing (template 3)) (open_group ++ storing anywhere) (hint_to 0 1) ≡ refused used 8
  pub blobfile_added : narrows (reducible ++ archive) (open_group ++ storing anywhere) (hint_to 0 1) ≡ refused used 8
  pub limit_dropped : narrows (reducible_under (limit 2 0 9)) sign_group (hint 0) ≡ refused used 8
  pub limit_larger : narrows (reducible_under (limit 2 0 9)) (sign_under (limit 2 0 10)) (hint 0) ≡ refused used 8
  pub limit_of_another_counter : narrows (reducible_under (limit 2 0 9)) (sign_under (limit 2 1 9)) (hint 0) ≡ refused used 8
  pub limit_added_lem : narrows reducible (sign_under (limit 1 0 9)) (hint 0) ≡ permitted 0 (ledger_of (4 ∷ []) (7 ∷ []) 0 6)
  pub certifier_added : narrows reducible certified_group (hint 0) ≡ permitted 0 (ledger_of (4 ∷ []) (7 ∷ []) 0 6)
  pub certifier_dropped : narrow used (hash 0) reducible_certified (reduce 6 ++ right_mechanism) sign_group (hint 0) ≡ refused used 8
  pub certifier_kept_lem : narrow used (hash 0) reducible_certified (reduce 6 ++ right_mechanism) certified_group (hint 0) ≡ permitted 0 (ledger_of (4 ∷ []) (7 ∷ []) 0 6)
  pub request_before_hints : narrow used (hash 0) sign_group (reduce 6) sign_group [] ≡ refused used 5
  pub narrowing_uncertified : narrow used (hash 0) (sign_group ++ reducible_certified) (reduce 6) sign_group (hint 1) ≡ refused_near used 6 (some 1)
  pub by_expand_acl : narrow used (hash 0) reducible (enlarge 6) sign_group (hint 0) ≡ refused used 2
  pub expansion : expand used (hash 0) (decrypt_group ++ open_group ++ limit 2 0 9 ++ permitting 0x10 0) (enlarge 6) (sign_group ++ sign_group) ≡ permitted 1 (ledger_of [] (8 ∷ []) 0 6)
  pub expansion_by_reduce_acl : expand used (hash 0) (open_group ++ permitting 0x10 4) (reduce 6) sign_group ≡ refused used 2
  pub expansion_not_admitted : expand used (hash 0) reducible (enlarge 6) sign_group ≡ refused used 5
  pub expansion_spent : expand used (hash 0) (decrypt_group ++ open_group ++ limit 2 0 7 ++ permitting 0x10 0) (enlarge 6) sign_group ≡ refused_near used 7 (some 1)

pub replace_rows : ReplaceRows
unfolding computing
replace_rows =
    record {
      first_dropped = refl;
      charged_then_carried = refl;
      second_dropped = refl;
      both_kept = refl;
      swapped = refl;
      none_left = refl;
      counter_charged_lem = refl;
      hint_too_few = refl;
      source_missing = refl;
      action_missing = refl;
      action_byte_unused = refl;
      two_actions_from_one = refl;
      bit_added = refl;
      another_kind = refl;
      mask_added = refl;
      mask_dropped = refl;
      template_added = refl;
      template_changed = refl;
      template_dropped = refl;
      blobfile_added = refl;
      limit_dropped = refl;
      limit_larger = refl;
      limit_of_another_counter = refl;
      limit_added_lem = refl;
      certifier_added = refl;
      certifier_dropped = refl;
      certifier_kept_lem = refl;
      request_before_hints = refl;
      narrowing_uncertified = refl;
      by_expand_acl = refl;
      expansion = refl;
      expansion_by_reduce_acl = refl;
      expansion_not_admitted = refl;
      expansion_spent = refl;
    }
