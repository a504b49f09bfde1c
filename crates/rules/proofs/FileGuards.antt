-- Rows of files that are refused, and of the largest that are not: lengths (1), layouts and places (2), one too many (3), and the order of these. A
-- row is a field, so that one that does not hold is named.
use Prim.Native.Nat.{ℕ, ◌+◌, ◌-◌}
use mathlib.Core.Path.{◌≡◌, refl}
use mathlib.Core.List.{[], ◌∷◌, ◌++◌}
use lib.ListN.{replicate}
use Rattle.rules.specs.Sizes.{groups_max, actions_max, counters_max, certificates_max, delegations_max, acl_records, hint_records}
use Rattle.rules.specs.Basics.{Bytes}
use Rattle.rules.specs.Ledger.{fresh_ledger}
use Rattle.rules.specs.Gate.{Outcome, refused, permitted, request, narrow, expand}
use Rattle.rules.proofs.Computing.{computing}
use Rattle.rules.proofs.Samples.{rec, repeated, timed, hash, open_group, sign_action, sign_group, sign, decrypt, counting, reducible, expandable, reduce, enlarge, hint, keyless, delegation, stored_archive, on_devices, recovery, stored_recovery}
use Rattle.rules.proofs.Examples.{ledger_of}

-- a request of a fresh ledger
abbrev asks : Bytes → Bytes → Outcome
asks acl req = request fresh_ledger (hash 0) acl req

-- the request is refused, and the ledger is unchanged
abbrev refuses : ℕ → Outcome
refuses n = refused fresh_ledger n

-- the request is permitted by group 0, which names no counter
abbrev permits : Outcome
permits = permitted 0 (ledger_of (1 ∷ []) [] 0 5)

-- "2 limit: byte 4 sort .., byte 5 counter .., 8-11 maximum"
abbrev limit : ℕ → ℕ → Bytes
limit sort counter = rec (2 ∷ 0 ∷ 0 ∷ 0 ∷ sort ∷ counter ∷ 0 ∷ 0 ∷ 0 ∷ 0 ∷ 0 ∷ 9 ∷ [])

abbrev sign_under : Bytes → Bytes
sign_under limits = open_group ++ limits ++ sign_action

-- "9 presented certificate: 4-23 key hash, 24-25 mechanism"
abbrev certificate : Bytes
certificate = rec (9 ∷ 0 ∷ 0 ∷ 0 ∷ [] ++ hash 9 ++ (0 ∷ 1 ∷ []))

-- Stored recovery blobs, and the longest request for one.
abbrev storing : Bytes
storing = open_group ++ stored_archive ++ on_devices 5

abbrev longest : Bytes
longest = stored_recovery ++ on_devices 4 ++ repeated certificates_max certificate ++ repeated delegations_max (delegation 9 13 0 16)

-- a record that is out of place in every file
abbrev stray : Bytes
stray = rec []

-- "Raise groups to 64", "4 limits and 8 actions per group"; "then at most 32 certificates"; delegations "at most 16 .., after the certificates";
-- "within one record 2 before 3".
pub record ManyRows : Type 0 where
  pub groups_at_most : asks (repeated (groups_max - 1) open_group ++ sign_group) (sign 5) ≡ permitted (groups_max - 1) (ledger_of (replicate (groups_max - 1) 0 ++ (1 ∷ [])) [] 0 5)
  pub group_too_many : asks (repeated (groups_max + 1) open_group) (sign 5) ≡ refuses 3
  pub forty_one_groups : asks (repeated 40 open_group ++ counting 255 9) (sign 5) ≡ permitted 40 (ledger_of (replicate 40 0 ++ (1 ∷ [])) (replicate 255 0 ++ (1 ∷ [])) 0 5)
  pub limits_at_most : asks (sign_under (limit 1 0 ++ limit 3 0 ++ limit 2 0 ++ limit 2 1)) (sign 5) ≡ permitted 0 (ledger_of (1 ∷ []) (1 ∷ 1 ∷ []) 0 5)
  pub limit_too_many : asks (sign_under (limit 1 0 ++ limit 3 0 ++ limit 2 0 ++ limit 2 1 ++ limit 2 2)) (sign 5) ≡ refuses 3
  pub limits_of_two_groups : asks (sign_under (limit 1 0 ++ limit 3 0 ++ limit 2 7) ++ sign_under (limit 1 0 ++ limit 3 0 ++ limit 2 7)) (decrypt 5) ≡ refuses 5
  pub actions_at_most : asks (open_group ++ repeated actions_max sign_action) (sign 5) ≡ permits
  pub actions_with_files : asks (sign_group ++ repeated (actions_max - 1) (stored_archive ++ on_devices 5)) (sign 5) ≡ permits
  pub action_too_many : asks (open_group ++ repeated (actions_max + 1) sign_action) (sign 5) ≡ refuses 3
  pub certificates_at_most : asks sign_group (sign 5 ++ repeated certificates_max certificate) ≡ permits
  pub certificate_too_many : asks sign_group (sign 5 ++ repeated (certificates_max + 1) certificate) ≡ refuses 3
  pub presented_at_most : asks sign_group (sign 5 ++ repeated certificates_max certificate ++ repeated delegations_max (delegation 9 13 0 16)) ≡ permits
  pub delegation_too_many : asks sign_group (sign 5 ++ repeated (delegations_max + 1) (delegation 9 13 0 16)) ≡ refuses 3
  pub malformed_before_too_many : asks (sign_under (limit 1 0 ++ limit 3 0 ++ limit 2 0 ++ limit 2 1 ++ limit 2 1)) (sign 5) ≡ refuses 2
  pub too_many_before_later_malformed : asks (repeated (groups_max + 1) open_group ++ stray) (sign 5) ≡ refuses 3
  pub new_acl_group_too_many : expand fresh_ledger (hash 0) expandable (enlarge 6) (repeated (groups_max + 1) open_group) ≡ refuses 3

pub many_rows : ManyRows
unfolding computing
many_rows =
    record {
      groups_at_most = refl;
      group_too_many = refl;
      forty_one_groups = refl;
      limits_at_most = refl;
      limit_too_many = refl;
      limits_of_two_groups = refl;
      actions_at_most = refl;
      actions_with_files = refl;
      action_too_many = refl;
      certificates_at_most = refl;
      certificate_too_many = refl;
      presented_at_most = refl;
      delegation_too_many = refl;
      malformed_before_too_many = refl;
      too_many_before_later_malformed = refl;
      new_acl_group_too_many = refl;
    }

-- "1 a file not whole records or over its greatest length; KM0 hash not 20 bytes".
pub record LengthRows : Type 0 where
  pub km0_19 : request fresh_ledger (replicate 19 0) sign_group (sign 5) ≡ refuses 1
  pub km0_21 : request fresh_ledger (replicate 21 0) sign_group (sign 5) ≡ refuses 1
  pub acl_not_whole : asks (sign_group ++ (0 ∷ [])) (sign 5) ≡ refuses 1
  pub acl_at_most : asks (repeated groups_max (open_group ++ limit 1 0 ++ limit 3 0 ++ limit 2 0 ++ limit 2 1 ++ repeated actions_max (stored_archive ++ on_devices 5))) (decrypt 5) ≡ refuses 5
  pub acl_too_long : asks (repeated (acl_records + 1) open_group) (sign 5) ≡ refuses 1
  pub request_not_whole : asks sign_group (sign 5 ++ (0 ∷ [])) ≡ refuses 1
  pub request_empty : asks sign_group [] ≡ refuses 2
  pub request_at_most : asks storing longest ≡ permits
  pub request_too_long : asks storing (longest ++ delegation 9 13 0 16) ≡ refuses 1
  pub new_acl_not_whole : narrow fresh_ledger (hash 0) reducible (reduce 6) (0 ∷ []) (hint 0) ≡ refuses 1
  pub hints_not_whole : narrow fresh_ledger (hash 0) reducible (reduce 6) sign_group (0 ∷ []) ≡ refuses 1
  pub hints_too_long : narrow fresh_ledger (hash 0) reducible (reduce 6) sign_group (repeated (hint_records + 1) (hint 0)) ≡ refuses 1
  pub expansion_not_whole : expand fresh_ledger (hash 0) expandable (enlarge 6) (0 ∷ []) ≡ refuses 1

pub length_rows : LengthRows
unfolding computing
length_rows =
    record {
      km0_19 = refl;
      km0_21 = refl;
      acl_not_whole = refl;
      acl_at_most = refl;
      acl_too_long = refl;
      request_not_whole = refl;
      request_empty = refl;
      request_at_most = refl;
      request_too_long = refl;
      new_acl_not_whole = refl;
      hints_not_whole = refl;
      hints_too_long = refl;
      expansion_not_whole = refl;
    }

-- "2 a record malformed or out of place": limits, places, mechanisms, token parameters, absent fields, kind 15.
pub record PlaceRows : Type 0 where
  pub counter_highest : asks (counting (counters_max - 1) 9) (sign 5) ≡ permitted 0 (ledger_of (1 ∷ []) (replicate (counters_max - 1) 0 ++ (1 ∷ [])) 0 5)
  pub counter_too_high : asks (counting counters_max 9) (sign 5) ≡ refuses 2
  pub counter_of_sort_1 : asks (sign_under (limit 1 1)) (sign 5) ≡ refuses 2
  pub sort_0 : asks (sign_under (limit 0 0)) (sign 5) ≡ refuses 2
  pub sort_4 : asks (sign_under (limit 4 0)) (sign 5) ≡ refuses 2
  pub sort_1_twice : asks (sign_under (limit 1 0 ++ limit 1 0)) (sign 5) ≡ refuses 2
  pub sort_3_twice : asks (sign_under (limit 3 0 ++ limit 3 0)) (sign 5) ≡ refuses 2
  pub counter_twice : asks (sign_under (limit 2 7 ++ limit 2 7)) (sign 5) ≡ refuses 2
  pub limit_first : asks (limit 1 0) (sign 5) ≡ refuses 2
  pub action_first : asks sign_action (sign 5) ≡ refuses 2
  pub limit_after_action : asks (sign_group ++ limit 1 0) (sign 5) ≡ refuses 2
  pub request_in_acl : asks (sign 5) (sign 5) ≡ refuses 2
  pub two_requests_lem : asks sign_group (sign 5 ++ sign 5) ≡ refuses 2
  pub certificate_first : asks sign_group certificate ≡ refuses 2
  pub permission_16 : asks sign_group (timed (6 ∷ 0 ∷ 0 ∷ 0 ∷ 16 ∷ []) 5) ≡ refuses 2
  pub mechanism_without_certifier : asks (rec (1 ∷ 0 ∷ 0 ∷ 2 ∷ [] ++ replicate 21 0 ++ (1 ∷ [])) ++ sign_action) (sign 5) ≡ refuses 2
  pub mechanism_0 : asks (rec (1 ∷ 0 ∷ 0 ∷ 3 ∷ [] ++ hash 9) ++ sign_action) (sign 5) ≡ refuses 2
  pub archive_mechanism_0 : asks (open_group ++ rec (5 ∷ 0 ∷ 0 ∷ 1 ∷ [] ++ hash 7)) (sign 5) ≡ refuses 2
  pub certificate_mechanism_0 : asks sign_group (sign 5 ++ rec (9 ∷ 0 ∷ 0 ∷ 0 ∷ [] ++ hash 9)) ≡ refuses 2
  pub recovery_mechanism_0 : asks sign_group (timed (8 ∷ 0 ∷ 0 ∷ 0 ∷ [] ++ hash 7) 5) ≡ refuses 2
  pub needed_0 : asks (open_group ++ rec (4 ∷ 0 ∷ 0 ∷ 16 ∷ [] ++ hash 0 ++ hash 0 ++ (0 ∷ 0 ∷ 0 ∷ 2 ∷ []))) (sign 5) ≡ refuses 2
  pub needed_over_total : asks (open_group ++ rec (4 ∷ 0 ∷ 0 ∷ 16 ∷ [] ++ hash 0 ++ hash 0 ++ (0 ∷ 0 ∷ 3 ∷ 2 ∷ []))) (sign 5) ≡ refuses 2
  pub total_65 : asks (open_group ++ rec (4 ∷ 0 ∷ 0 ∷ 16 ∷ [] ++ hash 0 ++ hash 0 ++ (0 ∷ 0 ∷ 1 ∷ 65 ∷ []))) (sign 5) ≡ refuses 2
  pub total_64 : asks (open_group ++ rec (4 ∷ 0 ∷ 0 ∷ 16 ∷ [] ++ hash 0 ++ hash 0 ++ (0 ∷ 0 ∷ 1 ∷ 64 ∷ []))) (sign 5) ≡ refuses 5
  pub absent_kmhash : asks (open_group ++ rec (4 ∷ 0 ∷ 0 ∷ 1 ∷ [] ++ hash 6)) (sign 5) ≡ refuses 2
  pub absent_token : asks sign_group (timed (7 ∷ 0 ∷ 0 ∷ 0 ∷ [] ++ hash 6 ++ hash 20) 5) ≡ refuses 2
  pub absent_devices : asks (open_group ++ stored_archive ++ rec (15 ∷ 0 ∷ 0 ∷ 0 ∷ 0 ∷ 0 ∷ 0 ∷ 1 ∷ [])) (sign 5) ≡ refuses 2
  pub absent_template : asks (open_group ++ stored_archive ++ rec (15 ∷ 0 ∷ 0 ∷ 0 ∷ 0 ∷ 0 ∷ 0 ∷ 0 ∷ [] ++ hash 3)) (sign 5) ≡ refuses 2
  pub file_due_at_end : asks (sign_group ++ stored_archive) (sign 5) ≡ refuses 2
  pub file_due_at_action : asks (open_group ++ stored_archive ++ sign_action) (sign 5) ≡ refuses 2
  pub file_due_at_group : asks (open_group ++ stored_archive ++ sign_group) (sign 5) ≡ refuses 2
  pub file_twice : asks (storing ++ on_devices 5) (stored_recovery ++ on_devices 4) ≡ refuses 2
  pub file_of_request_late : asks storing (stored_recovery ++ certificate ++ on_devices 4) ≡ refuses 2
  pub file_of_request_unannounced : asks storing (recovery ++ on_devices 4) ≡ refuses 2
  pub file_of_request_twice : asks storing (stored_recovery ++ on_devices 4 ++ on_devices 4) ≡ refuses 2

pub place_rows : PlaceRows
unfolding computing
place_rows =
    record {
      counter_highest = refl;
      counter_too_high = refl;
      counter_of_sort_1 = refl;
      sort_0 = refl;
      sort_4 = refl;
      sort_1_twice = refl;
      sort_3_twice = refl;
      counter_twice = refl;
      limit_first = refl;
      action_first = refl;
      limit_after_action = refl;
      request_in_acl = refl;
      two_requests_lem = refl;
      certificate_first = refl;
      permission_16 = refl;
      mechanism_without_certifier = refl;
      mechanism_0 = refl;
      archive_mechanism_0 = refl;
      certificate_mechanism_0 = refl;
      recovery_mechanism_0 = refl;
      needed_0 = refl;
      needed_over_total = refl;
      total_65 = refl;
      total_64 = refl;
      absent_kmhash = refl;
      absent_token = refl;
      absent_devices = refl;
      absent_template = refl;
      file_due_at_end = refl;
      file_due_at_action = refl;
      file_due_at_group = refl;
      file_twice = refl;
      file_of_request_late = refl;
      file_of_request_unannounced = refl;
      file_of_request_twice = refl;
    }

-- "Unlisted bytes, unlisted flag bits .. are zero."
pub record BlankRows : Type 0 where
  pub group : asks (timed (1 ∷ []) 1) (sign 5) ≡ refuses 2
  pub limit_record : asks (open_group ++ timed (2 ∷ 0 ∷ 0 ∷ 0 ∷ 1 ∷ []) 1) (sign 5) ≡ refuses 2
  pub permissions : asks (open_group ++ timed (3 ∷ []) 1) (sign 5) ≡ refuses 2
  pub blob_action : asks (open_group ++ timed (4 ∷ []) 1) (sign 5) ≡ refuses 2
  pub archive_action : asks (open_group ++ timed (5 ∷ 0 ∷ 0 ∷ 0 ∷ [] ++ hash 0 ++ (0 ∷ 1 ∷ [])) 1) (sign 5) ≡ refuses 2
  pub presented : asks sign_group (sign 5 ++ timed (9 ∷ 0 ∷ 0 ∷ 0 ∷ [] ++ hash 9 ++ (0 ∷ 1 ∷ [])) 1) ≡ refuses 2
  pub hint_record_lem : narrow fresh_ledger (hash 0) reducible (reduce 6) sign_group (timed (13 ∷ []) 1) ≡ refuses 2
  pub byte_1 : asks (rec (1 ∷ 1 ∷ []) ++ sign_action) (sign 5) ≡ refuses 2
  pub group_flag_2 : asks (rec (1 ∷ 0 ∷ 0 ∷ 4 ∷ []) ++ sign_action) (sign 5) ≡ refuses 2
  pub blob_flag_7 : asks (open_group ++ rec (4 ∷ 0 ∷ 0 ∷ 128 ∷ [])) (sign 5) ≡ refuses 2
  pub permissions_flag_6 : asks (open_group ++ rec (3 ∷ 0 ∷ 0 ∷ 64 ∷ []) ++ on_devices 5) (sign 5) ≡ refuses 2
  pub file_action : asks (open_group ++ stored_archive ++ timed (15 ∷ []) 1) (sign 5) ≡ refuses 2
  pub file_flag_2 : asks (open_group ++ stored_archive ++ rec (15 ∷ 0 ∷ 0 ∷ 4 ∷ [])) (sign 5) ≡ refuses 2
  pub archive_flag_1 : asks (open_group ++ rec (5 ∷ 0 ∷ 0 ∷ 2 ∷ [] ++ hash 0 ++ (0 ∷ 1 ∷ []))) (sign 5) ≡ refuses 2
  pub use_flag : asks sign_group (timed (6 ∷ 0 ∷ 0 ∷ 1 ∷ 4 ∷ []) 5) ≡ refuses 2

pub blank_rows : BlankRows
unfolding computing
blank_rows =
    record {
      group = refl;
      limit_record = refl;
      permissions = refl;
      blob_action = refl;
      archive_action = refl;
      presented = refl;
      hint_record_lem = refl;
      byte_1 = refl;
      group_flag_2 = refl;
      blob_flag_7 = refl;
      permissions_flag_6 = refl;
      file_action = refl;
      file_flag_2 = refl;
      archive_flag_1 = refl;
      use_flag = refl;
    }

-- "Order: 1 over all inputs, then records from the first, inputs in the order ACL, request with certificates, new ACL, hints .. then 4, 5, 6, 7, 8."
-- 12 is "given while the action record is read, after 2 and 3".
pub record OrderRows : Type 0 where
  pub lengths_first : narrow fresh_ledger (hash 0) stray (reduce 6) sign_group (0 ∷ []) ≡ refuses 1
  pub acl_before_request : asks (repeated (groups_max + 1) open_group) stray ≡ refuses 3
  pub request_before_new_acl : expand fresh_ledger (hash 0) expandable stray (repeated (groups_max + 1) open_group) ≡ refuses 2
  pub new_acl_before_hints : narrow fresh_ledger (hash 0) reducible (reduce 6) (repeated (groups_max + 1) open_group) stray ≡ refuses 3
  pub key_of_old_acl : expand fresh_ledger (hash 0) (expandable ++ keyless) (enlarge 6) stray ≡ refuses 12
  pub key_of_new_acl : narrow fresh_ledger (hash 0) reducible (reduce 6) (open_group ++ keyless) stray ≡ refuses 12
  pub key_before_later_records : asks (open_group ++ keyless ++ stray) (sign 5) ≡ refuses 12
  pub key_after_layout : asks (open_group ++ rec (5 ∷ [])) (sign 5) ≡ refuses 2
  pub key_after_room : asks (open_group ++ repeated actions_max sign_action ++ keyless) (sign 5) ≡ refuses 3
  pub hints_before_time : narrow (ledger_of [] [] 9 9) (hash 0) reducible (reduce 6) sign_group stray ≡ refused (ledger_of [] [] 9 9) 2
  pub request_before_time : request (ledger_of [] [] 9 9) (hash 0) sign_group (sign 5 ++ stray) ≡ refused (ledger_of [] [] 9 9) 2
  pub time_before_groups : request (ledger_of [] [] 9 9) (hash 0) [] (sign 5) ≡ refused (ledger_of [] [] 9 9) 4

pub order_rows : OrderRows
unfolding computing
order_rows =
    record {
      lengths_first = refl;
      acl_before_request = refl;
      request_before_new_acl = refl;
      new_acl_before_hints = refl;
      key_of_old_acl = refl;
      key_of_new_acl = refl;
      key_before_later_records = refl;
      key_after_layout = refl;
      key_after_room = refl;
      hints_before_time = refl;
      request_before_time = refl;
      time_before_groups = refl;
    }
