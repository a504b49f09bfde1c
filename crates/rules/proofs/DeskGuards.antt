-- Rows of the desk that no example has: each step failing once where all else passes, approach 1, the officer's group, refusal 11. A row is a field,
-- so that one that does not hold is named. The bundle is built once, and a row damages it.
use Prim.Native.Nat.{ℕ, ◌+◌, ◌-◌, ◌*◌}
use mathlib.Core.Path.{◌≡◌, refl}
use mathlib.Core.List.{[], ◌∷◌, ◌++◌}
use mathlib.Core.Bool.{Bool, true, false}
use lib.ListN.{take, drop}
use Rattle.rules.specs.Sizes.{record_bytes}
use Rattle.rules.specs.Basics.{Bytes}
use Rattle.rules.specs.Suites.{suite}
use Rattle.rules.specs.Desk.{WV1, MSCV1, MSCV2, MSCV3, MSCV4, MSCV5, WBCV1, WBCV2, WBCV3, KGCV1, KGCV2, ACLV3, WB1, WB2, WB3, WB6, RB1, RB2, RB3, KV3, CSRL1, approach1, approach2, Verdict, accepted, failed, faulty, desk}
use Rattle.rules.proofs.Computing.{computing}
use Rattle.rules.proofs.Samples.{rec, repeated, hash, open_group, sign_group, certified_group, fact, signed_well, blob, cardset, archive, keyless}

-- "byte 4 suite, byte 5 approach 1 or 2, byte 6 bits .., byte 7 lowest protection"
abbrev policy : ℕ → ℕ → ℕ → ℕ → Bytes
policy suite approach bits lowest = rec (12 ∷ 0 ∷ 0 ∷ 0 ∷ suite ∷ approach ∷ bits ∷ lowest ∷ [])

-- a signature that is not good
abbrev signed_badly : ℕ → Bytes
signed_badly n = rec (11 ∷ 0 ∷ 0 ∷ 0 ∷ n ∷ 0 ∷ [])

-- A bundle of every record: fields 1 to 13, two listed keys, six good signatures, the policy.
abbrev whole : Bytes
whole =
    fact 1 (hash 1) ++ fact 2 (hash 1) ++ fact 3 (hash 3) ++ fact 4 (hash 4) ++ fact 5 (hash 4) ++ fact 6 (hash 6)
    ++ fact 7 (hash 7) ++ fact 8 (hash 8) ++ fact 9 (hash 8) ++ fact 10 (hash 8) ++ fact 11 (hash 11) ++ fact 12 (hash 12) ++ fact 13 (hash 13)
    ++ fact 14 (hash 5) ++ fact 14 (hash 6)
    ++ signed_well 1 ++ signed_well 2 ++ signed_well 3 ++ signed_well 4 ++ signed_well 5 ++ signed_well 6
    ++ policy 3 2 7 1

-- a bundle with other bytes in the place of one record, the first being 1
abbrev damage : ℕ → Bytes → Bytes → Bytes
damage at r b = take ((at - 1) * record_bytes) b ++ r ++ drop (at * record_bytes) b

abbrev damaged : ℕ → Bytes → Bytes
damaged at r = damage at r whole

-- a field, by its number, is that record; signatures follow, then the policy
abbrev signature_at : ℕ → ℕ
signature_at n = 15 + n

abbrev policy_at : ℕ
policy_at = 22

-- under approach 1
abbrev generation : Bytes
generation = damaged policy_at (policy 3 1 7 1)

-- without the world certificates
abbrev basic : Bytes
basic = damage (signature_at 3) [] (damage (signature_at 4) [] (damaged (signature_at 5) []))

-- a cardset action and a recovery action
abbrev fine : Bytes
fine = open_group ++ blob 28 (hash 20) cardset ++ archive

-- OpPermissions: ExportAsPlain
abbrev export : Bytes
export = rec (3 ∷ 0 ∷ 0 ∷ 0 ∷ 4 ∷ 0 ∷ [])

-- the officer's group: its certifier is field 4
abbrev officers : Bytes
officers = rec (1 ∷ 0 ∷ 0 ∷ 1 ∷ [] ++ hash 4)

-- an acceptance under approach 2
abbrev graded : ℕ → Bool → Verdict
graded protection recoverable = accepted (approach2 (record { protection = protection; recoverable = recoverable }))

-- "first failure answered": every step fails once where all else passes.
pub record StepRows : Type 0 where
  pub all_passes : desk whole fine ≡ graded 3 true
  pub wv1 : desk (damaged (signature_at 1) (signed_badly 1)) fine ≡ failed WV1
  pub wv1_field_1 : desk (damaged 1 []) fine ≡ failed WV1
  pub mscv1 : desk (damaged (signature_at 2) (signed_badly 2)) fine ≡ failed MSCV1
  pub mscv2 : desk (damaged 3 []) fine ≡ failed MSCV2
  pub mscv3 : desk (damaged 2 (fact 2 (hash 2))) fine ≡ failed MSCV3
  pub mscv4 : desk (damaged 5 (fact 5 (hash 5))) fine ≡ failed MSCV4
  pub mscv4_field_4 : desk (damaged 4 []) fine ≡ failed MSCV4
  pub mscv5 : desk (damaged 15 (fact 14 (hash 7))) fine ≡ failed MSCV5
  pub wbcv1 : desk (damaged (signature_at 3) (signed_badly 3)) fine ≡ failed WBCV1
  pub wbcv2 : desk (damaged (signature_at 4) (signed_badly 4)) fine ≡ failed WBCV2
  pub wbcv2_field_13 : desk (damaged 13 []) fine ≡ failed WBCV2
  pub wbcv3 : desk (damaged (signature_at 5) (signed_badly 5)) fine ≡ failed WBCV3
  pub wbcv3_field_11 : desk (damaged 11 []) fine ≡ failed WBCV3
  pub kgcv1 : desk (damaged (signature_at 6) (signed_badly 6)) fine ≡ failed KGCV1
  pub kgcv2 : desk (damaged 8 (fact 8 (hash 9))) fine ≡ failed KGCV2
  pub csrl1 : desk (damaged 10 (fact 10 (hash 10))) fine ≡ failed CSRL1
  pub aclv3 : desk whole (open_group ++ export) ≡ failed ACLV3
  pub aclv3_signing : desk (damaged policy_at (policy 3 2 6 1)) sign_group ≡ failed ACLV3
  pub wb1 : desk whole (open_group ++ blob 4 (hash 0) []) ≡ failed WB1
  pub wb2 : desk whole (open_group ++ rec (4 ∷ 0 ∷ 0 ∷ 5 ∷ [] ++ hash 5)) ≡ failed WB2
  pub wb3 : desk whole (open_group ++ blob 37 (hash 0) []) ≡ failed WB3
  pub wb6 : desk whole (open_group ++ blob 12 (hash 20) []) ≡ failed WB6
  pub rb1 : desk (damaged (signature_at 5) []) fine ≡ failed RB1
  pub rb2 : desk whole (open_group ++ rec (5 ∷ 0 ∷ 0 ∷ 1 ∷ [] ++ hash 6 ++ (0 ∷ 2 ∷ []))) ≡ failed RB2
  pub rb2_without_key : desk whole (certified_group ++ keyless) ≡ failed RB2
  pub rb3 : desk whole (open_group ++ rec (5 ∷ 0 ∷ 0 ∷ 1 ∷ [] ++ hash 7 ++ (0 ∷ 1 ∷ []))) ≡ failed RB3
  pub rb3_suite_5 : desk (damaged policy_at (policy 5 2 7 1)) fine ≡ failed RB3
  pub kv3 : desk (damaged policy_at (policy 3 2 7 4)) fine ≡ failed KV3

pub step_rows : StepRows
unfolding computing
step_rows =
    record {
      all_passes = refl;
      wv1 = refl;
      wv1_field_1 = refl;
      mscv1 = refl;
      mscv2 = refl;
      mscv3 = refl;
      mscv4 = refl;
      mscv4_field_4 = refl;
      mscv5 = refl;
      wbcv1 = refl;
      wbcv2 = refl;
      wbcv2_field_13 = refl;
      wbcv3 = refl;
      wbcv3_field_11 = refl;
      kgcv1 = refl;
      kgcv2 = refl;
      csrl1 = refl;
      aclv3 = refl;
      aclv3_signing = refl;
      wb1 = refl;
      wb2 = refl;
      wb3 = refl;
      wb6 = refl;
      rb1 = refl;
      rb2 = refl;
      rb2_without_key = refl;
      rb3 = refl;
      rb3_suite_5 = refl;
      kv3 = refl;
    }

-- "Approach 1 runs WV1, MSCV1, MSCV2, KGCV1, KGCV2, CSRL1; the ACL file is still read."
pub record ApproachRows : Type 0 where
  pub accepts : desk generation (open_group ++ export) ≡ accepted approach1
  pub wv1 : desk (damage (signature_at 1) (signed_badly 1) generation) fine ≡ failed WV1
  pub mscv1 : desk (damage (signature_at 2) (signed_badly 2) generation) fine ≡ failed MSCV1
  pub mscv2 : desk (damage 3 [] generation) fine ≡ failed MSCV2
  pub mscv3_skipped : desk (damage 2 (fact 2 (hash 2)) generation) fine ≡ accepted approach1
  pub wbcv1_skipped : desk (damage (signature_at 3) (signed_badly 3) generation) fine ≡ accepted approach1
  pub kgcv1 : desk (damage (signature_at 6) (signed_badly 6) generation) fine ≡ failed KGCV1
  pub kgcv2 : desk (damage 8 (fact 8 (hash 9)) generation) fine ≡ failed KGCV2
  pub csrl1 : desk (damage 10 (fact 10 (hash 10)) generation) fine ≡ failed CSRL1
  pub acl_read : desk generation (sign_group ++ rec (2 ∷ [])) ≡ faulty 2

pub approach_rows : ApproachRows
unfolding computing
approach_rows =
    record {
      accepts = refl;
      wv1 = refl;
      mscv1 = refl;
      mscv2 = refl;
      mscv3_skipped = refl;
      wbcv1_skipped = refl;
      kgcv1 = refl;
      kgcv2 = refl;
      csrl1 = refl;
      acl_read = refl;
    }

-- The officer's group, trust and grading.
pub record GradeRows : Type 0 where
  pub officers_export : desk whole (officers ++ export) ≡ graded 4 true
  pub officers_then_cardset : desk whole (officers ++ blob 5 (hash 0) [] ++ open_group ++ blob 28 (hash 20) cardset) ≡ graded 3 true
  pub no_field_4 : desk (damage 4 [] (damage 5 [] basic)) (officers ++ export) ≡ failed ACLV3
  pub empty_acl : desk whole [] ≡ graded 4 false
  pub trusted_by_4_alone : desk (damaged (signature_at 3) []) fine ≡ graded 3 true
  pub trusted_by_3_alone : desk (damaged (signature_at 4) []) fine ≡ graded 3 true
  pub no_csr : desk (damage 10 [] (damaged policy_at (policy 3 2 3 1))) fine ≡ graded 3 true
  pub suite_5 : desk (damaged policy_at (policy 5 2 7 1)) (open_group ++ rec (5 ∷ 0 ∷ 0 ∷ 1 ∷ [] ++ hash 7 ++ (0 ∷ 4 ∷ []))) ≡ graded 4 true

pub grade_rows : GradeRows
unfolding computing
grade_rows =
    record {
      officers_export = refl;
      officers_then_cardset = refl;
      no_field_4 = refl;
      empty_acl = refl;
      trusted_by_4_alone = refl;
      trusted_by_3_alone = refl;
      no_csr = refl;
      suite_5 = refl;
    }

-- "1 over all inputs, then records from the first .. (desk: bundle, ACL) .. suite 11 after that".
pub record BundleRows : Type 0 where
  pub suite_0 : desk (damaged policy_at (policy 0 2 7 1)) fine ≡ faulty 11
  pub suite_6 : desk (damaged policy_at (policy 6 2 7 1)) fine ≡ faulty 11
  pub suite_6_approach_1 : desk (damaged policy_at (policy 6 1 7 1)) fine ≡ faulty 11
  pub suite_after_acl : desk (damaged policy_at (policy 0 2 7 1)) (rec (2 ∷ [])) ≡ faulty 2
  pub listed_33 : desk (damage 15 (repeated 32 (fact 14 (hash 6))) basic) fine ≡ faulty 3
  pub listed_32 : desk (damage 15 (repeated 31 (fact 14 (hash 6))) whole) fine ≡ graded 3 true
  pub no_policy : desk (damaged policy_at []) fine ≡ faulty 2
  pub two_policies : desk (damaged policy_at (policy 3 2 7 1 ++ policy 3 2 7 1)) fine ≡ faulty 2
  pub out_of_order : desk (damaged 2 (fact 3 (hash 1))) fine ≡ faulty 2
  pub not_whole_records : desk (whole ++ (0 ∷ [])) fine ≡ faulty 1
  pub length_before_records : desk (damaged policy_at []) (0 ∷ []) ≡ faulty 1

pub bundle_rows : BundleRows
unfolding computing
bundle_rows =
    record {
      suite_0 = refl;
      suite_6 = refl;
      suite_6_approach_1 = refl;
      suite_after_acl = refl;
      listed_33 = refl;
      listed_32 = refl;
      no_policy = refl;
      two_policies = refl;
      out_of_order = refl;
      not_whole_records = refl;
      length_before_records = refl;
    }
