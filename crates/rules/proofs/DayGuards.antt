-- Rows of the day program: the four lines of document 01, and the one line of a bad file. A row is a field, so that one that does not hold is named.
use Prim.Native.Nat.{◌+◌}
use mathlib.Core.Path.{◌≡◌, refl}
use mathlib.Core.List.{[], ◌∷◌, ◌++◌}
use lib.ListN.{replicate}
use Rattle.rules.specs.Sizes.{day_records, groups_max, actions_max}
use Rattle.rules.specs.Basics.{Bytes, ascii}
use Rattle.rules.specs.Day.{day_lines}
use Rattle.rules.proofs.Computing.{computing}
use Rattle.rules.proofs.Samples.{rec, repeated, hash, open_group, sign_action, sign_group, limited, certified_group, counting, sign, decrypt, other_mechanism, stored_archive, on_devices, recovery, stored_recovery, keyless}

-- 825 records, seven fewer than the day takes: 48 groups that have blobs stored, then one for Sign
abbrev longest : Bytes
longest = repeated 48 (open_group ++ repeated actions_max (stored_archive ++ on_devices 5)) ++ open_group ++ repeated actions_max sign_action

-- "Two Sign groups, per load 1, then counter 3 maximum 2; four Signs"
abbrev two_groups : Bytes
two_groups = limited 1 1 ++ counting 3 2

abbrev four_signs : Bytes
four_signs = sign 1 ++ sign 2 ++ sign 3 ++ sign 4

-- what the program prints for an ACL and requests
abbrev prints : Bytes → Bytes → Bytes
prints acl requests = day_lines (hash 0) acl requests

-- "prints a line per request"; "More records (1) or a bad file or record: only `0 refuse` and the number."
pub record DayRows : Type 0 where
  pub four_lines : prints two_groups four_signs ≡ ascii "1 permit 0\n2 permit 1\n3 permit 1\n4 refuse 7 0\n"
  pub no_requests : prints two_groups [] ≡ []
  pub not_admitted_lem : prints sign_group (sign 1 ++ decrypt 2 ++ sign 3) ≡ ascii "1 permit 0\n2 refuse 5\n3 permit 0\n"
  pub nearest_of_two : prints (open_group ++ certified_group) (sign 1) ≡ ascii "1 refuse 6 1\n"
  pub one_of_two_spent : prints (limited 1 1 ++ certified_group) (sign 1 ++ sign 2) ≡ ascii "1 permit 0\n2 refuse 7 0\n"
  pub back_in_time : prints sign_group (sign 7 ++ sign 6 ++ sign 7) ≡ ascii "1 permit 0\n2 refuse 4\n3 permit 0\n"
  pub ten_lines : prints [] (repeated 10 (sign 1)) ≡ ascii "1 refuse 5\n2 refuse 5\n3 refuse 5\n4 refuse 5\n5 refuse 5\n6 refuse 5\n7 refuse 5\n8 refuse 5\n9 refuse 5\n10 refuse 5\n"
  pub km0_short : day_lines (replicate 19 0) two_groups four_signs ≡ ascii "0 refuse 1\n"
  pub acl_bad : prints (two_groups ++ rec []) four_signs ≡ ascii "0 refuse 2\n"
  pub acl_group_too_many : prints (repeated (groups_max + 1) open_group) four_signs ≡ ascii "0 refuse 3\n"
  pub acl_open_archive : prints (open_group ++ keyless) four_signs ≡ ascii "0 refuse 12\n"
  pub request_bad : prints two_groups (four_signs ++ rec []) ≡ ascii "0 refuse 2\n"
  pub certificate : prints two_groups (sign 1 ++ other_mechanism) ≡ ascii "0 refuse 2\n"
  pub requests_not_whole : prints two_groups (four_signs ++ (0 ∷ [])) ≡ ascii "0 refuse 1\n"
  pub requests_too_many : prints two_groups (repeated (day_records + 1) (sign 1)) ≡ ascii "0 refuse 1\n"
  pub acl_with_blobfile : prints (sign_group ++ stored_archive ++ on_devices 5) (sign 1 ++ recovery) ≡ ascii "1 permit 0\n2 refuse 5\n"
  pub flag_6 : prints (open_group ++ stored_archive ++ on_devices 5) stored_recovery ≡ ascii "0 refuse 2\n"
  pub acl_at_most : prints (longest ++ repeated 7 open_group) (sign 1) ≡ ascii "1 permit 48\n"
  pub acl_too_long : prints (longest ++ repeated 8 open_group) (sign 1) ≡ ascii "0 refuse 1\n"

pub day_rows : DayRows
unfolding computing
day_rows =
    record {
      four_lines = refl;
      no_requests = refl;
      not_admitted_lem = refl;
      nearest_of_two = refl;
      one_of_two_spent = refl;
      back_in_time = refl;
      ten_lines = refl;
      km0_short = refl;
      acl_bad = refl;
      acl_group_too_many = refl;
      acl_open_archive = refl;
      request_bad = refl;
      certificate = refl;
      requests_not_whole = refl;
      requests_too_many = refl;
      acl_with_blobfile = refl;
      flag_6 = refl;
      acl_at_most = refl;
      acl_too_long = refl;
    }
