-- A narrowing's hints are no more than an ACL has groups.
use Prim.Native.Nat.{◌≤◌, ◌*◌, ◌/◌, ◌%◌}
use native.Mathlib.Omega.{arith}
use mathlib.Core.Path.{◌≡◌, ◌∙◌}
use mathlib.Core.Option.{none}
use mathlib.Core.Bool.{true, ◌&&◌}
use borrow.Author.Tests.{leb-true}
use lib.ListN.{length, length-map}
use lib.Dec.{eqb, leb}
use Rattle.rules.specs.Sizes.{record_bytes, groups_max, acl_records, hint_records}
use Rattle.rules.specs.Numbers.{bad_length}
use Rattle.rules.specs.Basics.{Bytes, records, fits}
use Rattle.rules.specs.Request.{hint_of, hints_of}
use Rattle.rules.specs.Gate.{lengths_fit, narrow_files}
use Rattle.rules.proofs.Laws.{and_right, unless_passed, fault_none_every, chunks_length}

-- a hints file has at most as many hints as records
hints_few : (hints : Bytes) → fits hint_records hints ≡ true → length (hints_of hints) ≤ groups_max
unfolding records fits
hints_few hints e =
    let a = leb-true (length hints) (hint_records * record_bytes) (and_right (eqb (length hints % record_bytes) 0) (leb (length hints) (hint_records * record_bytes)) e) in
    let b : length (hints_of hints) ≡ length hints / 64 = length-map (records hints) hint_of ∙ chunks_length (length hints / 64) hints in
    omega arith

pub narrow_few : (km0 acl req new hints : Bytes) → narrow_files km0 acl req new hints ≡ none → length (hints_of hints) ≤ groups_max
narrow_few km0 acl req new hints e =
    let t = unless_passed (lengths_fit km0 acl req && fits acl_records new && fits hint_records hints) bad_length (fault_none_every _ e).0 in
    hints_few hints (and_right (lengths_fit km0 acl req && fits acl_records new) (fits hint_records hints) t)
