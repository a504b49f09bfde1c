use mathlib.Core.Path.{◌≡◌}
use lib.ListN.{drop}
use Rattle.acl_reader.specs.Places.{acl_state_as}
use Rattle.text_rules.specs.Kinds.{acl_kind}
use Rattle.reason_files.specs.Places.{records_place}
use Rattle.reason_files.proofs.acl_records.Given as goal

abbrev pub invariant-loop-index : goal.invariant-loop-index
invariant-loop-index l = records_place acl_kind (acl_state_as l.state) l.index (drop l.index l.records) ≡ records_place acl_kind (acl_state_as l.initial.state) 0 l.records
