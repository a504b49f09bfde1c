use Prim.Native.Nat.{◌≤◌}
use mathlib.Core.Path.{◌≡◌}
use lib.ListN.{drop}
use Rattle.rules.specs.Sizes.{listed_max}
use Rattle.rules.specs.Basics.{scan}
use Rattle.rules.specs.Bundle.{bundle_record_fault, after_bundle_record, bundle_end, bundle_fault}
use Rattle.bundle_reader.proofs.bundle_records.Given as goal

abbrev pub invariant-loop-rec : goal.invariant-loop-rec
invariant-loop-rec l = record {
  few : l.listed ≤ listed_max;
  left : scan bundle_record_fault after_bundle_record bundle_end (record { last = l.last; listed_count = l.listed }) (drop l.rec-index l.rec-items) ≡ bundle_fault l.rec-items;
}
