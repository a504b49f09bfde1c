use Prim.Native.Nat.{◌≤◌}
use mathlib.Core.Path.{◌≡◌}
use lib.ListN.{drop}
use Rattle.rules.specs.Basics.{scan}
use Rattle.rules.specs.Request.{presented_record_fault, after_presented, presented_end, presented_fault}
use Rattle.request_reader.proofs.presented_records.Given as goal

abbrev pub invariant-loop-rec : goal.invariant-loop-rec
invariant-loop-rec l = record {
  certificates_read : l.certs ≤ l.rec-index;
  delegations_read : l.dels ≤ l.rec-index;
  left : scan presented_record_fault after_presented presented_end (record { certificates = l.certs; delegations = l.dels }) (drop l.rec-index l.rec-items) ≡ presented_fault l.rec-items;
}
