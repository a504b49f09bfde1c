use Prim.Native.Nat.{◌-◌, ◌≤◌}
use mathlib.Core.Path.{◌≡◌}
use lib.ListN.{length}
use Rattle.text_rules.specs.OtherDecoding.{record_of}
use Rattle.text_rules.specs.Listing.{bytes_by}
use Rattle.text_bytes.proofs.Laws.{Filled}
use Rattle.text_acl.proofs.Reading.{records_left}
use Rattle.text_files.proofs.put_records.Given as goal

abbrev pub invariant-loop-at : goal.invariant-loop-at
invariant-loop-at l = (l.at ≤ length l.text) × (length l.buffer ≡ length l.initial.buffer) × Filled (bytes_by record_of l.text) (records_left record_of l.text l.at) 0 l.initial.buffer l.buffer l.end

abbrev pub decreases-loop-at : goal.decreases-loop-at
decreases-loop-at l = length l.text - l.at
