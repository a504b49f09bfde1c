use Prim.Native.Nat.{◌*◌, ◌≤◌}
use Rattle.text_rules.specs.Words.{line_of}
use Rattle.text_acl.proofs.Writing.{Summed}
use Rattle.text_acl.proofs.listing_length.Given as goal

abbrev pub invariant-loop-rec : goal.invariant-loop-rec
invariant-loop-rec l = (l.total ≤ 256 * l.rec-index) × Summed line_of l.rec-items l.rec-index l.total
