use Prim.Native.Nat.{◌*◌, ◌≤◌}
use Rattle.text_rules.specs.OtherWords.{record_line}
use Rattle.text_acl.proofs.Writing.{Summed}
use Rattle.text_files.proofs.text_length.Given as goal

abbrev pub invariant-loop-rec : goal.invariant-loop-rec
invariant-loop-rec l = (l.total ≤ 320 * l.rec-index) × Summed record_line l.rec-items l.rec-index l.total
