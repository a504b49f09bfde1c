use mathlib.Core.Path.{◌≡◌}
use lib.ListN.{length}
use Rattle.text_rules.specs.OtherWords.{record_line}
use Rattle.text_acl.proofs.Writing.{lines_from}
use Rattle.text_bytes.proofs.Laws.{Filled}
use Rattle.text_files.proofs.put_lines.Given as goal

abbrev pub invariant-loop-rec : goal.invariant-loop-rec
invariant-loop-rec l = (length l.buffer ≡ length l.initial.buffer) × Filled (lines_from record_line l.rec-items 0) (lines_from record_line l.rec-items l.rec-index) 0 l.initial.buffer l.buffer l.end
