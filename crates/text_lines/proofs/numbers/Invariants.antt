use Prim.Native.Nat.{◌+◌, ◌*◌, ◌≤◌}
use mathlib.Core.Path.{◌≡◌}
use lib.ListN.{length}
use Rattle.text_rules.specs.OtherWords.{numbers_text}
use Rattle.text_bytes.proofs.Laws.{Filled, left}
use Rattle.text_lines.proofs.numbers.Given as goal

abbrev pub invariant-loop-b : goal.invariant-loop-b
invariant-loop-b l = (l.end ≤ l.at + 11 * l.b-index) × (length l.line ≡ length l.initial.line) × Filled (numbers_text l.bytes) (numbers_text (left l.bytes l.b-index)) l.at l.initial.line l.line l.end
