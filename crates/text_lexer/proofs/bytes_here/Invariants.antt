use Rattle.std.proofs.Common.{◌≡◌, ◌+◌, ◌-◌, ◌*◌, ◌≤◌, length, drop}
use Rattle.text_rules.specs.OtherDecoding.{bytes_here}
use Rattle.text_bytes.proofs.Laws.{Filled}
use Rattle.text_lexer.proofs.Laws.{bytes_left}
use Rattle.text_lexer.proofs.bytes_here.Given as goal

abbrev pub invariant-loop : goal.invariant-loop
invariant-loop l = (l.d.at ≤ l.initial.d.at + 11 * l.counter) × (l.d.end ≡ l.initial.d.end + l.counter) × (length l.rec ≡ length l.initial.rec) × Filled (bytes_here l.count (drop l.initial.d.at l.text)) (bytes_left l.text l.d.at (l.count - l.counter)) l.initial.d.end l.initial.rec l.rec l.d.end
