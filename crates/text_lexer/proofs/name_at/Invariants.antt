use Rattle.std.proofs.Common.{◌-◌, ◌≤◌, length}
use Rattle.text_lexer.proofs.Laws.{Searched}
use Rattle.text_lexer.proofs.name_at.Given as goal

abbrev pub invariant-loop-i : goal.invariant-loop-i
invariant-loop-i l = (l.index ≤ l.i) × (l.i ≤ length l.names) × Searched l.names l.text l.i l.index

abbrev pub decreases-loop-i : goal.decreases-loop-i
decreases-loop-i l = length l.names - l.i
