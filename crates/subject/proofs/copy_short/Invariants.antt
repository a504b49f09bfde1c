use mathlib.Core.Path.{◌≡◌}
use lib.ListN.{length}
use Rattle.subject.proofs.Laws.{copied}
use Rattle.subject.proofs.copy_short.Given as goal

abbrev pub invariant-loop-i : goal.invariant-loop-i
invariant-loop-i l = (l.end ≡ length l.bytes) × ((length l.buffer ≡ length l.initial.buffer) × (l.buffer ≡ copied l.bytes l.initial.buffer l.i))
