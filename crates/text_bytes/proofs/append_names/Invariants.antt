use Prim.Native.Nat.{◌+◌, ◌≤◌, ◌-◌}
use mathlib.Core.Path.{◌≡◌}
use lib.ListN.{length}
use Rattle.text_bytes.specs.Names.{words_of, names_text}
use Rattle.text_bytes.proofs.Laws.{Filled}
use Rattle.text_bytes.proofs.Words.{names_left}
use Rattle.text_bytes.proofs.append_names.Given as goal

abbrev pub invariant-loop-i : goal.invariant-loop-i
invariant-loop-i l = (l.end ≤ l.at + l.i) × (l.i ≤ length l.names) × (length l.buffer ≡ length l.initial.buffer) × Filled (names_text (words_of l.names) l.n) (names_left l.names l.i l.bits) l.at l.initial.buffer l.buffer l.end

abbrev pub decreases-loop-i : goal.decreases-loop-i
decreases-loop-i l = length l.names - l.i
