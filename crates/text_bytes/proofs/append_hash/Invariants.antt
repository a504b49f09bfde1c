use Prim.Native.Nat.{◌+◌, ◌*◌}
use mathlib.Core.Path.{◌≡◌}
use lib.ListN.{length}
use Rattle.text_bytes.proofs.Laws.{Filled, hex_left}
use Rattle.text_rules.specs.Words.{hex}
use Rattle.text_bytes.proofs.append_hash.Given as goal

abbrev pub invariant-loop-b : goal.invariant-loop-b
invariant-loop-b l = (l.end ≡ l.at + 2 * l.b-index) × (length l.buffer ≡ length l.initial.buffer) × Filled (hex l.hash) (hex_left l.hash l.b-index) l.at l.initial.buffer l.buffer l.end
