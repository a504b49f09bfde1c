use Prim.Native.Nat.{◌≤◌}
use lib.ListN.{length}
use Rattle.text_bytes.proofs.Words.{Skipped}
use Rattle.text_bytes.proofs.append_name.Given as goal

abbrev pub invariant-loop : goal.invariant-loop
invariant-loop l = (l.from ≤ length l.names) × Skipped l.names l.counter l.from
