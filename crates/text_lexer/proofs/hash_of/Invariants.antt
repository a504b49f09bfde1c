use Rattle.std.proofs.Common.{◌≡◌, ℕ, ◌<◌, length, get_or}
use Rattle.text_lexer.proofs.Laws.{pair}
use Rattle.text_lexer.proofs.hash_of.Given as goal

abbrev pub invariant-loop-k : goal.invariant-loop-k
invariant-loop-k l = (length l.hash ≡ 20) × ((j : ℕ) → j < l.k → get_or l.hash j 0 ≡ pair l.digits j)
