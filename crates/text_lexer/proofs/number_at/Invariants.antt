use Rattle.text_lexer.proofs.Laws.{Counted}
use Rattle.text_lexer.proofs.number_at.Given as goal

abbrev pub invariant-loop-i : goal.invariant-loop-i
invariant-loop-i l = Counted l.most l.text l.value l.i
