use lib.ListN.{drop}
use Rattle.run_limits.proofs.Laws.{Raising}
use Rattle.run_limits.proofs.raise_words.Given as goal

abbrev pub invariant-loop-word : goal.invariant-loop-word
invariant-loop-word l = Raising l.initial.counters l.words (drop l.word-index l.words) l.counters
