use mathlib.Core.Path.{◌≡◌}
use lib.ListN.{drop}
use Rattle.rules.specs.Basics.{all}
use Rattle.run_limits.specs.Rows.{word_left}
use Rattle.run_limits.proofs.words_left.Given as goal

abbrev pub invariant-loop-word : goal.invariant-loop-word
invariant-loop-word l = all (word_left l.counters) (drop l.word-index l.words) ≡ all (word_left l.counters) l.words
