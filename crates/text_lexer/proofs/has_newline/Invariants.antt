use Rattle.std.proofs.Common.{◌≡◌, ◌||◌, drop}
use Rattle.text_lexer.specs.Telling.{has_newline}
use Rattle.text_lexer.proofs.has_newline.Given as goal

abbrev pub invariant-loop-c : goal.invariant-loop-c
invariant-loop-c l = (l.found || has_newline (drop l.c-index l.block)) ≡ has_newline l.block
