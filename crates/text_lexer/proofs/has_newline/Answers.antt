use Rattle.std.proofs.Common.{rules}
use Rattle.text_lexer.proofs.Laws.{newline_more, newline_all}
use Rattle.text_lexer.proofs.has_newline.Goals as goal

pub loop-c-preserved : goal.loop-c-preserved
loop-c-preserved c = search (rules, newline_more)

pub returns : goal.returns
returns c = search (rules, newline_all)
