use Rattle.std.proofs.Common.{rules}
use Rattle.text_lexer.proofs.Laws.{here_none, here_byte, here_all}
use Rattle.text_lexer.proofs.bytes_here.Goals as goal

pub loop-init : goal.loop-init
loop-init c = (search rules, search rules, search rules, search (rules, here_none))

pub loop-preserved : goal.loop-preserved
loop-preserved c = (search rules, search rules, search rules, search (rules, here_byte))

pub returns : goal.returns
returns c = search (rules, here_all)
