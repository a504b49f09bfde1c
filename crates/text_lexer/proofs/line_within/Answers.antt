use Rattle.text_lexer.proofs.Laws.{within_whole, within_part}
use Rattle.std.proofs.Common.{rules}
use Rattle.text_lexer.proofs.line_within.Goals as goal

pub returns-then-text-at : goal.returns-then-text-at
returns-then-text-at c = search (rules, within_whole)

pub returns : goal.returns
returns c = search (rules, within_part)
