use Rattle.std.proofs.Common.{rules}
use Rattle.text_lexer.proofs.Laws.{counted_none, counted_stops, counted_more, counted_all}
use Rattle.text_lexer.proofs.number_at.Goals as goal

pub loop-i-init : goal.loop-i-init
loop-i-init c = search (rules, counted_none)

pub returns-then-not-is_ascii_digit : goal.returns-then-not-is_ascii_digit
returns-then-not-is_ascii_digit c = search (rules, counted_stops)

pub loop-i-preserved : goal.loop-i-preserved
loop-i-preserved c = search (rules, counted_more)

pub returns : goal.returns
returns c = search (rules, counted_all)
