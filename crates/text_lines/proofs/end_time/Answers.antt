use Rattle.rules.specs.Basics.{ascii}
use Rattle.text_lines.proofs.Laws.{long_inside, end_inside, time_put}
use borrow.Author.Rules.{rules}
use Rattle.text_lines.proofs.end_time.Goals as goal

pub append_decimal-end-requires : goal.append_decimal-end-requires
unfolding ascii
append_decimal-end-requires c = search (rules, long_inside)

pub append-requires : goal.append-requires
unfolding ascii
append-requires c = search (rules, end_inside)

pub returns : goal.returns
unfolding ascii
returns c = search (rules, time_put)
