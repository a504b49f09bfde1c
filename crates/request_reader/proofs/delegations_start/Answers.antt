use Rattle.request_reader.proofs.Laws.{none_past, none_earlier, parted_here, parted_all}
use borrow.Author.Rules.{rules}
use Rattle.request_reader.proofs.delegations_start.Goals as goal

pub loop-at-init : goal.loop-at-init
loop-at-init c = (search rules, (search rules, (search rules, search (rules, none_past))))

pub returns-then-req-at-ne-DELEGATION : goal.returns-then-req-at-ne-DELEGATION
returns-then-req-at-ne-DELEGATION c = search (rules, parted_here)

pub loop-at-preserved : goal.loop-at-preserved
loop-at-preserved c = (search rules, (search rules, (search rules, search (rules, none_earlier))))

pub returns : goal.returns
returns c = search (rules, parted_all)
