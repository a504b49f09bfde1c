use Rattle.run_requests.proofs.Opening.{open_used, open_after}
use borrow.Author.Rules.{rules}
use Rattle.run_requests.proofs.answer_one.Goals as goal

pub answer_used-a-requires : goal.answer_used-a-requires
answer_used-a-requires c = search (rules, open_used)

pub returns-then-a-used : goal.returns-then-a-used
returns-then-a-used c = (search rules, search rules)

pub returns : goal.returns
returns c = (search rules, search (rules, open_after))
