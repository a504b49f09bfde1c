use Rattle.run_requests.proofs.Writing.{stored_answer}
use borrow.Author.Rules.{rules}
use Rattle.run_requests.proofs.put_answer.Goals as goal

pub returns : goal.returns
returns c = search (rules, stored_answer)
