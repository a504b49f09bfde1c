use Rattle.run_requests.proofs.Granting.{use_alone}
use borrow.Author.Rules.{rules}
use Rattle.run_requests.proofs.stands_alone.Goals as goal

pub returns-then-rec-eq6 : goal.returns-then-rec-eq6
returns-then-rec-eq6 c = search (rules, use_alone)
