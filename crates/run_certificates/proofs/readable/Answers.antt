use Rattle.run_certificates.proofs.Marks.{readable_whole, readable_none}
use borrow.Author.Rules.{rules}
use Rattle.run_certificates.proofs.readable.Goals as goal

pub returns-then-whole-count : goal.returns-then-whole-count
returns-then-whole-count c = search (rules, readable_whole)

pub returns : goal.returns
returns c = search (rules, readable_none)
