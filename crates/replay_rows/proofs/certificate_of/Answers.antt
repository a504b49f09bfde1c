use Rattle.replay_rows.proofs.Decoding.{given_here}
use borrow.Author.Rules.{rules}
use Rattle.replay_rows.proofs.certificate_of.Goals as goal

pub returns : goal.returns
returns c = search (rules, given_here)
