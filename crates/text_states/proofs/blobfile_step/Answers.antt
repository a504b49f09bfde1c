use Rattle.text_states.proofs.Laws.{blobfile_bad, blobfile_good}
use borrow.Author.Rules.{rules}
use Rattle.text_states.proofs.blobfile_step.Goals as goal

pub returns-then-not-blobfile_record : goal.returns-then-not-blobfile_record
returns-then-not-blobfile_record c = search (rules, blobfile_bad)

pub returns : goal.returns
returns c = search (rules, blobfile_good)
