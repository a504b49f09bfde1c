use Rattle.rules.specs.Layout.{blobfile_laid_out}
use Rattle.record_layout.proofs.Chain.{chain}
use borrow.Author.Rules.{rules}
use Rattle.record_layout.proofs.file.Goals as goal

pub returns-then-not-plain_header : goal.returns-then-not-plain_header
unfolding blobfile_laid_out
returns-then-not-plain_header c = search (rules, chain)

pub returns-then-not-zero_unless : goal.returns-then-not-zero_unless
unfolding blobfile_laid_out
returns-then-not-zero_unless c = search (rules, chain)

pub returns-then-not-zero_unless-2 : goal.returns-then-not-zero_unless-2
unfolding blobfile_laid_out
returns-then-not-zero_unless-2 c = search (rules, chain)

pub returns : goal.returns
unfolding blobfile_laid_out
returns c = search (rules, chain)
