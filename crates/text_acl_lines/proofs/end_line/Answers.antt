use Rattle.rules.specs.Basics.{ascii}
use Rattle.text_bytes.proofs.Laws.{put_on}
use borrow.Author.Rules.{rules}
use Rattle.text_acl_lines.proofs.end_line.Goals as goal

pub returns : goal.returns
unfolding ascii
returns c = record { written = put_on c.word_if-told.ensures.written c.append.ensures; bound = search rules }
