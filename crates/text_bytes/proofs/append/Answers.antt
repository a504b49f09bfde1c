use Rattle.text_bytes.proofs.Laws.{put_copied}
use borrow.Author.Rules.{rules}
use Rattle.text_bytes.proofs.append.Goals as goal

pub returns : goal.returns
returns c = search (rules, put_copied)
