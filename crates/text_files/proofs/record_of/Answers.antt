use Rattle.text_files.proofs.Laws.{record_whole}
use borrow.Author.Rules.{rules}
use Rattle.text_files.proofs.record_of.Goals as goal

pub returns : goal.returns
returns c = record_whole _ _ _ _ (search rules) c.decode_record.ensures
