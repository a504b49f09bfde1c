use Rattle.text_files.proofs.Laws.{write_short_from, write_whole_from}
use borrow.Author.Rules.{rules}
use Rattle.text_files.proofs.write_sound.Goals as goal

pub returns-then-buffer-text_length : goal.returns-then-buffer-text_length
returns-then-buffer-text_length c = search (rules, write_short_from)

pub returns : goal.returns
returns c = search (rules, write_whole_from)
