use Rattle.text_files.proofs.Laws.{read_short_from, read_room_from, read_whole_from}
use borrow.Author.Rules.{rules}
use Rattle.text_files.proofs.read_sound.Goals as goal

pub returns-then-buffer-count : goal.returns-then-buffer-count
returns-then-buffer-count c = search (rules, read_short_from)

pub put_records-requires : goal.put_records-requires
put_records-requires c = search (rules, read_room_from)

pub returns : goal.returns
returns c = search (rules, read_whole_from)
