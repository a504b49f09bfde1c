use Rattle.rules.specs.Basics.{ascii}
use Rattle.text_bytes.proofs.Laws.{put_on, put_as}
use Rattle.text_acl_lines.proofs.Laws.{file_text}
use borrow.Author.Rules.{rules}
use Rattle.text_acl_lines.proofs.file_line.Goals as goal

pub returns : goal.returns
unfolding ascii
returns c = record { written = put_as (file_text c.args.rec.now _ _ _ c.flag_of.ensures c.flag_of-2.ensures c.be32-devices.ensures) (put_on c.append-begun.ensures (put_on c.number_if-masked.ensures.written (put_on c.hash_if-told.ensures.written c.append.ensures))); bound = search rules }
