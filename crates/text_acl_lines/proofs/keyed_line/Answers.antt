use Rattle.rules.specs.Basics.{ascii}
use Rattle.text_bytes.proofs.Laws.{put_on, put_as}
use Rattle.text_acl_lines.proofs.Laws.{keyed_text}
use borrow.Author.Rules.{rules}
use Rattle.text_acl_lines.proofs.keyed_line.Goals as goal

pub returns : goal.returns
unfolding ascii
returns c = record { written = put_as (keyed_text _ _ c.args.rec.now _ _ _ _ c.flag_of.ensures c.be16-mechanism.ensures) (put_on c.append-begun.ensures (put_on c.hash_if-keyed.ensures.written (put_on c.number_if-told.ensures.written c.end_line.ensures.written))); bound = search rules }
