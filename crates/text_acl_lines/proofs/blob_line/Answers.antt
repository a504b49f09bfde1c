use Rattle.rules.specs.Basics.{ascii}
use Rattle.text_bytes.proofs.Laws.{put_on, put_as}
use Rattle.text_acl_lines.proofs.Laws.{blob_text}
use borrow.Author.Rules.{rules}
use Rattle.text_acl_lines.proofs.blob_line.Goals as goal

pub returns : goal.returns
unfolding ascii
returns c = record { written = put_as (blob_text c.args.rec.now _ _ c.flag_of.ensures c.flag_of-2.ensures) (put_on c.append-begun.ensures (put_on c.blob_keys-keys.ensures.written (put_on c.blob_token-token.ensures.written (put_on c.word_if-null.ensures.written c.end_line.ensures.written)))); bound = search rules }
