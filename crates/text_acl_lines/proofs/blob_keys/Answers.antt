use Rattle.rules.specs.Basics.{ascii}
use Rattle.text_bytes.proofs.Laws.{put_on, put_as}
use Rattle.text_acl_lines.proofs.Laws.{key_text_lem}
use borrow.Author.Rules.{rules}
use Rattle.text_acl_lines.proofs.blob_keys.Goals as goal

pub returns : goal.returns
unfolding ascii
returns c = record { written = put_as (key_text_lem c.args.rec.now _ _ _ _ c.flag_of.ensures c.flag_of-2.ensures c.flag_of-3.ensures c.flag_of-4.ensures) (put_on c.word_if-only.ensures.written (put_on c.word_if-other.ensures.written (put_on c.hash_if-key.ensures.written c.hash_if.ensures.written))); bound = search rules }
