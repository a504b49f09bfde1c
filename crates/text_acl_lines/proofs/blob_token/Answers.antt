use mathlib.Core.Path.{refl}
use native.Mathlib.Omega.{arith}
use Rattle.rules.specs.Basics.{ascii}
use Rattle.text_bytes.proofs.Laws.{put_on, put_as}
use Rattle.text_acl_lines.proofs.Laws.{token_text_lem}
use borrow.Author.Rules.{rules}
use Rattle.text_acl_lines.proofs.blob_token.Goals as goal

pub number_if-total-requires : goal.number_if-total-requires
number_if-total-requires c = omega (arith, c.word_if-begun.ensures, c.word_if-soft.ensures, c.number_if-needed.ensures, c.requires)

pub number_if-requires : goal.number_if-requires
number_if-requires c = omega (arith, c.word_if-begun.ensures, c.word_if-soft.ensures, c.number_if-needed.ensures, c.number_if-total.ensures, c.requires)

pub returns : goal.returns
unfolding ascii
returns c = record { written = put_as (token_text_lem c.args.rec.now _ _ _ _ _ _ c.flag_of-given.ensures c.be16-flags.ensures c.bit_of.ensures refl refl c.be32-seconds.ensures) (put_on c.word_if-begun.ensures.written (put_on c.word_if-soft.ensures.written (put_on c.number_if-needed.ensures.written (put_on c.number_if-total.ensures.written c.number_if.ensures.written)))); bound = search rules }
