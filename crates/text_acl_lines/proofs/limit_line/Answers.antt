use mathlib.Core.Path.{refl}
use Rattle.rules.specs.Basics.{ascii}
use Rattle.text_bytes.proofs.Laws.{put_on, put_as}
use Rattle.text_acl_lines.proofs.Laws.{limit_text}
use borrow.Author.Rules.{rules}
use Rattle.text_acl_lines.proofs.limit_line.Goals as goal

pub returns : goal.returns
unfolding ascii
returns c = record { written = put_as (limit_text c.args.rec.now _ _ refl c.be32-maximum.ensures) (put_on c.append-begun.ensures (put_on c.number_if-counted.ensures.written (put_on c.number_if-timed.ensures.written (put_on c.number_if-used.ensures.written c.append.ensures)))); bound = search rules }
