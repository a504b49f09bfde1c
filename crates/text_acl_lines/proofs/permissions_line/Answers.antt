use Rattle.rules.specs.Basics.{ascii}
use Rattle.text_bytes.proofs.Laws.{put_on, put_as}
use Rattle.text_acl_lines.proofs.Laws.{permissions_text}
use borrow.Author.Rules.{rules}
use Rattle.text_acl_lines.proofs.permissions_line.Goals as goal

pub returns : goal.returns
unfolding ascii
returns c = record { written = put_as (permissions_text c.args.rec.now _ c.be16-bits.ensures) (put_on c.append-begun.ensures (put_on c.append_names-named.ensures.written c.append.ensures)); bound = search rules }
