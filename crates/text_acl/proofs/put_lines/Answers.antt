use Rattle.text_rules.specs.Words.{line_of}
use Rattle.text_acl.proofs.Writing.{lines_none, line_room, line_put, lines_all}
use borrow.Author.Rules.{rules}
use Rattle.text_acl.proofs.put_lines.Goals as goal

pub loop-rec-init : goal.loop-rec-init
loop-rec-init c = search (rules, lines_none)

pub put_line-end-requires : goal.put_line-end-requires
put_line-end-requires c = search (rules, line_room line_of)

pub loop-rec-preserved : goal.loop-rec-preserved
loop-rec-preserved c = (search rules, search (rules, line_put))

pub returns : goal.returns
returns c = search (rules, lines_all)
