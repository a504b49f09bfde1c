use Rattle.text_bytes.proofs.Words.{names_none, names_word, names_all}
use borrow.Author.Rules.{rules}
use Rattle.text_bytes.proofs.append_names.Goals as goal

pub loop-i-init : goal.loop-i-init
loop-i-init c = (search rules, search rules, search rules, search (rules, names_none))

pub loop-i-preserved : goal.loop-i-preserved
loop-i-preserved c = (search rules, search rules, search rules, search (rules, names_word))

pub returns : goal.returns
returns c = search (rules, names_all)
