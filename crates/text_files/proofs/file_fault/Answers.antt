use Rattle.text_files.proofs.Laws.{fault_long, fault_rest}
use borrow.Author.Rules.{rules}
use Rattle.text_files.proofs.file_fault.Goals as goal

pub returns-then-not-whole : goal.returns-then-not-whole
returns-then-not-whole c = search (rules, fault_long)

pub returns : goal.returns
returns c = search (rules, fault_rest)
