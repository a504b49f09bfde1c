use Rattle.rules.specs.Basics.{file_fault}
use Rattle.rules.proofs.Faults.{fault_here, fault_later, fault_last}
use borrow.Author.Rules.{rules}
use Rattle.acl_reader.proofs.acl_file.Goals as goal

pub returns-then-not-whole : goal.returns-then-not-whole
unfolding file_fault
returns-then-not-whole c = search (rules, fault_here)

pub returns : goal.returns
unfolding file_fault
returns c = search (rules, fault_later, fault_last)
