use Rattle.bundle_facts.specs.Found.{bytes_as}
use Rattle.desk_steps.proofs.Laws.{tests}
use Rattle.desk_actions.proofs.Laws.{by_flags, fault_if, fault_unless}
use borrow.Author.Rules.{rules}
use Rattle.desk_actions.proofs.blob_steps.Goals as goal

pub returns-then-not-flag_of : goal.returns-then-not-flag_of
returns-then-not-flag_of c = let a = c.args in by_flags (bytes_as a.hkm) a.rec.now _ (search (rules, tests))

pub returns-then-not-under_module_key : goal.returns-then-not-under_module_key
returns-then-not-under_module_key c = let a = c.args in by_flags (bytes_as a.hkm) a.rec.now _ (search (rules, tests))

pub returns-then-flag_of : goal.returns-then-flag_of
returns-then-flag_of c = let a = c.args in by_flags (bytes_as a.hkm) a.rec.now _ (search (rules, tests, fault_if))

pub returns-then-not-flag_of-2 : goal.returns-then-not-flag_of-2
returns-then-not-flag_of-2 c = let a = c.args in by_flags (bytes_as a.hkm) a.rec.now _ (search (rules, tests, fault_if, fault_unless))

pub returns : goal.returns
returns c = let a = c.args in by_flags (bytes_as a.hkm) a.rec.now _ (search (rules, tests, fault_if, fault_unless))
