use Rattle.gate_admission.proofs.Laws.{asks_some_use}
use borrow.Author.Rules.{rules}
use Rattle.gate_admission.proofs.group_admits.Goals as goal

pub returns-then-rec-eq-USE : goal.returns-then-rec-eq-USE
returns-then-rec-eq-USE c = search (rules, asks_some_use)
