use Rattle.runs.proofs.Laws.{seen_fit, made_known, made_run}
use borrow.Author.Rules.{rules}
use Rattle.runs.proofs.run_made.Goals as goal

pub form_of-form-requires : goal.form_of-form-requires
form_of-form-requires c = search (rules, seen_fit)

pub run_known-requires : goal.run_known-requires
run_known-requires c = search (rules, made_known)

pub returns : goal.returns
returns c = search (rules, made_run)
