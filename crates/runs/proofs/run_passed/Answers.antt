use mathlib.Core.Path.{◌∙◌}
use Rattle.runs.proofs.Laws.{seen_fit, other_form_lem, passed_known, passed_run}
use borrow.Author.Rules.{rules}
use Rattle.runs.proofs.run_passed.Goals as goal

pub form_of-requires : goal.form_of-requires
form_of-requires c = search (rules, seen_fit)

pub returns-then-not-same_form : goal.returns-then-not-same_form
returns-then-not-same_form c = c.refused.ensures _ ∙ (search (rules, other_form_lem))

pub run_known-requires : goal.run_known-requires
run_known-requires c = search (rules, passed_known)

pub returns : goal.returns
returns c = search (rules, passed_run)
