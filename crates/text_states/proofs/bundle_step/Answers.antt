use Rattle.text_states.proofs.Laws.{bundle_bad, bundle_once, bundle_full, bundle_more}
use borrow.Author.Rules.{rules}
use Rattle.text_states.proofs.bundle_step.Goals as goal

pub returns-then-not-in_place : goal.returns-then-not-in_place
returns-then-not-in_place c = search (rules, bundle_bad)

pub returns-then-again-eq0 : goal.returns-then-again-eq0
returns-then-again-eq0 c = search (rules, bundle_once)

pub returns-then-listed-ge-LISTED : goal.returns-then-listed-ge-LISTED
returns-then-listed-ge-LISTED c = search (rules, bundle_full)

pub returns : goal.returns
returns c = search (rules, bundle_more)
