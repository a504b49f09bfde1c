use Rattle.rules.proofs.Choices.{picks}
use Rattle.trim_hints.specs.Hinting.{record_hinted}
use Rattle.trim_hints.proofs.Hints.{action_recorded}
use borrow.Author.Rules.{rules}
use Rattle.trim_hints.proofs.Hint.after.Goals as goal

pub returns-then-kind-eq-LIMIT : goal.returns-then-kind-eq-LIMIT
unfolding record_hinted
returns-then-kind-eq-LIMIT c = search (rules, picks)

pub returns-then-kind-eq-BLOBFILE : goal.returns-then-kind-eq-BLOBFILE
unfolding record_hinted
returns-then-kind-eq-BLOBFILE c = search (rules, picks)

pub returns : goal.returns
returns c = action_recorded _ _ _ _ _ _ (search rules) (search rules) c.on_action-fate.ensures c.is_some.ensures c.after_action.ensures
