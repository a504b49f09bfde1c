use mathlib.Core.Bool.{not}
use mathlib.Core.Path.{ap}
use Rattle.trim_hints.proofs.Hints.{hinted, hinted_not}
use Rattle.trim_hints.proofs.Hint.after_action.Goals as goal

pub returns-then-not-kept : goal.returns-then-not-kept
returns-then-not-kept c = hinted_not _ _ (ap not c.if-not-kept.true)

pub returns : goal.returns
returns c = hinted _ _ (ap not c.if-not-kept.false)
