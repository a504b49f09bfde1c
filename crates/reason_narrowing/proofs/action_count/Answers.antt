use native.Mathlib.Omega.{arith}
use mathlib.Core.Logic.{inl}
use mathlib.Core.Path.{refl}
use Rattle.std.proofs.lemmas.Iterator.Consumers.{count_from_yields_List, YieldsList-from_first}
use Rattle.rules.specs.Basics.{records}
use Rattle.rules.specs.Acl.{actions_of}
use Rattle.gate_narrowing.proofs.Laws.{action_seen, actions_seen}
use Rattle.reason_narrowing.proofs.Laws.{actions_fit}
use Rattle.reason_narrowing.proofs.action_count.Goals as goal

pub count-requires-clause-fits : goal.count-requires-clause-fits
count-requires-clause-fits c = let few = actions_fit c.args.body.now in inl (omega arith)

pub returns : goal.returns
returns c = count_from_yields_List _ _ c.count.ensures.ran (YieldsList-from_first action_seen actions_seen (actions_of (records c.args.body.now)) refl)
