use mathlib.Core.Path.{refl}
use Rattle.std.specs.Prelude as option
use Rattle.rules.specs.Basics.{records}
use Rattle.rules.specs.Acl.{actions_of}
use Rattle.gate_narrowing.proofs.Laws.{nth_found, action_seen, actions_seen}
use Rattle.reason_narrowing.proofs.Laws.{wider_than_none, no_wider_there}
use Rattle.reason_narrowing.proofs.no_wider_than.Goals as goal

pub returns-in-Some : goal.returns-in-Some
returns-in-Some c =
    no_wider_there _ _ _ _
    (nth_found action_seen actions_seen (actions_of (records c.args.old.now)) c.args.h _ _ c.nth.new.self refl (option.Some (c.in-Some.source, c.in-Some.behind)) c.in-Some.ensures.ran)
    c.action_no_wider.ensures

pub returns-in-None : goal.returns-in-None
returns-in-None c =
    wider_than_none _ _ (nth_found action_seen actions_seen (actions_of (records c.args.old.now)) c.args.h _ _ c.nth.new.self refl option.None c.in-None.ensures.ran)
