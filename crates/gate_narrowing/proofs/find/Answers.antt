use mathlib.Core.Path.{refl}
use Rattle.rules.specs.Basics.{records}
use Rattle.rules.specs.Acl.{actions_of}
use Rattle.gate_narrowing.proofs.Laws.{drop_on, nth_found, nth_past, action_seen, actions_seen}
use Rattle.gate_narrowing.proofs.find.Goals as goal

pub returns-then-h-low-clause-found : goal.returns-then-h-low-clause-found
returns-then-h-low-clause-found c = nth_found action_seen actions_seen (actions_of (records c.args.group.now)) c.args.h _ _ c.nth.new.self refl c.nth.result c.nth.ensures.ran

pub returns-then-h-low-clause-left : goal.returns-then-h-low-clause-left
returns-then-h-low-clause-left c = nth_past action_seen actions_seen (actions_of (records c.args.group.now)) c.args.h _ _ c.nth.new.self refl c.nth.result c.nth.ensures.ran

pub returns-clause-found : goal.returns-clause-found
returns-clause-found c = nth_found action_seen actions_seen (actions_of (records c.args.group.now)) c.args.h _ _ c.nth-2.new.self (drop_on _ _ _ _ c.requires c.if-h-low.false) c.nth-2.result c.nth-2.ensures.ran

pub returns-clause-left : goal.returns-clause-left
returns-clause-left c = nth_past action_seen actions_seen (actions_of (records c.args.group.now)) c.args.h _ _ c.nth-2.new.self (drop_on _ _ _ _ c.requires c.if-h-low.false) c.nth-2.result c.nth-2.ensures.ran
