use Rattle.trim_hints.proofs.Hints.{sound_room, hint_first, hint_next, hint_group, hint_end}
use borrow.Author.Rules.{rules}
use Rattle.trim_hints.proofs.hint_of.Goals as goal

pub begun-hint-requires : goal.begun-hint-requires
begun-hint-requires c = search (rules, sound_room)

pub loop-rec-init : goal.loop-rec-init
loop-rec-init c = hint_first _ _ _ _ _ _ c.requires.1 c.requires.0 c.is_checked-checked.ensures c.begun-hint.ensures

pub returns-then-rec-eq-GROUP : goal.returns-then-rec-eq-GROUP
returns-then-rec-eq-GROUP c = hint_group _ _ _ _ _ _ _ c.loop-rec.invariant c.loop-rec-test.true c.if-rec-eq-GROUP.true

pub loop-rec-preserved : goal.loop-rec-preserved
loop-rec-preserved c = hint_next _ _ _ _ _ _ _ c.loop-rec.invariant c.loop-rec-test.true c.if-rec-eq-GROUP.false _ c.after-hint.ensures

pub returns : goal.returns
returns c = hint_end _ _ _ _ _ _ _ c.loop-rec.invariant c.loop-rec-test.false
