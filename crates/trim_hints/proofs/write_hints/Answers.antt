use Rattle.trim_hints.proofs.Written.{writing_kept, writing_inside}
use Rattle.trim_hints.proofs.Hints.{sound_first, sound_lent, sound_group, sound_other, hints_first, hints_skip, hint_is, hints_room, hints_next, hints_done}
use borrow.Author.Rules.{rules}
use Rattle.trim_hints.proofs.write_hints.Goals as goal

pub loop-i-init : goal.loop-i-init
loop-i-init c =
    let w = c.records-all.ensures in
    (search rules, (search rules, (search rules, (search rules, (sound_first _ _ w c.requires.0, hints_first _ _ _ _ w)))))

pub loop-i-preserved-then-rec-ne-GROUP : goal.loop-i-preserved-then-rec-ne-GROUP
loop-i-preserved-then-rec-ne-GROUP c =
    let i = c.loop-i.invariant.1.1.1.1 in
    (search rules, (search rules, (search rules, (search rules, (sound_other _ _ _ c.loop-i-test.true i.0 c.if-rec-ne-GROUP.true, hints_skip _ _ _ _ _ _ _ _ i.1 c.loop-i-test.true c.if-rec-ne-GROUP.true)))))

pub hint_of-hint-requires : goal.hint_of-hint-requires
hint_of-hint-requires c = (c.if-rec-ne-GROUP.false, sound_lent _ _ _ c.loop-i-test.true c.loop-i.invariant.1.1.1.1.0)

pub copy-requires : goal.copy-requires
copy-requires c =
    let i = c.loop-i.invariant.1.1 in
    let s = i.1.1.0 in
    let w = i.1.1.1 in
    hints_room _ _ _ _ _ _ _ _ w c.requires.1 c.loop-i-test.true s c.if-rec-ne-GROUP.false _ (hint_is _ _ _ _ _ _ _ _ w c.requires.1 c.loop-i-test.true s c.if-rec-ne-GROUP.false _ c.hint_of-hint.ensures) i.0

pub loop-i-preserved : goal.loop-i-preserved
loop-i-preserved c =
    let i = c.loop-i.invariant.1.1.1.1 in
    let h = hint_is _ _ _ _ _ _ _ _ i.1 c.requires.1 c.loop-i-test.true i.0 c.if-rec-ne-GROUP.false _ c.hint_of-hint.ensures in
    let n = hints_next _ _ _ _ _ _ _ _ i.1 c.requires.1 c.loop-i-test.true i.0 c.if-rec-ne-GROUP.false _ _ h c.copy.ensures in
    (search rules, (search rules, (writing_kept _ _ _ _ _ n c.requires.1, (writing_inside _ _ _ _ _ n c.requires.1, (sound_group _ _ _ c.loop-i-test.true i.0 c.if-rec-ne-GROUP.false, n)))))

pub returns : goal.returns
returns c = hints_done _ _ _ _ _ _ _ _ c.loop-i.invariant.1.1.1.1.1 c.requires.1 c.loop-i-test.false
