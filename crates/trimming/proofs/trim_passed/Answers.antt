use Rattle.trimming.proofs.Ends.{acl_read, ends_short_acl, ends_short_hints, room_hints, ends_written}
use Rattle.trimming.proofs.trim_passed.Goals as goal

pub returns-then-new-due : goal.returns-then-new-due
returns-then-new-due c = ends_short_acl _ _ _ _ c.requires.0 c.requires.1 _ _ c.measure-due.ensures c.if-new-due.true

pub returns-then-hints-due : goal.returns-then-hints-due
returns-then-hints-due c = ends_short_hints _ _ _ _ c.requires.0 c.requires.1 _ _ c.measure-due.ensures c.if-new-due.false c.if-hints-due.true

pub write_hints-requires : goal.write_hints-requires
write_hints-requires c = (acl_read _ _ c.requires.0, room_hints _ _ c.requires.0 _ _ c.measure-due.ensures.1 c.if-hints-due.false)

pub returns : goal.returns
returns c = ends_written _ _ _ _ c.requires.0 c.requires.1 _ _ c.measure-due.ensures _ _ c.if-new-due.false c.if-hints-due.false c.write_acl.ensures c.write_hints.ensures
