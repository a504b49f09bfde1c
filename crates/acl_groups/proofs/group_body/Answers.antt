use Prim.Native.Nat.{◌<◌}
use native.Mathlib.Omega.{arith}
use lib.ListN.{length}
use Rattle.acl_groups.proofs.Laws.{body_none, body_some}
use Rattle.acl_groups.proofs.group_body.Goals as goal

pub returns-in-Some : goal.returns-in-Some
returns-in-Some c = let h = c.in-Some.ensures.lookup.0 in rw h.2 (body_some _ _ _ c.from_group.ensures h.0)

pub returns-in-None : goal.returns-in-None
returns-in-None c =
    let h = c.in-None.ensures.lookup.0 in
    let short : length c.from_group.result.now < 64 = omega arith in
    body_none _ _ _ c.from_group.ensures short
