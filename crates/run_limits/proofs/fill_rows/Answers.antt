use Rattle.std.proofs.Common.{rules, arith, length, take, ◌≤◌, ◌∙◌}
use lib.ListN.{length-set}
use lib.Seq.{length-take-le}
use Rattle.run_limits.proofs.Filling.{rows_none, rows_next, body_inside, body_few, body_row}
use Rattle.run_limits.proofs.fill_rows.Goals as goal

pub loop-k-init : goal.loop-k-init
loop-k-init c = (c.told-rows, rows_none _ _ _)

pub slice_bounds-of-count : goal.slice_bounds-of-count
slice_bounds-of-count c = search (rules, body_inside)

pub slice_bounds-of-start : goal.slice_bounds-of-start
slice_bounds-of-start c = search (rules, body_inside)

pub of-requires : goal.of-requires
of-requires c =
    let n : length (take c.args.groups c.args.bodies.now) ≤ c.args.groups = search rules in
    body_few _ _ c.requires.1 c.requires.0 _ _ (omega arith) c.requires.2

pub loop-k-preserved : goal.loop-k-preserved
loop-k-preserved c =
    let n : length (take c.args.groups c.args.bodies.now) ≤ c.args.groups = search rules in
    let r = c.loop-k.invariant.0 in
    (length-set _ _ _ ∙ r, rows_next _ _ _ _ _ c.loop-k.invariant.1 (omega arith) (body_row _ _ c.requires.1 c.requires.0 _ _ (omega arith) c.requires.2 _ c.of.ensures))

pub returns : goal.returns
returns c =
    let n = length-take-le c.args.groups c.args.bodies.now (let g = c.requires.3 in omega arith) in
    let e = c.requires.2 in
    record { sized = c.loop-k.invariant.0; filled = λ j h. c.loop-k.invariant.1.filled j (omega arith) }
