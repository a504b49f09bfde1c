use Rattle.bundle_facts.proofs.Places.{entry_below, filling_start, filling_kept, filling_put, filling_done, noted_start, noted_kept, noted_put, noted_done}
use borrow.Author.Rules.{rules}
use Rattle.bundle_facts.proofs.find_offsets.Goals as goal

pub loop-n-init : goal.loop-n-init
loop-n-init c = (search rules, (search (rules, filling_start), search (rules, noted_start)))

pub offset_bounds-places-i : goal.offset_bounds-places-i
offset_bounds-places-i c = search (rules, entry_below)

pub bounds-places-i : goal.bounds-places-i
bounds-places-i c = search (rules, entry_below)

pub loop-n-preserved-then-places-i-ne0 : goal.loop-n-preserved-then-places-i-ne0
loop-n-preserved-then-places-i-ne0 c = (search rules, (search (rules, filling_kept), search (rules, noted_kept)))

pub offset_bounds-places-i-in-loop-n : goal.offset_bounds-places-i-in-loop-n
offset_bounds-places-i-in-loop-n c = search (rules, entry_below)

pub bounds-places-i-in-loop-n : goal.bounds-places-i-in-loop-n
bounds-places-i-in-loop-n c = search (rules, entry_below)

pub loop-n-preserved : goal.loop-n-preserved
loop-n-preserved c = (search rules, (search (rules, filling_put), search (rules, noted_put)))

pub returns : goal.returns
returns c = (search (rules, filling_done), search (rules, noted_done))
