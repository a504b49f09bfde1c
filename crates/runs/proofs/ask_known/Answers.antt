use borrow.Author.Rules.{rules}
use Rattle.runs.proofs.Laws.{zero_inside, known_groups, known_few, known_ready}
use Rattle.runs.proofs.ask_known.Goals as goal

pub fill_offsets-groups-requires : goal.fill_offsets-groups-requires
fill_offsets-groups-requires c = (search (rules, zero_inside), search (rules, known_few))

pub fill_rows-requires : goal.fill_rows-requires
fill_rows-requires c = (search rules, c.requires.sound, search rules, search (rules, known_groups))

pub invariant_of-plan : goal.invariant_of-plan
invariant_of-plan c = record { ready = known_ready _ _ _ _ _ c.requires c.fill_offsets-groups.ensures.0; filled = c.fill_rows.ensures }

pub run_records-requires : goal.run_records-requires
run_records-requires c = c.requires.roomy
