use Rattle.replay_files.proofs.Laws.{filled}
use Rattle.replay_files.proofs.desk_call.Goals as goal

pub slice_bounds-print_bytes-end : goal.slice_bounds-print_bytes-end
slice_bounds-print_bytes-end c = filled _ _ c.verdict_line-n.ensures.inside
