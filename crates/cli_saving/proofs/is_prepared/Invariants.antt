use Rattle.std.proofs.Common.{◌≤◌}
use Rattle.cli_saving.proofs.is_prepared.Given as goal

abbrev pub invariant-loop : goal.invariant-loop
invariant-loop l = l.n ≤ 4096
