use Rattle.std.proofs.Common.{ℕ, ◌≡◌, ◌<◌, ◌&&◌, length, get_or, drop}
use Rattle.rules.specs.Sizes.{hash_bytes}
use Rattle.rules.specs.Basics.{all}
use Rattle.rules.specs.Runs.{mechanism_named}
use Rattle.run_certificates.specs.Rows.{row_as}
use Rattle.run_certificates.proofs.Laws.{blank}
use Rattle.run_certificates.proofs.all_named.Given as goal

abbrev pub invariant-loop-c : goal.invariant-loop-c
invariant-loop-c l =
    ((l.named && all mechanism_named (row_as (drop l.c-index l.row))) ≡ all mechanism_named (row_as l.row)) × ((k : ℕ) → k < l.c-index → length ((get_or l.row k blank).hash) ≡ hash_bytes)
