-- The answer to the certificates that are lent is the answer to every row that has these as its first 33.
use Prim.Native.Nat.{ℕ, ◌+◌}
use mathlib.Core.Path.{◌≡◌, refl, sym, ◌∙◌, ap}
use mathlib.Core.List.{List}
use lib.ListN.{take}
use Rattle.rules.specs.Sizes.{certificates_max}
use Rattle.rules.specs.Basics.{Bytes}
use Rattle.rules.specs.Request.{Certificate}
use Rattle.rules.specs.Ledger.{Ledger}
use Rattle.rules.specs.Runs.{RunOutcome, run}
use Rattle.rules.specs.Prepared.{Form, prepared_run}
use Rattle.rules.specs.Cabinet.{Cabinet, ledger_at}
use Rattle.rules.specs.CabinetRuns.{CabinetRan, run_in_slot, cabinet_run, cabinet_prepared_run}
use Rattle.rules.proofs.LongRows.{run_long_row, prepared_run_long_row}

pub run_of_whole : (l : Ledger) (km0 acl : Bytes) (lent : List Certificate) (requests buffer : Bytes) (o : RunOutcome) → o ≡ run l km0 acl lent requests buffer
    → (whole : List Certificate) → take (certificates_max + 1) whole ≡ lent → o ≡ run l km0 acl whole requests buffer
run_of_whole l km0 acl lent requests buffer o e whole h =
    e ∙ ap (λ (row : List Certificate). run l km0 acl row requests buffer) (sym h) ∙ run_long_row l km0 acl whole requests buffer

pub prepared_run_of_whole : (l : Ledger) (km0 acl : Bytes) (lent : List Certificate) (f : Form) (requests buffer : Bytes) (o : RunOutcome) → o ≡ prepared_run l km0 acl lent f requests buffer
    → (whole : List Certificate) → take (certificates_max + 1) whole ≡ lent → o ≡ prepared_run l km0 acl whole f requests buffer
prepared_run_of_whole l km0 acl lent f requests buffer o e whole h =
    e ∙ ap (λ (row : List Certificate). prepared_run l km0 acl row f requests buffer) (sym h) ∙ prepared_run_long_row l km0 acl whole f requests buffer

-- the same in a slot of a cabinet
pub cabinet_run_of_whole : (c : Cabinet) (slot : ℕ) (km0 acl : Bytes) (lent : List Certificate) (requests buffer : Bytes) (o : CabinetRan) → o ≡ cabinet_run c slot km0 acl lent requests buffer
    → (whole : List Certificate) → take (certificates_max + 1) whole ≡ lent → o ≡ cabinet_run c slot km0 acl whole requests buffer
unfolding cabinet_run
cabinet_run_of_whole c slot km0 acl lent requests buffer o e whole h =
    e ∙ ap (run_in_slot c slot buffer) (run_of_whole (ledger_at c slot) km0 acl lent requests buffer _ refl whole h)

pub cabinet_prepared_run_of_whole : (c : Cabinet) (slot : ℕ) (km0 acl : Bytes) (lent : List Certificate) (f : Form) (requests buffer : Bytes) (o : CabinetRan) → o ≡ cabinet_prepared_run c slot km0 acl lent f requests buffer
    → (whole : List Certificate) → take (certificates_max + 1) whole ≡ lent → o ≡ cabinet_prepared_run c slot km0 acl whole f requests buffer
unfolding cabinet_prepared_run
cabinet_prepared_run_of_whole c slot km0 acl lent f requests buffer o e whole h =
    e ∙ ap (run_in_slot c slot buffer) (prepared_run_of_whole (ledger_at c slot) km0 acl lent f requests buffer _ refl whole h)
