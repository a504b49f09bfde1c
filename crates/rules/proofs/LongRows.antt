-- Rows with more certificates than a run takes: the first 33 of such a row get the answer of the whole row, so that a host may lend those alone. Two wrong
-- products that this rules out: one that looks at a mechanism before it counts the row, and one that takes a row of 33.
use Prim.Native.Nat.{ℕ, ◌+◌, ◌<◌}
use native.Mathlib.Omega.{arith}
use mathlib.Core.Path.{◌≡◌, refl, ap}
use mathlib.Core.List.{List}
use mathlib.Core.Option.{some}
use mathlib.Core.Bool.{Bool, true, false}
use lib.ListN.{length, take}
use lib.Seq.{take_all, length-take-le}
use lib.Dec.{leb}
use borrow.Author.Tests.{leb-true, leb-false, lt-leb}
use Rattle.rules.specs.Sizes.{certificates_max, run_records, prepared_records}
use Rattle.rules.specs.Numbers.{bad_length, too_many}
use Rattle.std.specs.Prelude.{if◌then◌else◌}
use Rattle.rules.specs.Basics.{Bytes, first_fault}
use Rattle.rules.specs.Request.{Certificate}
use Rattle.rules.specs.Ledger.{Ledger}
use Rattle.rules.specs.Runs.{run_lengths_fit, run_fault, run}
use Rattle.rules.specs.Prepared.{Form, prepared_fault, prepared_run}

-- what a longer row is refused with, whatever its certificates are: 1 for the lengths, else "a row over 32 gives 3"
abbrev long_fault : ℕ → Bytes → Bytes → Bytes → ℕ
long_fault most km0 acl requests = if run_lengths_fit most km0 acl requests then too_many else bad_length

long_refused : (most : ℕ) (km0 acl : Bytes) (row : List Certificate) (requests buffer : Bytes) → certificates_max < length row
    → run_fault most km0 acl row requests buffer ≡ some (long_fault most km0 acl requests)
unfolding run_fault first_fault
long_refused most km0 acl row requests buffer h = pick (run_lengths_fit most km0 acl requests) refl
  where
    pick : (b : Bool) → run_lengths_fit most km0 acl requests ≡ b → run_fault most km0 acl row requests buffer ≡ some (long_fault most km0 acl requests)
    pick true e = rw (e, lt-leb (length row) certificates_max h)
    pick false e = rw e

-- an answer that the first 33 certificates of a longer row get as the whole row does, they get of every row; they are too many as well
first_as_whole : {A : Type 0} (answer : List Certificate → A) (row : List Certificate)
    → (certificates_max < length (take (certificates_max + 1) row) → certificates_max < length row → answer (take (certificates_max + 1) row) ≡ answer row)
    → answer (take (certificates_max + 1) row) ≡ answer row
first_as_whole answer row long = pick (leb (length row) certificates_max) refl
  where
    pick : (b : Bool) → leb (length row) certificates_max ≡ b → answer (take (certificates_max + 1) row) ≡ answer row
    pick true e = let n = leb-true (length row) certificates_max e in ap answer (take_all (certificates_max + 1) row (omega arith))
    pick false e =
        let n = leb-false (length row) certificates_max e in
        let t = length-take-le (certificates_max + 1) row (omega arith) in
        long (omega arith) n

-- "a row over 32 gives 3": the first 33 certificates of a row get the answer of the whole row
pub run_long_row : (l : Ledger) (km0 acl : Bytes) (row : List Certificate) (requests buffer : Bytes)
    → run l km0 acl (take (certificates_max + 1) row) requests buffer ≡ run l km0 acl row requests buffer
unfolding run
run_long_row l km0 acl row requests buffer =
    first_as_whole (λ r. run l km0 acl r requests buffer) row
    (λ m n. rw (long_refused run_records km0 acl row requests buffer n, long_refused run_records km0 acl (take (certificates_max + 1) row) requests buffer m))

-- the same on a prepared ACL
pub prepared_run_long_row : (l : Ledger) (km0 acl : Bytes) (row : List Certificate) (f : Form) (requests buffer : Bytes)
    → prepared_run l km0 acl (take (certificates_max + 1) row) f requests buffer ≡ prepared_run l km0 acl row f requests buffer
unfolding prepared_run prepared_fault first_fault
prepared_run_long_row l km0 acl row f requests buffer =
    first_as_whole (λ r. prepared_run l km0 acl r f requests buffer) row
    (λ m n. rw (long_refused prepared_records km0 acl row requests buffer n, long_refused prepared_records km0 acl (take (certificates_max + 1) row) requests buffer m))
