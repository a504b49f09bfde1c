-- What the lookups of this crate answer, in the definitions' terms.
use Rattle.std.specs.Prelude.{Some, None}
use Rattle.std.specs.Prelude as prelude
use Rattle.std.specs.Borrow.{Bor}
use Rattle.std.proofs.Math.Option.{Option, none, some}
use Rattle.rules.specs.Basics.{Bytes}
use Rattle.rules.specs.Bundle as bundle
use Rattle.bundle_facts.specs.declared.Policy.{Policy}

-- what may be missing
abbrev pub given : {A : Type 0} → prelude.Option A → Option A
given None = none
given (Some x) = some x

-- bytes that may be missing
abbrev pub bytes_as : prelude.Option (Bor Bytes) → Option Bytes
bytes_as None = none
bytes_as (Some x) = some x.now

-- the policy
abbrev pub policy_as : Policy → bundle.Policy
policy_as p =
    record {
      suite = p.suite;
      approach = p.approach;
      signing = p.signing;
      encryption = p.encryption;
      csr = p.csr;
      lowest_protection = p.lowest;
    }
