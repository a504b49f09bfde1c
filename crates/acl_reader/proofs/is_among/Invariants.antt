use Prim.Native.Nat.{◌-◌}
use mathlib.Core.Path.{◌≡◌}
use Rattle.rules.specs.Acl.{among}
use Rattle.acl_reader.specs.Places.{keys_of}
use Rattle.acl_reader.proofs.is_among.Given as goal

abbrev pub invariant-loop : goal.invariant-loop
invariant-loop l = among l.key (keys_of (l.n - l.counter) l.left) ≡ among l.key (keys_of l.n l.keys)
