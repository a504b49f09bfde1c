-- What follows a request record.
use Rattle.std.specs.Prelude.{ℕ, List}
use Rattle.std.proofs.Math.Option.{Option}
use Rattle.rules.specs.Numbers.{malformed}
use Rattle.rules.specs.Basics.{Bytes, implies, unless, or_next}
use Rattle.rules.specs.Acl.{announces_blobfile}
use Rattle.rules.specs.Request.{blobfile_follows, presented_after, presented_fault}

-- its first fault: kind 15 where it is announced, then certificates and delegations
unfoldable pub following_fault : Bytes → List Bytes → Option ℕ
following_fault r rs = or_next (unless (implies (announces_blobfile r) (blobfile_follows rs)) malformed) (presented_fault (presented_after r rs))
