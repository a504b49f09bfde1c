-- A request file whose test is passed, and its parts as code lends them.
use Rattle.std.specs.Prelude.{ℕ, ◌-◌, ◌≤◌, ◌≡◌, length, take, drop}
use Rattle.std.proofs.Math.Option.{none}
use Rattle.rules.specs.Sizes.{record_bytes}
use Rattle.rules.specs.Basics.{Bytes, records}
use Rattle.rules.specs.Request.{certificates_of, delegations_of, request_of}
use Rattle.request_reader.specs.Following.{following_fault}

-- The certificates are after the request record, and after its record of kind 15 if it has one, and before an offset, `&req[64..r]`, the
-- delegations from there on, `&req[r..]`.
pub record Parted (req : Bytes) (r : ℕ) : Type 0 where
  pub later : record_bytes ≤ r
  pub inside : r ≤ length req
  pub certificates : certificates_of (records (take (r - record_bytes) (drop record_bytes req))) ≡ (request_of req).certificates
  pub delegations : delegations_of (records (take (length req - r) (drop r req))) ≡ (request_of req).delegations

-- What the test of a request file leaves: a request record, fewer than 64 records, and no fault in those that follow the first.
abbrev pub Sound : Bytes → Type 0
Sound req = (record_bytes ≤ length req) × ((length req ≤ 4032) × (following_fault (take record_bytes req) (records (drop record_bytes req)) ≡ none))
