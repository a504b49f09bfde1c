-- A lent row of decoded certificates, as the definitions have it, and the groups of an ACL that it certifies.
use Rattle.std.specs.Prelude.{ℕ, List, [], map, ◌≡◌, Bool, true, ◌&&◌, length, take, leb, if◌then◌else◌}
use Rattle.std.proofs.Math.Option.{Option, none, some}
use Rattle.rules.specs.Sizes.{hash_bytes, acl_records, certificates_max, set_bits}
use Rattle.rules.specs.Basics.{Bytes, Every, any, all, part, number, flag, optional, set_of, fits}
use Rattle.rules.specs.Acl.{Group, acl_of}
use Rattle.rules.specs.Request as rules
use Rattle.rules.specs.Chain.{serves}
use Rattle.rules.specs.Runs.{mechanism_named, Decoded}
use Rattle.run_certificates.specs.declared.Certificate.{Certificate}
use Rattle.run_certificates.specs.declared.RowSummary.{RowSummary}

-- a certificate of the code, as the definitions have it
abbrev pub certificate_as : Certificate → rules.Certificate
certificate_as c = record { hash = c.hash; mechanism = c.mechanism }

-- a row of them
abbrev pub row_as : List Certificate → List rules.Certificate
row_as row = map certificate_as row

-- "a presented certificate has that hash and, where named, that mechanism": those of the group of a record
unfoldable pub serving : Bytes → rules.Certificate → Bool
serving r c = serves (part 4 hash_bytes r) (optional (flag 1 r) (number 24 2 r)) c

-- "no certifier, or a presented certificate has that hash": by the certificates of a row, and no delegations
unfoldable pub certified_in : List rules.Certificate → Option Bytes → Option ℕ → Bool
certified_in row none m = true
certified_in row (some k) m = any (serves k m) row

-- the groups that a row certifies, as a set
unfoldable pub certified_set : List rules.Certificate → List Group → ℕ
certified_set row gs = set_of (λ g. certified_in row g.certifier g.mechanism) gs

-- a binary digit
abbrev pub digit : Bool → ℕ
digit b = if b then 1 else 0

-- the ACL, where it and a row of so many certificates have lengths that they may have; nothing else
unfoldable pub readable_of : Bytes → ℕ → Bytes
readable_of acl count = if fits acl_records acl && leb count certificates_max then acl else []

-- what a run knows of its row; the Rattle type sees to the last
pub record Saw (s : RowSummary) (acl : Bytes) (row : List rules.Certificate) : Type 0 where
  pub count_is : s.count ≡ length row
  pub named_is : s.named ≡ all mechanism_named row
  pub certified_is : s.certified ≡ certified_set row (take set_bits (acl_of (readable_of acl (length row))))
  pub decoded : Every Decoded row
