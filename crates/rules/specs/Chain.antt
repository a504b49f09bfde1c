-- Chains of delegations: document 02, request f. What a chain is as a list of delegations, and that `chained` holds exactly where there is one: the crate
-- theorems, specs/Certification.antt and proofs/Certification.antt.
use Rattle.std.specs.Prelude.{ℕ, zero, suc, List, Bool, false, ◌&&◌, ◌||◌}
use Rattle.std.proofs.Math.Option.{Option}
use Rattle.rules.specs.Sizes.{chain_max}
use Rattle.rules.specs.Basics.{Bytes, any, same, bit, matches_number}
use Rattle.rules.specs.Request.{Wanted, operation, working_blob, recovery_blob, Certificate, Delegation}

-- a certificate "has that hash and, where named, that mechanism"
unfoldable pub serves : Bytes → Option ℕ → Certificate → Bool
serves k m c = same c.hash k && matches_number m c.mechanism

-- "each mask holding the requested bit"
unfoldable pub holds : ℕ → Delegation → Bool
holds p d = bit p d.mask

-- "a chain of at most four delegations leads from the group's certifier to a presented key, each mask holding the requested bit. A group's named
-- mechanism then applies to the presented certificate.": a chain of at most n from a key is a delegation from it that leads to a presented key, or to one
-- from which a chain of at most n - 1 leads
unfoldable pub chained : ℕ → ℕ → Bytes → Option ℕ → List Certificate → List Delegation → Bool
chained zero p k m cs ds = false
chained (suc n) p k m cs ds =
    any (λ d. holds p d && same d.from k && (any (serves d.to m) cs || chained n p d.to m cs ds)) ds

-- "A use request is certified .. if .. a chain"; "With either blob request they are read but certify nothing."
unfoldable pub delegated : Wanted → Bytes → Option ℕ → List Certificate → List Delegation → Bool
delegated (operation p) k m cs ds = chained chain_max p k m cs ds
delegated (working_blob w f) k m cs ds = false
delegated (recovery_blob w f) k m cs ds = false

-- "a presented certificate satisfies it, or a chain": of a key, and of a mechanism where one is named
unfoldable pub vouched : Wanted → Bytes → Option ℕ → List Certificate → List Delegation → Bool
vouched w k m cs ds = any (serves k m) cs || delegated w k m cs ds
