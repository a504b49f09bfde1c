use Prim.Native.Nat.{ℕ, zero, suc, ◌/◌}
use mathlib.Core.Path.{◌≡◌, refl, ◌∙◌, ap}
use mathlib.Core.List.{◌∷◌}
use lib.ListN.{length, take, drop}
use Rattle.std.specs.Simd.{first_chunks}
use Rattle.rules.specs.Basics.{Bytes, chunks, records}
use Rattle.record_fields.proofs.records.Goals as goal

chunks_lent : (n : ℕ) (s : Bytes) → first_chunks 64 n s ≡ chunks n s
unfolding chunks
chunks_lent zero s = refl
chunks_lent (suc n) s = ap (λ (l : _). take 64 s ∷ l) (chunks_lent n (drop 64 s))

pub returns : goal.returns
unfolding records
returns c = c.as_chunks.ensures.front ∙ chunks_lent (length c.args.file.now / 64) c.args.file.now
