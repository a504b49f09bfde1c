-- The file of given records has these records, and a file of whole records is the file of its records.
use Prim.Native.Nat.{ℕ, zero, suc, ◌*◌, ◌/◌, ◌%◌, ◌≤◌}
use native.Mathlib.Omega.{arith}
use mathlib.Core.Path.{◌≡◌, refl, ◌∙◌, ap, ap₂}
use mathlib.Core.List.{List, [], ◌∷◌, ◌++◌}
use mathlib.Core.Bool.{true}
use lib.ListN.{length, take, drop, length-append, length-drop, take-append-drop}
use lib.Seq.{take_at, drop_at}
use lib.Dec.{eqb, leb}
use borrow.Author.Tests.{eq-eqb, eqb-true, le-leb}
use Rattle.rules.specs.Sizes.{record_bytes}
use Rattle.rules.specs.Basics.{Bytes, Every, records, joined, fits, chunks}
use Rattle.rules.proofs.Laws.{and_left, and_both}
use Rattle.rules.proofs.Rows.{first}

-- a record has 64 bytes
abbrev pub Whole : Bytes → Type 0
Whole r = length r ≡ record_bytes

pub joined_length : (rs : List Bytes) → Every Whole rs → length (joined rs) ≡ length rs * record_bytes
unfolding joined
joined_length [] h = refl
joined_length (r ∷ rs) h = let e = joined_length rs h.1 in let d = h.0 in simp length-append (omega arith)

pub joined_records : (rs : List Bytes) → Every Whole rs → records (joined rs) ≡ rs
unfolding joined records chunks
joined_records [] h = refl
joined_records (r ∷ rs) h =
    let d = h.0 in
    first (r ++ joined rs) (omega (arith, length-append r (joined rs)))
    ∙ ap₂ ◌∷◌ (take_at r (joined rs) record_bytes d) (ap records (drop_at r (joined rs) record_bytes d) ∙ joined_records rs h.1)

pub joined_fits : (most : ℕ) (rs : List Bytes) → Every Whole rs → length rs ≤ most → fits most (joined rs) ≡ true
unfolding fits
joined_fits most rs h b =
    let e = joined_length rs h in
    and_both (eqb (length (joined rs) % record_bytes) 0) (leb (length (joined rs)) (most * record_bytes))
    (eq-eqb (length (joined rs) % record_bytes) 0 (omega arith)) (le-leb (length (joined rs)) (most * record_bytes) (omega arith))

-- of a file with as many bytes as n records
chunks_joined : (n : ℕ) (s : Bytes) → length s ≡ n * record_bytes → joined (chunks n s) ≡ s
unfolding joined chunks
chunks_joined zero [] e = refl
chunks_joined zero (b ∷ s) e = absurd (omega arith)
chunks_joined (suc n) s e =
    ap (λ (t : Bytes). take record_bytes s ++ t) (chunks_joined n (drop record_bytes s) (omega (arith, length-drop record_bytes s)))
    ∙ take-append-drop record_bytes s

pub fits_joined : (most : ℕ) (s : Bytes) → fits most s ≡ true → joined (records s) ≡ s
unfolding fits records
fits_joined most s e =
    let d = eqb-true (length s % record_bytes) 0 (and_left (eqb (length s % record_bytes) 0) (leb (length s) (most * record_bytes)) e) in
    chunks_joined (length s / record_bytes) s (omega arith)
