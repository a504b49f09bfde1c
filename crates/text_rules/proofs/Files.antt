-- A file of whole records is its records, one after another.
use Prim.Native.Nat.{ℕ, zero, suc, ◌*◌, ◌/◌, ◌%◌}
use native.Mathlib.Omega.{arith}
use mathlib.Core.Path.{◌≡◌, refl, ◌∙◌, ap, ap₂}
use mathlib.Core.List.{List, [], ◌∷◌, ◌++◌, flatten}
use lib.ListN.{length, take, drop, length-append, length-drop, take-append-drop}
use lib.Seq.{length-take-le, take_at, drop_at}
use Rattle.rules.specs.Sizes.{record_bytes}
use Rattle.rules.specs.Basics.{Bytes, Every, chunks, records}
use Rattle.text_rules.specs.Listing.{Octet, IsRecord}
use Rattle.text_rules.proofs.Parts.{every_take, every_drop}

chunks_flat : (n : ℕ) (bs : Bytes) → length bs ≡ n * record_bytes → flatten (chunks n bs) ≡ bs
unfolding chunks flatten
chunks_flat zero [] e = refl
chunks_flat zero (b ∷ bs) e = absurd (omega arith)
chunks_flat (suc n) bs e =
    ap (λ (x : Bytes). take record_bytes bs ++ x) (chunks_flat n (drop record_bytes bs) (rw (length-drop record_bytes bs) (omega arith))) ∙ take-append-drop record_bytes bs

chunks_records : (n : ℕ) (bs : Bytes) → length bs ≡ n * record_bytes → Every Octet bs → Every IsRecord (chunks n bs)
unfolding chunks
chunks_records zero bs e o = tt
chunks_records (suc n) bs e o = (
  record { whole = length-take-le record_bytes bs (omega arith); octets = every_take Octet record_bytes bs o },
  chunks_records n (drop record_bytes bs) (rw (length-drop record_bytes bs) (omega arith)) (every_drop Octet record_bytes bs o),
)

pub records_flat : (file : Bytes) → length file % record_bytes ≡ 0 → flatten (records file) ≡ file
unfolding records
records_flat file e = chunks_flat (length file / record_bytes) file (omega arith)

pub records_all : (file : Bytes) → length file % record_bytes ≡ 0 → Every Octet file → Every IsRecord (records file)
unfolding records
records_all file e o = chunks_records (length file / record_bytes) file (omega arith) o

pub flat_length : (rs : List Bytes) → Every IsRecord rs → length (flatten rs) ≡ length rs * record_bytes
unfolding flatten
flat_length [] h = refl
flat_length (r ∷ rs) h = let w = h.0.whole in let i = flat_length rs h.1 in rw length-append (omega arith)

flat_chunks : (rs : List Bytes) → Every IsRecord rs → chunks (length rs) (flatten rs) ≡ rs
unfolding chunks flatten
flat_chunks [] h = refl
flat_chunks (r ∷ rs) h =
    ap₂ ◌∷◌ (take_at r (flatten rs) record_bytes h.0.whole)
    (ap (chunks (length rs)) (drop_at r (flatten rs) record_bytes h.0.whole) ∙ flat_chunks rs h.1)

pub flat_records : (rs : List Bytes) → Every IsRecord rs → records (flatten rs) ≡ rs
unfolding records
flat_records rs h =
    let l = flat_length rs h in
    let e : length (flatten rs) / record_bytes ≡ length rs = omega arith in
    ap (λ (n : ℕ). chunks n (flatten rs)) e ∙ flat_chunks rs h
