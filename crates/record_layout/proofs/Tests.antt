-- Kinds of records with a number among their bytes: the tests of code, as the definition has them.
use mathlib.Core.Path.{◌≡◌}
use mathlib.Core.Bool.{Bool, ◌&&◌}
use lib.Dec.{leb, ltb}
use Rattle.rules.specs.Basics.{Bytes, byte, blank, within}
use Rattle.rules.specs.Layout.{header, use_laid_out, fact_laid_out, signature_laid_out, policy_laid_out}

pub use_is : (r : Bytes) (h z : Bool) → h ≡ header 0 r → z ≡ blank 5 51 r → (h && ltb (byte 4 r) 16 && z) ≡ use_laid_out r
unfolding use_laid_out
use_is r h z a b = rw (a, b)

pub fact_is : (r : Bytes) (h z w : Bool) → h ≡ header 0 r → z ≡ blank 5 3 r → w ≡ blank 28 36 r → (h && (leb 1 (byte 4 r) && leb (byte 4 r) 14) && z && w) ≡ fact_laid_out r
unfolding fact_laid_out
fact_is r h z w a b c = rw (a, b, c)

pub signature_is : (r : Bytes) (h z : Bool) → h ≡ header 0 r → z ≡ blank 6 58 r
    → (h && (leb 1 (byte 4 r) && leb (byte 4 r) 6) && leb (byte 5 r) 1 && z) ≡ signature_laid_out r
unfolding signature_laid_out
signature_is r h z a b = rw (a, b)

pub policy_is : (r : Bytes) (h b z : Bool) → h ≡ header 0 r → b ≡ within 16 (byte 6 r) 7 → z ≡ blank 8 56 r
    → (h && (leb 1 (byte 5 r) && leb (byte 5 r) 2) && b && (leb 1 (byte 7 r) && leb (byte 7 r) 4) && z) ≡ policy_laid_out r
unfolding policy_laid_out
policy_is r h b z p q s = rw (p, q, s)
