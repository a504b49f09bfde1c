-- The turns of the walks over a row: what is left of the row, with what was found, has the answer of the whole.
use Prim.Native.Nat.{ℕ, suc, ◌+◌, ◌<◌, ◌≤◌}
use native.Mathlib.Omega.{arith}
use mathlib.Core.Path.{◌≡◌, refl, sym, ◌∙◌, ap}
use mathlib.Core.Bool.{Bool, true, false, ◌&&◌, ◌||◌}
use mathlib.Core.List.{List, [], ◌∷◌}
use lib.ListN.{length, take, drop, get_or, drop_of_length-le, length-map}
use lib.Seq.{drop-cons}
use native.Mathlib.Numerals.{add-one}
use Rattle.rules.specs.Sizes.{hash_bytes, set_bits}
use Rattle.rules.specs.Basics.{Bytes, Every, any, all}
use Rattle.rules.specs.Acl.{acl_of}
use Rattle.rules.specs.Runs.{mechanism_named, Decoded}
use Rattle.rules.specs.Request as rules
use Rattle.run_certificates.specs.declared.Certificate.{Certificate}
use Rattle.run_certificates.specs.Rows.{certificate_as, row_as, certified_set, readable_of, Saw}

-- an element past a row's end
abbrev pub blank : Certificate
blank = record { hash = []; mechanism = 0 }

-- "and" of a test, or "or", over what is left
module _ (p : rules.Certificate → Bool) (ys : List Certificate) (i : ℕ) where
  abbrev here : rules.Certificate
  here = certificate_as (get_or ys i blank)

  left : i < length ys → row_as (drop i ys) ≡ here ∷ row_as (drop (i + 1) ys)
  left h = rw add-one (ap row_as (drop-cons ys i blank h))

  none_left : length ys ≤ i → row_as (drop i ys) ≡ []
  none_left h = ap row_as (drop_of_length-le ys {i = i} h)

  pub all_next : (f x : Bool) → i < length ys → (f && all p (row_as (drop i ys))) ≡ x → ((f && p here) && all p (row_as (drop (i + 1) ys))) ≡ x
  unfolding all
  all_next f x h e = and_assoc f (p here) (all p (row_as (drop (i + 1) ys))) ∙ sym (ap (λ (l : List rules.Certificate). f && all p l) (left h)) ∙ e
    where
      and_assoc : (a b c : Bool) → ((a && b) && c) ≡ (a && (b && c))
      and_assoc true b c = refl
      and_assoc false b c = refl

  pub all_done : (f x : Bool) → length ys ≤ i → (f && all p (row_as (drop i ys))) ≡ x → f ≡ x
  unfolding all
  all_done f x h e = and_true f ∙ sym (ap (λ (l : List rules.Certificate). f && all p l) (none_left h)) ∙ e
    where
      and_true : (b : Bool) → b ≡ (b && true)
      and_true true = refl
      and_true false = refl

  pub any_next : (f x : Bool) → i < length ys → (f || any p (row_as (drop i ys))) ≡ x → ((f || p here) || any p (row_as (drop (i + 1) ys))) ≡ x
  unfolding any
  any_next f x h e = or_assoc f (p here) (any p (row_as (drop (i + 1) ys))) ∙ sym (ap (λ (l : List rules.Certificate). f || any p l) (left h)) ∙ e
    where
      or_assoc : (a b c : Bool) → ((a || b) || c) ≡ (a || (b || c))
      or_assoc true b c = refl
      or_assoc false b c = refl

  pub any_done : (f x : Bool) → length ys ≤ i → (f || any p (row_as (drop i ys))) ≡ x → f ≡ x
  unfolding any
  any_done f x h e = or_false f ∙ sym (ap (λ (l : List rules.Certificate). f || any p l) (none_left h)) ∙ e
    where
      or_false : (b : Bool) → b ≡ (b || false)
      or_false true = refl
      or_false false = refl

pub all_decoded : (ys : List Certificate) → ((k : ℕ) → k < length ys → length ((get_or ys k blank).hash) ≡ hash_bytes) → Every Decoded (row_as ys)
all_decoded [] e = tt
all_decoded (y ∷ ys) e = (e 0 (omega arith), all_decoded ys (λ k h. e (suc k) (omega (arith, h))))

-- what a run knows of its row, from the answers of the calls
pub saw : (acl file : Bytes) (ys : List Certificate) (f : Bool) (c : ℕ) → f ≡ all mechanism_named (row_as ys) → file ≡ readable_of acl (length ys)
    → c ≡ certified_set (row_as ys) (take set_bits (acl_of file)) → Every Decoded (row_as ys)
    → Saw (record { count = length ys; named = f; certified = c }) acl (row_as ys)
saw acl file ys f c named_is file-is c-is sized =
    let n : length (row_as ys) ≡ length ys = length-map ys certificate_as in
    record {
      count_is = sym n;
      named_is = named_is;
      certified_is = c-is ∙ ap (λ (z : Bytes). certified_set (row_as ys) (take set_bits (acl_of z))) (file-is ∙ ap (readable_of acl) (sym n));
      decoded = sized;
    }
