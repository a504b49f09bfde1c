-- What a certificate vouches for.
use mathlib.Core.Path.{◌≡◌, refl}
use mathlib.Core.Bool.{Bool, true, false, ◌&&◌}

-- a certificate that is good, and what it vouches with
module _ (good a b c : Bool) (r s : Bool) (e : r ≡ good) (f : s ≡ (a && b && c)) where
  pub vouched_is : (r && s) ≡ (good && a && b && c)
  vouched_is = rw (e, f) (pick good)
    where
      pick : (g : Bool) → (g && (a && b && c)) ≡ (g && a && b && c)
      pick true = refl
      pick false = refl

  pub vouched_more : (d t : Bool) → t ≡ d → (r && s && t) ≡ (good && a && b && c && d)
  vouched_more d t h = rw (vouched_is, h)
