-- The reading of refusals and denials loses nothing: the number, with the group where there is one, says which it was, and which of the two.
use Prim.Native.Nat.{ℕ}
use mathlib.Core.Path.{◌≡◌, refl}
use mathlib.Core.Option.{Option, none, some}
use mathlib.Core.Bool.{Bool, true, false, ◌&&◌}
use lib.Dec.{eqb, leb}
use Rattle.std.specs.Prelude.{if◌then◌else◌}
use Rattle.refusals.specs.declared.Refusal.{Refusal}
use Rattle.refusals.specs.declared.Refusal.TheVariants.{BadLength, Malformed, TooMany, NotNarrower, ShortBuffer, OutOfRange, UnknownSuite, OpenArchive, NoSlot, OtherForm}
use Rattle.refusals.specs.declared.Denial.{Denial}
use Rattle.refusals.specs.declared.Denial.TheVariants.{ClockBack, NotAdmitted, NotCertified, Spent}
use Rattle.refusals.specs.Refusals.{refusal_number, denial_number, denial_group}

-- the refusal of each number
abbrev pub refusal_back : ℕ → Refusal
refusal_back n =
    if eqb n 1 then BadLength
    else if eqb n 2 then Malformed
    else if eqb n 3 then TooMany
    else if eqb n 8 then NotNarrower
    else if eqb n 9 then ShortBuffer
    else if eqb n 10 then OutOfRange
    else if eqb n 11 then UnknownSuite
    else if eqb n 12 then OpenArchive
    else if eqb n 13 then NoSlot
    else OtherForm

-- the refusal of a refusal's number is that refusal
pub refusal_back_lem : (r : Refusal) → refusal_back (refusal_number r) ≡ r
refusal_back_lem BadLength = refl
refusal_back_lem Malformed = refl
refusal_back_lem TooMany = refl
refusal_back_lem NotNarrower = refl
refusal_back_lem ShortBuffer = refl
refusal_back_lem OutOfRange = refl
refusal_back_lem UnknownSuite = refl
refusal_back_lem OpenArchive = refl
refusal_back_lem NoSlot = refl
refusal_back_lem OtherForm = refl

-- the denial of each number, with its group
abbrev pub denial_back : ℕ → Option ℕ → Denial
denial_back n none = if eqb n 4 then ClockBack else NotAdmitted
denial_back n (some place) = if eqb n 6 then NotCertified place else Spent place

pub denial_back_lem : (d : Denial) → denial_back (denial_number d) (denial_group d) ≡ d
denial_back_lem ClockBack = refl
denial_back_lem NotAdmitted = refl
denial_back_lem (NotCertified place) = refl
denial_back_lem (Spent place) = refl

-- the numbers of denials: 4 to 7, which no refusal has
abbrev pub denies : ℕ → Bool
denies n = leb 4 n && leb n 7

pub refusal_not_denied : (r : Refusal) → denies (refusal_number r) ≡ false
refusal_not_denied BadLength = refl
refusal_not_denied Malformed = refl
refusal_not_denied TooMany = refl
refusal_not_denied NotNarrower = refl
refusal_not_denied ShortBuffer = refl
refusal_not_denied OutOfRange = refl
refusal_not_denied UnknownSuite = refl
refusal_not_denied OpenArchive = refl
refusal_not_denied NoSlot = refl
refusal_not_denied OtherForm = refl

pub denial_denied : (d : Denial) → denies (denial_number d) ≡ true
denial_denied ClockBack = refl
denial_denied NotAdmitted = refl
denial_denied (NotCertified place) = refl
denial_denied (Spent place) = refl
