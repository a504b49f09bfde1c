-- The numbers of document 01's table, for the refusals and denials of the code, and the group that a denial carries.
use Rattle.std.specs.Prelude.{ℕ}
use Rattle.std.proofs.Math.Option.{Option, none, some}
use Rattle.rules.specs.Numbers as numbers
use Rattle.refusals.specs.declared.Refusal.{Refusal}
use Rattle.refusals.specs.declared.Refusal.TheVariants.{BadLength, Malformed, TooMany, NotNarrower, ShortBuffer, OutOfRange, UnknownSuite, OpenArchive, NoSlot, OtherForm}
use Rattle.refusals.specs.declared.Denial.{Denial}
use Rattle.refusals.specs.declared.Denial.TheVariants.{ClockBack, NotAdmitted, NotCertified, Spent}

-- "Refusal numbers": all but 4 to 7
abbrev pub refusal_number : Refusal → ℕ
refusal_number BadLength = numbers.bad_length
refusal_number Malformed = numbers.malformed
refusal_number TooMany = numbers.too_many
refusal_number NotNarrower = numbers.not_narrower
refusal_number ShortBuffer = numbers.short_buffer
refusal_number OutOfRange = numbers.out_of_range
refusal_number UnknownSuite = numbers.unknown_suite
refusal_number OpenArchive = numbers.open_archive
refusal_number NoSlot = numbers.no_slot
refusal_number OtherForm = numbers.other_form

-- "Refusal numbers": 4 to 7
abbrev pub denial_number : Denial → ℕ
denial_number ClockBack = numbers.clock_back
denial_number NotAdmitted = numbers.not_admitted
denial_number (NotCertified place) = numbers.not_certified
denial_number (Spent place) = numbers.spent

-- "Refusal 6 shall carry the lowest group that admits; refusal 7 the lowest that admits and is certified."; "Refusal 5 stays bare."
abbrev pub denial_group : Denial → Option ℕ
denial_group ClockBack = none
denial_group NotAdmitted = none
denial_group (NotCertified place) = some place
denial_group (Spent place) = some place
