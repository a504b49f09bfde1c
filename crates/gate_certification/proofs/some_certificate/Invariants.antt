use Rattle.std.proofs.Common.{ℕ, Bool, [], ◌≡◌, ◌<◌, length, get_or, drop}
use Rattle.rules.specs.Basics.{any}
use Rattle.rules.specs.Request.{Certificate, certificate_of, certificates_of}
use Rattle.gate_certification.proofs.some_certificate.Given as goal

abbrev pub invariant-loop-i : goal.invariant-loop-i
invariant-loop-i g l =
    (t : Certificate → Bool)
    → ((i : ℕ) (r : Bool) → i < length l.recs → goal.F-post g l.test i r → r ≡ t (certificate_of (get_or l.recs i [])))
    → any t (certificates_of (drop l.i l.recs)) ≡ any t (certificates_of l.recs)
