-- Whether a restriction is kept, by what the test of the code may answer.
use Rattle.std.specs.Prelude.{Bool, true, false, ◌≡◌, Option, None, Some}

-- What was there is kept, by a test whose possible answers `gives` says; what was not may be added: kept_by of the rules for any test.
abbrev pub Keeps : {A : Type 0} → (A → A → Bool → Type 0) → Option A → Option A → Bool → Type 0
Keeps gives new None r = r ≡ true
Keeps gives None (Some o) r = r ≡ false
Keeps gives (Some n) (Some o) r = gives n o r
