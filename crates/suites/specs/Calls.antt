-- What the match on a suite's number gives, by the definitions: the suite, and the lengths of its subjects.
use Rattle.std.specs.Prelude.{Result, Ok, Err, ℕ, ◌+◌, ◌*◌, ◌≡◌, length}
use Prim.Native.String.{String}
use Rattle.std.proofs.Math.Option.{Option, none, some}
use Rattle.rules.specs.Sizes.{hash_bytes}
use Rattle.rules.specs.Numbers.{unknown_suite}
use Rattle.rules.specs.Basics.{ascii}
use Rattle.rules.specs.Suites as rules
use Rattle.refusals.specs.Refusals.{refusal_number}
use Rattle.suites.specs.declared.Header.{Header}
use Rattle.suites.specs.declared.Header.TheVariants.{Plain, TypeRijndael, Dlf3072Rijndael, Dlf3072Aes, Ecp521Aes}
use Rattle.suites.specs.declared.Suite.{Suite}
use Rattle.refusals.specs.declared.Refusal.{Refusal}

-- "A match on the suite number gives the recovery mechanism, header text choice and length": the suite, and the total lengths of certificates 3 and 4
pub record Calls : Type 0 where
  pub suite : rules.Suite
  pub module_keys_bytes : ℕ
  pub module_setup_bytes : ℕ

-- "other numbers give refusal 11"
pub data SuiteAnswer : Type 0 where
  calls : Calls → SuiteAnswer
  refuses : ℕ → SuiteAnswer

-- the header text of certificate 3, by the choice
abbrev pub keys_text : Header → String
keys_text Plain = "Module keys\0"
keys_text TypeRijndael = "Module keys: KM type Rijndael\0"
keys_text Dlf3072Rijndael = "Module keys: suite = DLf3072s256mRijndael\0"
keys_text Dlf3072Aes = "Module keys: suite = DLf3072s256mAEScSP800131Ar1\0"
keys_text Ecp521Aes = "Module keys: suite = ECp521mAES\0"

-- the header text of certificate 4, by the choice
abbrev pub setup_text : Header → String
setup_text Plain = "Module setup, FIPS3\0"
setup_text TypeRijndael = "Module setup, FIPS3; KM type Rijndael\0"
setup_text Dlf3072Rijndael = "Module setup, FIPS3; suite = DLf3072s256mRijndael\0"
setup_text Dlf3072Aes = "Module setup, FIPS3; suite = DLf3072s256mAEScSP800131Ar1\0"
setup_text Ecp521Aes = "Module setup, FIPS3; suite = ECp521mAES\0"

-- the code's struct as a suite of the definitions
abbrev pub suite_as : Suite → rules.Suite
suite_as s = record { mechanism = s.mechanism; module_keys = keys_text s.header; module_setup = setup_text s.header }

-- the code's answer
abbrev pub lookup_as : Result Suite Refusal → SuiteAnswer
lookup_as (Ok s) = calls (record { suite = suite_as s; module_keys_bytes = s.keys; module_setup_bytes = s.setup })
lookup_as (Err r) = refuses (refusal_number r)

-- what a suite calls for: "each hash is written straight into its place after the header", three hashes for certificate 3 and four for certificate 4
abbrev pub lookup_for : Option rules.Suite → SuiteAnswer
lookup_for none = refuses unknown_suite
lookup_for (some s) =
    calls (record {
      suite = s;
      module_keys_bytes = length (ascii s.module_keys) + 3 * hash_bytes;
      module_setup_bytes = length (ascii s.module_setup) + 4 * hash_bytes;
    })

-- what the suite of a number calls for
unfoldable pub called_for : ℕ → SuiteAnswer
called_for n = lookup_for (rules.suite n)

-- the lengths that the suite of an answer has
abbrev pub Measured : SuiteAnswer → Type 0
Measured (calls c) =
    (c.module_keys_bytes ≡ length (ascii c.suite.module_keys) + 3 * hash_bytes) × (c.module_setup_bytes ≡ length (ascii c.suite.module_setup) + 4 * hash_bytes)
Measured (refuses f) = f ≡ unknown_suite
