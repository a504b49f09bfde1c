-- The words of every refusal number and of every attestation step: what the programs say on standard error beside a number or a step's name.
use Rattle.std.specs.Prelude.{ℕ, List, [], ◌∷◌, eqb, if◌then◌else◌}
use Prim.Native.String.{String}
use Rattle.rules.specs.Basics.{Bytes, ascii}
use Rattle.rules.specs.Numbers as numbers
use Rattle.rules.specs.Desk as rules

-- a number and its words
pub record Entry : Type 0 where
  pub number : ℕ
  pub words : String

abbrev pub refusal_table : List Entry
refusal_table =
    record { number = numbers.bad_length; words = "a length is wrong: not whole records of 64 bytes, a file over its greatest length, a KM0 hash that is not 20 bytes, or subject hashes of the wrong length" }
    ∷ record { number = numbers.malformed; words = "a record is malformed or out of place" }
    ∷ record { number = numbers.too_many; words = "one group, limit, action, certificate, delegation or listed module key too many" }
    ∷ record { number = numbers.clock_back; words = "the time is before the load time or the last permitted request" }
    ∷ record { number = numbers.not_admitted; words = "no group admits the request" }
    ∷ record { number = numbers.not_certified; words = "no group that admits the request has its certifier presented" }
    ∷ record { number = numbers.spent; words = "every group that admits the request and is certified is used up" }
    ∷ record { number = numbers.not_narrower; words = "the hints do not show that the new ACL is a narrowing" }
    ∷ record { number = numbers.short_buffer; words = "a buffer is too short" }
    ∷ record { number = numbers.out_of_range; words = "the counter is over 255, or the certificate is not 3, 4 or 5" }
    ∷ record { number = numbers.unknown_suite; words = "the ciphersuite is not 1 to 5" }
    ∷ record { number = numbers.open_archive; words = "a MakeArchiveBlob action without kahash is in a group without a certifier" }
    ∷ record { number = numbers.no_slot; words = "the slot is over 7" }
    ∷ record { number = numbers.other_form; words = "the prepared form is not the one of this ACL" }
    ∷ record { number = numbers.not_listing; words = "a line is not the written form of a record that is valid there" }
    ∷ []

-- the words of a number in a table; none where it has no such number
abbrev pub lookup : List Entry → ℕ → String
lookup [] n = ""
lookup (e ∷ rest) n = if eqb n e.number then e.words else lookup rest n

unfoldable pub refusal_words : ℕ → Bytes
refusal_words n = ascii (lookup refusal_table n)

abbrev pub step_text : rules.Step → String
step_text rules.WV1 = "the warrant's signature is not good, or its ESN is absent"
step_text rules.MSCV1 = "the module state certificate's signature is not good"
step_text rules.MSCV2 = "the module state certificate's ESN or KML is absent"
step_text rules.MSCV3 = "the ESNs of the warrant and the module state certificate differ"
step_text rules.MSCV4 = "the hash of knsopub is not HKNSO, or HKNSO is absent"
step_text rules.MSCV5 = "hkm is not one of the listed module keys"
step_text rules.WBCV1 = "CertKMaKMCbKNSO is not good, or knsopub, hkm or hkmc is absent"
step_text rules.WBCV2 = "CertKMaKMCaKFIPSbKNSO is not good, or knsopub, hkm, hkmc or hkfips is absent"
step_text rules.WBCV3 = "CertKREaKRAbKNSO is not good, or knsopub, hkre or hkra is absent"
step_text rules.KGCV1 = "the key generation signature is not good"
step_text rules.KGCV2 = "the key hash in kcmsg or the hash of pubkeydata is absent, or they differ"
step_text rules.ACLV3 = "an action has a permission that the policy does not admit"
step_text rules.WB1 = "a MakeBlob action has neither AllowKmOnly nor kthash"
step_text rules.WB2 = "a MakeBlob action's kmhash is not the trusted module key hkm"
step_text rules.WB3 = "a MakeBlob action has AllowNullKmToken"
step_text rules.WB6 = "a MakeBlob action has kthash without ktparams"
step_text rules.RB1 = "a MakeArchiveBlob action needs the recovery key, and hkre is not trusted"
step_text rules.RB2 = "a MakeArchiveBlob action's kahash is not hkre"
step_text rules.RB3 = "a MakeArchiveBlob action's mechanism is not the one of the ciphersuite"
step_text rules.KV3 = "the key's protection is below the lowest that the policy takes"
step_text rules.CSRL1 = "a CSR is in use, and its key is absent or is not pubkeydata"

unfoldable pub step_words : rules.Step → Bytes
step_words s = ascii (step_text s)
