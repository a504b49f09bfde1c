-- Examples of the trimming tool (request l), as one table that antt computes. Two wrong products that it rules out: one that drops an OpPermissions
-- action with its last bit, and one that trims the officer's group.
use Prim.Native.Nat.{ℕ, ◌-◌, ◌*◌}
use mathlib.Core.Path.{◌≡◌, refl}
use mathlib.Core.List.{List, [], ◌∷◌, ◌++◌}
use lib.ListN.{length, take, drop, replicate}
use Rattle.rules.specs.Sizes.{record_bytes}
use Rattle.rules.specs.Basics.{Bytes}
use Rattle.rules.specs.Desk.{WV1, MSCV3, KV3, CSRL1, approach1, Verdict, accepted, failed, desk}
use Rattle.rules.specs.Trim.{TrimReply, trimmed, untrimmed, unread, trim_reply, trim_acl_buffer, trim_hint_buffer}
use Rattle.rules.proofs.Computing.{computing}
use Rattle.rules.proofs.Samples.{rec, hash, fact, open_group, bundle, bundle_with, signed_well, blob, cardset, on_devices, keyless}

-- the reply, with both buffers afterwards
pub record Trial : Type 0 where
  pub reply : TrimReply
  pub acl : Bytes
  pub hints : Bytes

-- the tool on a bundle and an ACL, with buffers of these lengths that hold eights
abbrev trial : Bytes → Bytes → ℕ → ℕ → Trial
trial bundle acl m n =
    record {
      reply = trim_reply bundle acl (replicate m 8) (replicate n 8);
      acl = trim_acl_buffer bundle acl (replicate m 8) (replicate n 8);
      hints = trim_hint_buffer bundle acl (replicate m 8) (replicate n 8);
    }

-- nothing is written
abbrev nothing : TrimReply → ℕ → ℕ → Trial
nothing reply m n = record { reply = reply; acl = replicate m 8; hints = replicate n 8 }

-- OpPermissions with these bits
abbrev permitting : ℕ → ℕ → Bytes
permitting high low = rec (3 ∷ 0 ∷ 0 ∷ 0 ∷ high ∷ low ∷ [])

-- the officer's group: field 4 of the bundle is its certifier
abbrev officers : Bytes
officers = rec (1 ∷ 0 ∷ 0 ∷ 1 ∷ [] ++ hash 4) ++ permitting 4 0

-- AllowNullKmToken alone, which fails WB1
abbrev unprotected_blob : Bytes
unprotected_blob = rec (4 ∷ 0 ∷ 0 ∷ 32 ∷ [])

-- a hint for a source group, with these action bytes
abbrev hinting : ℕ → Bytes → Bytes
hinting source places = rec (13 ∷ 0 ∷ 0 ∷ 0 ∷ source ∷ 0 ∷ 0 ∷ 0 ∷ [] ++ places)

-- Sign and ExportAsPlain; a blob without protection; a cardset's; ExportAsPlain alone; recovery by another mechanism; then the officer's group
abbrev loose : Bytes
loose =
    open_group ++ permitting 4 16 ++ unprotected_blob ++ blob 28 (hash 20) cardset ++ permitting 4 0 ++ rec (5 ∷ 0 ∷ 0 ∷ 1 ∷ [] ++ hash 7 ++ (0 ∷ 3 ∷ [])) ++ officers

-- the same without what fails
abbrev tight : Bytes
tight = open_group ++ permitting 0 16 ++ blob 28 (hash 20) cardset ++ permitting 0 0 ++ officers

-- blobs to be stored: one without protection, with its record of kind 15, and a cardset's
abbrev stored_loose : Bytes
stored_loose = open_group ++ rec (4 ∷ 0 ∷ 0 ∷ 96 ∷ []) ++ on_devices 1 ++ blob 92 (hash 20) cardset ++ on_devices 2

abbrev stored_tight : Bytes
stored_tight = open_group ++ blob 92 (hash 20) cardset ++ on_devices 2

abbrev stored : Trial
stored = record { reply = trimmed 192 64; acl = stored_tight; hints = hinting 0 (1 ∷ []) }

-- Bundles that the tool takes as it takes the others: under approach 1; under a policy whose lowest protection no blob reaches, which fails KV3; with
-- a CSR for another key, which fails CSRL1.
abbrev before : Bytes
before = take (length bundle - record_bytes) bundle

abbrev under_policy : ℕ → ℕ → Bytes
under_policy approach lowest = before ++ rec (12 ∷ 0 ∷ 0 ∷ 0 ∷ 3 ∷ approach ∷ 7 ∷ lowest ∷ [])

abbrev other_request : Bytes
other_request = take (9 * record_bytes) bundle ++ fact 10 (hash 9) ++ drop (10 * record_bytes) bundle

-- under approach 1, with a state certificate of another module, which fails MSCV3: a step that approach 1 does not run
abbrev other_module : Bytes
other_module = take record_bytes bundle ++ fact 2 (hash 2) ++ drop (2 * record_bytes) (under_policy 1 1)

-- the tool's results, and what request l states
abbrev computed : List Trial
computed =
    trial bundle loose 386 130
    ∷ trial bundle tight 384 128
    ∷ trial bundle stored_loose 192 64
    ∷ trial bundle (open_group ++ keyless) 0 0
    ∷ trial bundle stored_loose 191 64
    ∷ trial bundle stored_loose 192 63
    ∷ trial bundle (loose ++ (0 ∷ [])) 0 0
    ∷ trial (bundle_with (signed_well 2 ++ signed_well 3 ++ signed_well 5 ++ signed_well 6)) stored_loose 192 64
    ∷ trial (under_policy 1 1) stored_loose 192 64
    ∷ trial (under_policy 2 4) stored_loose 192 64
    ∷ trial other_request stored_loose 192 64
    ∷ trial other_module stored_loose 192 64
    ∷ []

abbrev stated : List Trial
stated =
    record { reply = trimmed 384 128; acl = tight ++ (8 ∷ 8 ∷ []); hints = hinting 0 (0 ∷ 2 ∷ 3 ∷ []) ++ hinting 1 [] ++ (8 ∷ 8 ∷ []) }
    ∷ record { reply = trimmed 384 128; acl = tight; hints = hinting 0 (0 ∷ 1 ∷ 2 ∷ []) ++ hinting 1 [] }
    ∷ stored
    ∷ nothing (unread 12) 0 0
    ∷ nothing (unread 9) 191 64
    ∷ nothing (unread 9) 192 63
    ∷ nothing (unread 1) 0 0
    ∷ nothing (untrimmed WV1) 192 64
    ∷ stored
    ∷ stored
    ∷ stored
    ∷ nothing (untrimmed MSCV3) 192 64
    ∷ []

pub trials_hold : computed ≡ stated
unfolding computing
trials_hold = refl

-- what the desk says of the last four
abbrev verdicts : List Verdict
verdicts = desk (under_policy 1 1) stored_tight ∷ desk (under_policy 2 4) stored_tight ∷ desk other_request stored_tight ∷ desk other_module stored_tight ∷ []

pub verdicts_hold : verdicts ≡ accepted approach1 ∷ failed KV3 ∷ failed CSRL1 ∷ accepted approach1 ∷ []
unfolding computing
verdicts_hold = refl
