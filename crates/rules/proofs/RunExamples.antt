-- Examples of runs: document 02, request j. Two wrong definitions that they rule out: a run that stops at the first refusal (goes_on), and one that
-- leaves out the group that came nearest (nearest).
use Prim.Native.Nat.{ℕ}
use mathlib.Core.Path.{◌≡◌, refl}
use mathlib.Core.List.{List, [], ◌∷◌, ◌++◌}
use lib.ListN.{replicate, take}
use Rattle.rules.specs.Basics.{Bytes}
use Rattle.rules.specs.Request.{Certificate}
use Rattle.rules.specs.Ledger.{fresh_ledger}
use Rattle.rules.specs.Runs.{RunReply, ran, refused_whole, run}
use Rattle.rules.proofs.Computing.{computing}
use Rattle.rules.proofs.Samples.{repeated, timed, hash, open_group, sign_group, limited, certified_group, sign, decrypt, delegation, blob, direct_blob, archive, on_devices, keyless, recovery, stored_recovery}

-- the answer of a number and a group, below 256
abbrev pub answer : ℕ → ℕ → Bytes
answer n place = 0 ∷ 0 ∷ 0 ∷ n ∷ 0 ∷ 0 ∷ 0 ∷ place ∷ []

-- the answer of a number with no group
abbrev pub bare : ℕ → Bytes
bare n = 0 ∷ 0 ∷ 0 ∷ n ∷ 255 ∷ 255 ∷ 255 ∷ 255 ∷ []

-- the certifier of the sample group, decoded, at a mechanism
abbrev certifier : ℕ → Certificate
certifier mechanism = record { hash = hash 9; mechanism = mechanism }

-- what is stated of a run: its reply, the answer buffer afterwards and the first two group counts
pub record Stated : Type 0 where
  pub reply : RunReply
  pub buffer : Bytes
  pub counts : List ℕ

-- of a run
abbrev plain : Bytes → List Certificate → Bytes → Bytes → Stated
plain acl row requests buffer =
    let o = run fresh_ledger (hash 0) acl row requests buffer in
    record { reply = o.reply; buffer = o.buffer; counts = take 2 o.ledger.counts }

abbrev pub states : RunReply → Bytes → List ℕ → Stated
states reply buffer counts = record { reply = reply; buffer = buffer; counts = counts }

-- a group with one use, then a group without limit
abbrev pub two : Bytes
two = limited 1 1 ++ sign_group

-- what is replied to as many Sign requests, on an ACL without groups and with so much room
abbrev replied : ℕ → ℕ → RunReply
replied n room = (run fresh_ledger (hash 0) [] [] (repeated n (sign 5)) (replicate room 8)).reply

-- what is replied to a Sign request with this KM0, on this ACL and with a row of 33 certificates
abbrev replied_over : Bytes → Bytes → RunReply
replied_over km0 acl = (run fresh_ledger km0 acl (replicate 33 (certifier 1)) (sign 5) (replicate 8 8)).reply

-- a direct blob under hkm that is to be stored
abbrev stored_direct : Bytes
stored_direct = timed (7 ∷ 0 ∷ 0 ∷ 64 ∷ [] ++ hash 6) 6

-- an ACL with an open archive action
abbrev loophole : Bytes
loophole = open_group ++ keyless

-- Answers and charges; then the refusals of a run as a whole, in their order: each row but the first has the fault of the next one too.
pub record RunRows : Type 0 where
  pub goes_on : plain (limited 1 1) [] (sign 5 ++ decrypt 6 ++ sign 7 ++ sign 4) (replicate 34 8) ≡ states (ran 4) (answer 0 0 ++ bare 5 ++ answer 7 0 ++ bare 4 ++ (8 ∷ 8 ∷ [])) (1 ∷ 0 ∷ [])
  pub malformed : plain two [] (sign 5 ++ replicate 64 0 ++ sign 7) (replicate 24 8) ≡ states (ran 3) (answer 0 0 ++ bare 2 ++ answer 0 1) (1 ∷ 1 ∷ [])
  pub nearest : plain (open_group ++ certified_group) [] (sign 5 ++ sign 6) (replicate 16 8) ≡ states (ran 2) (answer 6 1 ++ answer 6 1) (0 ∷ 0 ∷ [])
  pub nearest_spent : plain (open_group ++ limited 1 0) [] (sign 5 ++ sign 6) (replicate 16 8) ≡ states (ran 2) (answer 7 1 ++ answer 7 1) (0 ∷ 0 ∷ [])
  pub certified : plain certified_group (certifier 1 ∷ []) (sign 5) (replicate 8 8) ≡ states (ran 1) (answer 0 0) (1 ∷ 0 ∷ [])
  pub stored : plain (open_group ++ archive) [] (recovery ++ stored_recovery) (replicate 16 8) ≡ states (ran 2) (answer 0 0 ++ bare 2) (1 ∷ 0 ∷ [])
  pub stored_working : plain (open_group ++ blob 7 (hash 0) []) [] (direct_blob 5 ++ stored_direct) (replicate 16 8) ≡ states (ran 2) (answer 0 0 ++ bare 2) (1 ∷ 0 ∷ [])
  pub not_offered : plain sign_group [] (delegation 9 13 0 16 ++ on_devices 1) (replicate 16 8) ≡ states (ran 2) (bare 2 ++ bare 2) (0 ∷ 0 ∷ [])
  pub empty_run : plain sign_group [] [] [] ≡ states (ran 0) [] (0 ∷ 0 ∷ [])
  pub empty_run_refused : plain sign_group (certifier 0 ∷ []) [] [] ≡ states (refused_whole 2) [] (0 ∷ 0 ∷ [])
  pub row_of_32 : plain sign_group (replicate 32 (certifier 1)) (sign 5) (replicate 8 8) ≡ states (ran 1) (answer 0 0) (1 ∷ 0 ∷ [])
  pub run_of_100 : replied 100 800 ≡ ran 100
  pub run_of_101 : replied 101 808 ≡ refused_whole 1
  pub part_of_a_record : plain sign_group [] (sign 5 ++ (0 ∷ [])) (replicate 16 8) ≡ states (refused_whole 1) (replicate 16 8) (0 ∷ 0 ∷ [])
  pub over_100_first : plain sign_group (replicate 33 (certifier 1)) (repeated 101 (sign 5)) [] ≡ states (refused_whole 1) [] (0 ∷ 0 ∷ [])
  pub km0_first : replied_over (replicate 19 0) sign_group ≡ refused_whole 1
  pub acl_length_first : replied_over (hash 0) (sign_group ++ (0 ∷ [])) ≡ refused_whole 1
  pub row_of_33 : plain sign_group (replicate 33 (certifier 0)) (sign 5) (replicate 8 8) ≡ states (refused_whole 3) (replicate 8 8) (0 ∷ 0 ∷ [])
  pub zero_mechanism : plain loophole (certifier 0 ∷ []) (sign 5) (replicate 8 8) ≡ states (refused_whole 2) (replicate 8 8) (0 ∷ 0 ∷ [])
  pub bad_acl : plain loophole [] (sign 5) (replicate 7 8) ≡ states (refused_whole 12) (replicate 7 8) (0 ∷ 0 ∷ [])
  pub short_buffer_lem : plain sign_group [] (sign 5) (replicate 7 8) ≡ states (refused_whole 9) (replicate 7 8) (0 ∷ 0 ∷ [])

pub run_rows : RunRows
unfolding computing
run_rows =
    record {
      goes_on = refl;
      malformed = refl;
      nearest = refl;
      nearest_spent = refl;
      certified = refl;
      stored = refl;
      stored_working = refl;
      not_offered = refl;
      empty_run = refl;
      empty_run_refused = refl;
      row_of_32 = refl;
      run_of_100 = refl;
      run_of_101 = refl;
      part_of_a_record = refl;
      over_100_first = refl;
      km0_first = refl;
      acl_length_first = refl;
      row_of_33 = refl;
      zero_mechanism = refl;
      bad_acl = refl;
      short_buffer_lem = refl;
    }
