-- Examples of runs on prepared ACLs: document 02, request k. Two wrong definitions that they rule out: a form whose sets count groups from 1, and a run
-- that takes another ACL's form.
use Prim.Native.Nat.{ℕ}
use mathlib.Core.Path.{◌≡◌, refl}
use mathlib.Core.List.{List, [], ◌∷◌, ◌++◌}
use lib.ListN.{replicate, take}
use Rattle.rules.specs.Basics.{Bytes}
use Rattle.rules.specs.Acl.{acl_of}
use Rattle.rules.specs.Request.{Certificate}
use Rattle.rules.specs.Ledger.{fresh_ledger}
use Rattle.rules.specs.Runs.{RunReply, ran, refused_whole}
use Rattle.rules.specs.Prepared.{Form, form_of, prepared, unprepared, prepare, prepared_run}
use Rattle.rules.proofs.Computing.{computing}
use Rattle.rules.proofs.Samples.{repeated, hash, open_group, sign_group, certified_group, sign, decrypt, blob, archive, keyless, recovery}
use Rattle.rules.proofs.RunExamples.{answer, bare, Stated, states, two}

-- a run on the form made of another ACL
abbrev formed : Bytes → List Certificate → Bytes → Bytes → Bytes → Stated
formed acl row other requests buffer =
    let o = prepared_run fresh_ledger (hash 0) acl row (form_of (acl_of other)) requests buffer in
    record { reply = o.reply; buffer = o.buffer; counts = take 2 o.ledger.counts }

-- a Sign group, and a group with MakeBlob and MakeArchiveBlob actions
abbrev mixed_acl : Bytes
mixed_acl = sign_group ++ open_group ++ blob 5 (hash 0) [] ++ archive

-- a run on a given form, with that ACL
abbrev given : Form → Stated
given form =
    let o = prepared_run fresh_ledger (hash 0) mixed_acl [] form (sign 5) (replicate 8 8) in
    record { reply = o.reply; buffer = o.buffer; counts = take 2 o.ledger.counts }

-- what is replied to as many Sign requests, on an ACL without groups and its form, with so much room
abbrev replied : ℕ → ℕ → RunReply
replied n room = (prepared_run fresh_ledger (hash 0) [] [] (form_of []) (repeated n (sign 5)) (replicate room 8)).reply

-- a form with these groups for Sign and for the blobs, and none for the other permissions
abbrev signing : ℕ → ℕ → ℕ → Form
signing uses working recovery = record { uses = 0 ∷ 0 ∷ 0 ∷ 0 ∷ uses ∷ replicate 11 0; working = working; recovery = recovery }

-- its form: bit 0 for Sign, bit 1 for both blobs
abbrev mixed : Form
mixed = signing 1 2 2

-- refused with 14, ledger and buffer as they were
abbrev refused_14 : Stated
refused_14 = states (refused_whole 14) (replicate 8 8) (0 ∷ 0 ∷ [])

-- "for each permission exactly the groups with an action that sets its bit, for each blob kind exactly those with an action for it"; runs; 14
pub record PreparedRows : Type 0 where
  pub form : prepare mixed_acl ≡ prepared mixed
  pub bad_acl : prepare (open_group ++ keyless) ≡ unprepared 12
  pub not_whole : prepare (0 ∷ []) ≡ unprepared 1
  pub same_form_lem : formed two [] two (sign 5 ++ decrypt 6 ++ sign 7) (replicate 24 8) ≡ states (ran 3) (answer 0 0 ++ bare 5 ++ answer 0 1) (1 ∷ 1 ∷ [])
  pub nearest : formed (open_group ++ certified_group) [] (open_group ++ certified_group) (sign 5) (replicate 8 8) ≡ states (ran 1) (answer 6 1) (0 ∷ 0 ∷ [])
  pub recovery_blob_lem : formed (sign_group ++ open_group ++ archive) [] (sign_group ++ open_group ++ archive) recovery (replicate 8 8) ≡ states (ran 1) (answer 0 1) (0 ∷ 1 ∷ [])
  pub other_form_lem : formed two [] sign_group (sign 5) (replicate 8 8) ≡ states (refused_whole 14) (replicate 8 8) (0 ∷ 0 ∷ [])
  pub short_buffer_first : formed two [] sign_group (sign 5) (replicate 7 8) ≡ states (refused_whole 9) (replicate 7 8) (0 ∷ 0 ∷ [])
  pub row_before_form : formed two (replicate 33 (record { hash = hash 9; mechanism = 1 })) sign_group (sign 5) (replicate 8 8) ≡ states (refused_whole 3) (replicate 8 8) (0 ∷ 0 ∷ [])
  pub acl_before_form : formed (open_group ++ keyless) [] sign_group (sign 5) (replicate 8 8) ≡ states (refused_whole 12) (replicate 8 8) (0 ∷ 0 ∷ [])
  pub own_form : given mixed ≡ states (ran 1) (answer 0 0) (1 ∷ 0 ∷ [])
  pub use_too_many : given (signing 3 2 2) ≡ refused_14
  pub use_too_few : given (signing 0 2 2) ≡ refused_14
  pub other_permission : given (record { uses = 0 ∷ 0 ∷ 0 ∷ 1 ∷ 0 ∷ replicate 11 0; working = 2; recovery = 2 }) ≡ refused_14
  pub working_too_many : given (signing 1 3 2) ≡ refused_14
  pub working_too_few : given (signing 1 0 2) ≡ refused_14
  pub recovery_too_many : given (signing 1 2 3) ≡ refused_14
  pub recovery_too_few : given (signing 1 2 0) ≡ refused_14
  pub run_of_1000 : replied 1000 8000 ≡ ran 1000
  pub run_of_1001 : replied 1001 8008 ≡ refused_whole 1

pub prepared_rows : PreparedRows
unfolding computing
prepared_rows =
    record {
      form = refl;
      bad_acl = refl;
      not_whole = refl;
      same_form_lem = refl;
      nearest = refl;
      recovery_blob_lem = refl;
      other_form_lem = refl;
      short_buffer_first = refl;
      row_before_form = refl;
      acl_before_form = refl;
      own_form = refl;
      use_too_many = refl;
      use_too_few = refl;
      other_permission = refl;
      working_too_many = refl;
      working_too_few = refl;
      recovery_too_many = refl;
      recovery_too_few = refl;
      run_of_1000 = refl;
      run_of_1001 = refl;
    }
