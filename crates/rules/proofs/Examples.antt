-- The clerk's examples: those marked * in document 01, each of them and no other, as one table that antt computes; and a second, small table that
-- keeps the definitions honest against the wrong products that document 01 lists. Two that they rule out: a gate that denies all (the second row), and
-- a desk that grades a key by its first blob action (the tenth).
use Prim.Native.Nat.{ℕ, ◌-◌}
use mathlib.Core.Path.{◌≡◌, refl}
use mathlib.Core.List.{List, [], ◌∷◌, ◌++◌, map}
use mathlib.Core.Option.{none, some}
use mathlib.Core.Bool.{Bool, true, false}
use lib.ListN.{length, replicate}
use Rattle.rules.specs.Sizes.{groups_max, counters_max}
use Rattle.rules.specs.Basics.{Bytes, ascii}
use Rattle.rules.specs.Ledger.{Ledger, fresh_ledger}
use Rattle.rules.specs.Gate.{Answer, done, permit, refuse, Outcome, request, load, clear, narrow, expand}
use Rattle.rules.specs.Suites.{suite}
use Rattle.rules.specs.Desk.{Step, WB1, WB2, WB6, approach2, Verdict, accepted, failed, faulty, desk}
use Rattle.rules.specs.Subject.{SubjectReply, written, unwritten, subject_reply, subject_buffer}
use Rattle.rules.proofs.Computing.{computing}
use Rattle.rules.proofs.Samples.{rec, hash, open_group, sign_group, limited, certified_group, sign, decrypt, other_mechanism, certificate, delegation, sign_link, decrypt_link, counting, reducible, expandable, reduce, enlarge, hint, hint_to, bundle, uncertified_bundle, blob, cardset, softcard, direct_blob, certified_blob_group, archive, stored_archive, on_devices, recovery, stored_recovery, keyless}

-- What an example states: the gate's answer with the whole ledger afterwards, the desk's verdict, or the subject writer's reply with the whole
-- buffer.
pub data Stated : Type 0 where
  answered : Answer → Ledger → Stated
  judged : Verdict → Stated
  wrote : SubjectReply → Bytes → Stated

-- a ledger whose tables begin so and are zero from there on
abbrev pub ledger_of : List ℕ → List ℕ → ℕ → ℕ → Ledger
ledger_of counts counters loaded last =
    record {
      counts = counts ++ replicate (groups_max - length counts) 0;
      counters = counters ++ replicate (counters_max - length counters) 0;
      loaded = loaded;
      last = last;
    }

-- group 0 permits and is charged: the ledger was loaded at one time, the request is of the other
abbrev permits : ℕ → ℕ → Stated
permits loaded time = answered (permit 0) (ledger_of (1 ∷ []) [] loaded time)

-- a refusal leaves the ledger as it was loaded
abbrev refuses : ℕ → ℕ → Stated
refuses n loaded = answered (refuse n none) (ledger_of [] [] loaded loaded)

-- a refusal that carries a group: "Its other cases of 6 and 7 carry group 0."
abbrev refuses_near : ℕ → ℕ → ℕ → Stated
refuses_near n place loaded = answered (refuse n (some place)) (ledger_of [] [] loaded loaded)

-- an acceptance under approach 2
abbrev accepts : ℕ → Bool → Stated
accepts protection recoverable = judged (accepted (approach2 (record { protection = protection; recoverable = recoverable })))

-- the first failing step
abbrev fails : Step → Stated
fails s = judged (failed s)

-- the answer and the ledger of an outcome
abbrev handed : Outcome → Stated
handed o = answered o.answer o.ledger

-- files one after the other
abbrev concat : List Bytes → Bytes
concat [] = []
concat (file ∷ files) = file ++ concat files

-- a fresh ledger loaded at a time, then one request
abbrev gate : ℕ → Bytes → Bytes → Stated
gate time acl req = handed (request (load fresh_ledger time).ledger (hash 0) acl req)

-- Sign and ReduceACL, and recovery blobs stored on devices 0 and 2
abbrev storing : Bytes
storing = reducible ++ stored_archive ++ on_devices 5

-- the desk on the passing bundle and an ACL
abbrev attest : Bytes → Stated
attest acl = judged (desk bundle acl)

-- the subject writer on a buffer
abbrev write : ℕ → ℕ → Bytes → Bytes → Stated
write certificate suite hashes buffer = wrote (subject_reply certificate suite hashes buffer) (subject_buffer certificate suite hashes buffer)

-- what the definitions compute, and what document 01 states
pub record Example : Type 0 where
  pub computed : Stated
  pub expected : Stated

abbrev ◌is◌ : Stated → Stated → Example
◌is◌ c e = record { computed = c; expected = e }

infix 70 ◌is◌
-- "Marked * go into a single proved table"
unfoldable pub starred : List Example
starred =
    gate 0 [] (sign 5) is refuses 5 0
    ∷ gate 0 sign_group (sign 5) is permits 0 5
    ∷ gate 0 sign_group (decrypt 5) is refuses 5 0
    ∷ gate 0 (limited 1 0) (sign 5) is refuses_near 7 0 0
    ∷ gate 0 certified_group (sign 5) is refuses_near 6 0 0
    ∷ gate 0 certified_group (sign 5 ++ other_mechanism) is refuses_near 6 0 0
    ∷ gate 100 (limited 3 10) (sign 109) is permits 100 109
    ∷ gate 100 (limited 3 10) (sign 110) is refuses_near 7 0 100
    ∷ gate 100 (limited 3 10) (sign 99) is refuses 4 100
    ∷ attest (open_group ++ blob 28 (hash 20) cardset ++ blob 5 (hash 0) []) is accepts 1 false
    ∷ attest (open_group ++ blob 29 (hash 20) cardset) is accepts 1 false
    ∷ attest (open_group ++ blob 12 (hash 20) []) is fails WB6
    ∷ attest (open_group ++ rec (4 ∷ 0 ∷ 0 ∷ 32 ∷ [])) is fails WB1
    ∷ attest sign_group is accepts 4 false
    ∷ []

-- What document 01 shuts out ("denying all", "permitting all", "protection always 1", "a gate that never charges or spends a whole limit at load",
-- "a narrowing check that always says 8", "made-up counters", "a writer that writes nothing") or fears ("Grading by the first blob action",
-- "Trusting hkm because it is listed", "Letting two new groups share one source"), as far as no starred row does; and, of document 02, a refusal that
-- always carries group 0, an open group's MakeArchiveBlob action without kahash, and blobs stored where no action lets them or returned where one
-- has them stored.
unfoldable pub guards : List Example
guards =
    gate 0 (counting 3 2) (sign 5) is answered (permit 0) (ledger_of (1 ∷ []) (0 ∷ 0 ∷ 0 ∷ 1 ∷ []) 0 5)
    ∷ handed (narrow fresh_ledger (hash 0) reducible (reduce 6) sign_group (hint 0)) is permits 0 6
    ∷ handed (narrow fresh_ledger (hash 0) reducible (reduce 6) (sign_group ++ sign_group) (hint 0 ++ hint 0)) is refuses 8 0
    ∷ handed (narrow fresh_ledger (hash 0) reducible (reduce 6) sign_group (hint 0 ++ hint 1)) is refuses 8 0
    ∷ handed (narrow fresh_ledger (hash 0) reducible (sign 6) sign_group (hint 0)) is refuses 2 0
    ∷ handed (expand fresh_ledger (hash 0) expandable (enlarge 6) sign_group) is answered (permit 0) (ledger_of [] [] 0 6)
    ∷ handed (clear (ledger_of [] (0 ∷ 7 ∷ 7 ∷ []) 0 0) 1) is answered done (ledger_of [] (0 ∷ 0 ∷ 7 ∷ []) 0 0)
    ∷ handed (clear fresh_ledger 256) is refuses 10 0
    ∷ gate 0 (open_group ++ certified_group ++ certified_group) (sign 5) is refuses_near 6 1 0
    ∷ gate 0 (certified_group ++ limited 1 0 ++ limited 1 0) (sign 5) is refuses_near 7 1 0
    ∷ attest (open_group ++ blob 28 (hash 20) cardset) is accepts 3 false
    ∷ attest (open_group ++ blob 28 (hash 20) softcard) is accepts 2 false
    ∷ attest (open_group ++ archive) is accepts 4 true
    ∷ judged (desk uncertified_bundle (open_group ++ blob 5 (hash 0) [])) is fails WB2
    ∷ write 5 1 (hash 1 ++ hash 2 ++ hash 3) (replicate 76 8) is wrote (written 74) (ascii "Card Recovery" ++ (0 ∷ []) ++ hash 1 ++ hash 2 ++ hash 3 ++ (8 ∷ 8 ∷ []))
    ∷ write 3 1 (hash 1 ++ hash 2 ++ hash 3) (replicate 71 8) is wrote (unwritten 9) (replicate 71 8)
    ∷ gate 0 (open_group ++ keyless) (sign 5) is refuses 12 0
    ∷ gate 0 (certified_group ++ keyless) (sign 5) is refuses_near 6 0 0
    ∷ attest (open_group ++ keyless) is judged (faulty 12)
    ∷ gate 0 (open_group ++ stored_archive ++ on_devices 5) (stored_recovery ++ on_devices 4) is permits 0 5
    ∷ gate 0 (open_group ++ stored_archive ++ on_devices 5) (stored_recovery ++ on_devices 2) is refuses 5 0
    ∷ gate 0 (open_group ++ stored_archive ++ on_devices 5) (stored_recovery ++ on_devices 5) is refuses 2 0
    ∷ gate 0 (open_group ++ stored_archive ++ on_devices 5) recovery is refuses 5 0
    ∷ gate 0 (open_group ++ archive) (stored_recovery ++ on_devices 4) is refuses 5 0
    ∷ gate 0 (open_group ++ stored_archive) recovery is refuses 2 0
    ∷ gate 0 (open_group ++ archive ++ on_devices 5) recovery is refuses 2 0
    ∷ gate 0 (open_group ++ archive) stored_recovery is refuses 2 0
    ∷ handed (narrow fresh_ledger (hash 0) storing (reduce 6) (open_group ++ stored_archive ++ on_devices 4) (hint_to 0 1)) is permits 0 6
    ∷ handed (narrow fresh_ledger (hash 0) storing (reduce 6) (open_group ++ stored_archive ++ on_devices 6) (hint_to 0 1)) is refuses 8 0
    ∷ handed (narrow fresh_ledger (hash 0) storing (reduce 6) (open_group ++ archive) (hint_to 0 1)) is refuses 8 0
    ∷ []

-- Document 02, request f, over a Sign group whose certifier is key 9 at mechanism 1: one delegation; four; four in another order; five; a mask without
-- the bit; a delegation the wrong way round; a loop beside a chain, and alone; a repeated delegation; another mechanism on the presented certificate;
-- a chain that starts elsewhere. Then a blob request, by a chain and by the certifier's own certificate. Then files: a certificate after a delegation,
-- a malformed delegation, a seventeenth. Last, a mask without the bit again, that of the first delegation and that of one between others.
unfoldable pub delegations : List Example
delegations =
    gate 0 certified_group (sign 5 ++ certificate 13 1 ++ sign_link 9 13) is permits 0 5
    ∷ gate 0 certified_group (sign 5 ++ certificate 13 1 ++ sign_link 9 10 ++ sign_link 10 11 ++ sign_link 11 12 ++ sign_link 12 13) is permits 0 5
    ∷ gate 0 certified_group (sign 5 ++ certificate 13 1 ++ sign_link 12 13 ++ sign_link 11 12 ++ sign_link 10 11 ++ sign_link 9 10) is permits 0 5
    ∷ gate 0 certified_group (sign 5 ++ certificate 13 1 ++ sign_link 9 10 ++ sign_link 10 11 ++ sign_link 11 12 ++ sign_link 12 14 ++ sign_link 14 13) is refuses_near 6 0 0
    ∷ gate 0 certified_group (sign 5 ++ certificate 13 1 ++ sign_link 9 10 ++ decrypt_link 10 13) is refuses_near 6 0 0
    ∷ gate 0 certified_group (sign 5 ++ certificate 13 1 ++ sign_link 13 9) is refuses_near 6 0 0
    ∷ gate 0 certified_group (sign 5 ++ certificate 13 1 ++ sign_link 9 10 ++ sign_link 10 9 ++ sign_link 10 13) is permits 0 5
    ∷ gate 0 certified_group (sign 5 ++ certificate 13 1 ++ sign_link 9 10 ++ sign_link 10 9 ++ sign_link 9 9) is refuses_near 6 0 0
    ∷ gate 0 certified_group (sign 5 ++ certificate 13 1 ++ sign_link 9 10 ++ sign_link 9 10 ++ sign_link 10 13 ++ sign_link 10 13) is permits 0 5
    ∷ gate 0 certified_group (sign 5 ++ certificate 13 2 ++ sign_link 9 13) is refuses_near 6 0 0
    ∷ gate 0 certified_group (sign 5 ++ certificate 13 1 ++ sign_link 10 13) is refuses_near 6 0 0
    ∷ gate 0 certified_blob_group (direct_blob 5 ++ certificate 13 1 ++ delegation 9 13 255 255) is refuses_near 6 0 0
    ∷ gate 0 certified_blob_group (direct_blob 5 ++ certificate 9 1 ++ delegation 9 13 255 255) is permits 0 5
    ∷ gate 0 certified_group (sign 5 ++ sign_link 9 13 ++ certificate 13 1) is refuses 2 0
    ∷ gate 0 certified_group (sign 5 ++ certificate 13 1 ++ rec (14 ∷ 0 ∷ 0 ∷ 0 ∷ [] ++ hash 9 ++ hash 13 ++ (0 ∷ 16 ∷ 1 ∷ []))) is refuses 2 0
    ∷ gate 0 certified_group (sign 5 ++ concat (replicate 17 (sign_link 9 13))) is refuses 3 0
    ∷ gate 0 certified_group (sign 5 ++ certificate 13 1 ++ decrypt_link 9 10 ++ sign_link 10 13) is refuses_near 6 0 0
    ∷ gate 0 certified_group (sign 5 ++ certificate 13 1 ++ sign_link 9 10 ++ decrypt_link 10 11 ++ sign_link 11 13) is refuses_near 6 0 0
    ∷ []

-- what is computed is what is stated, row by row
abbrev Hold : List Example → Type 0
Hold rows = map (λ e. e.computed) rows ≡ map (λ e. e.expected) rows

-- The tables hold: the starred one, the one that guards the definitions, and that of the delegations.
pub examples_hold : Hold starred × Hold guards × Hold delegations
unfolding starred guards delegations computing
examples_hold = (refl, refl, refl)
