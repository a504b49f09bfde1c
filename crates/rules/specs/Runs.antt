-- Runs over decoded certificates: document 02, request j.
use Rattle.std.specs.Prelude.{ℕ, ◌*◌, List, [], ◌∷◌, ◌++◌, map, Bool, not, ◌&&◌, ◌≡◌, length, eqb, leb}
use Rattle.std.proofs.Math.Option.{Option, none, some}
use Rattle.rules.specs.Sizes.{hash_bytes, acl_records, certificates_max, run_records, answer_bytes}
use Rattle.rules.specs.Numbers.{bad_length, malformed, too_many, short_buffer, no_group}
use Rattle.rules.specs.Basics.{Bytes, all, unless, first_fault, records, joined, fits}
use Rattle.rules.specs.Acl.{acl_fault}
use Rattle.rules.specs.Request.{Certificate, Request, wanted_of, time_of}
use Rattle.rules.specs.Ledger.{Ledger}
use Rattle.rules.specs.Gate.{Answer, done, permit, refuse, Outcome, request}
use Rattle.rules.specs.Subject.{written_over}
use Rattle.rules.specs.Written.{big_endian, certificate_bytes}

-- "decoded certificates": what the Rattle type of one sees to, a hash of 20 bytes
abbrev pub Decoded : Certificate → Type 0
Decoded c = length c.hash ≡ hash_bytes

-- "asking one by one": the request file of a request record with the certificates of "a lent row of decoded certificates", each as its record of kind
-- 9. "Delegations and kind 15 records are not offered here."
unfoldable pub with_row : Bytes → List Certificate → Bytes
with_row r row = joined (r ∷ map certificate_bytes row)

-- what such a request says
abbrev pub request_with : Bytes → List Certificate → Request
request_with r row = record { wanted = wanted_of r none; time = time_of r; certificates = row; delegations = [] }

-- one request of a run, asked of the gate
abbrev pub ask_gate : Bytes → Bytes → List Certificate → Ledger → Bytes → Outcome
ask_gate km0 acl row l r = request l km0 acl (with_row r row)

-- "Each answer is eight bytes: the number (0 for a permit) in four, then the group in four": a number and a group
abbrev pub answer_with : ℕ → ℕ → Bytes
answer_with n place = big_endian 4 n ++ big_endian 4 place

-- "all ones where none is named"
abbrev pub group_or : Option ℕ → ℕ
group_or none = no_group
group_or (some place) = place

-- the answer's bytes; 6 and 7 name their group; no request is answered with `done`
unfoldable pub bytes_of_answer : Answer → Bytes
bytes_of_answer done = answer_with 0 no_group
bytes_of_answer (permit place) = answer_with 0 place
bytes_of_answer (refuse f near) = answer_with f (group_or near)

-- The results of requests: the answers, one after the other, and the ledger.
pub record Ran : Type 0 where
  pub answers : Bytes
  pub ledger : Ledger

-- an answer before those that follow
abbrev pub answered_first : Answer → Ran → Ran
answered_first a rest = record { answers = bytes_of_answer a ++ rest.answers; ledger = rest.ledger }

-- "asking one by one in order": each request on the ledger that the one before it returns; "a refusal in the middle changes nothing and the run
-- goes on"
unfoldable pub asked_in_order : (Ledger → Bytes → Outcome) → Ledger → List Bytes → Ran
asked_in_order ask l [] = record { answers = []; ledger = l }
asked_in_order ask l (r ∷ rs) = answered_first (ask l r).answer (asked_in_order ask (ask l r).ledger rs)

-- the number of requests of a run
abbrev pub requests_in : Bytes → ℕ
requests_in requests = length (records requests)

-- "a run over 100 or not whole records, or a bad ACL or KM0 length"
abbrev pub run_lengths_fit : ℕ → Bytes → Bytes → Bytes → Bool
run_lengths_fit most km0 acl requests = fits most requests && fits acl_records acl && eqb (length km0) hash_bytes

-- "a zero mechanism" is no certificate's
abbrev pub mechanism_named : Certificate → Bool
mechanism_named c = not (eqb c.mechanism 0)

-- The refusals of a run as a whole, of at most `most` requests: 1, "then a row over 32 gives 3, a zero mechanism 2, a fault in the ACL's records its
-- number, a short answer buffer 9"
unfoldable pub run_fault : ℕ → Bytes → Bytes → List Certificate → Bytes → Bytes → Option ℕ
run_fault most km0 acl row requests buffer =
    first_fault
    (unless (run_lengths_fit most km0 acl requests) bad_length
    ∷ unless (leb (length row) certificates_max) too_many
    ∷ unless (all mechanism_named row) malformed
    ∷ acl_fault (records acl)
    ∷ unless (leb (requests_in requests * answer_bytes) (length buffer)) short_buffer
    ∷ [])

-- What a run replies: the number of its requests, or the number of a refusal of it as a whole.
pub data RunReply : Type 0 where
  ran : ℕ → RunReply
  refused_whole : ℕ → RunReply

-- The reply of a run, the ledger and the answer buffer afterwards.
pub record RunOutcome : Type 0 where
  pub reply : RunReply
  pub ledger : Ledger
  pub buffer : Bytes

-- the outcome of a run, by the refusal of it as a whole: "bytes past the last answer stay"; a refusal leaves "the buffer untouched"
abbrev pub run_end : Ledger → Bytes → Bytes → Option ℕ → Ran → RunOutcome
run_end l requests buffer none o =
    record { reply = ran (requests_in requests); ledger = o.ledger; buffer = written_over {F = ℕ} o.answers buffer none }
run_end l requests buffer (some f) o = record { reply = refused_whole f; ledger = l; buffer = buffer }

-- A run: ledger, KM0, ACL, row of certificates, request records, answer buffer.
unfoldable pub run : Ledger → Bytes → Bytes → List Certificate → Bytes → Bytes → RunOutcome
run l km0 acl row requests buffer =
    run_end l requests buffer (run_fault run_records km0 acl row requests buffer) (asked_in_order (ask_gate km0 acl row) l (records requests))
