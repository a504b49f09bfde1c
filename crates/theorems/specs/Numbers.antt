-- Which numbers a refusal can have: the theorems are in proofs/Refusals.antt, proofs/RunNumbers.antt, proofs/Subjects.antt and proofs/Slots.antt.
use Rattle.std.specs.Prelude.{ℕ, true, List, [], ◌∷◌, map, replicate, ◌≡◌}
use Rattle.std.proofs.Math.Option.{Option, none, some}
use Rattle.rules.specs.Basics.{present}
use Rattle.rules.specs.Gate.{Outcome, refuse}
use Rattle.rules.specs.Numbers.{no_slot, not_certified, out_of_range, spent}
use Rattle.rules.specs.Subject.{SubjectReply, hashes_bytes, subject_reply}
use Rattle.theorems.specs.Cabinets.{CabinetCall, clearing_all, expanding_at, loading_at, narrowing_at, requesting_at, slot_in}
use Rattle.theorems.specs.Demands.{one_of}

-- a number is one of these, and a group goes with it exactly if it is 6 or 7
abbrev pub Numbered : List ℕ → ℕ → Option ℕ → Type 0
Numbered ns n near = (one_of ns n ≡ true) × (present near ≡ one_of (not_certified ∷ spent ∷ []) n)

-- a refusal's number is one of these; 6 and 7 carry a group, and no other number does
abbrev pub RefusalIn : List ℕ → Outcome → Type 0
RefusalIn ns o = (n : ℕ) (near : Option ℕ) → o.answer ≡ refuse n near → Numbered ns n near

-- the numbers of files: "1 over all inputs", then those of their records
abbrev pub file_numbers : List ℕ
file_numbers = 1 ∷ 2 ∷ 3 ∷ 12 ∷ []

-- "Given when": 1 to 7 and 12 for a request and an expansion, 8 besides for a narrowing, 10 for a clear.
abbrev pub request_numbers : List ℕ
request_numbers = 1 ∷ 2 ∷ 3 ∷ 4 ∷ 5 ∷ 6 ∷ 7 ∷ 12 ∷ []

-- the numbers of a narrowing: 8 besides
abbrev pub narrow_numbers : List ℕ
narrow_numbers = 1 ∷ 2 ∷ 3 ∷ 4 ∷ 5 ∷ 6 ∷ 7 ∷ 8 ∷ 12 ∷ []

-- The desk: 1, 2, 3, 12 and 11.
abbrev pub desk_numbers : List ℕ
desk_numbers = 1 ∷ 2 ∷ 3 ∷ 12 ∷ 11 ∷ []

-- The subject writer: 10, 11, 1 and 9; a refusal leaves the buffer, and else the reply is the length, the subject is written, and what is past it
-- stays.
abbrev pub subject_numbers : List ℕ
subject_numbers = 10 ∷ 11 ∷ 1 ∷ 9 ∷ []

-- the replies to a certificate under suites 1 to 5, with hashes of the right length and a buffer that holds any subject
abbrev pub subject_replies : ℕ → List SubjectReply
subject_replies certificate =
    map (λ n. subject_reply certificate n (replicate (hashes_bytes certificate) 9) (replicate 137 8)) (1 ∷ 2 ∷ 3 ∷ 4 ∷ 5 ∷ [])

-- 1, 3, 2, the ACL's 2, 3 and 12, and 9
abbrev pub run_numbers : List ℕ
run_numbers = 1 ∷ 2 ∷ 3 ∷ 12 ∷ 9 ∷ []

-- the numbers of a run on a prepared ACL: 14 besides
abbrev pub prepared_numbers : List ℕ
prepared_numbers = 1 ∷ 2 ∷ 3 ∷ 12 ∷ 9 ∷ 14 ∷ []

-- The numbers that the gate gives to a call, which are by kind of call in the papers, too ..
abbrev pub gate_numbers : CabinetCall → List ℕ
gate_numbers (requesting_at slot km0 acl req) = request_numbers
gate_numbers (loading_at slot time) = []
gate_numbers (clearing_all counter) = out_of_range ∷ []
gate_numbers (narrowing_at slot km0 acl req new hints) = narrow_numbers
gate_numbers (expanding_at slot km0 acl req new) = request_numbers

-- the numbers that the cabinet gives: 13 besides, if the call has a slot
abbrev pub slot_numbers : Option ℕ → List ℕ → List ℕ
slot_numbers none ns = ns
slot_numbers (some slot) ns = no_slot ∷ ns

-- the numbers of a call of the cabinet
abbrev pub cabinet_numbers : CabinetCall → List ℕ
cabinet_numbers x = slot_numbers (slot_in x) (gate_numbers x)
