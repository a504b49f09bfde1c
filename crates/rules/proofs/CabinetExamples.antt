-- The cabinet's examples, as one table that antt computes: each row is the answer and the whole cabinet afterwards. Two wrong products that it rules
-- out: a cabinet whose load changes another slot, and a cabinet that takes slot 8. Then runs in a slot, each a field, so that one that does not hold is
-- named.
use Prim.Native.Nat.{ℕ, ◌-◌}
use mathlib.Core.Path.{◌≡◌, refl}
use mathlib.Core.List.{List, [], ◌∷◌, ◌++◌, map}
use mathlib.Core.Option.{none, some}
use lib.ListN.{length, replicate}
use Rattle.rules.specs.Sizes.{groups_max, counters_max, slots_max}
use Rattle.rules.specs.Basics.{Bytes}
use Rattle.rules.specs.Acl.{acl_of}
use Rattle.rules.specs.Gate.{Answer, done, permit, refuse}
use Rattle.rules.specs.Cabinet.{Slot, Cabinet, fresh_slot, fresh_cabinet, CabinetOutcome, cabinet_request, cabinet_load, cabinet_clear, cabinet_narrow, cabinet_expand}
use Rattle.rules.specs.Runs.{RunReply, ran, refused_whole}
use Rattle.rules.specs.Prepared.{form_of}
use Rattle.rules.specs.CabinetRuns.{CabinetRan, cabinet_run, cabinet_prepared_run}
use Rattle.rules.proofs.Computing.{computing}
use Rattle.rules.proofs.Samples.{repeated, hash, sign_group, sign, counting, reducible, expandable, reduce, enlarge, hint}
use Rattle.rules.proofs.RunExamples.{answer}

-- a slot whose counts begin so and are zero from there on
abbrev slot : List ℕ → ℕ → ℕ → Slot
slot counts loaded last = record { counts = counts ++ replicate (groups_max - length counts) 0; loaded = loaded; last = last }

-- a cabinet whose slots and counters begin so and are fresh from there on
abbrev cabinet_of : List Slot → List ℕ → Cabinet
cabinet_of slots counters =
    record { slots = slots ++ replicate (slots_max - length slots) fresh_slot; counters = counters ++ replicate (counters_max - length counters) 0 }

-- slots 0 and 1 were loaded and used; counter 3 has 1
abbrev used : Cabinet
used = cabinet_of (slot (1 ∷ []) 2 4 ∷ slot (2 ∷ 1 ∷ []) 3 3 ∷ []) (0 ∷ 0 ∷ 0 ∷ 1 ∷ [])

-- what the definitions compute, and what document 02 states
record Row : Type 0 where
  computed : CabinetOutcome
  answer : Answer
  after : Cabinet

abbrev rows : List Row
rows =
    -- a permit in slot 0 charges slot 0 and the shared counter
    record { computed = cabinet_request used 0 (hash 0) (counting 3 2) (sign 5); answer = permit 0; after = cabinet_of (slot (2 ∷ []) 2 5 ∷ slot (2 ∷ 1 ∷ []) 3 3 ∷ []) (0 ∷ 0 ∷ 0 ∷ 2 ∷ []) }
    -- the same in slot 1
    ∷ record { computed = cabinet_request used 1 (hash 0) (counting 3 2) (sign 5); answer = permit 0; after = cabinet_of (slot (1 ∷ []) 2 4 ∷ slot (3 ∷ 1 ∷ []) 3 5 ∷ []) (0 ∷ 0 ∷ 0 ∷ 2 ∷ []) }
    -- what slot 0 spent is spent for a fresh slot
    ∷ record { computed = cabinet_request used 7 (hash 0) (counting 3 1) (sign 5); answer = refuse 7 (some 0); after = used }
    -- each slot has its own times
    ∷ record { computed = cabinet_request used 0 (hash 0) sign_group (sign 3); answer = refuse 4 none; after = used }
    ∷ record { computed = cabinet_request used 1 (hash 0) sign_group (sign 3); answer = permit 0; after = cabinet_of (slot (1 ∷ []) 2 4 ∷ slot (3 ∷ 1 ∷ []) 3 3 ∷ []) (0 ∷ 0 ∷ 0 ∷ 1 ∷ []) }
    -- a load changes its slot alone
    ∷ record { computed = cabinet_load used 1 9; answer = done; after = cabinet_of (slot (1 ∷ []) 2 4 ∷ slot [] 9 9 ∷ []) (0 ∷ 0 ∷ 0 ∷ 1 ∷ []) }
    -- "Slot numbers over 7 get a new refusal, 13, first of all.", before the lengths and before the ACL
    ∷ record { computed = cabinet_request used 8 [] (0 ∷ []) []; answer = refuse 13 none; after = used }
    ∷ record { computed = cabinet_load used 8 9; answer = refuse 13 none; after = used }
    ∷ record { computed = cabinet_narrow used 255 [] (0 ∷ []) [] [] []; answer = refuse 13 none; after = used }
    ∷ record { computed = cabinet_expand used 8 [] (0 ∷ []) [] []; answer = refuse 13 none; after = used }
    -- a clear takes no slot, and leaves the slots
    ∷ record { computed = cabinet_clear used 3; answer = done; after = cabinet_of (slot (1 ∷ []) 2 4 ∷ slot (2 ∷ 1 ∷ []) 3 3 ∷ []) [] }
    ∷ record { computed = cabinet_clear used counters_max; answer = refuse 10 none; after = used }
    -- replacements in slot 1
    ∷ record { computed = cabinet_narrow used 1 (hash 0) reducible (reduce 6) sign_group (hint 0); answer = permit 0; after = cabinet_of (slot (1 ∷ []) 2 4 ∷ slot (3 ∷ []) 3 6 ∷ []) (0 ∷ 0 ∷ 0 ∷ 1 ∷ []) }
    ∷ record { computed = cabinet_narrow used 1 (hash 0) reducible (reduce 6) sign_group []; answer = refuse 8 none; after = used }
    ∷ record { computed = cabinet_expand used 1 (hash 0) expandable (enlarge 6) sign_group; answer = permit 0; after = cabinet_of (slot (1 ∷ []) 2 4 ∷ slot [] 3 6 ∷ []) (0 ∷ 0 ∷ 0 ∷ 1 ∷ []) }
    -- a fresh cabinet
    ∷ record { computed = cabinet_request fresh_cabinet 7 (hash 0) sign_group (sign 0); answer = permit 0; after = cabinet_of (fresh_slot ∷ fresh_slot ∷ fresh_slot ∷ fresh_slot ∷ fresh_slot ∷ fresh_slot ∷ fresh_slot ∷ slot (1 ∷ []) 0 0 ∷ []) [] }
    ∷ []

-- The table holds.
pub cabinet_examples_hold : map (λ r. r.computed) rows ≡ map (λ r. record { answer = r.answer; cabinet = r.after }) rows
unfolding computing
cabinet_examples_hold = refl

-- the outcome of a run in a slot
abbrev hands : RunReply → Cabinet → Bytes → CabinetRan
hands reply cabinet buffer = record { reply = reply; cabinet = cabinet; buffer = buffer }

-- of two Signs by counter 3 in slot 1, the first is permitted: the slot and the shared counter are charged for it, and slot 0 is unchanged
abbrev in_slot1 : CabinetRan
in_slot1 = hands (ran 2) (cabinet_of (slot (1 ∷ []) 2 4 ∷ slot (3 ∷ 1 ∷ []) 3 5 ∷ []) (0 ∷ 0 ∷ 0 ∷ 2 ∷ [])) (answer 0 0 ++ answer 7 0 ++ (8 ∷ 8 ∷ []))

-- "as the gate would with its counts, times and the shared table"; 13 "first of all", before the lengths of a run, its ACL and its form; a run that is
-- refused whole leaves cabinet and buffer
pub record SlotRunRows : Type 0 where
  pub run_in_slot_1 : cabinet_run used 1 (hash 0) (counting 3 2) [] (sign 5 ++ sign 6) (replicate 18 8) ≡ in_slot1
  pub prepared_in_slot_1 : cabinet_prepared_run used 1 (hash 0) (counting 3 2) [] (form_of (acl_of (counting 3 2))) (sign 5 ++ sign 6) (replicate 18 8) ≡ in_slot1
  pub run_in_slot_8 : cabinet_run used 8 [] (0 ∷ []) [] (repeated 101 (sign 5)) [] ≡ hands (refused_whole 13) used []
  pub prepared_in_slot_8 : cabinet_prepared_run used 8 [] (0 ∷ []) [] (form_of []) (sign 5) (replicate 8 8) ≡ hands (refused_whole 13) used (replicate 8 8)
  pub short_in_slot_1 : cabinet_run used 1 (hash 0) (counting 3 2) [] (sign 5) (replicate 7 8) ≡ hands (refused_whole 9) used (replicate 7 8)
  pub other_form_in_slot_1 : cabinet_prepared_run used 1 (hash 0) (counting 3 2) [] (form_of []) (sign 5) (replicate 8 8) ≡ hands (refused_whole 14) used (replicate 8 8)

pub slot_run_rows : SlotRunRows
unfolding computing
slot_run_rows =
    record {
      run_in_slot_1 = refl;
      prepared_in_slot_1 = refl;
      run_in_slot_8 = refl;
      prepared_in_slot_8 = refl;
      short_in_slot_1 = refl;
      other_form_in_slot_1 = refl;
    }
