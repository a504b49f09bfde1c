-- Isolation and demand 3 per slot speak of something: two runs in which slot 0 shares a counter with another slot, whose key the officer expands in
-- the one and another slot uses in the other, and slot 0 is answered the same. Two wrong products that this rules out: a cabinet that gives a slot
-- counters of its own, and one that refuses every slot.
use mathlib.Core.Path.{◌≡◌, refl, sym, ◌∙◌}
use mathlib.Core.List.{List, [], ◌∷◌, ◌++◌, map}
use mathlib.Core.Option.{none, some}
use lib.ListN.{set, replicate}
use Rattle.rules.specs.Sizes.{groups_max, slots_max, counters_max}
use mathlib.Core.Bool.{true, false}
use Rattle.rules.specs.Basics.{Bytes, records}
use Rattle.rules.specs.Gate.{done, permit, refuse}
use Rattle.rules.specs.Desk.{approach2, accepted, desk}
use Rattle.rules.specs.Basics.{Every}
use Rattle.rules.specs.Cabinet.{Cabinet, fresh_slot, fresh_cabinet}
use Rattle.rules.proofs.Computing.{computing}
use Rattle.rules.proofs.Samples.{rec, hash, open_group, sign, certificate, delegation, reduce, enlarge, hint, bundle, blob, cardset, archive, counting, expandable}
use Rattle.theorems.specs.Demands.{outcome, after, by_officer, officer_signed}
use Rattle.theorems.specs.Cabinets.{CabinetCall, requesting_at, loading_at, clearing_all, narrowing_at, expanding_at, cabinet_outcome, cabinet_replies, gate_call, calls_to, turns, counters_named, counters_in, readings_before, PermitAllowed}
use Rattle.theorems.proofs.Witness.{token_blob, grade}
use Rattle.theorems.proofs.Isolation.{isolation}
use Rattle.theorems.proofs.SlotDemand3.{demand_3_slot}

-- counter 3 at most 4; Sign and ReduceACL; a cardset of 1 of 2 under hkm; a recovery action
abbrev pub shared : Bytes
shared =
    open_group ++ rec (2 ∷ 0 ∷ 0 ∷ 0 ∷ 2 ∷ 3 ∷ 0 ∷ 0 ∷ 0 ∷ 0 ∷ 0 ∷ 4 ∷ []) ++ rec (3 ∷ 0 ∷ 0 ∷ 0 ∷ 0 ∷ 0x14 ∷ []) ++ blob 30 (hash 20) cardset ++ archive

-- counter 3 at most 3; Sign
abbrev pub narrower : Bytes
narrower = counting 3 3

-- the officer's: counter 3 at most 9; ExpandACL
abbrev pub officers : Bytes
officers =
    rec (1 ∷ 0 ∷ 0 ∷ 1 ∷ [] ++ hash 4) ++ rec (2 ∷ 0 ∷ 0 ∷ 0 ∷ 2 ∷ 3 ∷ 0 ∷ 0 ∷ 0 ∷ 0 ∷ 0 ∷ 9 ∷ []) ++ rec (3 ∷ 0 ∷ 0 ∷ 0 ∷ 0x10 ∷ 0 ∷ [])

-- a chain from the officer's key: key 13, to which it delegates ExpandACL
abbrev pub by_officers_chain : Bytes
by_officers_chain = certificate 13 1 ++ delegation 4 13 0x10 0

-- Slot 0 is loaded, makes a token blob, is narrowed, is refused and after a clear signs; slot 1 is expanded by a chain from the officer's key; there
-- is no slot 8.
abbrev pub one_run : List CabinetCall
one_run =
    loading_at 0 4
    ∷ requesting_at 0 (hash 0) shared token_blob
    ∷ expanding_at 1 (hash 0) officers (enlarge 6 ++ by_officers_chain) expandable
    ∷ narrowing_at 0 (hash 0) shared (reduce 6) narrower (hint 0)
    ∷ requesting_at 0 (hash 0) narrower (sign 6)
    ∷ clearing_all 3
    ∷ requesting_at 0 (hash 0) narrower (sign 6)
    ∷ requesting_at 8 (hash 0) narrower (sign 6)
    ∷ []

-- another cabinet: slot 2 was used at another time, and counter 5 is not zero
abbrev pub elsewhere : Cabinet
elsewhere =
    record {
      slots = set (replicate slots_max fresh_slot) 2 (record { counts = set (replicate groups_max 0) 0 3; loaded = 1; last = 2 });
      counters = set (replicate counters_max 0) 5 7;
    }

-- slot 0's calls are the same; slot 2 signs where slot 1 was expanded, slot 3 is loaded, and counter 5 is cleared
abbrev pub other_run : List CabinetCall
other_run =
    loading_at 3 100
    ∷ loading_at 0 4
    ∷ requesting_at 0 (hash 0) shared token_blob
    ∷ requesting_at 2 (hash 0) (counting 3 9) (sign 2)
    ∷ clearing_all 5
    ∷ narrowing_at 0 (hash 0) shared (reduce 6) narrower (hint 0)
    ∷ requesting_at 0 (hash 0) narrower (sign 6)
    ∷ clearing_all 3
    ∷ requesting_at 0 (hash 0) narrower (sign 6)
    ∷ []

-- The bundle and slot 0's ACL are accepted; both runs are answered so; slot 0's calls are the same in both, and counter 3 reads the same before each;
-- those calls present nothing of the officer's, whose chain is presented to slot 1.
pub cabinet_witness : (desk bundle shared ≡ accepted (approach2 grade))
    × (cabinet_replies fresh_cabinet one_run ≡ (done ∷ permit 0 ∷ permit 0 ∷ permit 0 ∷ refuse 7 (some 0) ∷ done ∷ permit 0 ∷ refuse 13 none ∷ []))
    × (cabinet_replies elsewhere other_run ≡ (done ∷ done ∷ permit 0 ∷ permit 0 ∷ done ∷ permit 0 ∷ refuse 7 (some 0) ∷ done ∷ permit 0 ∷ []))
    × (calls_to 0 one_run ≡ calls_to 0 other_run)
    × (map readings_before (turns 0 fresh_cabinet one_run) ≡ ([] ∷ (0 ∷ []) ∷ (2 ∷ []) ∷ (3 ∷ []) ∷ (0 ∷ []) ∷ []))
    × (map readings_before (turns 0 elsewhere other_run) ≡ ([] ∷ (0 ∷ []) ∷ (2 ∷ []) ∷ (3 ∷ []) ∷ (0 ∷ []) ∷ []))
    × (map (λ x. officer_signed (records bundle) (gate_call x)) one_run ≡ (false ∷ false ∷ true ∷ false ∷ false ∷ false ∷ false ∷ false ∷ []))
unfolding outcome after by_officer cabinet_outcome calls_to turns counters_named counters_in computing
cabinet_witness = (refl, refl, refl, refl, refl, refl, refl)

-- So slot 0 answers the same in both runs.
pub witness_isolated : map (λ t. t.answer) (turns 0 fresh_cabinet one_run) ≡ map (λ t. t.answer) (turns 0 elsewhere other_run)
witness_isolated =
    (isolation 0 fresh_cabinet elsewhere one_run other_run refl refl refl cabinet_witness.3 (cabinet_witness.4 ∙ sym cabinet_witness.5)).0

-- Demand 3 covers what it is permitted.
pub witness_slot_covered : Every (PermitAllowed (records bundle) grade) (turns 0 fresh_cabinet one_run)
unfolding outcome after by_officer cabinet_outcome calls_to turns counters_named counters_in computing
witness_slot_covered =
    demand_3_slot bundle shared grade cabinet_witness.0 fresh_cabinet 0 one_run
    (tt, (refl, (refl, (refl, (refl, tt))))) (refl, (refl, (refl, (refl, (refl, tt)))))
