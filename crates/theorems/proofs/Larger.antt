-- "Files accepted before must be read unchanged.", their acceptance: an ACL file that has no fault under some sizes of the tables has none under larger ones; so one that
-- had none under document 01's sizes has none now. What a file says (acl_of) does not depend on the sizes. Two wrong products that this rules out: one
-- whose longest ACL did not grow with its groups, and one that takes a counter's number for another's.
use Prim.Native.Nat.{ℕ, ◌*◌, ◌/◌, ◌%◌, ◌≤◌}
use native.Mathlib.Omega.{arith}
use mathlib.Core.Path.{◌≡◌, refl, ◌∙◌}
use mathlib.Core.List.{List, [], ◌∷◌}
use mathlib.Core.Option.{Option, none}
use mathlib.Core.Bool.{Bool, true, false, ◌&&◌}
use lib.ListN.{length, length-map}
use lib.Dec.{eqb, leb, ltb}
use borrow.Author.Tests.{leb-true, le-leb, ltb-true, lt-ltb}
use Rattle.rules.specs.Sizes.{record_bytes, Capacity, today, acl_records_under}
use Rattle.rules.specs.Numbers.{bad_length, malformed, too_many, open_archive}
use Rattle.std.specs.Prelude.{if◌then◌else◌}
use Rattle.rules.specs.Basics.{Bytes, kind, byte, fits, unless, or_next, first_fault, scan, file_fault, records}
use Rattle.rules.specs.Layout.{counter_under, limit_under}
use Rattle.rules.specs.Acl.{AclState, acl_start, limit_key, limit_in_place, blobfile_record, placed_under, in_place_under, has_room_under, keyed, after_record, record_fault_under, acl_end, acl_fault_under, acl_file_fault_under, acl_file_fault}
use Rattle.rules.specs.Request.{hint_of, hints_of, hints_fault, hints_file_fault}
use Rattle.rules.specs.Gate.{request, clear, narrow, expand}
use Rattle.rules.proofs.Laws.{and_left, and_right, and_both, unless_passed, or_next_first, or_next_next, fault_none_every, chunks_length}
use Rattle.theorems.specs.Capacity.{base, NoSmaller, outcome_under}
use Rattle.theorems.specs.Demands.{Call, requesting, loading, clearing, narrowing, expanding, State, outcome}

ruleset conj = (and_left, and_right, and_both)

-- At today's sizes it is the gate.
pub today_outcome : (s : State) (c : Call) → outcome_under today s c ≡ outcome s c
unfolding outcome_under outcome request clear narrow expand
today_outcome s (requesting km0 req) = refl
today_outcome s (loading time) = refl
today_outcome s (clearing counter) = refl
today_outcome s (narrowing km0 req new hints) = refl
today_outcome s (expanding km0 req new) = refl

-- a hints file has no more hints than records
pub hints_few : (n : ℕ) (hints : Bytes) → fits n hints ≡ true → length (hints_of hints) ≤ n
unfolding records fits
hints_few n hints e =
    let a = leb-true (length hints) (n * record_bytes) (and_right (eqb (length hints % record_bytes) 0) (leb (length hints) (n * record_bytes)) e) in
    let b : length (hints_of hints) ≡ length hints / 64 = length-map (records hints) hint_of ∙ chunks_length (length hints / 64) hints in
    omega arith

-- a list of tests, each passed
passed : {F : Type 0} (b : Bool) (f : F) (t : Option F) → b ≡ true → t ≡ none → or_next (unless b f) t ≡ none
passed b f t p q = rw (p, q)

-- a file that fits fits a greater length
pub fits_more : (m n : ℕ) (file : Bytes) → m ≤ n → fits m file ≡ true → fits n file ≡ true
unfolding fits
fits_more m n file h e =
    let whole = eqb (length file % record_bytes) 0 in
    let a = leb-true (length file) (m * record_bytes) (and_right whole (leb (length file) (m * record_bytes)) e) in
    and_both whole (leb (length file) (n * record_bytes)) (and_left whole (leb (length file) (m * record_bytes)) e) (le-leb (length file) (n * record_bytes) (omega arith))

-- a file without fault has none under a greater length, if its records have none
file_more : (m n : ℕ) (f g : List Bytes → Option ℕ) (file : Bytes) → m ≤ n → (f (records file) ≡ none → g (records file) ≡ none) → file_fault m f file ≡ none → file_fault n g file ≡ none
unfolding file_fault first_fault
file_more m n f g file h k e =
    let t = fault_none_every (unless (fits m file) bad_length ∷ f (records file) ∷ []) e in
    passed (fits n file) bad_length _ (fits_more m n file h (unless_passed (fits m file) bad_length t.0)) (rw (k t.1.0))

module _ (small large : Capacity) (more : NoSmaller small large) where
  ltb_more : (x m n : ℕ) → m ≤ n → ltb x m ≡ true → ltb x n ≡ true
  ltb_more x m n h e = let l = ltb-true x m e in lt-ltb x n (omega arith)

  counter_more : (sort counter : ℕ) → counter_under small sort counter ≡ true → counter_under large sort counter ≡ true
  unfolding counter_under
  counter_more sort counter e = pick (eqb sort 2) refl
    where
      pick : (b : Bool) → eqb sort 2 ≡ b → counter_under large sort counter ≡ true
      pick true q = rw q (ltb_more counter small.counters large.counters more.counters (rw q at e))
      pick false q = rw q (rw q at e)

  limit_more : (r : Bytes) → limit_under small r ≡ true → limit_under large r ≡ true
  unfolding limit_under
  limit_more r e =
      let a : counter_under large (byte 4 r) (byte 5 r) ≡ true = counter_more (byte 4 r) (byte 5 r) (search conj) in
      search conj

  placed_more : (s : AclState) (r : Bytes) → placed_under small s r ≡ true → placed_under large s r ≡ true
  unfolding placed_under
  placed_more s r e = pick (eqb (kind r) 1) refl (eqb (kind r) 2) refl
    where
      pick : (a : Bool) → eqb (kind r) 1 ≡ a → (b : Bool) → eqb (kind r) 2 ≡ b → placed_under large s r ≡ true
      pick true x b y = rw x (rw x at e)
      pick false x true y =
          let d : (limit_under small r && limit_in_place s (limit_key r)) ≡ true = rw (x, y) at e in
          rw (x, y) (and_both (limit_under large r) _ (limit_more r (and_left (limit_under small r) _ d)) (and_right (limit_under small r) _ d))
      pick false x false y = rw (x, y) (rw (x, y) at e)

  place_more : (s : AclState) (r : Bytes) → in_place_under small s r ≡ true → in_place_under large s r ≡ true
  unfolding in_place_under
  place_more s r e = pick s.file_due e
    where
      pick : (b : Bool) → (if b then blobfile_record r else placed_under small s r) ≡ true → (if b then blobfile_record r else placed_under large s r) ≡ true
      pick true e = e
      pick false e = placed_more s r e

  room_more : (s : AclState) (r : Bytes) → has_room_under small s r ≡ true → has_room_under large s r ≡ true
  unfolding has_room_under
  room_more s r e = pick (eqb (kind r) 1) refl
    where
      pick : (a : Bool) → eqb (kind r) 1 ≡ a → has_room_under large s r ≡ true
      pick true x = rw x (ltb_more s.groups small.groups large.groups more.groups (rw x at e))
      pick false x = rw x (rw x at e)

  pub record_more : (s : AclState) (r : Bytes) → record_fault_under small s r ≡ none → record_fault_under large s r ≡ none
  unfolding record_fault_under first_fault
  record_more s r e =
      let t = fault_none_every (unless (in_place_under small s r) malformed ∷ unless (has_room_under small s r) too_many ∷ unless (keyed s.is_open r) open_archive ∷ []) e in
      passed (in_place_under large s r) malformed _ (place_more s r (unless_passed (in_place_under small s r) malformed t.0))
      (passed (has_room_under large s r) too_many _ (room_more s r (unless_passed (has_room_under small s r) too_many t.1.0)) (rw t.1.1.0))

  scan_more : (s : AclState) (rs : List Bytes) → scan (record_fault_under small) after_record acl_end s rs ≡ none → scan (record_fault_under large) after_record acl_end s rs ≡ none
  unfolding scan
  scan_more s [] e = e
  scan_more s (r ∷ rs) e =
      let a = or_next_first (record_fault_under small s r) _ e in
      let b = or_next_next (record_fault_under small s r) _ e in
      rw (record_more s r a) (scan_more (after_record s r) rs b)

-- A file that has no fault has none under larger sizes.
pub reader_grows : (small large : Capacity) → NoSmaller small large → (file : Bytes) → acl_file_fault_under small file ≡ none → acl_file_fault_under large file ≡ none
unfolding acl_fault_under
reader_grows small large more file e =
    let g = more.groups in
    file_more (acl_records_under small) (acl_records_under large) (acl_fault_under small) (acl_fault_under large) file
    (omega arith) (scan_more small large more acl_start (records file)) e

-- today's sizes are no smaller than document 01's
pub base_smaller : NoSmaller base today
base_smaller = record { groups = omega arith; counters = omega arith }

-- An ACL file that has no fault under document 01's sizes has none now, and so has a hints file, one hint for each group.
pub accepted_before : (file : Bytes) → acl_file_fault_under base file ≡ none → acl_file_fault file ≡ none
accepted_before file e = reader_grows base today base_smaller file e

pub hints_before : (file : Bytes) → file_fault base.groups hints_fault file ≡ none → hints_file_fault file ≡ none
hints_before file e = file_more base.groups _ hints_fault hints_fault file (omega arith) (λ h. h) e
