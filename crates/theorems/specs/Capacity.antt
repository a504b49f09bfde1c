-- The gate and the reader of listings over the sizes of the tables: document 02, request g, "Facts about the tables should be stated over their sizes, once.
-- Files accepted before must be read unchanged." The reader of ACLs (crates/rules/specs/Acl.antt) is defined over the sizes; the definitions here are those of
-- crates/rules/specs/Gate.antt and of crates/text_rules/specs/Listing.antt with the sizes as a parameter, and at today's sizes they are the same. The theorems
-- are in proofs/Larger.antt, proofs/CarriedOver.antt and proofs/OldListings.antt.
use Rattle.std.specs.Prelude.{ℕ, ◌-◌, ◌≤◌, ◌<◌, ◌≡◌, List, [], ◌∷◌, ◌++◌, map, Bool, true, ◌&&◌, length, get_or, replicate, eqb, ltb, if◌then◌else◌}
use Rattle.std.proofs.Math.Option.{Option, none}
use Rattle.rules.specs.Sizes.{Capacity, hash_bytes, request_records, acl_records_under}
use Rattle.rules.specs.Numbers.{bad_length, not_narrower, out_of_range}
use Rattle.rules.specs.Basics.{Bytes, Every, unless, first_fault, records, fits}
use Rattle.rules.specs.Acl.{Limit, Group, acl_of, AclState, acl_start, after_record, acl_end, record_fault_under, acl_fault_under, acl_file_fault_under}
use Rattle.rules.specs.Request.{Hint, request_of, request_laid_out, request_fault, use_of, reduce_acl, expand_acl, hints_of, hints_fault}
use Rattle.rules.specs.Ledger.{Ledger, cleared, recounted}
use Rattle.rules.specs.Narrow.{narrows}
use Rattle.rules.specs.Gate.{Answer, Outcome, judge, refused, permitted, finished, outcome_unless, settle}
use Rattle.text_rules.specs.Words.{line_of}
use Rattle.text_rules.specs.Decoding.{decoded}
use Rattle.text_rules.specs.Kinds.{FileKind}
use Rattle.text_rules.specs.Listing.{ListingReading, read_text}
use Rattle.theorems.specs.Demands.{Call, requesting, loading, clearing, narrowing, expanding, State, replacement, in_force}

-- document 01: "at most 16 groups", "byte 5 counter 0-95"
abbrev pub base : Capacity
base = record { groups = 16; counters = 96 }

-- sizes that are no smaller
pub record NoSmaller (small large : Capacity) : Type 0 where
  pub groups : small.groups ≤ large.groups
  pub counters : small.counters ≤ large.counters

-- a ledger whose tables have these sizes
pub record SizedUnder (z : Capacity) (l : Ledger) : Type 0 where
  pub groups : length l.counts ≡ z.groups
  pub named : length l.counters ≡ z.counters

-- a limit that names no counter past the table
abbrev pub CounterWithin : Capacity → Limit → Type 0
CounterWithin z m = m.sort ≡ 2 → m.counter < z.counters

-- an ACL that fits tables of these sizes
pub record AclFitsUnder (z : Capacity) (gs : List Group) : Type 0 where
  pub groups : length gs ≤ z.groups
  pub counters : Every (λ g. Every (CounterWithin z) g.limits) gs

-- The first fault of the files of a request, a narrowing and an expansion.
abbrev pub lengths_fit_under : Capacity → Bytes → Bytes → Bytes → Bool
lengths_fit_under z km0 acl req = eqb (length km0) hash_bytes && fits (acl_records_under z) acl && fits request_records req

abbrev pub request_files_under : Capacity → Bytes → Bytes → Bytes → Option ℕ
request_files_under z km0 acl req =
    first_fault
    (unless (lengths_fit_under z km0 acl req) bad_length
    ∷ acl_fault_under z (records acl)
    ∷ request_fault request_laid_out (records req)
    ∷ [])

abbrev pub narrow_files_under : Capacity → Bytes → Bytes → Bytes → Bytes → Bytes → Option ℕ
narrow_files_under z km0 acl req new hints =
    first_fault
    (unless (lengths_fit_under z km0 acl req && fits (acl_records_under z) new && fits z.groups hints) bad_length
    ∷ acl_fault_under z (records acl)
    ∷ request_fault (use_of reduce_acl) (records req)
    ∷ acl_fault_under z (records new)
    ∷ hints_fault (records hints)
    ∷ [])

abbrev pub expand_files_under : Capacity → Bytes → Bytes → Bytes → Bytes → Option ℕ
expand_files_under z km0 acl req new =
    first_fault
    (unless (lengths_fit_under z km0 acl req && fits (acl_records_under z) new) bad_length
    ∷ acl_fault_under z (records acl)
    ∷ request_fault (use_of expand_acl) (records req)
    ∷ acl_fault_under z (records new)
    ∷ [])

-- "Each new group takes its source's count after charging; counts past the last new group are zero."
abbrev pub carried_under : Capacity → List ℕ → List Hint → List ℕ
carried_under z counts hints = map (λ h. get_or counts h.source 0) hints ++ replicate (z.groups - length hints) 0

abbrev pub narrowed_under : Capacity → Ledger → List Group → List Group → List Hint → ℕ → Ledger → Outcome
narrowed_under z l old new hints place charged =
    if narrows old new hints then permitted place (recounted charged (carried_under z charged.counts hints))
    else refused l not_narrower

-- "Expansion .. zeroes all group counts."
abbrev pub expanded_under : Capacity → ℕ → Ledger → Outcome
expanded_under z place charged = permitted place (recounted charged (replicate z.groups 0))

-- what the gate with tables of these sizes answers to a call, and the ledger that it returns
unfoldable pub outcome_under : Capacity → State → Call → Outcome
outcome_under z s (requesting km0 req) =
    outcome_unless s.ledger (request_files_under z km0 s.acl req)
    (settle s.ledger (request_of req).time permitted (judge s.ledger km0 (acl_of s.acl) (request_of req)))
outcome_under z s (loading time) =
    finished (record { counts = replicate z.groups 0; counters = s.ledger.counters; loaded = time; last = time })
outcome_under z s (clearing counter) = if ltb counter z.counters then finished (cleared s.ledger counter) else refused s.ledger out_of_range
outcome_under z s (narrowing km0 req new hints) =
    outcome_unless s.ledger (narrow_files_under z km0 s.acl req new hints)
    (settle s.ledger (request_of req).time (narrowed_under z s.ledger (acl_of s.acl) (acl_of new) (hints_of hints)) (judge s.ledger km0 (acl_of s.acl) (request_of req)))
outcome_under z s (expanding km0 req new) =
    outcome_unless s.ledger (expand_files_under z km0 s.acl req new)
    (settle s.ledger (request_of req).time (expanded_under z) (judge s.ledger km0 (acl_of s.acl) (request_of req)))

-- the state after a call
abbrev pub after_under : Capacity → State → Call → State
after_under z s c =
    record { ledger = (outcome_under z s c).ledger; acl = in_force s.acl (replacement s.acl c) (outcome_under z s c).answer }

-- the state after a sequence of calls, the first call first
unfoldable pub after_all_under : Capacity → State → List Call → State
after_all_under z s [] = s
after_all_under z s (c ∷ cs) = after_all_under z (after_under z s c) cs

-- the answer to each call of a sequence
unfoldable pub replies_under : Capacity → State → List Call → List Answer
replies_under z s [] = []
replies_under z s (c ∷ cs) = (outcome_under z s c).answer ∷ replies_under z (after_under z s c) cs

-- A ledger kept with smaller tables, carried over: counts and counters at the front of the larger tables, zero past them, both times as they are.
abbrev pub carried_over : Capacity → Capacity → Ledger → Ledger
carried_over small large l =
    record {
      counts = l.counts ++ replicate (large.groups - small.groups) 0;
      counters = l.counters ++ replicate (large.counters - small.counters) 0;
      loaded = l.loaded;
      last = l.last;
    }

-- the state with its ledger carried over
abbrev pub state_carried_over : Capacity → Capacity → State → State
state_carried_over small large s = record { ledger = carried_over small large s.ledger; acl = s.acl }

-- an outcome with its ledger carried over
abbrev pub outcome_carried_over : Capacity → Capacity → Outcome → Outcome
outcome_carried_over small large o = record { answer = o.answer; ledger = carried_over small large o.ledger }

-- "Files accepted before": a call whose ACL files have no fault under these sizes, with no more hints than groups, and whose counter is in the table
abbrev pub AcceptedUnder : Capacity → Bytes → Call → Type 0
AcceptedUnder z acl (requesting km0 req) = acl_file_fault_under z acl ≡ none
AcceptedUnder z acl (loading time) = Unit {0}
AcceptedUnder z acl (clearing counter) = counter < z.counters
AcceptedUnder z acl (narrowing km0 req new hints) = (acl_file_fault_under z acl ≡ none) × (acl_file_fault_under z new ≡ none) × (fits z.groups hints ≡ true)
AcceptedUnder z acl (expanding km0 req new) = (acl_file_fault_under z acl ≡ none) × (acl_file_fault_under z new ≡ none)

-- each call of a sequence is accepted under these sizes, with the ACL that is then in force
abbrev pub AllAcceptedUnder : Capacity → State → List Call → Type 0
AllAcceptedUnder z s [] = Unit {0}
AllAcceptedUnder z s (c ∷ cs) = AcceptedUnder z s.acl c × AllAcceptedUnder z (after_under z s c) cs

-- An ACL under these sizes, as a kind of file that has a text; and its listing, read as an ACL.
abbrev pub acl_kind_under : Capacity → FileKind AclState
acl_kind_under z =
    record {
      line = line_of;
      told = decoded;
      start = acl_start;
      fault = record_fault_under z;
      after = after_record;
      end = acl_end;
      most = acl_records_under z;
    }

abbrev pub read_listing_under : Capacity → Bytes → ListingReading
read_listing_under z = read_text (acl_kind_under z)
