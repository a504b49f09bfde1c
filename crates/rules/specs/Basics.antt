-- Bytes and records: lists of numbers with tests that compute. Nothing here is about one kind of record.
use Rattle.std.specs.Prelude.{ℕ, zero, suc, ◌+◌, ◌*◌, ◌/◌, ◌%◌, ◌^◌, List, [], ◌∷◌, ◌++◌, map, Bool, true, false, not, ◌&&◌, ◌||◌, length, get_or, take, drop, eqb, leb, if◌then◌else◌}
use Prim.Native.String.{String}
use Prim.Native.Char.{code}
use Rattle.std.proofs.Math.Option.{Option, none, some}
use Rattle.rules.specs.Sizes.{record_bytes}
use Rattle.rules.specs.Numbers.{bad_length, malformed, too_many}

-- A file, a record or a hash: its bytes. A number here may be of any size; that a lent byte is below 256 is what its Rattle type, u8, sees to.
abbrev pub Bytes : Type 0
Bytes = List ℕ

-- if a then b
abbrev pub implies : Bool → Bool → Bool
implies a b = not a || b

-- some element passes
unfoldable pub any : {A : Type 0} → (A → Bool) → List A → Bool
any p [] = false
any p (x ∷ xs) = p x || any p xs

-- every element passes
unfoldable pub all : {A : Type 0} → (A → Bool) → List A → Bool
all p [] = true
all p (x ∷ xs) = p x && all p xs

-- a predicate of every element
abbrev pub Every : {A : Type 0} → (A → Type 0) → List A → Type 0
Every P [] = Unit {0}
Every P (x ∷ xs) = P x × Every P xs

-- every byte is zero
unfoldable pub all_zero : Bytes → Bool
all_zero [] = true
all_zero (b ∷ bs) = eqb b 0 && all_zero bs

-- the same bytes
unfoldable pub same : Bytes → Bytes → Bool
same [] [] = true
same [] (y ∷ ys) = false
same (x ∷ xs) [] = false
same (x ∷ xs) (y ∷ ys) = eqb x y && same xs ys

-- the number that bytes write, the greatest place first ("Numbers are big-endian"), after n
unfoldable pub number_from : ℕ → Bytes → ℕ
number_from n [] = n
number_from n (b ∷ bs) = number_from (n * 256 + b) bs

-- the bytes of a text
unfoldable pub ascii : String → Bytes
ascii String.[] = []
ascii (String.◌∷◌ c s) = code c ∷ ascii s

-- bit b of a number
abbrev pub bit : ℕ → ℕ → Bool
bit b n = eqb (n / 2 ^ b % 2) 1

-- a test of every number below k
unfoldable pub all_below : ℕ → (ℕ → Bool) → Bool
all_below zero p = true
all_below (suc k) p = p k && all_below k p

-- how many of the lowest k bits are set
unfoldable pub bit_count : ℕ → ℕ → ℕ
bit_count zero n = 0
bit_count (suc k) n = (if bit k n then 1 else 0) + bit_count k n

-- of the lowest k bits, those set in a are set in b
unfoldable pub within : ℕ → ℕ → ℕ → Bool
within k a b = all_below k (λ i. implies (bit i a) (bit i b))

-- the number in which these bits are set, each listed once
abbrev pub bits : List ℕ → ℕ
bits [] = 0
bits (i ∷ is) = 2 ^ i + bits is

-- the elements of a list that pass a test, as a set: a number, in which bit i says whether the i-th is in it
unfoldable pub set_of : {A : Type 0} → (A → Bool) → List A → ℕ
set_of test [] = 0
set_of test (x ∷ xs) = (if test x then 1 else 0) + 2 * set_of test xs

-- The fields of a record: len bytes from off, as bytes, as a number, and the test that they are zero.
abbrev pub part : ℕ → ℕ → Bytes → Bytes
part off len r = take len (drop off r)

-- "Numbers are big-endian."
abbrev pub number : ℕ → ℕ → Bytes → ℕ
number off len r = number_from 0 (part off len r)

-- one byte
abbrev pub byte : ℕ → Bytes → ℕ
byte off r = get_or r off 0

-- "Unlisted bytes .. are zero."
abbrev pub blank : ℕ → ℕ → Bytes → Bool
blank off len r = all_zero (part off len r)

-- "Byte 0 is the kind, byte 1 zero, bytes 2-3 flags."
abbrev pub kind : Bytes → ℕ
kind r = byte 0 r

-- "bytes 2-3 flags": flag f is bit f of the number there
abbrev pub flag : ℕ → Bytes → Bool
flag f r = bit f (number 2 2 r)

-- an optional field, present if its flag is set
abbrev pub optional : {A : Type 0} → Bool → A → Option A
optional true a = some a
optional false a = none

-- an optional field is present
abbrev pub present : {A : Type 0} → Option A → Bool
present none = false
present (some a) = true

-- two fields that are both there and equal
abbrev pub both_same : Option Bytes → Option Bytes → Bool
both_same none b = false
both_same (some x) none = false
both_same (some x) (some y) = same x y

-- a hash that equals the given one, if one is given
abbrev pub matches : Option Bytes → Bytes → Bool
matches none h = true
matches (some k) h = same k h

-- a number that equals the given one, if one is given
abbrev pub matches_number : Option ℕ → ℕ → Bool
matches_number none n = true
matches_number (some m) n = eqb m n

-- A file as its records. `records` is meant for a file of whole records.
unfoldable pub chunks : ℕ → Bytes → List Bytes
chunks zero bs = []
chunks (suc n) bs = take record_bytes bs ∷ chunks n (drop record_bytes bs)

-- "Files are records of 64 bytes, no header."
unfoldable pub records : Bytes → List Bytes
records bs = chunks (length bs / record_bytes) bs

-- the records of a file from an offset on
unfoldable pub records_from : Bytes → ℕ → List Bytes
records_from s at = records (drop at s)

-- the file of given records, one after the other
unfoldable pub joined : List Bytes → Bytes
joined [] = []
joined (r ∷ rs) = r ++ joined rs

-- whole records, and not more than `most` of them
unfoldable pub fits : ℕ → Bytes → Bool
fits most bs = eqb (length bs % record_bytes) 0 && leb (length bs) (most * record_bytes)

-- a test of an element that may be missing; a missing one fails
abbrev pub holds_at : {A : Type 0} → (A → Bool) → Option A → Bool
holds_at test none = false
holds_at test (some a) = test a

-- The first fault of a list of tests, each done after those before it.
abbrev pub unless : {F : Type 0} → Bool → F → Option F
unless true f = none
unless false f = some f

-- the first of two faults
abbrev pub or_next : {F : Type 0} → Option F → Option F → Option F
or_next none next = next
or_next (some f) next = some f

-- the first of several
unfoldable pub first_fault : {F : Type 0} → List (Option F) → Option F
first_fault [] = none
first_fault (t ∷ ts) = or_next t (first_fault ts)

-- "within one record 2 before 3": `good` is whether the record is well formed and in place, `room` whether it is not one too many
unfoldable pub record_fault : Bool → Bool → Option ℕ
record_fault good room = first_fault (unless good malformed ∷ unless room too_many ∷ [])

-- the first fault of a file's records, each judged by itself
unfoldable pub each_fault : {F : Type 0} → (Bytes → Option F) → List Bytes → Option F
each_fault fault rs = first_fault (map fault rs)

-- The first fault of a file's records, read from the first, each in the state that those before it lead to; `end` judges the last state.
unfoldable pub scan : {S F : Type 0} → (S → Bytes → Option F) → (S → Bytes → S) → (S → Option F) → S → List Bytes → Option F
scan fault next end s [] = end s
scan fault next end s (r ∷ rs) = or_next (fault s r) (scan fault next end (next s r) rs)

-- A file by itself: 1, "a file not whole records or over its greatest length", then its records from the first.
unfoldable pub file_fault : ℕ → (List Bytes → Option ℕ) → Bytes → Option ℕ
file_fault most fault file = first_fault (unless (fits most file) bad_length ∷ fault (records file) ∷ [])
