-- The longest line of each kind of file. A line that is longer, or that no byte 10 ends, is not good, whatever it says: a reader need not look further.
use Prim.Native.Nat.{ℕ, zero, suc, ◌-◌, ◌≤◌}
use Prim.Native.String.{String}
use native.Mathlib.Omega.{arith}
use mathlib.Core.Path.{◌≡◌, refl}
use mathlib.Core.List.{List, [], ◌∷◌}
use mathlib.Core.Option.{none}
use mathlib.Core.Bool.{Bool, true, false}
use lib.ListN.{length}
use lib.Dec.{eqb, leb, ltb}
use borrow.Author.Tests.{leb-true}
use Rattle.rules.specs.Sizes.{day_records, hint_records}
use Rattle.rules.specs.Basics.{Bytes, all, ascii, kind}
use Rattle.rules.specs.Request.{stands_alone, hint_record}
use Rattle.rules.specs.Bundle.{order_of}
use Rattle.rules.proofs.Laws.{and_left, and_right}
use Rattle.text_rules.specs.Words.{spaced, line_max, blobfile_line_max}
use Rattle.text_rules.specs.OtherWords.{name_at, field_names, signature_names, request_line_max, alone_line_max, certificate_line_max, delegation_line_max, hint_line_max, policy_line_max}
use Rattle.text_rules.specs.Kinds.{FileKind, acl_kind, request_kind, requests_kind, bundle_kind, hints_kind}
use Rattle.text_rules.specs.Listing.{good_in, IsRecord}
use Rattle.text_rules.proofs.Lines.{one_line}
use Rattle.text_rules.proofs.Reading.{Lawful, good_line_lem}
use Rattle.text_rules.proofs.Lengths.{line_bound}
use Rattle.text_rules.proofs.Bounds.{fault_passed, request_weight}
use Rattle.text_rules.proofs.Texts.{request_line, alone_length, hinted_length, order_length, bundle_line}

-- no record without fault has a longer line
abbrev pub Longest : {S : Type 0} → FileKind S → ℕ → Type 0
Longest {S} k m = (s : S) (r : Bytes) → IsRecord r → k.fault s r ≡ none → length (k.line r) ≤ m

-- a good line is short, and has its byte 10 at the end
pub good_short : {S : Type 0} (k : FileKind S) (m : ℕ) → Lawful k → Longest k m → (s : S) (line : Bytes) → good_in k s line ≡ true → (length line ≤ m) × (one_line line ≡ true)
good_short k m law longest s line e =
    let g = good_line_lem k s line e in
    let l = longest s (k.told line) (law.whole line) g.1 in
    (rw g.0 at l, rw g.0 at (law.one (k.told line)))

pub acl_longest : Longest acl_kind line_max
acl_longest s r h e = line_bound r h s e

pub request_longest : Longest request_kind delegation_line_max
unfolding request_weight
request_longest s r h e = let l = request_line s r h e in pick (eqb (kind r) 9) refl (eqb (kind r) 14) refl (eqb (kind r) 15) refl l
  where
    pick : (a : Bool) → eqb (kind r) 9 ≡ a → (b : Bool) → eqb (kind r) 14 ≡ b → (c : Bool) → eqb (kind r) 15 ≡ c → length (request_kind.line r) ≤ request_weight request_line_max blobfile_line_max certificate_line_max delegation_line_max r → length (request_kind.line r) ≤ delegation_line_max
    pick true p b q c w l = let k : length (request_kind.line r) ≤ certificate_line_max = rw p at l in omega arith
    pick false p true q c w l = let k : length (request_kind.line r) ≤ delegation_line_max = rw (p, q) at l in omega arith
    pick false p false q true w l = let k : length (request_kind.line r) ≤ blobfile_line_max = rw (p, q, w) at l in omega arith
    pick false p false q false w l = let k : length (request_kind.line r) ≤ request_line_max = rw (p, q, w) at l in omega arith

pub requests_longest : Longest requests_kind alone_line_max
requests_longest n r h e = alone_length r h (fault_passed (stands_alone r) (ltb n day_records) e).0

pub hints_longest : Longest hints_kind hint_line_max
hints_longest n r h e = hinted_length r h (fault_passed (hint_record r) (ltb n hint_records) e).0

-- no name of a list is longer
abbrev short : ℕ → String → Bool
short m name = leb (length (spaced name)) m

name_short : (names : List String) (m : ℕ) → all (short m) names ≡ true → 1 ≤ m → (n : ℕ) → length (spaced (name_at n names)) ≤ m
unfolding all ascii
name_short [] m e l n = omega arith
name_short (name ∷ names) m e l zero = leb-true (length (spaced name)) m (and_left (short m name) (all (short m) names) e)
name_short (name ∷ names) m e l (suc n) = name_short names m (and_right (short m name) (all (short m) names) e) l n

field_short : (n : ℕ) → length (spaced (name_at n field_names)) ≤ 11
unfolding all ascii
field_short = name_short field_names 11 refl (omega arith)

signature_short : (n : ℕ) → length (spaced (name_at n signature_names)) ≤ 22
unfolding all ascii
signature_short = name_short signature_names 22 refl (omega arith)

-- a bundle's longest line is the policy's
order_short : (o : ℕ) → order_length o ≤ policy_line_max
order_short o = pick (ltb o 2816) refl (ltb o 3072) refl
  where
    pick : (a : Bool) → ltb o 2816 ≡ a → (b : Bool) → ltb o 3072 ≡ b → order_length o ≤ policy_line_max
    pick true p b q = let l = field_short (o - 2561) in rw p (omega arith)
    pick false p true q = let l = signature_short (o - 2817) in rw (p, q) (omega arith)
    pick false p false q = rw (p, q) (omega arith)

pub bundle_longest : Longest bundle_kind policy_line_max
bundle_longest s r h e =
    let l = bundle_line s r h e in
    let o = order_short (order_of r) in
    omega arith
