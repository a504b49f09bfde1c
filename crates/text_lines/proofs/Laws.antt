-- A line from its parts.
use Prim.Native.Nat.{ℕ, zero, suc, ◌+◌, ◌-◌, ◌*◌, ◌^◌, ◌≤◌, ◌<◌}
use Prim.Native.String.{String}
use native.Mathlib.Omega.{arith}
use mathlib.Core.Path.{◌≡◌, refl, sym, ◌∙◌, ap}
use mathlib.Core.Logic.{◌⊎◌, inl, inr}
use mathlib.Core.List.{List, [], ◌∷◌, ◌++◌, append_assoc, map}
use mathlib.Core.Bool.{Bool, true, false}
use lib.ListN.{length, get_or, drop, length-drop}
use lib.Seq.{length-take-le}
use lib.Dec.{eqb, leb}
use borrow.Author.Tests.{lt-ltb, le-ltb, ne_eqb}
use Rattle.rules.specs.Sizes.{hash_bytes}
use Rattle.rules.specs.Basics.{Bytes, ascii, bit, number, byte, kind, flag, part}
use Rattle.rules.specs.Day.{decimal}
use Rattle.text_rules.specs.Words.{hex, bare, spaced, permission_names, word_text, words_text, line_of}
use Rattle.text_rules.specs.Listing.{onto_first}
use Rattle.text_rules.specs.OtherWords.{alone, name_at as told, time_word, use_words, field_names, fact_words, signature_names, signature_words, blob_request_words, recovery_words, certificate_words, policy_words, numbers_text, hint_words, delegation_words, record_line}
use Rattle.text_rules.proofs.Digits.{below_or_not, decimal_length}
use Rattle.text_rules.proofs.Words.{text_with}
use Rattle.text_bytes.specs.Putting.{Put, Held, text_if}
use Rattle.text_bytes.specs.Names.{words_of, name_at, names_text}
use Rattle.text_bytes.proofs.Laws.{put_on, put_as, Filled, filled_none, filled_piece, filled_all, left, left_next, left_none}
use Rattle.text_bytes.proofs.Permissions.{permission_row, row_names, field_row, field_names_lem, signature_row, signature_names_lem}
use Rattle.text_acl_lines.proofs.Laws.{names_line}
use Rattle.text_lines.specs.Parts.{name_of, shares_text, token_text, bits_text, protection_text}

-- a number of eight bytes has at most twenty digits
pub long_inside : (n at : ℕ) (old mid : Bytes) (r : ℕ) → n < 2 ^ 64 → Put (ascii " time ") at old mid r → at + 27 ≤ length old → r + length (decimal n) ≤ length mid
unfolding ascii
long_inside n at old mid r l p h =
    let d = decimal_length 19 n (omega arith) in
    let e = p.end in
    let s = p.same_length in
    omega arith

pub end_inside : (n at : ℕ) (old mid now : Bytes) (r s : ℕ) → n < 2 ^ 64 → Put (ascii " time ") at old mid r → Put (decimal n) r mid now s → at + 27 ≤ length old → s + 1 ≤ length now
unfolding ascii
end_inside n at old mid now r s l p q h =
    let d = decimal_length 19 n (omega arith) in
    let e = p.end in
    let f = q.end in
    let a = p.same_length in
    let b = q.same_length in
    omega arith

pub time_put : (n at : ℕ) (rec old mid now new : Bytes) (r s t : ℕ) → n < 2 ^ 64 → n ≡ number 56 8 rec → Put (ascii " time ") at old mid r → Put (decimal n) r mid now s → Put (ascii "\n") s now new t → Held 27 (words_text (time_word rec ∷ [])) at old new t
unfolding ascii words_text word_text
time_put n at rec old mid now new r s t l e p q o =
    let d = decimal_length 19 n (omega arith) in
    let x = p.end in
    let y = q.end in
    let z = o.end in
    record { written = put_as (time_text n rec e) (put_on p (put_on q o)); bound = omega arith }
  where
    time_text : (n : ℕ) (rec : Bytes) → n ≡ number 56 8 rec → ascii " time " ++ (decimal n ++ ascii "\n") ≡ words_text (time_word rec ∷ [])
    time_text n rec e = rw e

pub certificate_held : (r old a b new : Bytes) (m i j n : ℕ) → m ≡ number 24 2 r → Held 52 ((ascii "certificate " ++ hex (part 4 hash_bytes r))) 0 old a i → Held 21 ((ascii " mechanism " ++ decimal m)) i a b j → Put (ascii "\n") j b new n → Held 320 (ascii "certificate" ++ words_text (certificate_words r)) 0 old new n
unfolding ascii words_text word_text text_if
certificate_held r old a b new m i j n e p q o =
    let x = p.bound in
    let y = q.bound in
    let z = o.end in
    record { written = put_as (text m e) (put_on p.written (put_on q.written o)); bound = omega arith }
  where
    text : (m : ℕ) → m ≡ number 24 2 r → (ascii "certificate " ++ hex (part 4 hash_bytes r)) ++ ((ascii " mechanism " ++ decimal m) ++ ascii "\n") ≡ ascii "certificate" ++ words_text (certificate_words r)
    text m e = rw e (simp append_assoc)

pub recovery_held : (r old a b c new : Bytes) (f : Bool) (m i j k n : ℕ) → m ≡ number 24 2 r → f ≡ flag 6 r
    → Held 56 ((ascii "recovery kahash " ++ hex (part 4 hash_bytes r))) 0 old a i
    → Held 21 ((ascii " mechanism " ++ decimal m)) i a b j
    → Held 9 (text_if f (ascii " blobfile") []) j b c k
    → Held 27 (words_text (time_word r ∷ [])) k c new n
    → Held 320 (ascii "recovery" ++ words_text (recovery_words r)) 0 old new n
unfolding ascii words_text word_text text_if
recovery_held r old a b c new f m i j k n e d p q s o =
    let x = p.bound in
    let y = q.bound in
    let z = s.bound in
    let u = o.bound in
    record { written = put_as (text f m e d) (put_on p.written (put_on q.written (put_on s.written o.written))); bound = omega arith }
  where
    text : (f : Bool) (m : ℕ) → m ≡ number 24 2 r → f ≡ flag 6 r
        → (ascii "recovery kahash " ++ hex (part 4 hash_bytes r)) ++ ((ascii " mechanism " ++ decimal m) ++ (text_if f (ascii " blobfile") [] ++ words_text (time_word r ∷ [])))
        ≡ ascii "recovery" ++ words_text (recovery_words r)
    text f m e d = rw (e, d) (simp append_assoc)

pub shares_held : (r old a b new : Bytes) (f : Bool) (x y z at i j n : ℕ) → f ≡ flag 0 r → x ≡ byte 46 r → y ≡ byte 47 r → z ≡ number 48 4 r
    → Held 18 (text_if f (ascii " needed ") (decimal x)) at old a i
    → Held 17 (text_if f (ascii " total ") (decimal y)) i a b j
    → Held 19 (text_if f (ascii " seconds ") (decimal z)) j b new n
    → Held 54 (shares_text r) at old new n
unfolding shares_text
shares_held r old a b new f x y z at i j n ef ex ey ez p q o =
    let p1 = p.bound in
    let q1 = q.bound in
    let o1 = o.bound in
    record { written = put_as (text f x y z ef ex ey ez) (put_on p.written (put_on q.written o.written)); bound = omega arith }
  where
    text : (f : Bool) (x y z : ℕ) → f ≡ flag 0 r → x ≡ byte 46 r → y ≡ byte 47 r → z ≡ number 48 4 r
        → text_if f (ascii " needed ") (decimal x) ++ (text_if f (ascii " total ") (decimal y) ++ text_if f (ascii " seconds ") (decimal z))
        ≡ shares_text r
    text f x y z ef ex ey ez = rw (ef, ex, ey, ez)

pub token_held : (r old a b new : Bytes) (f s : Bool) (l at i j n : ℕ) → f ≡ flag 0 r → l ≡ number 44 2 r → s ≡ bit 0 l
    → Held 47 (text_if f (ascii " token ") (hex (part 24 hash_bytes r))) at old a i
    → Held 15 (text_if s (ascii " AllowSoftSlots") []) i a b j
    → Held 54 (shares_text r) j b new n
    → Held 116 (token_text r) at old new n
unfolding token_text
token_held r old a b new f s l at i j n ef el es p q o =
    let p1 = p.bound in
    let q1 = q.bound in
    let o1 = o.bound in
    record { written = put_as (text f s l ef el es) (put_on p.written (put_on q.written o.written)); bound = omega arith }
  where
    text : (f s : Bool) (l : ℕ) → f ≡ flag 0 r → l ≡ number 44 2 r → s ≡ bit 0 l
        → text_if f (ascii " token ") (hex (part 24 hash_bytes r)) ++ (text_if s (ascii " AllowSoftSlots") [] ++ shares_text r) ≡ token_text r
    text f s l ef el es = rw (es, ef, el)

pub blob_held : (r old a b c new : Bytes) (f : Bool) (i j k n : ℕ) → f ≡ flag 6 r
    → Held 52 ((ascii "blob kmhash " ++ hex (part 4 hash_bytes r))) 0 old a i
    → Held 116 (token_text r) i a b j
    → Held 9 (text_if f (ascii " blobfile") []) j b c k
    → Held 27 (words_text (time_word r ∷ [])) k c new n
    → Held 320 (ascii "blob" ++ words_text (blob_request_words r)) 0 old new n
unfolding ascii words_text word_text text_if token_text shares_text
blob_held r old a b c new f i j k n d p q s o =
    let x = p.bound in
    let y = q.bound in
    let z = s.bound in
    let u = o.bound in
    record { written = put_as (text f d) (put_on p.written (put_on q.written (put_on s.written o.written))); bound = omega arith }
  where
    text : (f : Bool) → f ≡ flag 6 r
        → (ascii "blob kmhash " ++ hex (part 4 hash_bytes r)) ++ (token_text r ++ (text_if f (ascii " blobfile") [] ++ words_text (time_word r ∷ [])))
        ≡ ascii "blob" ++ words_text (blob_request_words r)
    text f d = rw d (ap (λ (l : Bytes). ascii "blob" ++ l) (simp append_assoc))

pub delegation_held : (r old a b c new : Bytes) (m i j k n : ℕ) → m ≡ number 44 2 r
    → Held 56 ((ascii "delegation from " ++ hex (part 4 hash_bytes r))) 0 old a i
    → Held 44 ((ascii " to " ++ hex (part 24 hash_bytes r))) i a b j
    → Held 175 (names_text (words_of permission_row) m) j b c k
    → Put (ascii "\n") k c new n
    → Held 320 (ascii "delegation" ++ words_text (delegation_words r)) 0 old new n
unfolding ascii words_text word_text text_if
delegation_held r old a b c new m i j k n e p q s o =
    let x = p.bound in
    let y = q.bound in
    let z = s.bound in
    let u = o.end in
    record { written = put_as (text m e) (put_on p.written (put_on q.written (put_on s.written o))); bound = omega arith }
  where
    text : (m : ℕ) → m ≡ number 44 2 r
        → (ascii "delegation from " ++ hex (part 4 hash_bytes r)) ++ ((ascii " to " ++ hex (part 24 hash_bytes r)) ++ (names_text (words_of permission_row) m ++ ascii "\n"))
        ≡ ascii "delegation" ++ words_text (delegation_words r)
    text m e = rw (names_line m, e) (simp append_assoc)

pub bits_held : (r old a b new : Bytes) (s t u : Bool) (w at i j n : ℕ) → w ≡ byte 6 r → s ≡ bit 0 w → t ≡ bit 1 w → u ≡ bit 2 w
    → Held 8 (text_if s (ascii " signing") []) at old a i
    → Held 11 (text_if t (ascii " encryption") []) i a b j
    → Held 4 (text_if u (ascii " csr") []) j b new n
    → Held 23 (bits_text r) at old new n
unfolding bits_text
bits_held r old a b new s t u w at i j n ew es et eu p q o =
    let p1 = p.bound in
    let q1 = q.bound in
    let o1 = o.bound in
    record { written = put_as (text s t u w ew es et eu) (put_on p.written (put_on q.written o.written)); bound = omega arith }
  where
    text : (s t u : Bool) (w : ℕ) → w ≡ byte 6 r → s ≡ bit 0 w → t ≡ bit 1 w → u ≡ bit 2 w
        → text_if s (ascii " signing") [] ++ (text_if t (ascii " encryption") [] ++ text_if u (ascii " csr") []) ≡ bits_text r
    text s t u w ew es et eu = rw (es, et, eu, ew)

pub protection_held : (r old a new : Bytes) (z at i n : ℕ) → z ≡ byte 7 r
    → Held 22 ((ascii " protection " ++ decimal z)) at old a i
    → Put (ascii "\n") i a new n
    → Held 23 (protection_text r) at old new n
unfolding ascii protection_text
protection_held r old a new z at i n e p o =
    let b0 = p.bound in
    let b1 = o.end in
    record { written = put_as (ap (λ (x : ℕ). (ascii " protection " ++ decimal x) ++ ascii "\n") e) (put_on p.written o); bound = omega arith }

pub policy_held : (r old a b c new : Bytes) (x y i j k n : ℕ) → x ≡ byte 4 r → y ≡ byte 5 r
    → Held 23 ((ascii "policy suite " ++ decimal x)) 0 old a i
    → Held 20 ((ascii " approach " ++ decimal y)) i a b j
    → Held 23 (bits_text r) j b c k
    → Held 23 (protection_text r) k c new n
    → Held 320 (ascii "policy" ++ words_text (policy_words r)) 0 old new n
unfolding ascii words_text word_text text_if bits_text protection_text
policy_held r old a b c new x y i j k n ex ey p q s o =
    let b0 = p.bound in
    let b1 = q.bound in
    let b2 = s.bound in
    let b3 = o.bound in
    record { written = put_as (text x y ex ey) (put_on p.written (put_on q.written (put_on s.written o.written))); bound = omega arith }
  where
    text : (x y : ℕ) → x ≡ byte 4 r → y ≡ byte 5 r
        → (ascii "policy suite " ++ decimal x) ++ ((ascii " approach " ++ decimal y) ++ (bits_text r ++ protection_text r))
        ≡ ascii "policy" ++ words_text (policy_words r)
    text x y ex ey = rw (ex, ey) (ap (λ (l : Bytes). ascii "policy" ++ l) (simp append_assoc))

-- numbers one after the other
module _ (bytes old : Bytes) (at : ℕ) where
  pub numbers_none : at + 11 * length bytes ≤ length old → Filled (numbers_text bytes) (numbers_text (left bytes 0)) at old old at
  unfolding left
  numbers_none h = filled_none (numbers_text bytes) old at (omega arith)

  pub numbers_more : (mid new : Bytes) (i end r : ℕ) → i < length bytes → Held 11 (32 ∷ decimal (get_or bytes i 0)) end mid new r
      → Filled (numbers_text bytes) (numbers_text (left bytes i)) at old mid end → Filled (numbers_text bytes) (numbers_text (left bytes (i + 1))) at old new r
  unfolding numbers_text
  numbers_more mid new i end r h q p = filled_piece (32 ∷ decimal (get_or bytes i 0)) (numbers_text (left bytes (i + 1))) (rw (left_next bytes i h) at p) q.written

  pub numbers_all : (new : Bytes) (i end : ℕ) → length bytes ≤ i → i ≤ length bytes → end ≤ at + 11 * i → Filled (numbers_text bytes) (numbers_text (left bytes i)) at old new end → Held (11 * length bytes) (numbers_text bytes) at old new end
  unfolding numbers_text
  numbers_all new i end h l e p = record { written = filled_all (rw (left_none bytes i h) at p); bound = omega arith }

pub hint_held : (r old a b c new : Bytes) (x i j k n : ℕ) → length r ≡ 64 → x ≡ byte 4 r
    → Held 21 (ascii "hint group " ++ decimal x) 0 old a i
    → Put (ascii " actions") i a b j
    → Held (11 * length (part 8 8 r)) (numbers_text (part 8 8 r)) j b c k
    → Put (ascii "\n") k c new n
    → Held 320 (ascii "hint" ++ words_text (hint_words r)) 0 old new n
unfolding ascii words_text word_text text_if
hint_held r old a b c new x i j k n l ex p q s o =
    let d = length-drop 8 r in
    let e = length-take-le 8 (drop 8 r) (omega arith) in
    let b0 = p.bound in
    let b1 = q.end in
    let b2 = s.bound in
    let b3 = o.end in
    record { written = put_as (text x ex) (put_on p.written (put_on q (put_on s.written o))); bound = omega arith }
  where
    text : (x : ℕ) → x ≡ byte 4 r
        → (ascii "hint group " ++ decimal x) ++ (ascii " actions" ++ (numbers_text (part 8 8 r) ++ ascii "\n"))
        ≡ ascii "hint" ++ words_text (hint_words r)
    text x ex = rw ex (ap (λ (l : Bytes). ascii "hint" ++ l) (simp append_assoc))

-- A name out of a row is no longer than the row.
name_length : (t : Bytes) (i : ℕ) → length (get_or (words_of t) i []) ≤ length t
unfolding words_of
name_length [] i = omega arith
name_length (c ∷ t) i = pick (leb (get_or t 0 0) 32) refl (λ k. name_length t k)
  where
    onto : (ws : List Bytes) (i : ℕ) → ((k : ℕ) → length (get_or ws k []) ≤ length t) → length (get_or (onto_first c ws) i []) ≤ length (c ∷ t)
    onto [] zero f = omega arith
    onto [] (suc i) f = omega arith
    onto (w ∷ ws) zero f = let l : length w ≤ length t = f 0 in omega arith
    onto (w ∷ ws) (suc i) f = let l : length (get_or ws i []) ≤ length t = f (suc i) in omega arith

    begins : (ws : List Bytes) (i : ℕ) → ((k : ℕ) → length (get_or ws k []) ≤ length t) → length (get_or ((c ∷ []) ∷ ws) i []) ≤ length (c ∷ t)
    begins ws zero f = omega arith
    begins ws (suc i) f = let l = f i in omega arith

    pick : (b : Bool) → leb (get_or t 0 0) 32 ≡ b → ((k : ℕ) → length (get_or (words_of t) k []) ≤ length t) → length (get_or (words_of (c ∷ t)) i []) ≤ length (c ∷ t)
    pick true e f = rw e (begins (words_of t) i f)
    pick false e f = rw e (onto (words_of t) i f)

module _ (names : Bytes) (count i at : ℕ) (e : count ≡ length (words_of names)) where
  pub name_counted : i < count → i < length (words_of names)
  name_counted l = omega arith

  pub name_room : (m : ℕ) → i < count → at + (length names + 1) ≤ m → at + length (name_at names i) ≤ m
  unfolding name_at
  name_room m l h = let n = name_length names i in omega arith

  module _ (old new : Bytes) (r : ℕ) where
    pub name_held : i < count → Put (name_at names i) at old new r → Held (length names + 1) (name_of names i) at old new r
    unfolding name_of name_at
    name_held l p =
        let n = name_length names i in
        let x = p.end in
        rw (lt-ltb i (length (words_of names)) (omega arith)) record { written = p; bound = omega arith }

    pub name_none : count ≤ i → Put (32 ∷ []) at old new r → Held (length names + 1) (name_of names i) at old new r
    unfolding name_of
    name_none l p =
        let x = p.end in
        rw (le-ltb i (length (words_of names)) (omega arith)) record { written = p; bound = omega arith }

-- The names by their rows.
name_in : (names : List String) (i : ℕ) → i < length names → get_or (map spaced names) i [] ≡ spaced (told i names)
name_in [] i l = absurd (omega arith)
name_in (x ∷ xs) zero l = refl
name_in (x ∷ xs) (suc i) l = name_in xs i (omega arith)

name_out : (names : List String) (i : ℕ) → length names ≤ i → told i names ≡ ""
name_out [] i l = refl
name_out (x ∷ xs) zero l = absurd (omega arith)
name_out (x ∷ xs) (suc i) l = name_out xs i (omega arith)

map_length : (names : List String) → length (map spaced names) ≡ length names
map_length [] = refl
map_length (x ∷ xs) = ap suc (map_length xs)

name_by : (row : Bytes) (names : List String) (i : ℕ) → words_of row ≡ map spaced names → name_of row i ≡ spaced (told i names)
unfolding name_of name_at ascii
name_by row names i e = pick (below_or_not i (length names))
  where
    pick : (i < length names) ⊎ (length names ≤ i) → name_of row i ≡ spaced (told i names)
    pick (inl l) = let m = map_length names in rw (e, lt-ltb i (length (map spaced names)) (omega arith)) (name_in names i l)
    pick (inr l) = let m = map_length names in rw (e, le-ltb i (length (map spaced names)) (omega arith), name_out names i l)

pub row_count : 16 ≡ length (words_of permission_row)
unfolding words_of ascii
row_count = refl

pub field_count : 14 ≡ length (words_of field_row)
unfolding words_of ascii
field_count = refl

pub signature_count : 6 ≡ length (words_of signature_row)
unfolding words_of ascii
signature_count = refl

pub use_held : (r old a b new : Bytes) (w i j n : ℕ) → w ≡ byte 4 r
    → Put (ascii "use") 0 old a i
    → Held 176 (name_of permission_row w) i a b j
    → Held 27 (words_text (time_word r ∷ [])) j b new n
    → Held 320 (ascii "use" ++ words_text (use_words r)) 0 old new n
unfolding ascii words_text word_text
use_held r old a b new w i j n e p q o =
    let b0 = p.end in
    let b1 = q.bound in
    let b2 = o.bound in
    record { written = put_as (text w e) (put_on p (put_on q.written o.written)); bound = omega arith }
  where
    text : (w : ℕ) → w ≡ byte 4 r → ascii "use" ++ (name_of permission_row w ++ words_text (time_word r ∷ [])) ≡ ascii "use" ++ words_text (use_words r)
    text w e = rw (e, name_by permission_row permission_names (byte 4 r) row_names) (ap (λ (l : Bytes). ascii "use" ++ l) (sym (text_with (bare true (told (byte 4 r) permission_names)) (time_word r ∷ []) refl)))

pub fact_held : (r old a b c new : Bytes) (v w i j k n : ℕ) → v ≡ byte 4 r → w ≡ v - 1
    → Put (ascii "fact") 0 old a i
    → Held 96 (name_of field_row w) i a b j
    → Held 41 ((ascii " " ++ hex (part 8 hash_bytes r))) j b c k
    → Put (ascii "\n") k c new n
    → Held 320 (ascii "fact" ++ words_text (fact_words r)) 0 old new n
unfolding ascii words_text word_text text_if
fact_held r old a b c new v w i j k n d e p q s o =
    let b0 = p.end in
    let b1 = q.bound in
    let b2 = s.bound in
    let b3 = o.end in
    record { written = put_as (text w (e ∙ ap (λ (m : ℕ). m - 1) d)) (put_on p (put_on q.written (put_on s.written o))); bound = omega arith }
  where
    text : (w : ℕ) → w ≡ byte 4 r - 1 → ascii "fact" ++ (name_of field_row w ++ ((ascii " " ++ hex (part 8 hash_bytes r)) ++ ascii "\n")) ≡ ascii "fact" ++ words_text (fact_words r)
    text w e = rw (e, name_by field_row field_names (byte 4 r - 1) field_names_lem) (ap (λ (l : Bytes). ascii "fact" ++ l) (sym (text_with (bare true (told (byte 4 r - 1) field_names)) (alone (hex (part 8 hash_bytes r)) ∷ []) refl)))

pub signature_held : (r old a b c d new : Bytes) (v w i j k h n : ℕ) → v ≡ byte 4 r → w ≡ v - 1
    → Put (ascii "signature") 0 old a i
    → Held 90 (name_of signature_row w) i a b j
    → Held 5 (text_if (eqb (byte 5 r) 1) (ascii " good") []) j b c k
    → Held 4 (text_if (eqb (byte 5 r) 0) (ascii " bad") []) k c d h
    → Put (ascii "\n") h d new n
    → Held 320 (ascii "signature" ++ words_text (signature_words r)) 0 old new n
unfolding ascii words_text word_text text_if
signature_held r old a b c d new v w i j k h n f e p q s t o =
    let b0 = p.end in
    let b1 = q.bound in
    let b2 = s.bound in
    let b3 = t.bound in
    let b4 = o.end in
    record { written = put_as (text w (e ∙ ap (λ (m : ℕ). m - 1) f)) (put_on p (put_on q.written (put_on s.written (put_on t.written o)))); bound = omega arith }
  where
    text : (w : ℕ) → w ≡ byte 4 r - 1
        → ascii "signature" ++ (name_of signature_row w ++ (text_if (eqb (byte 5 r) 1) (ascii " good") [] ++ (text_if (eqb (byte 5 r) 0) (ascii " bad") [] ++ ascii "\n")))
        ≡ ascii "signature" ++ words_text (signature_words r)
    text w e = rw (e, name_by signature_row signature_names (byte 4 r - 1) signature_names_lem) (ap (λ (l : Bytes). ascii "signature" ++ l) (sym (text_with (bare true (told (byte 4 r - 1) signature_names)) (bare (eqb (byte 5 r) 1) "good" ∷ bare (eqb (byte 5 r) 0) "bad" ∷ []) refl)))

-- The line of a record, by its kind.
module _ (r old new : Bytes) (n : ℕ) where
  pub record_6 : kind r ≡ 6 → Held 320 (ascii "use" ++ words_text (use_words r)) 0 old new n → Held 320 (record_line r) 0 old new n
  unfolding record_line
  record_6 e p = rw e p

  pub record_7 : kind r ≡ 7 → Held 320 (ascii "blob" ++ words_text (blob_request_words r)) 0 old new n → Held 320 (record_line r) 0 old new n
  unfolding record_line
  record_7 e p = rw e p

  pub record_8 : kind r ≡ 8 → Held 320 (ascii "recovery" ++ words_text (recovery_words r)) 0 old new n → Held 320 (record_line r) 0 old new n
  unfolding record_line
  record_8 e p = rw e p

  pub record_9 : kind r ≡ 9 → Held 320 (ascii "certificate" ++ words_text (certificate_words r)) 0 old new n → Held 320 (record_line r) 0 old new n
  unfolding record_line
  record_9 e p = rw e p

  pub record_10 : kind r ≡ 10 → Held 320 (ascii "fact" ++ words_text (fact_words r)) 0 old new n → Held 320 (record_line r) 0 old new n
  unfolding record_line
  record_10 e p = rw e p

  pub record_11 : kind r ≡ 11 → Held 320 (ascii "signature" ++ words_text (signature_words r)) 0 old new n → Held 320 (record_line r) 0 old new n
  unfolding record_line
  record_11 e p = rw e p

  pub record_12 : kind r ≡ 12 → Held 320 (ascii "policy" ++ words_text (policy_words r)) 0 old new n → Held 320 (record_line r) 0 old new n
  unfolding record_line
  record_12 e p = rw e p

  pub record_13 : kind r ≡ 13 → Held 320 (ascii "hint" ++ words_text (hint_words r)) 0 old new n → Held 320 (record_line r) 0 old new n
  unfolding record_line
  record_13 e p = rw e p

  pub record_14 : kind r ≡ 14 → Held 320 (ascii "delegation" ++ words_text (delegation_words r)) 0 old new n → Held 320 (record_line r) 0 old new n
  unfolding record_line
  record_14 e p = rw e p

  pub record_other : (kind r ≡ 6 → ⊥) → (kind r ≡ 7 → ⊥) → (kind r ≡ 8 → ⊥) → (kind r ≡ 9 → ⊥) → (kind r ≡ 10 → ⊥) → (kind r ≡ 11 → ⊥) → (kind r ≡ 12 → ⊥) → (kind r ≡ 13 → ⊥) → (kind r ≡ 14 → ⊥) → Held 256 (line_of r) 0 old new n → Held 320 (record_line r) 0 old new n
  unfolding record_line
  record_other n6 n7 n8 n9 n10 n11 n12 n13 n14 p =
      let b = p.bound in
      rw (
        ne_eqb (kind r) 6 n6,
        ne_eqb (kind r) 7 n7,
        ne_eqb (kind r) 8 n8,
        ne_eqb (kind r) 9 n9,
        ne_eqb (kind r) 10 n10,
        ne_eqb (kind r) 11 n11,
        ne_eqb (kind r) 12 n12,
        ne_eqb (kind r) 13 n13,
        ne_eqb (kind r) 14 n14,
      )
      record { written = p.written; bound = omega arith }
