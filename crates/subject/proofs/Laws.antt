-- Bytes written over the front of a buffer piece by piece, and the tests of the code in the definitions' terms.
use Prim.Native.Nat.{ℕ, suc, ◌≤◌, ◌<◌, ◌+◌, ◌-◌, ◌%◌}
use native.Mathlib.Omega.{arith}
use native.Mathlib.Numerals.{add-one}
use native.Mathlib.Nat.{add-sub_cancel_left}
use mathlib.Core.Path.{◌≡◌, refl, sym, ◌∙◌, ap}
use mathlib.Core.List.{[], ◌∷◌, ◌++◌, append_assoc, append-nil}
use mathlib.Core.Option.{none, some}
use mathlib.Core.Bool.{Bool, true, false}
use lib.ListN.{length, take, drop, get_or, set, length-append, length-drop, drop_of_length-le, take-append-drop}
use lib.Seq.{length-take-le, take_all, take-take, take-append-le, drop-append-add, drop-drop, drop_at, drop-cons, take_at, take-add, set_split}
use lib.Dec.{eqb, leb}
use borrow.Author.Tests.{eq-eqb, ne_eqb, le-leb, lt-leb, leb-true}
use Rattle.rules.specs.Sizes.{hash_bytes}
use Rattle.rules.specs.Numbers.{bad_length, short_buffer, out_of_range, unknown_suite}
use Rattle.rules.specs.Basics.{Bytes, first_fault}
use Rattle.rules.specs.Layout.{between}
use Rattle.rules.proofs.Laws.{and_left, and_right}
use Rattle.rules.specs.Suites.{Suite, suite, header_under}
use Rattle.rules.specs.Subject.{SubjectReply, written, unwritten, header_bytes, subject, hashes_bytes, subject_fault, subject_reply, subject_buffer}
use Rattle.suites.specs.Calls.{refuses, called_for}
use Rattle.suites.proofs.Laws.{suite_found, suite_measured}
use Rattle.subject.specs.Writing.{overwritten, headed_fault, headed_reply, headed_buffer}

pub over_length : (s d : Bytes) → length s ≤ length d → length (overwritten s d) ≡ length d
unfolding overwritten
over_length s d h = length-append s (drop (length s) d) ∙ omega (arith, length-drop (length s) d)

drop_both : (s t d : Bytes) → drop (length (s ++ t)) d ≡ drop (length t) (drop (length s) d)
drop_both s t d = ap (λ (m : ℕ). drop m d) (length-append s t) ∙ sym (drop-drop (length t) (length s) d)

-- A second piece t, written into the part of the buffer from the first piece's end on: both pieces are over the buffer.
over_then : (s t d e : Bytes) (n k : ℕ) → n ≡ length s → length s ≤ length d → k ≡ length d - n → e ≡ overwritten t (drop n (overwritten s d))
    → take n (overwritten s d) ++ (e ++ drop k (drop n (overwritten s d))) ≡ overwritten (s ++ t) d
unfolding overwritten
over_then s t d e n k en h ek ee =
    let a : take n (s ++ drop (length s) d) ≡ s = take_at s (drop (length s) d) n (sym en) in
    let b : drop n (s ++ drop (length s) d) ≡ drop (length s) d = drop_at s (drop (length s) d) n (sym en) in
    let z : drop k (drop (length s) d) ≡ [] = drop_of_length-le (drop (length s) d) {i = k} (omega (arith, length-drop (length s) d)) in
    let f : e ≡ t ++ drop (length t) (drop (length s) d) = ee ∙ ap (λ (l : Bytes). t ++ drop (length t) l) b in
    rw (a, b, z, append-nil, f) (sym (append_assoc s t (drop (length (s ++ t)) d) ∙ ap (λ (l : Bytes). s ++ (t ++ l)) (drop_both s t d)))

-- the same as code lends the part, `&mut x[n..]`: x is the buffer with the first piece, and e what is left in the part
pub over_next : (s t d x e : Bytes) (n : ℕ) → x ≡ overwritten s d → n ≡ length s → length s ≤ length d → e ≡ overwritten t (take (length x - n) (drop n x))
    → take n x ++ (e ++ drop (length x - n) (drop n x)) ≡ overwritten (s ++ t) d
over_next s t d x e n p en h q =
    let len : length x ≡ length d = ap length p ∙ over_length s d h in
    let whole : take (length x - n) (drop n x) ≡ drop n x = take_all (length x - n) (drop n x) (omega (arith, length-drop n x)) in
    let f : e ≡ overwritten t (drop n (overwritten s d)) = q ∙ ap (overwritten t) (whole ∙ ap (drop n) p) in
    ap (λ (l : Bytes). take n l ++ (e ++ drop (length x - n) (drop n l))) p ∙ over_then s t d e n (length x - n) en h (omega arith) f

-- A piece over as many bytes is the piece.
pub over_whole : (s d : Bytes) → length s ≡ length d → overwritten s d ≡ s
unfolding overwritten
over_whole s d e = rw (drop_of_length-le d {i = length s} (omega arith)) (append-nil s)

-- A second piece instead of as many bytes after the first.
over_piece : (s t d : Bytes) (i n : ℕ) → length s ≡ i → length t ≡ n → take i (overwritten s d) ++ (t ++ drop n (drop i (overwritten s d))) ≡ overwritten (s ++ t) d
unfolding overwritten
over_piece s t d i n l m =
    let a : take i (s ++ drop (length s) d) ≡ s = take_at s (drop (length s) d) i l in
    let b : drop i (s ++ drop (length s) d) ≡ drop (length s) d = drop_at s (drop (length s) d) i l in
    rw (a, b, ← m) (sym (append_assoc s t (drop (length (s ++ t)) d) ∙ ap (λ (l : Bytes). s ++ (t ++ l)) (drop_both s t d)))

-- The first i bytes of s over the front of d: what the loop keeps. Shut, so that a search reads s, d and i off it.
unfoldable pub copied : Bytes → Bytes → ℕ → Bytes
copied s d i = overwritten (take i s) d

module _ (s d : Bytes) where
  pub copied_zero : d ≡ copied s d 0
  unfolding copied overwritten
  copied_zero = refl

  copied_length : (x : Bytes) (i : ℕ) → i ≤ length s → length s ≤ length d → x ≡ copied s d i → length x ≡ length d
  unfolding copied
  copied_length x i h k q = let l : length (take i s) ≡ i = length-take-le i s h in ap length q ∙ over_length (take i s) d (omega arith)

  pub copied_done : (e : Bytes) (i : ℕ) → length s ≤ i → e ≡ copied s d i → e ≡ overwritten s d
  unfolding copied
  copied_done e i h q = q ∙ ap (λ (l : Bytes). overwritten l d) (take_all i s h)

  -- n bytes more, in place of the part that is lent as `&mut x[i..i + n]`
  copied_exact : (x e : Bytes) (i n : ℕ) → i + n ≤ length s → length s ≤ length d → x ≡ copied s d i
      → e ≡ take (i + n - i) (drop i s)
      → take i x ++ (e ++ drop (i + n - i) (drop i x)) ≡ copied s d (i + n)
  unfolding copied
  copied_exact x e i n h k q f =
      let l : length (take i s) ≡ i = length-take-le i s (omega arith) in
      let c : i + n - i ≡ n = add-sub_cancel_left i n in
      let m : length (take n (drop i s)) ≡ n = length-take-le n (drop i s) (omega (arith, length-drop i s)) in
      let g : e ≡ take n (drop i s) = f ∙ ap (λ (j : ℕ). take j (drop i s)) c in
      ap (λ (z : Bytes). take i x ++ (z ++ drop (i + n - i) (drop i x))) g
      ∙ ap (λ (j : ℕ). take i x ++ (take n (drop i s) ++ drop j (drop i x))) c
      ∙ ap (λ (z : Bytes). take i z ++ (take n (drop i s) ++ drop n (drop i z))) q
      ∙ over_piece (take i s) (take n (drop i s)) d i n l m
      ∙ ap (λ (z : Bytes). overwritten z d) (sym (take-add i n s))

  -- the same by a call that writes `&s[i..i + n]` over that part
  pub copied_part : (x e : Bytes) (i n : ℕ) → i + n ≤ length s → length s ≤ length d → x ≡ copied s d i
      → e ≡ overwritten (take (i + n - i) (drop i s)) (take (i + n - i) (drop i x))
      → take i x ++ (e ++ drop (i + n - i) (drop i x)) ≡ copied s d (i + n)
  copied_part x e i n h k q f =
      let len : length x ≡ length d = copied_length x i (omega arith) k q in
      let m : length (take (i + n - i) (drop i s)) ≡ i + n - i = length-take-le (i + n - i) (drop i s) (omega (arith, length-drop i s)) in
      let u : length (take (i + n - i) (drop i x)) ≡ i + n - i = length-take-le (i + n - i) (drop i x) (omega (arith, length-drop i x)) in
      copied_exact x e i n h k q (f ∙ over_whole (take (i + n - i) (drop i s)) (take (i + n - i) (drop i x)) (m ∙ sym u))

  -- the first n, into `&mut d[0..n]`
  pub copied_first : (e : Bytes) (n : ℕ) → n ≤ length s → length s ≤ length d → e ≡ overwritten (take (n - 0) (drop 0 s)) (take (n - 0) (drop 0 d))
      → take 0 d ++ (e ++ drop (n - 0) (drop 0 d)) ≡ copied s d n
  copied_first e n h k f =
      let z : n - 0 ≡ 0 + n - 0 = omega arith in
      let y : 0 + n ≡ n = omega arith in
      ap (λ (j : ℕ). take 0 d ++ (e ++ drop j (drop 0 d))) z
      ∙ copied_part d e 0 n (omega arith) k copied_zero (f ∙ ap (λ (j : ℕ). overwritten (take j (drop 0 s)) (take j (drop 0 d))) z)
      ∙ ap (copied s d) y

  -- one byte more
  pub copied_byte : (x : Bytes) (i : ℕ) → i < length s → length s ≤ length d → length x ≡ length d → x ≡ copied s d i → set x i (get_or s i 0) ≡ copied s d (i + 1)
  copied_byte x i h k l q =
      let c : i + 1 - i ≡ 1 = add-sub_cancel_left i 1 in
      let b : get_or s i 0 ∷ [] ≡ take 1 (drop i s) = sym (ap (take 1) (drop-cons s i 0 h)) in
      let z : drop (suc i) x ≡ drop 1 (drop i x) = ap (λ (j : ℕ). drop j x) (sym (add-one i)) ∙ sym (drop-drop 1 i x) in
      set_split x i (get_or s i 0) (omega arith)
      ∙ ap (λ (y : Bytes). take i x ++ (get_or s i 0 ∷ y)) z
      ∙ ap (λ (j : ℕ). take i x ++ ((get_or s i 0 ∷ []) ++ drop j (drop i x))) (sym c)
      ∙ copied_exact x (get_or s i 0 ∷ []) i 1 (omega arith) k q (b ∙ ap (λ (j : ℕ). take j (drop i s)) (sym c))

  -- the last bytes, `&s[k..n]`, where the first i are written, some of the last among them
  pub copied_last : (x e : Bytes) (i k n : ℕ) → k ≤ i → i ≤ n → n ≡ length s → length s ≤ length d → x ≡ copied s d i
      → e ≡ overwritten (take (n - k) (drop k s)) (take (n - k) (drop k x))
      → take k x ++ (e ++ drop (n - k) (drop k x)) ≡ overwritten s d
  unfolding copied overwritten
  copied_last x e i k n h j m w q f =
      let l : length (take i s) ≡ i = length-take-le i s (omega arith) in
      let front : take k x ≡ take k s = ap (take k) q ∙ take-append-le k (take i s) (drop (length (take i s)) d) (omega arith) ∙ take-take k i s h in
      let here : k + (n - k) ≡ length (take i s) + (length s - i) = omega arith in
      let there : length (take i s) + (length s - i) ≡ length s = omega arith in
      let back : drop (n - k) (drop k x) ≡ drop (length s) d =
      drop-drop (n - k) k x
      ∙ ap (λ (z : ℕ). drop z x) here
      ∙ ap (drop (length (take i s) + (length s - i))) q
      ∙ drop-append-add (take i s) (drop (length (take i s)) d) (length s - i)
      ∙ drop-drop (length s - i) (length (take i s)) d
      ∙ ap (λ (z : ℕ). drop z d) there
      in
      let len : length x ≡ length d = copied_length x i (omega arith) w q in
      let v : length (take (n - k) (drop k s)) ≡ n - k = length-take-le (n - k) (drop k s) (omega (arith, length-drop k s)) in
      let u : length (take (n - k) (drop k x)) ≡ n - k = length-take-le (n - k) (drop k x) (omega (arith, length-drop k x)) in
      let piece : take (n - k) (drop k s) ≡ drop k s = take_all (n - k) (drop k s) (omega (arith, length-drop k s)) in
      rw (front, back, f ∙ over_whole (take (n - k) (drop k s)) (take (n - k) (drop k x)) (v ∙ sym u) ∙ piece) (sym (append_assoc (take k s) (drop k s) (drop (length s) d)) ∙ ap (λ (z : Bytes). z ++ drop (length s) d) (take-append-drop k s))

-- The certificates: only 5 is left past 3 and 4. The hashes of each are whole.
pub certificate_5 : (n : ℕ) → between 3 5 n ≡ true → (n ≡ 3 → ⊥) → (n ≡ 4 → ⊥) → n ≡ 5
certificate_5 n h a b = let l = leb-true 3 n (and_left (leb 3 n) (leb n 5) h) in let m = leb-true n 5 (and_right (leb 3 n) (leb n 5) h) in omega arith

pub hashes_whole : (n : ℕ) → hashes_bytes n % hash_bytes ≡ 0
hashes_whole n = pick (eqb n 4) refl
  where
    pick : (b : Bool) → eqb n 4 ≡ b → hashes_bytes n % hash_bytes ≡ 0
    pick true e = rw e
    pick false e = rw e

-- A header and hashes of a length: the ways out of the writer, by the tests that the code made.
module _ (header : Bytes) (size : ℕ) (hashes buffer : Bytes) where
  pub headed_wrong : (length hashes ≡ size → ⊥)
      → (unwritten bad_length ≡ headed_reply header size hashes buffer) × (buffer ≡ headed_buffer header size hashes buffer)
  unfolding headed_reply headed_buffer headed_fault first_fault
  headed_wrong n = rw (ne_eqb _ _ n) (refl, refl)

  module _ (e : length hashes ≡ size) (total : ℕ) (t : total ≡ length header + size) where
    long : length (header ++ hashes) ≡ total
    long = length-append header hashes ∙ omega (arith, e, t)

    pub headed_short : length buffer < total
        → (unwritten short_buffer ≡ headed_reply header size hashes buffer) × (buffer ≡ headed_buffer header size hashes buffer)
    unfolding headed_reply headed_buffer headed_fault first_fault
    headed_short h = rw (eq-eqb _ _ e, long, lt-leb total (length buffer) h) (refl, refl)

    pub headed_written : total ≤ length buffer → (x : Bytes) → x ≡ overwritten (header ++ hashes) buffer
        → (written total ≡ headed_reply header size hashes buffer) × (x ≡ headed_buffer header size hashes buffer)
    unfolding headed_reply headed_buffer headed_fault first_fault overwritten
    headed_written h x q = rw (eq-eqb _ _ e, long, le-leb total (length buffer) h) (refl, q)

-- A subject under a known suite is a header and hashes.
module _ (certificate n : ℕ) (s : Suite) (hashes buffer : Bytes) where
  pub subject_under : some s ≡ suite n → between 3 5 certificate ≡ true → (x : SubjectReply) (y : Bytes)
      → (x ≡ headed_reply (header_bytes (header_under certificate (some s))) (hashes_bytes certificate) hashes buffer)
      × (y ≡ headed_buffer (header_bytes (header_under certificate (some s))) (hashes_bytes certificate) hashes buffer)
      → (x ≡ subject_reply certificate n hashes buffer) × (y ≡ subject_buffer certificate n hashes buffer)
  unfolding subject_reply subject_buffer subject_fault subject headed_reply headed_buffer headed_fault first_fault
  subject_under e b x y h = rw (← e, b) h

-- Refusals 10 and 11.
module _ (certificate n : ℕ) (hashes buffer : Bytes) where
  pub subject_nowhere : between 3 5 certificate ≡ false
      → (unwritten out_of_range ≡ subject_reply certificate n hashes buffer) × (buffer ≡ subject_buffer certificate n hashes buffer)
  unfolding subject_reply subject_buffer subject_fault first_fault
  subject_nowhere b = rw b (refl, refl)

  subject_unknown : suite n ≡ none → between 3 5 certificate ≡ true
      → (unwritten unknown_suite ≡ subject_reply certificate n hashes buffer) × (buffer ≡ subject_buffer certificate n hashes buffer)
  unfolding subject_reply subject_buffer subject_fault first_fault
  subject_unknown e b = rw (e, b) (refl, refl)

  pub subject_refused : (f : ℕ) → refuses f ≡ called_for n → between 3 5 certificate ≡ true
      → (unwritten f ≡ subject_reply certificate n hashes buffer) × (buffer ≡ subject_buffer certificate n hashes buffer)
  subject_refused f e b = rw (suite_measured n (refuses f) e) (subject_unknown (sym (suite_found n (refuses f) e)) b)

-- Both clauses of a contract, from a pair of them.
pub both_clauses : {A B : Type 0} → A × B → record { reply : A; bytes : B }
both_clauses p = record { reply = p.0; bytes = p.1 }
