-- A record from its parts.
use Prim.Native.Nat.{ℕ, ◌+◌, ◌-◌, ◌*◌, ◌%◌, ◌^◌, ◌≤◌, ◌<◌}
use Prim.Native.String.{String}
use native.Mathlib.Omega.{arith}
use native.Mathlib.Nat.{pow-suc, mul_comm, mul_assoc, mul-add, mul-le-mul_left}
use mathlib.Core.Path.{◌≡◌, refl, sym, ◌∙◌, ap}
use mathlib.Core.List.{List, [], ◌∷◌, ◌++◌, append_assoc, append-nil, flatten, map}
use mathlib.Core.Bool.{Bool, true, false}
use lib.ListN.{length, take, drop, replicate, length-append, drop_of_length-le}
use lib.Seq.{length-take-le, take-append-le, take-take, drop_at}
use lib.Pow.{pow_pos}
use borrow.Author.Tests.{eq-eqb, ne_eqb}
use Rattle.rules.specs.Sizes.{hash_bytes}
use Rattle.std.specs.Prelude.{if◌then◌else◌}
use Rattle.rules.specs.Basics.{Bytes, ascii}
use Rattle.text_rules.specs.Decoding.{stands, has_word, after_word, after_hash, after_number, hash_after, number_after, bytes_of, of_bits, headed, sort_of, group_from, limit_from, names_from, permissions_from, blob_from, archive_from, blobfile_from, begins, past, decoded}
use Rattle.text_rules.specs.Words.{spaced, permission_names}
use Rattle.text_bytes.specs.Putting.{put, Put}
use Rattle.text_bytes.specs.Names.{words_of, NameEnds}
use Rattle.text_bytes.proofs.Laws.{put_on, put_as}
use Rattle.text_bytes.proofs.Permissions.{permission_row, row_names}
use Rattle.text_lexer.specs.declared.Cursor.{Cursor}
use Rattle.text_lexer.specs.Telling.{past_word, past_hash, past_number, hash_in, number_in}
use Rattle.text_lexer.specs.Taking.{one, Advanced, Field}
use Rattle.text_lexer.proofs.Taking.{told_on, field_on}
use Rattle.text_acl_parser.specs.Parts.{keyed_flags, keyed_bytes, sort_by, bits_from, token_place, non_km0_place, kmhash_place, soft_place, shares_place, null_place, file_place, end_place, key_flags, key_bytes, end_flags, token_flags, share_bytes, ktparams_bytes}

-- bytes put before others that stand already
pub put_before : {head body old mid new : Bytes} {at e r : ℕ} (k : ℕ) → length head ≡ k → Put body (at + k) old mid e → Put head at mid new r → Put (head ++ body) at old new e
unfolding put
put_before {head} {body} {old} {mid} {new} {at} {e} {r} k lk p q =
    let f = p.end in
    let s = p.same_length in
    let i = p.inside in
    let a : Bytes = take (at + k) old in
    let d : Bytes = drop (at + k + length body) old in
    let la : length a ≡ at + k = length-take-le (at + k) old (omega arith) in
    let m : mid ≡ a ++ (body ++ d) = p.bytes ∙ append_assoc a body d in
    let x : take at mid ≡ take at old = ap (take at) m ∙ take-append-le at a (body ++ d) (omega arith) ∙ take-take at (at + k) old (omega arith) in
    let y : drop (at + length head) mid ≡ body ++ d = ap (drop (at + length head)) m ∙ drop_at a (body ++ d) (at + length head) (omega arith) in
    let n : at + k + length body ≡ at + length (head ++ body) = omega (arith, length-append head body) in
    record {
      bytes = q.bytes ∙ ap (λ (l : Bytes). l ++ head ++ drop (at + length head) mid) x ∙ ap (λ (l : Bytes). take at old ++ head ++ l) y ∙ regroup (take at old) d ∙ ap (λ (j : ℕ). take at old ++ (head ++ body) ++ drop j old) n;
      end = f ∙ n;
      same_length = q.same_length ∙ s;
      inside = omega (arith, q.same_length);
    }
  where
    regroup : (front back : Bytes) → front ++ head ++ (body ++ back) ≡ front ++ (head ++ body) ++ back
    regroup front back = simp append_assoc

-- kind and flags
pub head_put : (k n at : ℕ) (old mid new : Bytes) (e r : ℕ) → Put (k ∷ 0 ∷ []) at old mid e → Field 2 (bytes_of 2 n) e mid new r → Field 4 (k ∷ 0 ∷ bytes_of 2 n) at old new r
head_put k n at old mid new e r p q = record { written = put_on p q.written; ends = omega (arith, p.end, q.ends) }

-- the same before the rest of a record
pub headed_put : (k n m at : ℕ) (body old mid new : Bytes) (e r : ℕ) → n ≡ m → Put body (at + 4) old mid e → Field 4 (k ∷ 0 ∷ bytes_of 2 n) at mid new r → Put ((k ∷ 0 ∷ bytes_of 2 m) ++ body) at old new e
unfolding bytes_of
headed_put k n m at body old mid new e r en p q = put_as (ap (λ (x : ℕ). (k ∷ 0 ∷ bytes_of 2 x) ++ body) en) (put_before 4 refl p q.written)

-- a hash by its word, the mechanism and the word blobfile
module _ (k : ℕ) (w line : Bytes) (weight filed from at : ℕ) (keyed named last : Cursor) where
  pub keyed_put : (far more much : ℕ) (u old b1 b2 b3 new : Bytes) (done r : ℕ)
      → Advanced line (past_hash w (drop from line)) (1 * one (stands w (drop from line))) 1 far record { at = from; end = at + 4; flags = 0 } keyed
      → Field hash_bytes (hash_in w (drop from line)) (at + 4) old b1 keyed.end
      → Advanced line (past_number (ascii " mechanism") (drop keyed.at line)) (weight * one (stands (ascii " mechanism") (drop keyed.at line))) weight more keyed named
      → Field 2 (bytes_of 2 (number_in (ascii " mechanism") (drop keyed.at line))) keyed.end b1 b2 named.end
      → Advanced line u (filed * one (stands (ascii " blobfile") (drop named.at line))) filed much named last × (last.end ≡ named.end)
      → Put (replicate 38 0) last.end b2 b3 done
      → Field 4 (k ∷ 0 ∷ bytes_of 2 last.flags) at b3 new r
      → Put (keyed_bytes k w weight filed (drop from line)) at old new done
  unfolding keyed_bytes
  keyed_put far more much u old b1 b2 b3 new done r t1 f1 t2 f2 t3 p h =
      let q = rw t1.place at t2 in
      let g = rw t1.place at f2 in
      let s = rw q.place at t3 in
      let z = rw t3.1 at p in
      let e : last.flags ≡ keyed_flags w weight filed (drop from line) = omega (arith, q.flags_are, t1.flags_are, s.0.flags_are) in
      headed_put k last.flags (keyed_flags w weight filed (drop from line)) at (hash_in w (drop from line) ++ (bytes_of 2 (number_in (ascii " mechanism") (past_hash w (drop from line))) ++ replicate 38 0)) old b3 new done r e (put_on f1.written (put_on g.written z)) h

-- the sort of a limit
pub sort_odd : (flags : ℕ) → flags % 2 ≡ 1 → 2 ≡ sort_by flags
sort_odd flags e = sym (rw (eq-eqb (flags % 2) 1 e))

pub sort_even : (flags r : ℕ) → (flags % 2 ≡ 1 → ⊥) → r ≡ 1 + flags → r ≡ sort_by flags
sort_even flags r n e = rw (ne_eqb (flags % 2) 1 n) e

sort_is : (a b : Bool) (f : ℕ) → f ≡ 1 * one a + 2 * one b → sort_by f ≡ sort_of a b
sort_is false false f e = rw e
sort_is false true f e = rw e
sort_is true false f e = rw e
sort_is true true f e = rw e

-- the maximum of a limit, by the test whether it is of seconds
module _ (line v : Bytes) (c : Cursor) (b : Bool) (ev : v ≡ drop c.at line) (eb : b ≡ has_word "seconds" v) where
  tested : (x : Bool) → b ≡ x → has_word "seconds" (drop c.at line) ≡ x
  tested x e = ap (has_word "seconds") (sym ev) ∙ sym eb ∙ e

  pub maximum_timed : (u : Bytes) (d : Cursor) (far : ℕ) (old new : Bytes) → b ≡ true
      → Advanced line u (2 * one (has_word "seconds" (drop c.at line))) 2 far c d × Field 4 (bytes_of 4 (number_after "seconds" (drop c.at line))) c.end old new d.end
      → (d.flags ≡ c.flags + 2 * one (has_word "seconds" (drop c.at line))) × (d.flags ≤ c.flags + 2)
      × Field 4 (bytes_of 4 (if has_word "seconds" (drop c.at line) then number_after "seconds" (drop c.at line) else number_after "uses" (drop c.at line))) c.end old new d.end
  maximum_timed u d far old new y p = (p.0.flags_are, p.0.few, rw (tested true y) p.1)

  pub maximum_used : (u : Bytes) (d : Cursor) (far : ℕ) (old new : Bytes) → b ≡ false
      → Advanced line u (0 * one (has_word "uses" (drop c.at line))) 0 far c d × Field 4 (bytes_of 4 (number_after "uses" (drop c.at line))) c.end old new d.end
      → (d.flags ≡ c.flags + 2 * one (has_word "seconds" (drop c.at line))) × (d.flags ≤ c.flags + 2)
      × Field 4 (bytes_of 4 (if has_word "seconds" (drop c.at line) then number_after "seconds" (drop c.at line) else number_after "uses" (drop c.at line))) c.end old new d.end
  maximum_used u d far old new n p = (rw (tested false n) (omega (arith, p.0.flags_are)), omega (arith, p.0.few), rw (tested false n) p.1)

-- a limit
pub limit_put : (line : Bytes) (from at : ℕ) (k l : Cursor) (far s : ℕ) (old b1 b2 b3 b4 new : Bytes) (gap done r : ℕ)
    → Advanced line (after_number "counter" (drop from line)) (1 * one (has_word "counter" (drop from line))) 1 far record { at = from; end = at + 5; flags = 0 } k
    → Field 1 (bytes_of 1 (number_after "counter" (drop from line))) (at + 5) old b1 k.end
    → Put (replicate 2 0) k.end b1 b2 gap
    → l.flags ≡ k.flags + 2 * one (has_word "seconds" (drop k.at line))
    → Field 4 (bytes_of 4 (if has_word "seconds" (drop k.at line) then number_after "seconds" (drop k.at line) else number_after "uses" (drop k.at line))) gap b2 b3 l.end
    → Put (replicate 52 0) l.end b3 b4 done
    → s ≡ sort_by l.flags
    → Put (2 ∷ 0 ∷ 0 ∷ 0 ∷ s ∷ []) at b4 new r
    → Put (limit_from (drop from line)) at old new done
unfolding limit_from headed flatten bytes_of of_bits
limit_put line from at k l far s old b1 b2 b3 b4 new gap done r t f p e g q es h =
    let u : Bytes = after_number "counter" (drop from line) in
    let e2 : l.flags ≡ k.flags + 2 * one (has_word "seconds" u) = rw t.place at e in
    let g2 = rw t.place at g in
    let a : s ≡ sort_of (has_word "counter" (drop from line)) (has_word "seconds" u) = es ∙ sort_is (has_word "counter" (drop from line)) (has_word "seconds" u) l.flags (omega (arith, e2, t.flags_are)) in
    put_as (ap (λ (x : ℕ). (2 ∷ 0 ∷ 0 ∷ 0 ∷ x ∷ []) ++ (bytes_of 1 (number_after "counter" (drop from line)) ++ (replicate 2 0 ++ (bytes_of 4 (if has_word "seconds" u then number_after "seconds" u else number_after "uses" u) ++ replicate 52 0)))) a)
    (put_before 5 refl (put_on f.written (put_on p (put_on g2.written q))) h)

-- Which names of a row stand: those from a place of the row on.
pub record Bits (names line : Bytes) (from i weight : ℕ) (c : Cursor) : Type 0 where
  pub sum : c.flags + weight * of_bits (bits_from (words_of (drop i names)) (drop c.at line)) ≡ of_bits (bits_from (words_of names) (drop from line))
  pub below : c.flags < weight
  pub fits : weight * 2 ^ length (words_of (drop i names)) ≤ 65536

pub bits_none : (names line : Bytes) (from : ℕ) → 2 ^ length (words_of names) ≤ 65536 → Bits names line from 0 1 record { at = from; end = 0; flags = 0 }
bits_none names line from h = record { sum = omega arith; below = omega arith; fits = omega arith }

module _ (names line : Bytes) (from i weight : ℕ) (c : Cursor) (p : Bits names line from i weight c) where
  module _ (next : ℕ) (e : NameEnds names i next) where
    more : weight * 2 * 2 ^ length (words_of (drop next names)) ≤ 65536
    more =
        let a = ap length e.words in
        let b : 2 ^ length (words_of (drop i names)) ≡ 2 ^ length (words_of (drop next names)) * 2 = ap (λ (n : ℕ). 2 ^ n) a ∙ pow-suc 2 (length (words_of (drop next names))) in
        let d : weight * 2 ^ length (words_of (drop i names)) ≡ weight * 2 * 2 ^ length (words_of (drop next names)) = ap (λ (n : ℕ). weight * n) (b ∙ mul_comm (2 ^ length (words_of (drop next names))) 2) ∙ sym (mul_assoc weight 2 (2 ^ length (words_of (drop next names)))) in
        omega (arith, p.fits)

    pub bits_double : weight * 2 ≤ 65536
    bits_double =
        let b : 1 ≤ 2 ^ length (words_of (drop next names)) = pow_pos (length (words_of (drop next names))) in
        let d : weight * 2 * 1 ≤ weight * 2 * 2 ^ length (words_of (drop next names)) = mul-le-mul_left (weight * 2) b in
        omega (arith, more)

    pub bits_room : c.flags + weight ≤ 65535
    bits_room = omega (arith, p.below, bits_double)

    pub bits_word : (d : Cursor) (far : ℕ)
        → Advanced line (past_word (take (next - i) (drop i names)) (drop c.at line)) (weight * one (stands (take (next - i) (drop i names)) (drop c.at line))) weight far c d
        → Bits names line from next (weight * 2) d
    unfolding bits_from of_bits
    bits_word d far t =
        let w : Bytes = take (next - i) (drop i names) in
        let o : ℕ = one (stands w (drop c.at line)) in
        let n : ℕ = of_bits (bits_from (words_of (drop next names)) (past_word w (drop c.at line))) in
        let s : c.flags + weight * (o + 2 * n) ≡ of_bits (bits_from (words_of names) (drop from line)) = rw e.words at p.sum in
        let a : weight * (o + 2 * n) ≡ weight * o + weight * 2 * n = mul-add weight o (2 * n) ∙ ap (λ (x : ℕ). weight * o + x) (sym (mul_assoc weight 2 n)) in
        let f = t.flags_are in
        record {
          sum = rw t.place (omega arith);
          below = omega (arith, t.few, p.below);
          fits = more;
        }

  pub bits_all : length names ≤ i → c.flags ≡ of_bits (bits_from (words_of names) (drop from line))
  unfolding bits_from of_bits words_of
  bits_all h =
      let s : c.flags + weight * 0 ≡ of_bits (bits_from (words_of names) (drop from line)) = rw (drop_of_length-le names {i = i} h) at p.sum in
      omega arith

-- the permissions
pub names_bits : (names : List String) (t : Bytes) → bits_from (map spaced names) t ≡ names_from names t
unfolding bits_from names_from has_word after_word past_word
names_bits [] t = refl
names_bits (name ∷ names) t = ap (λ (l : List Bool). has_word name t ∷ l) (names_bits names (after_word name t))

pub permissions_put : (t : Bytes) (bits at : ℕ) (old b1 b2 new : Bytes) (e1 e2 r : ℕ) → bits ≡ of_bits (bits_from (words_of permission_row) t)
    → Field 4 (3 ∷ 0 ∷ bytes_of 2 0) at old b1 e1 → Field 2 (bytes_of 2 bits) e1 b1 b2 e2 → Put (replicate 58 0) e2 b2 new r → Put (permissions_from t) at old new r
unfolding permissions_from headed flatten of_bits
permissions_put t bits at old b1 b2 new e1 e2 r e p q z =
    let f : bits ≡ of_bits (names_from permission_names t) = e ∙ ap (λ (ws : List Bytes). of_bits (bits_from ws t)) row_names ∙ ap of_bits (names_bits permission_names t) in
    put_as (ap (λ (x : ℕ). (3 ∷ 0 ∷ bytes_of 2 0) ++ (bytes_of 2 x ++ replicate 58 0)) f) (put_on p.written (put_on q.written z))

-- MakeBlob: the flags and key hashes
pub keys_told : (line : Bytes) (c c1 c2 c3 c4 : Cursor) (old mid new : Bytes)
    → Advanced line (non_km0_place (drop c.at line)) (1 * one (has_word "AllowKmOnly" (drop c.at line))) 1 12 c c1 × (c1.end ≡ c.end)
    → Advanced line (after_word "AllowNonKm0" (drop c1.at line)) (2 * one (has_word "AllowNonKm0" (drop c1.at line))) 2 12 c1 c2 × (c2.end ≡ c1.end)
    → Advanced line (after_hash "kmhash" (drop c2.at line)) (4 * one (has_word "kmhash" (drop c2.at line))) 4 48 c2 c3 × Field hash_bytes (hash_after "kmhash" (drop c2.at line)) c2.end old mid c3.end
    → Advanced line (after_hash "kthash" (drop c3.at line)) (8 * one (has_word "kthash" (drop c3.at line))) 8 48 c3 c4 × Field hash_bytes (hash_after "kthash" (drop c3.at line)) c3.end mid new c4.end
    → Advanced line (token_place (drop c.at line)) (key_flags (drop c.at line)) 15 120 c c4 × Field 40 (key_bytes (drop c.at line)) c.end old new c4.end
unfolding key_bytes
keys_told line c c1 c2 c3 c4 old mid new p1 p2 p3 p4 =
    let q2 = rw p1.0.place at p2 in
    let q3 = rw q2.0.place at p3 in
    let q4 = rw q3.0.place at p4 in
    let e : c2.end ≡ c.end = q2.1 ∙ p1.1 in
    (told_on p1.0 (told_on q2.0 (told_on q3.0 q4.0)), field_on (rw e at q3.1) q4.1)

-- the numbers of the token parameters
pub shares_told : (line : Bytes) (c c1 c2 c3 : Cursor) (old b1 b2 new : Bytes)
    → Advanced line (after_number "needed" (drop c.at line)) (0 * one (has_word "needed" (drop c.at line))) 0 18 c c1 × Field 1 (bytes_of 1 (number_after "needed" (drop c.at line))) c.end old b1 c1.end
    → Advanced line (after_number "total" (drop c1.at line)) (0 * one (has_word "total" (drop c1.at line))) 0 17 c1 c2 × Field 1 (bytes_of 1 (number_after "total" (drop c1.at line))) c1.end b1 b2 c2.end
    → Advanced line (after_number "seconds" (drop c2.at line)) (0 * one (has_word "seconds" (drop c2.at line))) 0 19 c2 c3 × Field 4 (bytes_of 4 (number_after "seconds" (drop c2.at line))) c2.end b2 new c3.end
    → Advanced line (null_place (drop c.at line)) 0 0 60 c c3 × Field 6 (share_bytes (drop c.at line)) c.end old new c3.end
unfolding share_bytes
shares_told line c c1 c2 c3 old b1 b2 new p1 p2 p3 =
    let q2 = rw p1.0.place at p2 in
    let q3 = rw q2.0.place at p3 in
    let t = told_on p1.0 (told_on q2.0 q3.0) in
    (record { place = t.place; flags_are = omega (arith, t.flags_are); few = omega (arith, t.few); near = omega (arith, t.near) }, field_on p1.1 (field_on q2.1 q3.1))

-- the last two words
pub end_told : (line : Bytes) (c c1 c2 : Cursor)
    → Advanced line (file_place (drop c.at line)) (32 * one (has_word "AllowNullKmToken" (drop c.at line))) 32 17 c c1 × (c1.end ≡ c.end)
    → Advanced line (after_word "blobfile" (drop c1.at line)) (64 * one (has_word "blobfile" (drop c1.at line))) 64 9 c1 c2 × (c2.end ≡ c1.end)
    → Advanced line (end_place (drop c.at line)) (end_flags (drop c.at line)) 96 26 c c2 × (c2.end ≡ c.end)
end_told line c c1 c2 p1 p2 =
    let q = rw p1.0.place at p2 in
    (told_on p1.0 q.0, q.1 ∙ p1.1)

-- the token parameters and the last two words
pub token_told : (line u : Bytes) (c c1 c2 c3 c4 : Cursor) (n far end : ℕ) (old mid new : Bytes)
    → Advanced line (soft_place (drop c.at line)) (16 * one (has_word "ktparams" (drop c.at line))) 16 9 c c1 × (c1.end ≡ c.end)
    → Advanced line (after_word "AllowSoftSlots" (drop c1.at line)) (1 * one (has_word "AllowSoftSlots" (drop c1.at line))) 1 15 record { at = c1.at; end = c1.end; flags = 0 } c2 × (c2.end ≡ c1.end)
    → n ≡ c2.flags
    → Field 2 (bytes_of 2 n) c2.end old mid end
    → Advanced line (null_place (drop c2.at line)) 0 0 60 record { at = c2.at; end = end; flags = c1.flags } c3 × Field 6 (share_bytes (drop c2.at line)) end mid new c3.end
    → Advanced line u (end_flags (drop c3.at line)) 96 far c3 c4 × (c4.end ≡ c3.end)
    → c.flags ≤ 15
    → (c4.flags ≡ c.flags + token_flags (drop c.at line)) × (c4.flags ≤ 127) × Field 8 (ktparams_bytes (drop c.at line)) c.end old new c4.end
unfolding ktparams_bytes
token_told line u c c1 c2 c3 c4 n far end old mid new p1 p2 en f p3 p4 h =
    let q2 = rw p1.0.place at p2 in
    let q3 = rw q2.0.place at p3 in
    let q4 = rw q3.0.place at p4 in
    let s : n ≡ 1 * one (has_word "AllowSoftSlots" (soft_place (drop c.at line))) = omega (arith, en, q2.0.flags_are) in
    let e : c2.end ≡ c.end = q2.1 ∙ p1.1 in
    (omega (arith, p1.0.flags_are, q3.0.flags_are, q4.0.flags_are), omega (arith, p1.0.few, q3.0.few, q4.0.few), rw q4.1 (field_on (rw (s, e) at f) q3.1))

-- the whole record
flags_of : Bytes → List Bool
flags_of t =
    has_word "AllowKmOnly" t
    ∷ has_word "AllowNonKm0" (non_km0_place t)
    ∷ has_word "kmhash" (kmhash_place t)
    ∷ has_word "kthash" (after_hash "kmhash" (kmhash_place t))
    ∷ has_word "ktparams" (token_place t)
    ∷ has_word "AllowNullKmToken" (null_place (shares_place (token_place t)))
    ∷ has_word "blobfile" (file_place (null_place (shares_place (token_place t))))
    ∷ []

blob_whole : (t : Bytes) → (4 ∷ 0 ∷ bytes_of 2 (of_bits (flags_of t))) ++ (key_bytes t ++ (ktparams_bytes (token_place t) ++ replicate 12 0)) ≡ blob_from t
unfolding flags_of blob_from headed flatten key_bytes ktparams_bytes share_bytes of_bits
blob_whole t =
    let e : 1 * one (has_word "AllowSoftSlots" (soft_place (token_place t))) ≡ of_bits (has_word "AllowSoftSlots" (soft_place (token_place t)) ∷ []) = omega arith in
    rw e (simp (append_assoc, append-nil))

pub blob_put : (line : Bytes) (from at : ℕ) (k l : Cursor) (old b1 b2 b3 new : Bytes) (done r : ℕ)
    → Advanced line (token_place (drop from line)) (key_flags (drop from line)) 15 120 record { at = from; end = at + 4; flags = 0 } k × Field 40 (key_bytes (drop from line)) (at + 4) old b1 k.end
    → (l.flags ≡ k.flags + token_flags (drop k.at line)) × (l.flags ≤ 127) × Field 8 (ktparams_bytes (drop k.at line)) k.end b1 b2 l.end
    → Put (replicate 12 0) l.end b2 b3 done
    → Field 4 (4 ∷ 0 ∷ bytes_of 2 l.flags) at b3 new r
    → Put (blob_from (drop from line)) at old new done
unfolding flags_of of_bits
blob_put line from at k l old b1 b2 b3 new done r p q z h =
    let t : Bytes = drop from line in
    let q2 = rw p.0.place at q in
    let e : l.flags ≡ of_bits (flags_of t) = omega (arith, q2.0, p.0.flags_are) in
    put_as (blob_whole t)
    (headed_put 4 l.flags (of_bits (flags_of t)) at (key_bytes t ++ (ktparams_bytes (token_place t) ++ replicate 12 0)) old b3 new done r e (put_on p.1.written (put_on q2.2.written z)) h)

-- blobfile: the device mask and the template's hash
file_whole : (t : Bytes) → (15 ∷ 0 ∷ bytes_of 2 (of_bits (has_word "devices" t ∷ has_word "template" (after_number "devices" t) ∷ [])))
    ++ (bytes_of 4 (number_after "devices" t) ++ (hash_after "template" (after_number "devices" t) ++ replicate 36 0)) ≡ blobfile_from t
unfolding blobfile_from headed flatten
file_whole t = simp append-nil

pub file_put : (line : Bytes) (from at : ℕ) (k l : Cursor) (far more : ℕ) (u old b1 b2 b3 new : Bytes) (done r : ℕ)
    → Advanced line (after_number "devices" (drop from line)) (1 * one (has_word "devices" (drop from line))) 1 far record { at = from; end = at + 4; flags = 0 } k
    → Field 4 (bytes_of 4 (number_after "devices" (drop from line))) (at + 4) old b1 k.end
    → Advanced line u (2 * one (has_word "template" (drop k.at line))) 2 more k l
    → Field hash_bytes (hash_after "template" (drop k.at line)) k.end b1 b2 l.end
    → Put (replicate 36 0) l.end b2 b3 done
    → Field 4 (15 ∷ 0 ∷ bytes_of 2 l.flags) at b3 new r
    → Put (blobfile_from (drop from line)) at old new done
unfolding of_bits
file_put line from at k l far more u old b1 b2 b3 new done r t1 f1 t2 f2 z h =
    let t : Bytes = drop from line in
    let v : Bytes = after_number "devices" t in
    let q = rw t1.place at t2 in
    let g = rw t1.place at f2 in
    let e : l.flags ≡ of_bits (has_word "devices" t ∷ has_word "template" v ∷ []) = omega (arith, q.flags_are, t1.flags_are) in
    put_as (file_whole t)
    (headed_put 15 l.flags (of_bits (has_word "devices" t ∷ has_word "template" v ∷ [])) at (bytes_of 4 (number_after "devices" t) ++ (hash_after "template" v ++ replicate 36 0)) old b3 new done r e (put_on f1.written (put_on g.written z)) h)

-- the two keyed records
group_bytes : (t : Bytes) → keyed_bytes 1 (ascii " certifier") 2 0 t ≡ group_from t
unfolding keyed_bytes group_from headed flatten of_bits ascii has_word after_hash hash_after number_after past_hash hash_in number_in
group_bytes t =
    let a : Bool = has_word "certifier" t in
    let b : Bool = has_word "mechanism" (after_hash "certifier" t) in
    let e : keyed_flags (ascii " certifier") 2 0 t ≡ of_bits (a ∷ b ∷ []) = omega arith in
    rw e (simp append-nil)

archive_bytes : (t : Bytes) → keyed_bytes 5 (ascii " kahash") 0 64 t ≡ archive_from t
unfolding keyed_bytes archive_from headed flatten of_bits ascii has_word after_hash hash_after number_after after_number past_hash past_number hash_in number_in
archive_bytes t =
    let a : Bool = has_word "kahash" t in
    let b : Bool = has_word "blobfile" (after_number "mechanism" (after_hash "kahash" t)) in
    let e : keyed_flags (ascii " kahash") 0 64 t ≡ of_bits (a ∷ false ∷ false ∷ false ∷ false ∷ false ∷ b ∷ []) = omega arith in
    rw e (simp append-nil)

-- the record that a line tells, by its first word
module _ (line old new : Bytes) (at r : ℕ) (b1 : Bool) (e1 : b1 ≡ begins "group" line) where
  pub decoded_1 : b1 ≡ true → Put (keyed_bytes 1 (ascii " certifier") 2 0 (past "group" line)) at old new r → Put (decoded line) at old new r
  unfolding decoded
  decoded_1 y p = rw (sym e1 ∙ y) (put_as (group_bytes (past "group" line)) p)

  module _ (n1 : b1 ≡ false) (b2 : Bool) (e2 : b2 ≡ begins "limit" line) where
    pub decoded_2 : b2 ≡ true → Put (limit_from (past "limit" line)) at old new r → Put (decoded line) at old new r
    unfolding decoded
    decoded_2 y p = rw (sym e1 ∙ n1, sym e2 ∙ y) p

    module _ (n2 : b2 ≡ false) (b3 : Bool) (e3 : b3 ≡ begins "OpPermissions" line) where
      pub decoded_3 : b3 ≡ true → Put (permissions_from (past "OpPermissions" line)) at old new r → Put (decoded line) at old new r
      unfolding decoded
      decoded_3 y p = rw (sym e1 ∙ n1, sym e2 ∙ n2, sym e3 ∙ y) p

      module _ (n3 : b3 ≡ false) (b4 : Bool) (e4 : b4 ≡ begins "MakeBlob" line) where
        pub decoded_4 : b4 ≡ true → Put (blob_from (past "MakeBlob" line)) at old new r → Put (decoded line) at old new r
        unfolding decoded
        decoded_4 y p = rw (sym e1 ∙ n1, sym e2 ∙ n2, sym e3 ∙ n3, sym e4 ∙ y) p

        module _ (n4 : b4 ≡ false) (b5 : Bool) (e5 : b5 ≡ begins "MakeArchiveBlob" line) where
          pub decoded_5 : b5 ≡ true → Put (keyed_bytes 5 (ascii " kahash") 0 64 (past "MakeArchiveBlob" line)) at old new r → Put (decoded line) at old new r
          unfolding decoded
          decoded_5 y p = rw (sym e1 ∙ n1, sym e2 ∙ n2, sym e3 ∙ n3, sym e4 ∙ n4, sym e5 ∙ y) (put_as (archive_bytes (past "MakeArchiveBlob" line)) p)

          pub decoded_15 : b5 ≡ false → Put (blobfile_from (past "blobfile" line)) at old new r → Put (decoded line) at old new r
          unfolding decoded
          decoded_15 n5 p = rw (sym e1 ∙ n1, sym e2 ∙ n2, sym e3 ∙ n3, sym e4 ∙ n4, sym e5 ∙ n5) p
