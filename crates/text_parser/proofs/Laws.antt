-- A record from its parts.
use Prim.Native.Nat.{ℕ, suc, ◌+◌, ◌*◌, ◌≤◌}
use Prim.Native.String.{String}
use native.Mathlib.Omega.{arith}
use mathlib.Core.Path.{◌≡◌, refl, sym, ◌∙◌, ap}
use mathlib.Core.List.{List, [], ◌∷◌, ◌++◌, append_assoc, append-nil, flatten, map}
use mathlib.Core.Bool.{Bool, true, false}
use lib.ListN.{length, drop, replicate}
use Rattle.rules.specs.Sizes.{hash_bytes}
use Rattle.std.specs.Prelude.{if◌then◌else◌}
use Rattle.rules.specs.Basics.{Bytes}
use Rattle.text_rules.specs.Words.{spaced, permission_names}
use Rattle.text_rules.specs.OtherWords.{field_names, signature_names}
use Rattle.text_rules.specs.Decoding.{has_word, after_word, after_hash, after_number, hash_after, number_after, bytes_of, of_bits, headed, begins, past, decoded}
use Rattle.text_rules.specs.OtherDecoding.{place_of, after_name, hash_here, past_here, bytes_here, time_after, use_from, blob_request_from, recovery_from, certificate_from, fact_from, signature_from, policy_record_from, hint_from, delegation_from, record_of}
use Rattle.text_bytes.specs.Putting.{Put}
use Rattle.text_bytes.specs.Names.{words_of}
use Rattle.text_bytes.proofs.Laws.{put_on, put_as}
use Rattle.text_bytes.proofs.Permissions.{permission_row, row_names, field_row, field_names_lem, signature_row, signature_names_lem}
use Rattle.text_lexer.specs.declared.Cursor.{Cursor}
use Rattle.text_lexer.specs.Telling.{place_in, past_name}
use Rattle.text_lexer.specs.Taking.{one, Advanced, Field}
use Rattle.text_lexer.proofs.Taking.{told_on, field_on}
use Rattle.text_acl_parser.specs.Parts.{bits_from, null_place, share_bytes}
use Rattle.text_acl_parser.proofs.Laws.{headed_put, names_bits}
use Rattle.text_parser.specs.Parts.{soft_place, token_place, token_bytes, outcome_bytes, bits_place, bits_set, policy_end, action_bytes, bits_bytes}

-- the names of a row, by the strings that they are
place_names : (names : List String) (t : Bytes) → place_in (map spaced names) t ≡ place_of names t
unfolding place_in place_of has_word
place_names [] t = refl
place_names (name ∷ names) t = ap (λ (n : ℕ). if has_word name t then 0 else suc n) (place_names names t)

past_names : (names : List String) (t : Bytes) → past_name (map spaced names) t ≡ after_name names t
unfolding past_name after_name has_word
past_names [] t = refl
past_names (name ∷ names) t = ap (λ (u : Bytes). if has_word name t then drop (length (spaced name)) t else u) (past_names names t)

-- a use
pub use_put : (line : Bytes) (from at : ℕ) (d : Cursor) (old b1 b2 b3 new : Bytes) (far e1 e2 r : ℕ)
    → Field 4 (6 ∷ 0 ∷ bytes_of 2 0) at old b1 e1
    → Advanced line (past_name (words_of permission_row) (drop from line)) 0 0 far record { at = from; end = e1; flags = 0 } d
    × Field 1 (bytes_of 1 (place_in (words_of permission_row) (drop from line) + 0)) e1 b1 b2 d.end
    → Put (replicate 51 0) d.end b2 b3 e2
    → Field 8 (bytes_of 8 (time_after (drop d.at line))) e2 b3 new r
    → Put (use_from (drop from line)) at old new r
unfolding use_from headed flatten of_bits
use_put line from at d old b1 b2 b3 new far e1 e2 r h n z f =
    let t : Bytes = drop from line in
    let p : place_in (words_of permission_row) t + 0 ≡ place_of permission_names t = add_none (place_in (words_of permission_row) t) ∙ ap (λ (ws : List Bytes). place_in ws t) row_names ∙ place_names permission_names t in
    let q : drop d.at line ≡ after_name permission_names t = n.0.place ∙ ap (λ (ws : List Bytes). past_name ws t) row_names ∙ past_names permission_names t in
    put_as (ap (λ (l : Bytes). (6 ∷ 0 ∷ bytes_of 2 0) ++ (bytes_of 1 (place_of permission_names t) ++ (replicate 51 0 ++ l))) (sym (append-nil (bytes_of 8 (time_after (after_name permission_names t))))))
    (put_on h.written (put_on (rw p at n.1.written) (put_on z (rw q at f.written))))
  where
    add_none : (n : ℕ) → n + 0 ≡ n
    add_none n = omega arith

-- a certificate
pub certificate_put : (line : Bytes) (from at : ℕ) (d e : Cursor) (u old b1 b2 b3 new : Bytes) (far more flags most e1 r : ℕ)
    → Field 4 (9 ∷ 0 ∷ bytes_of 2 0) at old b1 e1
    → Advanced line (past_here (drop from line)) 0 0 far record { at = from; end = e1; flags = 0 } d × Field hash_bytes (hash_here (drop from line)) e1 b1 b2 d.end
    → Advanced line u flags most more d e × Field 2 (bytes_of 2 (number_after "mechanism" (drop d.at line))) d.end b2 b3 e.end
    → Put (replicate 38 0) e.end b3 new r
    → Put (certificate_from (drop from line)) at old new r
unfolding certificate_from headed flatten of_bits
certificate_put line from at d e u old b1 b2 b3 new far more flags most e1 r h k m z =
    let t : Bytes = drop from line in
    put_as (ap (λ (l : Bytes). (9 ∷ 0 ∷ bytes_of 2 0) ++ (hash_here t ++ (bytes_of 2 (number_after "mechanism" (past_here t)) ++ l))) (sym (append-nil (replicate 38 0))))
    (put_on h.written (put_on k.1.written (put_on (rw k.0.place at m.1.written) z)))

-- the end of a request's record
pub end_told : (zeros line : Bytes) (c d : Cursor) (old mid new : Bytes) (far gap r : ℕ)
    → Advanced line (after_word "blobfile" (drop c.at line)) (64 * one (has_word "blobfile" (drop c.at line))) 64 far c d × (d.end ≡ c.end)
    → Put zeros d.end old mid gap
    → Field 8 (bytes_of 8 (time_after (drop d.at line))) gap mid new r
    → (d.flags ≡ c.flags + 64 * one (has_word "blobfile" (drop c.at line))) × (d.flags ≤ c.flags + 64)
    × Put (zeros ++ bytes_of 8 (time_after (after_word "blobfile" (drop c.at line)))) c.end old new r
end_told zeros line c d old mid new far gap r w z f =
    (w.0.flags_are, w.0.few, put_on (rw w.1 at z) (rw w.0.place at f.written))

-- a policy's bits
pub bits_told : (line : Bytes) (c d1 d2 d3 : Cursor) (n : ℕ) (old new : Bytes) (r : ℕ) → c.flags ≡ 0
    → Advanced line (after_word "signing" (drop c.at line)) (1 * one (has_word "signing" (drop c.at line))) 1 8 c d1 × (d1.end ≡ c.end)
    → Advanced line (after_word "encryption" (drop d1.at line)) (2 * one (has_word "encryption" (drop d1.at line))) 2 11 d1 d2 × (d2.end ≡ d1.end)
    → Advanced line (after_word "csr" (drop d2.at line)) (4 * one (has_word "csr" (drop d2.at line))) 4 4 d2 d3 × (d3.end ≡ d2.end)
    → n ≡ d3.flags
    → Field 1 (bytes_of 1 n) d3.end old new r
    → Advanced line (bits_place (drop c.at line)) 0 0 30 c record { at = d3.at; end = r; flags = 0 } × Field 1 (bytes_of 1 (bits_set (drop c.at line))) c.end old new r
bits_told line c d1 d2 d3 n old new r z p1 p2 p3 en f =
    let q2 = rw p1.0.place at p2 in
    let q3 = rw q2.0.place at p3 in
    let t = told_on p1.0 (told_on q2.0 q3.0) in
    let near = t.near in
    let e : d3.end ≡ c.end = q3.1 ∙ q2.1 ∙ p1.1 in
    let s : n ≡ bits_set (drop c.at line) = omega (arith, en, z, t.flags_are) in
    (record { place = t.place; flags_are = omega arith; few = omega arith; near = omega arith }, rw (s, e) at f)

-- a blob request's token
pub token_told : (line : Bytes) (c d1 d2 d3 : Cursor) (n end : ℕ) (old b1 b2 new : Bytes)
    → Advanced line (after_hash "token" (drop c.at line)) (1 * one (has_word "token" (drop c.at line))) 1 47 c d1 × Field hash_bytes (hash_after "token" (drop c.at line)) c.end old b1 d1.end
    → Advanced line (after_word "AllowSoftSlots" (drop d1.at line)) (1 * one (has_word "AllowSoftSlots" (drop d1.at line))) 1 15 record { at = d1.at; end = d1.end; flags = 0 } d2 × (d2.end ≡ d1.end)
    → n ≡ d2.flags
    → Field 2 (bytes_of 2 n) d2.end b1 b2 end
    → Advanced line (null_place (drop d2.at line)) 0 0 60 record { at = d2.at; end = end; flags = d1.flags } d3 × Field 6 (share_bytes (drop d2.at line)) end b2 new d3.end
    → Advanced line (token_place (drop c.at line)) (1 * one (has_word "token" (drop c.at line))) 1 130 c d3 × Field 28 (token_bytes (drop c.at line)) c.end old new d3.end
unfolding token_bytes
token_told line c d1 d2 d3 n end old b1 b2 new p1 p2 en f p3 =
    let q2 = rw p1.0.place at p2 in
    let q3 = rw q2.0.place at p3 in
    let s : n ≡ 1 * one (has_word "AllowSoftSlots" (soft_place (drop c.at line))) = omega (arith, en, q2.0.flags_are) in
    let g = rw (s, q2.1) at f in (
      record {
        place = q3.0.place;
        flags_are = omega (arith, p1.0.flags_are, q3.0.flags_are);
        few = omega (arith, p1.0.few, q3.0.few);
        near = omega (arith, p1.0.near, q2.0.near, q3.0.near);
      },
      field_on p1.1 (field_on g q3.1),
    )

-- a recovery blob request
recovery_whole : (t : Bytes) → (8 ∷ 0 ∷ bytes_of 2 (of_bits (false ∷ false ∷ false ∷ false ∷ false ∷ false ∷ has_word "blobfile" (after_number "mechanism" (after_hash "kahash" t)) ∷ [])))
    ++ (hash_after "kahash" t ++ (bytes_of 2 (number_after "mechanism" (after_hash "kahash" t)) ++ (replicate 30 0 ++ bytes_of 8 (time_after (after_word "blobfile" (after_number "mechanism" (after_hash "kahash" t))))))) ≡ recovery_from t
unfolding recovery_from headed flatten
recovery_whole t = simp append-nil

pub recovery_put : (line : Bytes) (from at : ℕ) (d1 d2 l : Cursor) (far more r : ℕ) (old b1 b2 b3 new : Bytes)
    → Advanced line (after_hash "kahash" (drop from line)) (0 * one (has_word "kahash" (drop from line))) 0 far record { at = from; end = at + 4; flags = 0 } d1 × Field hash_bytes (hash_after "kahash" (drop from line)) (at + 4) old b1 d1.end
    → Advanced line (after_number "mechanism" (drop d1.at line)) (0 * one (has_word "mechanism" (drop d1.at line))) 0 more d1 d2 × Field 2 (bytes_of 2 (number_after "mechanism" (drop d1.at line))) d1.end b1 b2 d2.end
    → (l.flags ≡ d2.flags + 64 * one (has_word "blobfile" (drop d2.at line))) × (l.flags ≤ d2.flags + 64)
    × Put (replicate 30 0 ++ bytes_of 8 (time_after (after_word "blobfile" (drop d2.at line)))) d2.end b2 b3 l.end
    → Field 4 (8 ∷ 0 ∷ bytes_of 2 l.flags) at b3 new r
    → Put (recovery_from (drop from line)) at old new l.end
unfolding of_bits
recovery_put line from at d1 d2 l far more r old b1 b2 b3 new p1 p2 p3 h =
    let t : Bytes = drop from line in
    let q2 = rw p1.0.place at p2 in
    let q3 = rw q2.0.place at p3 in
    let v : Bytes = after_number "mechanism" (after_hash "kahash" t) in
    let m : ℕ = of_bits (false ∷ false ∷ false ∷ false ∷ false ∷ false ∷ has_word "blobfile" v ∷ []) in
    let e : l.flags ≡ m = omega (arith, p1.0.flags_are, q2.0.flags_are, q3.0) in
    put_as (recovery_whole t)
    (headed_put 8 l.flags m at (hash_after "kahash" t ++ (bytes_of 2 (number_after "mechanism" (after_hash "kahash" t)) ++ (replicate 30 0 ++ bytes_of 8 (time_after (after_word "blobfile" v))))) old b3 new l.end r e
    (put_on p1.1.written (put_on q2.1.written q3.2)) h)

-- a blob request
blob_whole : (t : Bytes) → (7 ∷ 0 ∷ bytes_of 2 (of_bits (has_word "token" (after_hash "kmhash" t) ∷ false ∷ false ∷ false ∷ false ∷ false ∷ has_word "blobfile" (token_place (after_hash "kmhash" t)) ∷ [])))
    ++ (hash_after "kmhash" t ++ (token_bytes (after_hash "kmhash" t) ++ (replicate 4 0 ++ bytes_of 8 (time_after (after_word "blobfile" (token_place (after_hash "kmhash" t))))))) ≡ blob_request_from t
unfolding blob_request_from headed flatten token_bytes share_bytes of_bits
blob_whole t =
    let u : Bytes = soft_place (after_hash "kmhash" t) in
    let e : 1 * one (has_word "AllowSoftSlots" u) ≡ of_bits (has_word "AllowSoftSlots" u ∷ []) = omega arith in
    rw e (simp (append_assoc, append-nil))

pub blob_put : (line : Bytes) (from at : ℕ) (d1 d2 l : Cursor) (far r : ℕ) (old b1 b2 b3 new : Bytes)
    → Advanced line (after_hash "kmhash" (drop from line)) (0 * one (has_word "kmhash" (drop from line))) 0 far record { at = from; end = at + 4; flags = 0 } d1 × Field hash_bytes (hash_after "kmhash" (drop from line)) (at + 4) old b1 d1.end
    → Advanced line (token_place (drop d1.at line)) (1 * one (has_word "token" (drop d1.at line))) 1 130 d1 d2 × Field 28 (token_bytes (drop d1.at line)) d1.end b1 b2 d2.end
    → (l.flags ≡ d2.flags + 64 * one (has_word "blobfile" (drop d2.at line))) × (l.flags ≤ d2.flags + 64)
    × Put (replicate 4 0 ++ bytes_of 8 (time_after (after_word "blobfile" (drop d2.at line)))) d2.end b2 b3 l.end
    → Field 4 (7 ∷ 0 ∷ bytes_of 2 l.flags) at b3 new r
    → Put (blob_request_from (drop from line)) at old new l.end
unfolding of_bits
blob_put line from at d1 d2 l far r old b1 b2 b3 new p1 p2 p3 h =
    let t : Bytes = drop from line in
    let q2 = rw p1.0.place at p2 in
    let q3 = rw q2.0.place at p3 in
    let u : Bytes = after_hash "kmhash" t in
    let v : Bytes = token_place u in
    let m : ℕ = of_bits (has_word "token" u ∷ false ∷ false ∷ false ∷ false ∷ false ∷ has_word "blobfile" v ∷ []) in
    let e : l.flags ≡ m = omega (arith, p1.0.flags_are, q2.0.flags_are, q3.0) in
    put_as (blob_whole t)
    (headed_put 7 l.flags m at (hash_after "kmhash" t ++ (token_bytes u ++ (replicate 4 0 ++ bytes_of 8 (time_after (after_word "blobfile" v))))) old b3 new l.end r e
    (put_on p1.1.written (put_on q2.1.written q3.2)) h)

-- a name of a row, counted from 1
row_place : (row : Bytes) (names : List String) (t : Bytes) → words_of row ≡ map spaced names → place_in (words_of row) t + 1 ≡ place_of names t + 1
row_place row names t e = ap (λ (ws : List Bytes). place_in ws t + 1) e ∙ ap (λ (n : ℕ). n + 1) (place_names names t)

row_past : (row : Bytes) (names : List String) (t : Bytes) → words_of row ≡ map spaced names → past_name (words_of row) t ≡ after_name names t
row_past row names t e = ap (λ (ws : List Bytes). past_name ws t) e ∙ past_names names t

-- a fact
pub fact_put : (line : Bytes) (from at : ℕ) (d e : Cursor) (old b1 b2 b3 b4 new : Bytes) (far more e1 e2 r : ℕ)
    → Field 4 (10 ∷ 0 ∷ bytes_of 2 0) at old b1 e1
    → Advanced line (past_name (words_of field_row) (drop from line)) 0 0 far record { at = from; end = e1; flags = 0 } d
    × Field 1 (bytes_of 1 (place_in (words_of field_row) (drop from line) + 1)) e1 b1 b2 d.end
    → Put (replicate 3 0) d.end b2 b3 e2
    → Advanced line (past_here (drop d.at line)) 0 0 more record { at = d.at; end = e2; flags = 0 } e × Field hash_bytes (hash_here (drop d.at line)) e2 b3 b4 e.end
    → Put (replicate 36 0) e.end b4 new r
    → Put (fact_from (drop from line)) at old new r
unfolding fact_from headed flatten of_bits
fact_put line from at d e old b1 b2 b3 b4 new far more e1 e2 r h n g k z =
    let t : Bytes = drop from line in
    let p : place_in (words_of field_row) t + 1 ≡ place_of field_names t + 1 = row_place field_row field_names t field_names_lem in
    let q : drop d.at line ≡ after_name field_names t = n.0.place ∙ row_past field_row field_names t field_names_lem in
    put_as (ap (λ (l : Bytes). (10 ∷ 0 ∷ bytes_of 2 0) ++ (bytes_of 1 (place_of field_names t + 1) ++ (replicate 3 0 ++ (hash_here (after_name field_names t) ++ l)))) (sym (append-nil (replicate 36 0))))
    (put_on h.written (put_on (rw p at n.1.written) (put_on g (put_on (rw q at k.1.written) z))))

-- a signature's outcome
pub outcome_put : (line : Bytes) (c d : Cursor) (u old mid new : Bytes) (n far e r : ℕ)
    → Advanced line u (1 * one (has_word "good" (drop c.at line))) 1 far record { at = c.at; end = c.end; flags = 0 } d × (d.end ≡ c.end)
    → n ≡ d.flags
    → Field 1 (bytes_of 1 n) d.end old mid e
    → Put (replicate 58 0) e mid new r
    → Put (outcome_bytes (drop c.at line)) c.end old new r
unfolding outcome_bytes
outcome_put line c d u old mid new n far e r w en f z =
    let s : n ≡ one (has_word "good" (drop c.at line)) = omega (arith, en, w.0.flags_are) in
    let g = rw (s, w.1) at f in
    put_on g.written z

-- a signature's words
pub signature_put : (line : Bytes) (from at : ℕ) (d : Cursor) (old b1 b2 new : Bytes) (far e1 r : ℕ)
    → Field 4 (11 ∷ 0 ∷ bytes_of 2 0) at old b1 e1
    → Advanced line (past_name (words_of signature_row) (drop from line)) 0 0 far record { at = from; end = e1; flags = 0 } d
    × Field 1 (bytes_of 1 (place_in (words_of signature_row) (drop from line) + 1)) e1 b1 b2 d.end
    → Put (outcome_bytes (drop d.at line)) d.end b2 new r
    → Put (signature_from (drop from line)) at old new r
unfolding signature_from headed flatten of_bits outcome_bytes
signature_put line from at d old b1 b2 new far e1 r h n o =
    let t : Bytes = drop from line in
    let p : place_in (words_of signature_row) t + 1 ≡ place_of signature_names t + 1 = row_place signature_row signature_names t signature_names_lem in
    let q : drop d.at line ≡ after_name signature_names t = n.0.place ∙ row_past signature_row signature_names t signature_names_lem in
    put_as (ap (λ (l : Bytes). (11 ∷ 0 ∷ bytes_of 2 0) ++ (bytes_of 1 (place_of signature_names t + 1) ++ (bytes_of 1 (one (has_word "good" (after_name signature_names t))) ++ l))) (sym (append-nil (replicate 58 0))))
    (put_on h.written (put_on (rw p at n.1.written) (rw q at o)))

-- a policy
pub policy_end_put : (line : Bytes) (c d e : Cursor) (u old b1 b2 new : Bytes) (flags most far more r : ℕ)
    → Advanced line (bits_place (drop c.at line)) 0 0 far c d × Field 1 (bytes_of 1 (bits_set (drop c.at line))) c.end old b1 d.end
    → Advanced line u flags most more d e × Field 1 (bytes_of 1 (number_after "protection" (drop d.at line))) d.end b1 b2 e.end
    → Put (replicate 56 0) e.end b2 new r
    → Put (policy_end (drop c.at line)) c.end old new r
unfolding policy_end
policy_end_put line c d e u old b1 b2 new flags most far more r p q z =
    put_on p.1.written (put_on (rw p.0.place at q.1.written) z)

policy_whole : (t : Bytes) → (12 ∷ 0 ∷ bytes_of 2 0) ++ (bytes_of 1 (number_after "suite" t) ++ (bytes_of 1 (number_after "approach" (after_number "suite" t)) ++ policy_end (after_number "approach" (after_number "suite" t)))) ≡ policy_record_from t
unfolding policy_record_from headed flatten of_bits policy_end
policy_whole t =
    let v : Bytes = after_number "approach" (after_number "suite" t) in
    let e : bits_set v ≡ of_bits (has_word "signing" v ∷ has_word "encryption" (after_word "signing" v) ∷ has_word "csr" (after_word "encryption" (after_word "signing" v)) ∷ []) = omega arith in
    rw e (simp append-nil)

pub policy_put : (line : Bytes) (from at : ℕ) (d1 d2 : Cursor) (old b1 b2 b3 new : Bytes) (far more e1 r : ℕ)
    → Field 4 (12 ∷ 0 ∷ bytes_of 2 0) at old b1 e1
    → Advanced line (after_number "suite" (drop from line)) (0 * one (has_word "suite" (drop from line))) 0 far record { at = from; end = e1; flags = 0 } d1 × Field 1 (bytes_of 1 (number_after "suite" (drop from line))) e1 b1 b2 d1.end
    → Advanced line (after_number "approach" (drop d1.at line)) (0 * one (has_word "approach" (drop d1.at line))) 0 more d1 d2 × Field 1 (bytes_of 1 (number_after "approach" (drop d1.at line))) d1.end b2 b3 d2.end
    → Put (policy_end (drop d2.at line)) d2.end b3 new r
    → Put (policy_record_from (drop from line)) at old new r
policy_put line from at d1 d2 old b1 b2 b3 new far more e1 r h p1 p2 z =
    let q2 = rw p1.0.place at p2 in
    put_as (policy_whole (drop from line))
    (put_on h.written (put_on p1.1.written (put_on q2.1.written (rw q2.0.place at z))))

-- a hint
pub actions_put : (line : Bytes) (c d : Cursor) (old b1 b2 new : Bytes) (flags most far e1 e2 r : ℕ)
    → Put (replicate 3 0) c.end old b1 e1
    → Advanced line (after_word "actions" (drop c.at line)) flags most far record { at = c.at; end = e1; flags = 0 } d × (d.end ≡ e1)
    → Field 8 (bytes_here 8 (drop d.at line)) d.end b1 b2 e2
    → Put (replicate 48 0) e2 b2 new r
    → Put (action_bytes (drop c.at line)) c.end old new r
unfolding action_bytes
actions_put line c d old b1 b2 new flags most far e1 e2 r g w f z =
    put_on g (put_on (rw (w.1, w.0.place) at f.written) z)

pub hint_put : (line : Bytes) (from at : ℕ) (d : Cursor) (old b1 b2 new : Bytes) (flags most far e1 r : ℕ)
    → Field 4 (13 ∷ 0 ∷ bytes_of 2 0) at old b1 e1
    → Advanced line (after_number "group" (drop from line)) flags most far record { at = from; end = e1; flags = 0 } d × Field 1 (bytes_of 1 (number_after "group" (drop from line))) e1 b1 b2 d.end
    → Put (action_bytes (drop d.at line)) d.end b2 new r
    → Put (hint_from (drop from line)) at old new r
unfolding hint_from headed flatten of_bits action_bytes
hint_put line from at d old b1 b2 new flags most far e1 r h p z =
    let t : Bytes = drop from line in
    let u : Bytes = after_number "group" t in
    put_as (ap (λ (l : Bytes). (13 ∷ 0 ∷ bytes_of 2 0) ++ (bytes_of 1 (number_after "group" t) ++ (replicate 3 0 ++ (bytes_here 8 (after_word "actions" u) ++ l)))) (sym (append-nil (replicate 48 0))))
    (put_on h.written (put_on p.1.written (rw p.0.place at z)))

-- a delegation
pub bits_put : (t : Bytes) (bits at : ℕ) (old b1 new : Bytes) (e1 r : ℕ) → bits ≡ of_bits (bits_from (words_of permission_row) t) → Field 2 (bytes_of 2 bits) at old b1 e1 → Put (replicate 18 0) e1 b1 new r → Put (bits_bytes t) at old new r
unfolding bits_bytes
bits_put t bits at old b1 new e1 r e q z =
    let f = e ∙ ap (λ (ws : List Bytes). of_bits (bits_from ws t)) row_names ∙ ap of_bits (names_bits permission_names t) in
    put_on (rw f at q.written) z

pub delegation_put : (line : Bytes) (from at : ℕ) (d1 d2 : Cursor) (old b1 b2 b3 new : Bytes) (far more e1 r : ℕ)
    → Field 4 (14 ∷ 0 ∷ bytes_of 2 0) at old b1 e1
    → Advanced line (after_hash "from" (drop from line)) (0 * one (has_word "from" (drop from line))) 0 far record { at = from; end = e1; flags = 0 } d1 × Field hash_bytes (hash_after "from" (drop from line)) e1 b1 b2 d1.end
    → Advanced line (after_hash "to" (drop d1.at line)) (0 * one (has_word "to" (drop d1.at line))) 0 more d1 d2 × Field hash_bytes (hash_after "to" (drop d1.at line)) d1.end b2 b3 d2.end
    → Put (bits_bytes (drop d2.at line)) d2.end b3 new r
    → Put (delegation_from (drop from line)) at old new r
unfolding delegation_from headed flatten of_bits bits_bytes
delegation_put line from at d1 d2 old b1 b2 b3 new far more e1 r h p1 p2 z =
    let t : Bytes = drop from line in
    let q2 = rw p1.0.place at p2 in
    put_as (simp append-nil)
    (put_on h.written (put_on p1.1.written (put_on q2.1.written (rw q2.0.place at z))))

-- the record that a line tells, by its first word
module _ (line old new : Bytes) (at r : ℕ) (b1 : Bool) (e1 : b1 ≡ begins "use" line) where
  pub told_1 : b1 ≡ true → Put (use_from (past "use" line)) at old new r → Put (record_of line) at old new r
  unfolding record_of
  told_1 y p = rw (sym e1 ∙ y) p

  module _ (n1 : b1 ≡ false) (b2 : Bool) (e2 : b2 ≡ begins "blob" line) where
    pub told_2 : b2 ≡ true → Put (blob_request_from (past "blob" line)) at old new r → Put (record_of line) at old new r
    unfolding record_of
    told_2 y p = rw (sym e1 ∙ n1, sym e2 ∙ y) p

    module _ (n2 : b2 ≡ false) (b3 : Bool) (e3 : b3 ≡ begins "recovery" line) where
      pub told_3 : b3 ≡ true → Put (recovery_from (past "recovery" line)) at old new r → Put (record_of line) at old new r
      unfolding record_of
      told_3 y p = rw (sym e1 ∙ n1, sym e2 ∙ n2, sym e3 ∙ y) p

      module _ (n3 : b3 ≡ false) (b4 : Bool) (e4 : b4 ≡ begins "certificate" line) where
        pub told_4 : b4 ≡ true → Put (certificate_from (past "certificate" line)) at old new r → Put (record_of line) at old new r
        unfolding record_of
        told_4 y p = rw (sym e1 ∙ n1, sym e2 ∙ n2, sym e3 ∙ n3, sym e4 ∙ y) p

        module _ (n4 : b4 ≡ false) (b5 : Bool) (e5 : b5 ≡ begins "fact" line) where
          pub told_5 : b5 ≡ true → Put (fact_from (past "fact" line)) at old new r → Put (record_of line) at old new r
          unfolding record_of
          told_5 y p = rw (sym e1 ∙ n1, sym e2 ∙ n2, sym e3 ∙ n3, sym e4 ∙ n4, sym e5 ∙ y) p

          module _ (n5 : b5 ≡ false) (b6 : Bool) (e6 : b6 ≡ begins "signature" line) where
            pub told_6 : b6 ≡ true → Put (signature_from (past "signature" line)) at old new r → Put (record_of line) at old new r
            unfolding record_of
            told_6 y p = rw (sym e1 ∙ n1, sym e2 ∙ n2, sym e3 ∙ n3, sym e4 ∙ n4, sym e5 ∙ n5, sym e6 ∙ y) p

            module _ (n6 : b6 ≡ false) (b7 : Bool) (e7 : b7 ≡ begins "policy" line) where
              pub told_7 : b7 ≡ true → Put (policy_record_from (past "policy" line)) at old new r → Put (record_of line) at old new r
              unfolding record_of
              told_7 y p = rw (sym e1 ∙ n1, sym e2 ∙ n2, sym e3 ∙ n3, sym e4 ∙ n4, sym e5 ∙ n5, sym e6 ∙ n6, sym e7 ∙ y) p

              module _ (n7 : b7 ≡ false) (b8 : Bool) (e8 : b8 ≡ begins "hint" line) where
                pub told_8 : b8 ≡ true → Put (hint_from (past "hint" line)) at old new r → Put (record_of line) at old new r
                unfolding record_of
                told_8 y p = rw (sym e1 ∙ n1, sym e2 ∙ n2, sym e3 ∙ n3, sym e4 ∙ n4, sym e5 ∙ n5, sym e6 ∙ n6, sym e7 ∙ n7, sym e8 ∙ y) p

                module _ (n8 : b8 ≡ false) (b9 : Bool) (e9 : b9 ≡ begins "delegation" line) where
                  pub told_9 : b9 ≡ true → Put (delegation_from (past "delegation" line)) at old new r → Put (record_of line) at old new r
                  unfolding record_of
                  told_9 y p = rw (sym e1 ∙ n1, sym e2 ∙ n2, sym e3 ∙ n3, sym e4 ∙ n4, sym e5 ∙ n5, sym e6 ∙ n6, sym e7 ∙ n7, sym e8 ∙ n8, sym e9 ∙ y) p

                  pub told_10 : b9 ≡ false → Put (decoded line) at old new r → Put (record_of line) at old new r
                  unfolding record_of
                  told_10 n9 p = rw (sym e1 ∙ n1, sym e2 ∙ n2, sym e3 ∙ n3, sym e4 ∙ n4, sym e5 ∙ n5, sym e6 ∙ n6, sym e7 ∙ n7, sym e8 ∙ n8, sym e9 ∙ n9) p
