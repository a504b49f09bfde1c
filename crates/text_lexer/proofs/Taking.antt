-- A word read, by the test whether it stands.
use Rattle.std.proofs.Common.{◌≡◌, ℕ, ◌+◌, ◌*◌, ◌%◌, ◌^◌, ◌≤◌, Bool, true, false, ◌++◌, length, take, drop, replicate, sym, refl, ap, ◌∙◌, arith, drop-drop}
use Rattle.rules.specs.Sizes.{hash_bytes}
use Rattle.rules.specs.Basics.{Bytes}
use Rattle.text_rules.specs.Decoding.{stands, unhex, digits_of, decimal_from, bytes_of}
use Rattle.text_rules.specs.OtherDecoding.{hash_here, past_here}
use Rattle.text_rules.proofs.Digits.{unhex_length}
use Rattle.text_bytes.specs.Putting.{Put}
use Rattle.text_bytes.specs.Names.{words_of}
use Rattle.text_bytes.proofs.Laws.{put_on, put_as}
use Rattle.text_lexer.specs.declared.Cursor.{Cursor}
use Rattle.text_lexer.specs.Telling.{NumberAt, NameFound, past_word, past_hash, past_digits, hash_in, digits_in, one_here, past_one, place_in, past_name}
use Rattle.text_lexer.specs.Taking.{one, Advanced, Field}
use Rattle.text_lexer.proofs.Laws.{bytes_wrap}

-- what the test was of: the text from the cursor on, as it was lent
module _ (w text t : Bytes) (weight : ℕ) (c : Cursor) (b : Bool) (et : t ≡ drop c.at text) (eb : b ≡ stands w t) where
  tested : (x : Bool) → b ≡ x → stands w (drop c.at text) ≡ x
  tested x e = ap (stands w) (sym et) ∙ sym eb ∙ e

  -- it does not stand
  module _ (n : b ≡ false) where
    not_told : (rest : Bytes) (far : ℕ) (d : Cursor) → d.at ≡ c.at → d.flags ≡ c.flags → rest ≡ drop c.at text → Advanced text rest (weight * one (stands w (drop c.at text))) weight far c d
    not_told rest far d ea ef er =
        rw (tested false n) record { place = ap (λ (k : ℕ). drop k text) ea ∙ sym er; flags_are = omega arith; few = omega arith; near = omega arith }

    pub word_not : Advanced text (past_word w (drop c.at text)) (weight * one (stands w (drop c.at text))) weight (length w) c c × (c.end ≡ c.end)
    unfolding past_word
    word_not = (not_told (past_word w (drop c.at text)) (length w) c refl refl (rw (tested false n)), refl)

    pub hash_not : (old new : Bytes) (r : ℕ) → Put (replicate hash_bytes 0) c.end old new r
        → Advanced text (past_hash w (drop c.at text)) (weight * one (stands w (drop c.at text))) weight (length w + 41) c record { at = c.at; end = r; flags = c.flags }
        × Field hash_bytes (hash_in w (drop c.at text)) c.end old new r
    unfolding past_hash hash_in
    hash_not old new r p =
        let f = p.end in
        (not_told (past_hash w (drop c.at text)) (length w + 41) record { at = c.at; end = r; flags = c.flags } refl refl (rw (tested false n)), record { written = rw (tested false n) p; ends = omega arith })

    pub number_not : (most width : ℕ) (old new : Bytes) (r : ℕ) → Field width (bytes_of width 0) c.end old new r
        → Advanced text (past_digits most w (drop c.at text)) (weight * one (stands w (drop c.at text))) weight (length w + (1 + most)) c record { at = c.at; end = r; flags = c.flags }
        × Field width (bytes_of width (digits_in most w (drop c.at text))) c.end old new r
    number_not most width old new r p =
        (not_told (past_digits most w (drop c.at text)) (length w + (1 + most)) record { at = c.at; end = r; flags = c.flags } refl refl (rw (tested false n)), rw (tested false n) p)

  -- it stands
  module _ (y : b ≡ true) where
    told : (rest : Bytes) (far k end : ℕ) → k ≤ far → rest ≡ drop k (drop c.at text) → Advanced text rest (weight * one (stands w (drop c.at text))) weight far c record { at = c.at + k; end = end; flags = c.flags + weight }
    told rest far k end l er =
        rw (tested true y) record { place = sym (er ∙ drop-drop k c.at text); flags_are = omega arith; few = omega arith; near = omega arith }

    pub word_told : Advanced text (past_word w (drop c.at text)) (weight * one (stands w (drop c.at text))) weight (length w) c record { at = c.at + length w; end = c.end; flags = c.flags + weight } × (c.end ≡ c.end)
    unfolding past_word
    word_told = (told (past_word w (drop c.at text)) (length w) (length w) c.end (omega arith) (rw (tested true y)), refl)

    -- its value, from where it begins
    module _ (v : Bytes) (ev : v ≡ drop (c.at + length w + 1) text) where
      value_is : v ≡ drop (length w + 1) (drop c.at text)
      value_is =
          let e : c.at + length w + 1 ≡ c.at + (length w + 1) = omega arith in
          ev ∙ ap (λ (k : ℕ). drop k text) e ∙ sym (drop-drop (length w + 1) c.at text)

      pub hash_told : (old new : Bytes) (r : ℕ) → Put (unhex hash_bytes v) c.end old new r
          → Advanced text (past_hash w (drop c.at text)) (weight * one (stands w (drop c.at text))) weight (length w + 41) c record { at = c.at + length w + 1 + 40; end = r; flags = c.flags + weight }
          × Field hash_bytes (hash_in w (drop c.at text)) c.end old new r
      unfolding past_hash hash_in
      hash_told old new r p =
          let f = p.end in
          let l = unhex_length hash_bytes v in
          let e : c.at + (length w + 1 + 40) ≡ c.at + length w + 1 + 40 = omega arith in
          (rw e at (told (past_hash w (drop c.at text)) (length w + 41) (length w + 1 + 40) r (omega arith) (rw (tested true y))), record { written = rw (tested true y, ← value_is) p; ends = omega arith })

      pub number_told : (most m d width : ℕ) (old new : Bytes) (r : ℕ) → NumberAt most v m d → width ≤ 8 → Field width (bytes_of width m) c.end old new r
          → Advanced text (past_digits most w (drop c.at text)) (weight * one (stands w (drop c.at text))) weight (length w + (1 + most)) c record { at = c.at + length w + 1 + d; end = r; flags = c.flags + weight }
          × Field width (bytes_of width (digits_in most w (drop c.at text))) c.end old new r
      number_told most m d width old new r n l p =
          let f = n.few in
          let x : Bytes = drop (length w + 1) (drop c.at text) in
          let k : d ≡ length (digits_of (take most x)) = n.digits_are ∙ ap (λ (y : Bytes). length (digits_of (take most y))) value_is in
          let g : m ≡ decimal_from 0 (digits_of (take most x)) % 2 ^ 64 = n.value_is ∙ ap (λ (y : Bytes). decimal_from 0 (digits_of (take most y)) % 2 ^ 64) value_is in
          let b : bytes_of width m ≡ bytes_of width (decimal_from 0 (digits_of (take most x))) = ap (bytes_of width) g ∙ bytes_wrap (decimal_from 0 (digits_of (take most x))) width l in
          let e : c.at + (length w + 1 + d) ≡ c.at + length w + 1 + d = omega arith in
          (rw e at (told (past_digits most w (drop c.at text)) (length w + (1 + most)) (length w + 1 + d) r (omega arith) (rw (tested true y, ← k))), rw (tested true y, ← b) p)

-- a name, a hash and a number that no word stands before: `v` is what is left of the text, as it was lent
module _ (text v : Bytes) (c : Cursor) where
  here : (rest : Bytes) (k far end : ℕ) → k ≤ far → drop (c.at + k) text ≡ rest → Advanced text rest 0 0 far c record { at = c.at + k; end = end; flags = c.flags }
  here rest k far end l e = record { place = e; flags_are = omega arith; few = omega arith; near = omega arith }

  pub name_told : (names old new : Bytes) (place bytes first r : ℕ) → v ≡ drop c.at text → NameFound (words_of names) v (length names) place bytes → Field 1 (bytes_of 1 (place + first)) c.end old new r
      → Advanced text (past_name (words_of names) (drop c.at text)) 0 0 (length names) c record { at = c.at + bytes; end = r; flags = c.flags }
      × Field 1 (bytes_of 1 (place_in (words_of names) (drop c.at text) + first)) c.end old new r
  name_told names old new place bytes first r ev n f =
      let q = rw ev at n in
      (here (past_name (words_of names) (drop c.at text)) bytes (length names) r q.short (sym (drop-drop bytes c.at text) ∙ q.rest_is), rw (← q.place_is) f)

  pub hash_here_lem : (old new : Bytes) (r : ℕ) → v ≡ drop (c.at + 1) text → Put (unhex hash_bytes v) c.end old new r
      → Advanced text (past_here (drop c.at text)) 0 0 41 c record { at = c.at + 41; end = r; flags = c.flags }
      × Field hash_bytes (hash_here (drop c.at text)) c.end old new r
  unfolding past_here hash_here
  hash_here_lem old new r ev p =
      let f = p.end in
      let l = unhex_length hash_bytes v in
      let e : v ≡ drop 1 (drop c.at text) = ev ∙ sym (drop-drop 1 c.at text) in
      (here (past_here (drop c.at text)) 41 41 r (omega arith) (sym (drop-drop 41 c.at text)), record { written = put_as (ap (unhex hash_bytes) e) p; ends = omega arith })

  pub byte_here : (m d : ℕ) (old new : Bytes) (r : ℕ) → v ≡ drop (c.at + 1) text → NumberAt 10 v m d → Field 1 (bytes_of 1 m) c.end old new r
      → Advanced text (past_one (drop c.at text)) 0 0 11 c record { at = c.at + 1 + d; end = r; flags = c.flags }
      × Field 1 (bytes_of 1 (one_here (drop c.at text))) c.end old new r
  unfolding past_one one_here
  byte_here m d old new r ev n f =
      let x : Bytes = drop 1 (drop c.at text) in
      let e : v ≡ x = ev ∙ sym (drop-drop 1 c.at text) in
      let q : NumberAt 10 x m d = rw e at n in
      let few = q.few in
      let b : bytes_of 1 m ≡ bytes_of 1 (decimal_from 0 (digits_of (take 10 x))) = ap (bytes_of 1) q.value_is ∙ bytes_wrap (decimal_from 0 (digits_of (take 10 x))) 1 (omega arith) in
      let a : c.at + (1 + d) ≡ c.at + 1 + d = omega arith in
      let g : drop (c.at + (1 + d)) text ≡ past_one (drop c.at text) = sym (drop-drop (1 + d) c.at text) ∙ ap (λ (k : ℕ). drop (1 + k) (drop c.at text)) q.digits_are in
      (rw a at (here (past_one (drop c.at text)) (1 + d) 11 r (omega arith) g), rw (← b) f)

-- words one after the other
pub told_on : {text r1 r2 : Bytes} {f1 f2 m1 m2 n1 n2 : ℕ} {c d e : Cursor} → Advanced text r1 f1 m1 n1 c d → Advanced text r2 f2 m2 n2 d e → Advanced text r2 (f1 + f2) (m1 + m2) (n1 + n2) c e
told_on p q = record { place = q.place; flags_are = omega (arith, p.flags_are, q.flags_are); few = omega (arith, p.few, q.few); near = omega (arith, p.near, q.near) }

pub field_on : {k l : ℕ} {t u old mid new : Bytes} {at e r : ℕ} → Field k t at old mid e → Field l u e mid new r → Field (k + l) (t ++ u) at old new r
field_on p q = record { written = put_on p.written q.written; ends = omega (arith, p.ends, q.ends) }
