-- What is written is read back: the bytes of a number, of a blob request, of a presented certificate and of a hint (specs/Written.antt).
use Prim.Native.Nat.{ℕ, zero, suc, ◌+◌, ◌-◌, ◌*◌, ◌/◌, ◌%◌, ◌^◌, ◌≤◌, ◌<◌}
use native.Mathlib.Omega.{arith}
use native.Mathlib.Nat.{pow-succ', mul-le-mul_left, mul-le-mul_right}
use mathlib.Core.Path.{◌≡◌, refl, ◌∙◌, ap}
use mathlib.Core.List.{List, [], ◌∷◌, ◌++◌}
use mathlib.Core.Option.{Option, none, some}
use mathlib.Core.Bool.{Bool, true, false, ◌&&◌}
use lib.ListN.{length, take, drop, get_or, replicate, length-append, length-drop, length-take, length-replicate}
use lib.Seq.{take_at, drop_at, take_all, take-append-le, drop-append-le, drop-append-add, take-take, get_or-take, get_or-drop}
use lib.Dec.{eqb, leb}
use borrow.Author.Tests.{ne_eqb}
use Rattle.rules.specs.Sizes.{record_bytes, hash_bytes, actions_max}
use Rattle.rules.specs.Basics.{Bytes, Every, chunks, records, joined, all_zero, number_from, all_below, within, part, number, kind}
use Rattle.rules.specs.Layout.{header, zero_unless, mechanism_at, token_parameters_at, token_parameters_if, blob_request_laid_out, certificate_laid_out, hint_laid_out}
use Rattle.rules.specs.Acl.{Parameters, parameters_of, parameters_at, announces_blobfile}
use Rattle.rules.specs.Request.{Token, WorkingBlob, working_blob, Certificate, wanted_of, certificate_of, request_laid_out, stands_alone, certificate_record, hint_of, hint_record}
use Rattle.rules.specs.Written.{Octets, big_endian, parameters_bytes, token_bytes, token_flag, blob_request_bytes, certificate_bytes, hint_bytes}
use Rattle.rules.proofs.Joined.{Whole}

-- Numbers.
number_from_append : (n : ℕ) (xs ys : Bytes) → number_from n (xs ++ ys) ≡ number_from (number_from n xs) ys
unfolding number_from
number_from_append n [] ys = refl
number_from_append n (x ∷ xs) ys = number_from_append (n * 256 + x) xs ys

pub big_endian_number : (more n : ℕ) → number_from 0 (big_endian (suc more) n) ≡ n
unfolding number_from big_endian
big_endian_number zero n = omega arith
big_endian_number (suc more) n =
    let e = big_endian_number more (n / 256) in
    number_from_append 0 (big_endian (suc more) (n / 256)) (n % 256 ∷ []) ∙ omega arith

big_endian_length : (more n : ℕ) → length (big_endian (suc more) n) ≡ suc more
unfolding big_endian
big_endian_length zero n = refl
big_endian_length (suc more) n = let e = big_endian_length more (n / 256) in simp length-append (omega arith)

-- Parts of joined lists.
past : (p q : Bytes) (n m : ℕ) → length p ≡ n → drop (n + m) (p ++ q) ≡ drop m q
past p q n m e = rw (← e) (drop-append-add p q m)

-- Token parameters.
unfoldable pub well_formed : Parameters → Bool
well_formed p = within 16 p.flags 1 && (leb 1 p.needed && leb p.needed p.total) && leb p.total 64

pub parameters_laid_out : (off : ℕ) (r : Bytes) → token_parameters_at off r ≡ well_formed (parameters_at off r)
unfolding token_parameters_at well_formed
parameters_laid_out off r =
    rw (take-take 2 8 (drop off r) (omega arith), get_or-take 8 (drop off r) 2 0 (omega arith), get_or-drop off r 2 0, get_or-take 8 (drop off r) 3 0 (omega arith), get_or-drop off r 3 0)

pub parameters_read : (p : Parameters) → parameters_of (parameters_bytes p) ≡ p
unfolding parameters_bytes big_endian
parameters_read p = rw (big_endian_number 1 p.flags, big_endian_number 3 p.time_limit)

-- A blob request's record, over the bytes of its token.
abbrev rest : ℕ → Bytes
rest time = 0 ∷ 0 ∷ 0 ∷ 0 ∷ big_endian 8 time

abbrev laid : Bytes → Bytes → ℕ → ℕ → Bytes
laid key token f time = 7 ∷ 0 ∷ 0 ∷ f ∷ (key ++ (token ++ rest time))

module _ (key token : Bytes) (f time : ℕ) (k : length key ≡ hash_bytes) (t : length token ≡ 28) where
  laid_whole : Whole (laid key token f time)
  laid_whole = let e = big_endian_length 7 time in simp length-append (omega arith)

  laid_key : part 4 hash_bytes (laid key token f time) ≡ key
  laid_key = take_at key (token ++ rest time) hash_bytes k

  laid_hash : part 24 hash_bytes (laid key token f time) ≡ take hash_bytes token
  laid_hash = ap (take hash_bytes) (drop_at key (token ++ rest time) hash_bytes k) ∙ take-append-le hash_bytes token (rest time) (omega arith)

  laid_parameters : part 44 8 (laid key token f time) ≡ take 8 (drop hash_bytes token)
  laid_parameters =
      let e = length-drop hash_bytes token in
      ap (take 8) (past key (token ++ rest time) 20 20 k ∙ drop-append-le hash_bytes token (rest time) (omega arith))
      ∙ take-append-le 8 (drop hash_bytes token) (rest time) (omega arith)

  laid_blank : part 52 4 (laid key token f time) ≡ 0 ∷ 0 ∷ 0 ∷ 0 ∷ []
  laid_blank = ap (take 4) (past key (token ++ rest time) 20 28 k ∙ past token (rest time) 28 0 t)

  laid_time : number 56 8 (laid key token f time) ≡ time
  laid_time =
      ap (λ (xs : Bytes). number_from 0 (take 8 xs)) (past key (token ++ rest time) 20 32 k ∙ past token (rest time) 28 4 t)
      ∙ ap (number_from 0) (take_all 8 (big_endian 8 time) (omega (arith, big_endian_length 7 time)))
      ∙ big_endian_number 7 time

-- a token that a record can hold
abbrev pub TokenFits : Option Token → Type 0
TokenFits none = Unit {0}
TokenFits (some t) = (length t.hash ≡ hash_bytes) × (well_formed t.parameters ≡ true)

token_length : (t : Option Token) → TokenFits t → length (token_bytes t) ≡ 28
unfolding parameters_bytes big_endian
token_length none h = refl
token_length (some t) h = simp length-append (omega (arith, h.0))

parameters_length : (p : Parameters) → length (parameters_bytes p) ≡ 8
unfolding parameters_bytes big_endian
parameters_length p = refl

-- the token's hash and parameters are read back
token_parameters : (t : Token) → length t.hash ≡ hash_bytes → take 8 (drop hash_bytes (token_bytes (some t))) ≡ parameters_bytes t.parameters
token_parameters t h =
    ap (take 8) (drop_at t.hash (parameters_bytes t.parameters) hash_bytes h)
    ∙ take_all 8 (parameters_bytes t.parameters) (omega (arith, parameters_length t.parameters))

-- A blob request that is written is well laid out, and is read back.
module _ (w : WorkingBlob) (time : ℕ) (k : length w.key ≡ hash_bytes) (fit : TokenFits w.token) where
  pub blob_whole : Whole (blob_request_bytes w time)
  unfolding blob_request_bytes
  blob_whole = laid_whole w.key (token_bytes w.token) (token_flag w.token) time k (token_length w.token fit)

  pub blob_time : number 56 8 (blob_request_bytes w time) ≡ time
  unfolding blob_request_bytes
  blob_time = laid_time w.key (token_bytes w.token) (token_flag w.token) time k (token_length w.token fit)

blob_wanted_as : (key : Bytes) (t : Option Token) (time : ℕ) → length key ≡ hash_bytes → TokenFits t
    → wanted_of (laid key (token_bytes t) (token_flag t) time) none ≡ working_blob (record { key = key; token = t }) none
unfolding wanted_of number_from
blob_wanted_as key none time k h = rw (laid_key key (token_bytes none) 0 time k refl)
blob_wanted_as key (some t) time k h =
    let l = token_length (some t) h in
    let a = laid_hash key (token_bytes (some t)) 1 time k l ∙ take_at t.hash (parameters_bytes t.parameters) hash_bytes h.0 in
    let b = laid_parameters key (token_bytes (some t)) 1 time k l ∙ token_parameters t h.0 in
    rw (laid_key key (token_bytes (some t)) 1 time k l, a, b, parameters_read t.parameters)

blob_laid_out_as : (key : Bytes) (t : Option Token) (time : ℕ) → length key ≡ hash_bytes → TokenFits t
    → request_laid_out (laid key (token_bytes t) (token_flag t) time) ≡ true
unfolding request_laid_out blob_request_laid_out header zero_unless token_parameters_if number_from all_below within all_zero
blob_laid_out_as key none time k h =
    rw (laid_hash key (token_bytes none) 0 time k refl, laid_parameters key (token_bytes none) 0 time k refl, laid_blank key (token_bytes none) 0 time k refl)
blob_laid_out_as key (some t) time k h =
    let l = token_length (some t) h in
    let b = laid_parameters key (token_bytes (some t)) 1 time k l ∙ token_parameters t h.0 in
    let c = parameters_laid_out 44 (laid key (token_bytes (some t)) 1 time) ∙ ap (λ (x : Bytes). well_formed (parameters_of x)) b ∙ ap well_formed (parameters_read t.parameters) ∙ h.1 in
    rw (c, laid_blank key (token_bytes (some t)) 1 time k l)

-- no record of kind 15 follows
blob_alone_as : (key : Bytes) (t : Option Token) (time : ℕ) → announces_blobfile (laid key (token_bytes t) (token_flag t) time) ≡ false
unfolding number_from
blob_alone_as key none time = refl
blob_alone_as key (some t) time = refl

module _ (w : WorkingBlob) (time : ℕ) (k : length w.key ≡ hash_bytes) (fit : TokenFits w.token) where
  pub blob_wanted : wanted_of (blob_request_bytes w time) none ≡ working_blob w none
  unfolding blob_request_bytes
  blob_wanted = blob_wanted_as w.key w.token time k fit

  pub blob_alone : stands_alone (blob_request_bytes w time) ≡ true
  unfolding blob_request_bytes stands_alone
  blob_alone = rw (blob_laid_out_as w.key w.token time k fit, blob_alone_as w.key w.token time)

-- A presented certificate that is written is well laid out, and is read back.
module _ (c : Certificate) (h : length c.hash ≡ hash_bytes) where
  pub certificate_whole : Whole (certificate_bytes c)
  unfolding certificate_bytes big_endian
  certificate_whole = simp length-append (omega arith)

  certificate_from_lem : drop 24 (certificate_bytes c) ≡ big_endian 2 c.mechanism ++ replicate 38 0
  unfolding certificate_bytes
  certificate_from_lem = drop_at c.hash (big_endian 2 c.mechanism ++ replicate 38 0) hash_bytes h

  certificate_number : number 24 2 (certificate_bytes c) ≡ c.mechanism
  unfolding big_endian
  certificate_number = ap (λ (x : Bytes). number_from 0 (take 2 x)) certificate_from_lem ∙ big_endian_number 1 c.mechanism

  certificate_blank : part 26 38 (certificate_bytes c) ≡ replicate 38 0
  unfolding certificate_bytes big_endian
  certificate_blank = ap (take 38) (past c.hash (big_endian 2 c.mechanism ++ replicate 38 0) 20 2 h)

  certificate_hash : part 4 hash_bytes (certificate_bytes c) ≡ c.hash
  unfolding certificate_bytes
  certificate_hash = take_at c.hash (big_endian 2 c.mechanism ++ replicate 38 0) hash_bytes h

  pub certificate_read : certificate_of (certificate_bytes c) ≡ c
  certificate_read = rw (certificate_number, certificate_hash)

  certificate_head : (eqb (kind (certificate_bytes c)) 9 ≡ true) × (header 0 (certificate_bytes c) ≡ true)
  unfolding certificate_bytes header number_from within all_below
  certificate_head = (refl, refl)

  pub certificate_laid_out_lem : (c.mechanism ≡ 0 → ⊥) → certificate_record (certificate_bytes c) ≡ true
  unfolding certificate_record certificate_laid_out mechanism_at all_zero
  certificate_laid_out_lem n =
      rw (certificate_head.0, certificate_head.1, certificate_number, certificate_blank, ne_eqb c.mechanism 0 n)

-- Bytes that are below 256 are written so again.
pub octets_append : (xs ys : Bytes) → Octets xs → Octets ys → Octets (xs ++ ys)
octets_append [] ys h k = k
octets_append (x ∷ xs) ys h k = (h.0, octets_append xs ys h.1 k)

zero_octets : (n : ℕ) → Octets (replicate n 0)
zero_octets zero = tt
zero_octets (suc n) = (omega arith, zero_octets n)

pub big_endian_octets : (more n : ℕ) → n < 256 ^ suc more → Octets (big_endian (suc more) n)
unfolding big_endian
big_endian_octets zero n h = (omega arith, tt)
big_endian_octets (suc more) n h =
    let e : 256 ^ suc (suc more) ≡ 256 * 256 ^ suc more = pow-succ' 256 (suc more) in
    octets_append (big_endian (suc more) (n / 256)) (n % 256 ∷ []) (big_endian_octets more (n / 256) (omega arith)) (omega arith, tt)

number_from_below : (k n : ℕ) (bs : Bytes) → length bs ≤ k → Octets bs → number_from n bs < (n + 1) * 256 ^ k
unfolding number_from
number_from_below k n [] l h =
    let e = mul-le-mul_left (n + 1) (pow_positive k) in
    omega arith
  where
    pow_positive : (k : ℕ) → 1 ≤ 256 ^ k
    pow_positive zero = omega arith
    pow_positive (suc k) = let e = pow_positive k in let d = pow-succ' 256 k in omega arith
number_from_below zero n (b ∷ bs) l h = absurd (omega arith)
number_from_below (suc k) n (b ∷ bs) l h =
    let f : b < 256 = h.0 in
    let e = number_from_below k (n * 256 + b) bs (omega arith) h.1 in
    let d : 256 ^ suc k ≡ 256 * 256 ^ k = pow-succ' 256 k in
    let m : (n * 256 + b + 1) * 256 ^ k ≤ (n * 256 + 256) * 256 ^ k = mul-le-mul_right (256 ^ k) (omega arith) in
    let t : (n * 256 + 256) * 256 ^ k ≡ (n + 1) * (256 * 256 ^ k) = omega arith in
    rw d (omega arith)

pub take_octets : (n : ℕ) (bs : Bytes) → Octets bs → Octets (take n bs)
take_octets zero bs h = tt
take_octets (suc n) [] h = tt
take_octets (suc n) (b ∷ bs) h = (h.0, take_octets n bs h.1)

pub drop_octets : (n : ℕ) (bs : Bytes) → Octets bs → Octets (drop n bs)
drop_octets zero bs h = h
drop_octets (suc n) [] h = tt
drop_octets (suc n) (b ∷ bs) h = drop_octets n bs h.1

pub part_octets : (off len : ℕ) (bs : Bytes) → Octets bs → Octets (part off len bs)
part_octets off len bs h = take_octets len (drop off bs) (drop_octets off bs h)

pub number_below : (off len : ℕ) (bs : Bytes) → Octets bs → number off len bs < 256 ^ len
number_below off len bs h =
    let e = number_from_below len 0 (part off len bs) (omega (arith, length-take len (drop off bs))) (part_octets off len bs h) in
    omega arith

byte_below : (off : ℕ) (bs : Bytes) → Octets bs → get_or bs off 0 < 256
byte_below off [] h = omega arith
byte_below zero (b ∷ bs) h = h.0
byte_below (suc off) (b ∷ bs) h = byte_below off bs h.1

pub parameters_octets : (bs : Bytes) → Octets bs → Octets (parameters_bytes (parameters_of bs))
unfolding parameters_bytes
parameters_octets bs h =
    octets_append (big_endian 2 (number 0 2 bs)) (get_or bs 2 0 ∷ get_or bs 3 0 ∷ big_endian 4 (number 4 4 bs))
    (big_endian_octets 1 (number 0 2 bs) (number_below 0 2 bs h))
    (byte_below 2 bs h, (byte_below 3 bs h, big_endian_octets 3 (number 4 4 bs) (number_below 4 4 bs h)))

pub blob_octets : (w : WorkingBlob) (time : ℕ) → Octets w.key → Octets (token_bytes w.token) → time < 256 ^ 8 → Octets (blob_request_bytes w time)
unfolding blob_request_bytes
blob_octets w time h t b = (
  omega arith,
  (
    omega arith,
    (
      omega arith,
      (
        flagged w.token,
        octets_append w.key (token_bytes w.token ++ rest time) h
            (octets_append (token_bytes w.token) (rest time) t
            (omega arith, (omega arith, (omega arith, (omega arith, big_endian_octets 7 time b))))),
      ),
    ),
  ),
)
  where
    flagged : (t : Option Token) → token_flag t < 256
    flagged none = omega arith
    flagged (some t) = omega arith

pub token_octets_lem : (hash bs : Bytes) → Octets hash → Octets bs → Octets (token_bytes (some (record { hash = hash; parameters = parameters_of bs })))
token_octets_lem hash bs h k = octets_append hash (parameters_bytes (parameters_of bs)) h (parameters_octets bs k)

pub no_token_octets : Octets (token_bytes none)
no_token_octets = zero_octets 28

pub certificate_octets : (c : Certificate) → Octets c.hash → c.mechanism < 256 ^ 2 → Octets (certificate_bytes c)
unfolding certificate_bytes
certificate_octets c h m = (
  omega arith,
  (
    omega arith,
    (
      omega arith,
      (
        omega arith,
        octets_append c.hash (big_endian 2 c.mechanism ++ replicate 38 0) h
            (octets_append (big_endian 2 c.mechanism) (replicate 38 0) (big_endian_octets 1 c.mechanism m) (zero_octets 38)),
      ),
    ),
  ),
)

pub joined_octets : (rs : List Bytes) → Every Octets rs → Octets (joined rs)
unfolding joined
joined_octets [] h = tt
joined_octets (r ∷ rs) h = octets_append r (joined rs) h.0 (joined_octets rs h.1)

chunks_octets : (n : ℕ) (s : Bytes) → Octets s → Every Octets (chunks n s)
unfolding chunks
chunks_octets zero s h = tt
chunks_octets (suc n) s h = (take_octets record_bytes s h, chunks_octets n (drop record_bytes s) (drop_octets record_bytes s h))

pub records_octets : (s : Bytes) → Octets s → Every Octets (records s)
unfolding records
records_octets s h = chunks_octets (length s / record_bytes) s h

-- A hint that is written is well laid out, and is read back.
module _ (source : ℕ) (places : List ℕ) (few : length places ≤ actions_max) where
  padded_length : length (places ++ replicate (actions_max - length places) 0) ≡ actions_max
  padded_length = let e = length-replicate {A = ℕ} (actions_max - length places) 0 in simp length-append (omega arith)

  pub hint_whole : Whole (hint_bytes source places)
  unfolding hint_bytes
  hint_whole =
      let e = length-append (places ++ replicate (actions_max - length places) 0) (replicate 48 0) in
      let d = padded_length in
      let f = length-replicate {A = ℕ} 48 0 in
      omega arith

  pub hint_read : hint_of (hint_bytes source places) ≡ record { source = source; actions = places ++ replicate (actions_max - length places) 0 }
  unfolding hint_bytes
  hint_read = rw (take_at (places ++ replicate (actions_max - length places) 0) (replicate 48 0) actions_max padded_length)

  pub hint_laid_out_lem : hint_record (hint_bytes source places) ≡ true
  unfolding hint_bytes hint_record hint_laid_out header number_from within all_below all_zero
  hint_laid_out_lem = rw (drop_at (places ++ replicate (actions_max - length places) 0) (replicate 48 0) actions_max padded_length)

  pub hint_octets : source < 256 → Octets places → Octets (hint_bytes source places)
  unfolding hint_bytes
  hint_octets s h = (
    omega arith,
    (
      omega arith,
      (
        omega arith,
        (
          omega arith,
          (
            s,
            (
              omega arith,
              (
                omega arith,
                (
                  omega arith,
                  octets_append (places ++ replicate (actions_max - length places) 0) (replicate 48 0)
                      (octets_append places (replicate (actions_max - length places) 0) h (zero_octets (actions_max - length places))) (zero_octets 48),
                ),
              ),
            ),
          ),
        ),
      ),
    ),
  )
