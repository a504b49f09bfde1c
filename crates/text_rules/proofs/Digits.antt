-- Numbers and hashes, written and read back: decimal digits, big-endian bytes, hexadecimal digits.
use Prim.Native.Nat.{ℕ, zero, suc, ◌+◌, ◌-◌, ◌*◌, ◌/◌, ◌%◌, ◌^◌, ◌≤◌, ◌<◌}
use native.Mathlib.Omega.{arith}
use native.Mathlib.Nat.{pow-suc, mul-le-mul_right, div-eq_of_lt-le}
use mathlib.Core.Path.{◌≡◌, refl, sym, ◌∙◌, ap, ap₂}
use mathlib.Core.Logic.{◌⊎◌, inl, inr}
use mathlib.Core.List.{[], ◌∷◌, ◌++◌, append_assoc}
use mathlib.Core.Bool.{Bool, true, false}
use lib.ListN.{length, get_or, take, drop, length-append}
use lib.Dec.{leb, ltb}
use borrow.Author.Tests.{ltb-true, ltb-false, leb-true, le-leb, lt-leb, le-ltb, lt-ltb}
use Rattle.rules.specs.Basics.{Bytes, Every, number_from}
use Rattle.rules.specs.Layout.{between}
use Rattle.rules.specs.Day.{digits, decimal}
use Rattle.rules.proofs.Laws.{and_right, and_both}
use Rattle.text_rules.specs.Words.{hex_digit, hex}
use Rattle.text_rules.specs.Decoding.{hex_value, unhex, digits_of, decimal_from, bytes_of}
use Rattle.text_rules.specs.Listing.{Octet}

pub below_or_not : (n m : ℕ) → (n < m) ⊎ (m ≤ n)
below_or_not n m = pick (ltb n m) refl
  where
    pick : (b : Bool) → ltb n m ≡ b → (n < m) ⊎ (m ≤ n)
    pick true e = inl (ltb-true n m e)
    pick false e = inr (ltb-false n m e)

-- a predicate of every byte of two lists
pub every_append : (P : ℕ → Type 0) (xs ys : Bytes) → Every P xs → Every P ys → Every P (xs ++ ys)
every_append P [] ys h k = k
every_append P (x ∷ xs) ys h k = (h.0, every_append P xs ys h.1 k)

-- Decimal digits: of a number below ten, and of another by its tenth.
digits_one : (p n : ℕ) (rest : Bytes) → n < 10 → digits (suc p) n rest ≡ (48 + n % 10) ∷ rest
unfolding digits
digits_one p n rest h = rw (lt-ltb n 10 h)

digits_put : (p n : ℕ) (rest : Bytes) → 10 ≤ n → digits (suc p) n rest ≡ digits p (n / 10) ((48 + n % 10) ∷ rest)
unfolding digits
digits_put p n rest h = rw (le-ltb n 10 h)

digits_before : (p n : ℕ) (rest : Bytes) → digits p n rest ≡ digits p n [] ++ rest
unfolding digits
digits_before zero n rest = refl
digits_before (suc p) n rest = pick (below_or_not n 10) (λ xs. digits_before p (n / 10) xs)
  where
    pick : (n < 10) ⊎ (10 ≤ n) → ((xs : Bytes) → digits p (n / 10) xs ≡ digits p (n / 10) [] ++ xs) → digits (suc p) n rest ≡ digits (suc p) n [] ++ rest
    pick (inl h) f = rw (digits_one p n rest h, digits_one p n [] h)
    pick (inr h) f =
        rw (digits_put p n rest h, digits_put p n [] h, f ((48 + n % 10) ∷ rest), f ((48 + n % 10) ∷ []), append_assoc)

pub digits_more : (p n : ℕ) → 10 ≤ n → digits (suc p) n [] ≡ digits p (n / 10) [] ++ ((48 + n % 10) ∷ [])
digits_more p n h = digits_put p n [] h ∙ digits_before p (n / 10) ((48 + n % 10) ∷ [])

-- they are digits
abbrev pub Digit : ℕ → Type 0
Digit c = between 48 57 c ≡ true

digit_is : (d : ℕ) → Digit (48 + d % 10)
digit_is d = and_both (leb 48 (48 + d % 10)) (leb (48 + d % 10) 57) (le-leb 48 (48 + d % 10) (omega arith)) (le-leb (48 + d % 10) 57 (omega arith))

digits_every : (p n : ℕ) → Every Digit (digits p n [])
unfolding digits
digits_every zero n = tt
digits_every (suc p) n = pick (below_or_not n 10) (digits_every p (n / 10))
  where
    pick : (n < 10) ⊎ (10 ≤ n) → Every Digit (digits p (n / 10) []) → Every Digit (digits (suc p) n [])
    pick (inl h) f = rw (digits_one p n [] h) (digit_is n, tt)
    pick (inr h) f = rw (digits_more p n h) (every_append Digit (digits p (n / 10) []) ((48 + n % 10) ∷ []) f (digit_is n, tt))

-- no more of them than the number has places
digits_length : (q p n : ℕ) → n < 10 ^ suc p → length (digits q n []) ≤ suc p
unfolding digits
digits_length zero p n h = omega arith
digits_length (suc q) p n h = pick p (below_or_not n 10) h (λ k l. digits_length q k (n / 10) l)
  where
    pick : (p : ℕ) → (n < 10) ⊎ (10 ≤ n) → n < 10 ^ suc p → ((k : ℕ) → n / 10 < 10 ^ suc k → length (digits q (n / 10) []) ≤ suc k) → length (digits (suc q) n []) ≤ suc p
    pick p (inl l) h f = rw (digits_one q n [] l) (omega arith)
    pick zero (inr l) h f = absurd (omega arith)
    pick (suc k) (inr l) h f =
        let i = f k (omega arith) in
        rw (digits_more q n l, length-append) (omega arith)

decimal_append : (k : ℕ) (xs ys : Bytes) → decimal_from k (xs ++ ys) ≡ decimal_from (decimal_from k xs) ys
unfolding decimal_from
decimal_append k [] ys = refl
decimal_append k (x ∷ xs) ys = decimal_append (k * 10 + (x - 48)) xs ys

-- they write the number
digits_value : (q n : ℕ) → n < 10 ^ q → decimal_from 0 (digits q n []) ≡ n
unfolding digits decimal_from
digits_value zero n h = omega arith
digits_value (suc q) n h = pick (below_or_not n 10) (digits_value q (n / 10))
  where
    pick : (n < 10) ⊎ (10 ≤ n) → (n / 10 < 10 ^ q → decimal_from 0 (digits q (n / 10) []) ≡ n / 10) → decimal_from 0 (digits (suc q) n []) ≡ n
    pick (inl l) f = rw (digits_one q n [] l) (omega arith)
    pick (inr l) f =
        rw (digits_more q n l, decimal_append 0 (digits q (n / 10) []) ((48 + n % 10) ∷ []), f (omega arith)) (omega arith)

-- reading stops after them
digits_taken : (k : ℕ) (xs rest : Bytes) → length xs ≤ k → Every Digit xs → between 48 57 (get_or rest 0 0) ≡ false → digits_of (take k (xs ++ rest)) ≡ xs
unfolding digits_of
digits_taken zero [] rest l h e = refl
digits_taken (suc k) [] [] l h e = refl
digits_taken (suc k) [] (c ∷ t) l h e = rw e
digits_taken zero (x ∷ xs) rest l h e = absurd (omega arith)
digits_taken (suc k) (x ∷ xs) rest l h e = rw (h.0, digits_taken k xs rest (omega arith) h.1 e)

-- A decimal number before something that is no digit is read back.
pub decimal_digits : (p n : ℕ) (rest : Bytes) → n < 10 ^ suc p → between 48 57 (get_or rest 0 0) ≡ false → digits_of (take (suc p) (decimal n ++ rest)) ≡ decimal n
decimal_digits p n rest h e = digits_taken (suc p) (decimal n) rest (digits_length 20 p n h) (digits_every 20 n) e

pub decimal_value : (n : ℕ) → n < 10 ^ 20 → decimal_from 0 (decimal n) ≡ n
decimal_value n h = digits_value 20 n h

pub decimal_length : (p n : ℕ) → n < 10 ^ suc p → length (decimal n) ≤ suc p
decimal_length p n h = digits_length 20 p n h

pub decimal_every : (n : ℕ) → Every Digit (decimal n)
decimal_every n = digits_every 20 n

-- A decimal number by its tenth: the step of a writer.
digits_enough : (p n : ℕ) → n < 10 ^ suc p → digits (suc p) n [] ≡ digits (suc (suc p)) n []
digits_enough zero n h = digits_one zero n [] (omega arith) ∙ sym (digits_one (suc zero) n [] (omega arith))
digits_enough (suc p) n h = pick (below_or_not n 10) (digits_enough p (n / 10))
  where
    pick : (n < 10) ⊎ (10 ≤ n) → (n / 10 < 10 ^ suc p → digits (suc p) (n / 10) [] ≡ digits (suc (suc p)) (n / 10) []) → digits (suc (suc p)) n [] ≡ digits (suc (suc (suc p))) n []
    pick (inl l) f = digits_one (suc p) n [] l ∙ sym (digits_one (suc (suc p)) n [] l)
    pick (inr l) f =
        digits_more (suc p) n l ∙ ap (λ (x : Bytes). x ++ ((48 + n % 10) ∷ [])) (f (omega arith)) ∙ sym (digits_more (suc (suc p)) n l)

pub decimal_one : (n : ℕ) → n < 10 → decimal n ≡ (48 + n % 10) ∷ []
decimal_one n h = digits_one 19 n [] h

pub decimal_more : (n : ℕ) → 10 ≤ n → n < 10 ^ 20 → decimal n ≡ decimal (n / 10) ++ ((48 + n % 10) ∷ [])
decimal_more n l h =
    digits_more 19 n l ∙ ap (λ (x : Bytes). x ++ ((48 + n % 10) ∷ [])) (digits_enough 18 (n / 10) (omega arith))

-- Big-endian bytes: a number lies between those that begin as it does.
bounds_step : (k b p x : ℕ) → b < 256 → (k * 256 + b) * p ≤ x → x < (k * 256 + b + 1) * p → (k * (p * 256) ≤ x) × (x < (k + 1) * (p * 256))
bounds_step k b p x o i j =
    let m = mul-le-mul_right {m = b + 1} {n = 256} p (omega arith) in
    (omega arith, omega arith)

pub number_bounds : (k : ℕ) (bs : Bytes) → Every Octet bs → (k * 256 ^ length bs ≤ number_from k bs) × (number_from k bs < (k + 1) * 256 ^ length bs)
unfolding number_from
number_bounds k [] h = (omega arith, omega arith)
number_bounds k (b ∷ bs) h =
    let i = number_bounds (k * 256 + b) bs h.1 in
    rw (pow-suc 256 (length bs)) (bounds_step k b (256 ^ length bs) (number_from (k * 256 + b) bs) h.0 i.0 i.1)

bytes_back : (k : ℕ) (bs : Bytes) → Every Octet bs → bytes_of (length bs) (number_from k bs) ≡ bs
unfolding bytes_of number_from
bytes_back k [] h = refl
bytes_back k (b ∷ bs) h =
    let i = number_bounds (k * 256 + b) bs h.1 in
    let d = div-eq_of_lt-le (256 ^ length bs) i.0 i.1 in
    let o = h.0 in
    let e : number_from (k * 256 + b) bs / 256 ^ length bs % 256 ≡ b = rw d (omega arith) in
    ap₂ ◌∷◌ e (bytes_back (k * 256 + b) bs h.1)

-- Bytes read as a number are written back.
pub bytes_of_number : (n : ℕ) (bs : Bytes) → length bs ≡ n → Every Octet bs → bytes_of n (number_from 0 bs) ≡ bs
bytes_of_number n bs e h = rw (← e) (bytes_back 0 bs h)

pub number_below : (n : ℕ) (bs : Bytes) → length bs ≡ n → Every Octet bs → number_from 0 bs < 256 ^ n
number_below n bs e h = let i = number_bounds 0 bs h in rw (← e) (omega arith)

pub bytes_length : (n x : ℕ) → length (bytes_of n x) ≡ n
unfolding bytes_of
bytes_length zero x = refl
bytes_length (suc n) x = ap suc (bytes_length n x)

pub bytes_octets : (n x : ℕ) → Every Octet (bytes_of n x)
unfolding bytes_of
bytes_octets zero x = tt
bytes_octets (suc n) x = (omega arith, bytes_octets n x)

-- Hexadecimal digits.
hex_value_lem : (d : ℕ) → d < 16 → hex_value (hex_digit d) ≡ d
unfolding hex_value hex_digit
hex_value_lem d h = pick (below_or_not d 10)
  where
    pick : (d < 10) ⊎ (10 ≤ d) → hex_value (hex_digit d) ≡ d
    pick (inl l) = rw (lt-ltb d 10 l, le-leb 48 (48 + d) (omega arith), le-leb (48 + d) 57 (omega arith)) (omega arith)
    pick (inr l) =
        rw (le-ltb d 10 l, le-leb 48 (87 + d) (omega arith), lt-leb (87 + d) 57 (omega arith), le-leb 97 (87 + d) (omega arith), le-leb (87 + d) 102 (omega arith)) (omega arith)

-- The digits of a hash are read back.
pub hex_back : (h rest : Bytes) → Every Octet h → unhex (length h) (hex h ++ rest) ≡ h
unfolding unhex hex
hex_back [] rest o = refl
hex_back (b ∷ bs) rest o =
    let q = o.0 in
    let e : hex_value (hex_digit (b / 16)) * 16 + hex_value (hex_digit (b % 16)) ≡ b =
    rw (hex_value_lem (b / 16) (omega arith), hex_value_lem (b % 16) (omega arith)) (omega arith) in
    ap₂ ◌∷◌ e (hex_back bs rest o.1)

pub hex_length : (h : Bytes) → length (hex h) ≡ 2 * length h
unfolding hex
hex_length [] = refl
hex_length (b ∷ bs) = let i = hex_length bs in omega arith

hex_small : (c : ℕ) → hex_value c < 16
unfolding hex_value
hex_small c = pick (between 48 57 c) refl (between 97 102 c) refl
  where
    pick : (d : Bool) → between 48 57 c ≡ d → (a : Bool) → between 97 102 c ≡ a → hex_value c < 16
    pick true e a f = let l = leb-true c 57 (and_right (leb 48 c) (leb c 57) e) in rw e (omega arith)
    pick false e true f = let l = leb-true c 102 (and_right (leb 97 c) (leb c 102) f) in rw (e, f) (omega arith)
    pick false e false f = rw (e, f) (omega arith)

pub unhex_length : (n : ℕ) (t : Bytes) → length (unhex n t) ≡ n
unfolding unhex
unhex_length zero t = refl
unhex_length (suc n) t = ap suc (unhex_length n (drop 2 t))

pub unhex_octets : (n : ℕ) (t : Bytes) → Every Octet (unhex n t)
unfolding unhex
unhex_octets zero t = tt
unhex_octets (suc n) t =
    let a = hex_small (get_or t 0 0) in
    let b = hex_small (get_or t 1 0) in
    (omega arith, unhex_octets n (drop 2 t))
