-- Laws of a word read as a number. Assumes nothing.
use Rattle.std.specs.Prelude.{◌≡◌, ◌&&◌, ◌∷◌, ◌+◌, ◌*◌, ◌-◌, ◌/◌, ◌≤◌, ◌<◌, Option, None, Some}
use Rattle.kit.specs.Names.{refl, Bool, true, false, cond, List, [], ℕ, suc, length, get_or, drop, leb, ltb, drop-cons, drop-length, arith, add-one}
use Rattle.std.proofs.Common.{inl, inr}
use Rattle.kit.specs.Names.{le-div_iff_mul-le, div-lt_iff_lt-mul, le-leb, leb-true, lt-leb, lt-ltb}
use Rattle.std.specs.Char.{IsNotAsciiDigit}
use Rattle.std.proofs.lemmas.Bool.{and_parts}
use Rattle.words.specs.Numeral.{all_digits, decimal, is_numeral, numeral}

-- ---- what a number that was read says

pub in_limit : (limit : ℕ) (w : List ℕ) → is_numeral limit w ≡ true → decimal 0 w ≤ limit
in_limit limit w e =
    let h = and_parts (all_digits w) (ltb 0 (length w) && leb (decimal 0 w) limit) e in
    leb-true (decimal 0 w) limit (and_parts (ltb 0 (length w)) (leb (decimal 0 w) limit) h.1).1

abbrev Says : ℕ → List ℕ → Option ℕ → Type 0
Says limit w None = is_numeral limit w ≡ false
Says limit w (Some n) = (is_numeral limit w ≡ true) × (n ≡ decimal 0 w)

pub says : (limit : ℕ) (w : List ℕ) {y : Option ℕ} → y ≡ numeral limit w → Says limit w y
says limit w e = rw e (go (is_numeral limit w) refl)
  where
    go : (b : Bool) → is_numeral limit w ≡ b → Says limit w (cond b (Some (decimal 0 w)) None)
    go true q = (q, refl)
    go false q = q

-- ---- reading, digit by digit

-- one digit more: the test before it is taken in says that the value stays within the limit
pub fits_more : (limit n d : ℕ) → 9 ≤ limit → d ≤ 9 → n ≤ (limit - d) / 10 → n * 10 + d ≤ limit
fits_more limit n d l h q = let m : n * 10 ≤ limit - d = (le-div_iff_mul-le {k = 10} {x = n} {y = limit - d} (omega arith)).0 q in omega arith

past : (limit n d : ℕ) → 9 ≤ limit → d ≤ 9 → (limit - d) / 10 < n → limit < n * 10 + d
past limit n d l h q = let m : limit - d < n * 10 = (div-lt_iff_lt-mul {k = 10} {x = limit - d} {y = n} (omega arith)).0 q in omega arith

grows : (n : ℕ) (w : List ℕ) → n ≤ decimal n w
unfolding decimal
grows n [] = omega arith
grows n (b ∷ bs) = omega (arith, grows (n * 10 + (b - 48)) bs)

never : (b : Bool) → b && false ≡ false
never true = refl
never false = refl

-- so many digits were taken in, and n is their value
pub record Taken (w : List ℕ) (n i : ℕ) : Type 0 where
  pub digits : all_digits w ≡ all_digits (drop i w)
  pub value : decimal 0 w ≡ decimal n (drop i w)

module _ {w : List ℕ} {n i : ℕ} (limit : ℕ) (r : Taken w n i) where
  pub read_end : 0 < length w → i ≡ length w → n ≤ limit → Some n ≡ numeral limit w
  unfolding all_digits decimal
  read_end some e h =
      let all : all_digits w ≡ true = rw (r.digits, e, drop-length w) in
      let value : decimal 0 w ≡ n = rw (r.value, e, drop-length w) in
      rw (all, lt-ltb 0 (length w) some, value, le-leb n limit h)

  module _ (lt : i < length w) where
    abbrev byte : ℕ
    byte = get_or w i 0

    read_low : byte < 48 → None ≡ numeral limit w
    unfolding all_digits
    read_low h = rw (r.digits, drop-cons w i 0 lt, lt-leb 48 byte h)

    read_high : 57 < byte → None ≡ numeral limit w
    unfolding all_digits
    read_high h = rw (r.digits, drop-cons w i 0 lt, le-leb 48 byte (omega arith), lt-leb byte 57 h)

    -- a byte that is no digit
    pub read_other : IsNotAsciiDigit byte → None ≡ numeral limit w
    read_other e = elim e [ inl h ↦ read_low h | inr h ↦ read_high h ]

    next : decimal 0 w ≡ decimal (n * 10 + (byte - 48)) (drop (suc i) w)
    unfolding decimal
    next = rw (r.value, drop-cons w i 0 lt)

    module _ (low : 48 ≤ byte) (high : byte ≤ 57) where
      pub read_more : Taken w (n * 10 + (byte - 48)) (i + 1)
      unfolding all_digits
      read_more = record { digits = rw (add-one, r.digits, drop-cons w i 0 lt, le-leb 48 byte low, le-leb byte 57 high); value = rw add-one next }

      pub read_past : 9 ≤ limit → (limit - (byte - 48)) / 10 < n → None ≡ numeral limit w
      read_past nine q =
          let more = past limit n (byte - 48) nine (omega arith) q in
          let least = grows (n * 10 + (byte - 48)) (drop (suc i) w) in
          rw (lt-ltb 0 (length w) (omega arith), lt-leb (decimal 0 w) limit (omega (arith, next)), never (all_digits w))
