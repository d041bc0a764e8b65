-- Laws of what is printed. Assumes nothing.
use Rattle.std.specs.Prelude.{◌≡◌, ◌∷◌, ◌++◌, ◌+◌, ◌*◌, ◌-◌, ◌/◌, ◌%◌, ◌^◌, ◌≤◌, ◌<◌}
use Rattle.kit.specs.Names.{refl, ap, sym, ◌∙◌, List, [], append_assoc, append-nil, ℕ, zero, suc, length, get_or, take, drop}
use Rattle.kit.specs.Names.{length-append, paste, paste-zero, take-length, take-paste, take-suc, drop-paste, length-paste, drop-drop, arith, dec_le, add-one}
use Rattle.kit.specs.Names.{pow-le-pow_right, pow-suc, mod-lt, mod-eq_of_lt, le-div_iff_mul-le, div-lt_iff_lt-mul, lt-ltb, le-ltb}
use Rattle.io.specs.Digits.{last_digits, IsDigitCount, hex_digit_ascii}
use Rattle.digits.specs.Printed.{Printed, spell, spell_in, listed}

-- ---- a text after another

paste_paste : (d x y : List ℕ) (at : ℕ) → at + length x ≤ length d
    → paste (paste d at x (length x)) (at + length x) y (length y) ≡ paste d at (x ++ y) (length (x ++ y))
paste_paste d x y at h =
    let front : take (at + length x) (paste d at x (length x)) ≡ take at d ++ take (length x) x = take-paste d at x (length x) (omega arith) (omega arith) in
    let rest : drop (at + length x) (paste d at x (length x)) ≡ drop (at + length x) d = drop-paste d at x (length x) (omega arith) (omega arith) in
    let sum : at + length x + length y ≡ at + (length x + length y) = omega arith in
    let back : drop (at + length x + length y) (paste d at x (length x)) ≡ drop (at + (length x + length y)) d =
    sym (drop-drop (length y) (at + length x) (paste d at x (length x))) ∙ ap (drop (length y)) rest
    ∙ drop-drop (length y) (at + length x) d ∙ ap (λ k. drop k d) sum in
    rw (front, back, take-length x, take-length y, take-length (x ++ y), length-append x y, append_assoc (take at d) x y)

-- what is printed just after a text makes one text with it
pub then : {before middle after x y : List ℕ} {at mid end : ℕ} → Printed before middle at x mid → Printed middle after mid y end
    → Printed before after at (x ++ y) end
then {before} {middle} {after} {x} {y} {at} {mid} {end} p q =
    let size : length (x ++ y) ≡ length x + length y = length-append x y in
    let same : length middle ≡ length before = ap length p.stands ∙ length-paste before at x (length x) p.room (omega arith) in
    record {
      place = omega arith;
      room = omega arith;
      stands = q.stands ∙ ap (λ l. paste l mid y (length y)) p.stands
          ∙ ap (λ k. paste (paste before at x (length x)) k y (length y)) p.place ∙ paste_paste before x y at p.room;
    }

-- the same text in other words
pub saying : {before after x y : List ℕ} {at end : ℕ} → x ≡ y → Printed before after at x end → Printed before after at y end
saying e p = rw e at p

-- ---- a number's digits

glyph_digit : (d : ℕ) → d < 10 → hex_digit_ascii d ≡ 48 + d
glyph_digit d h = rw (lt-ltb d 10 h)

-- the fewest digits are the spelling, where there is room for them
digits_spell : (k room n : ℕ) → IsDigitCount 10 1 n k → k ≤ room → last_digits 10 k n ≡ spell_in room n
unfolding spell_in
digits_spell zero room n f h = absurd (omega (arith, f.0))
digits_spell (suc k) zero n f h = absurd (omega arith)
digits_spell (suc zero) (suc room) n f h =
    let low : n < 10 = f.1 in
    rw (lt-ltb n 10 low, mod-eq_of_lt low, glyph_digit n low)
digits_spell (suc (suc k)) (suc room) n f h =
    let past : suc (suc k) - 1 ≡ suc k = omega arith in
    let last : suc k - 1 ≡ k = omega arith in
    let low : 10 ^ suc k ≤ n = rw past at (f.2 (omega arith)) in
    let high : n < 10 ^ suc k * 10 = rw pow-suc at f.1 in
    let tens : 10 ^ 1 ≤ 10 ^ suc k = pow-le-pow_right {n = 10} (omega arith) {i = 1} {j = suc k} (omega arith) in
    let wide : 10 ≤ n = omega arith in
    let lower : 10 ^ k * 10 ≤ n = rw pow-suc at low in
    let more : IsDigitCount 10 1 (n / 10) (suc k) = (
      omega arith,
      (div-lt_iff_lt-mul {k = 10} {x = n} {y = 10 ^ suc k} (omega arith)).1 high,
      λ g. rw last ((le-div_iff_mul-le {k = 10} {x = 10 ^ k} {y = n} (omega arith)).1 lower),
    ) in
    rw (le-ltb n 10 wide, glyph_digit (n % 10) (mod-lt n (omega arith)), ← digits_spell (suc k) room (n / 10) more (omega arith))

-- 64 bits take at most 20 digits
pub at_most_20 : (n count : ℕ) → n < 2 ^ 64 → IsDigitCount 10 1 n count → count ≤ 20
at_most_20 n count small f =
    elim (dec_le count 20) [
      | yes h ↦ h
      | no h ↦ absurd (omega (arith, f.2 (omega arith), pow-le-pow_right {n = 10} (omega arith) {i = 20} {j = count - 1} (omega arith)))
    ]

pub spelt : (n count : ℕ) → n < 2 ^ 64 → IsDigitCount 10 1 n count → last_digits 10 count n ≡ spell n
unfolding spell
spelt n count small f = digits_spell count 20 n f (at_most_20 n count small f)

-- ---- one byte

-- ---- numbers in a row

pub listed_append : (xs ys : List ℕ) → listed xs ++ listed ys ≡ listed (xs ++ ys)
unfolding listed
listed_append [] ys = refl
listed_append (x ∷ xs) ys = append_assoc (32 ∷ spell x) (listed xs) (listed ys) ∙ ap (λ l. (32 ∷ spell x) ++ l) (listed_append xs ys)

pub one_listed : (n : ℕ) → 32 ∷ spell n ≡ listed (n ∷ [])
unfolding listed
one_listed n = sym (append-nil (32 ∷ spell n))

-- one number more of a list
pub listed_more : (ns : List ℕ) (i : ℕ) → i < length ns → listed (take i ns) ++ listed (get_or ns i 0 ∷ []) ≡ listed (take (i + 1) ns)
listed_more ns i h = rw (add-one, take-suc ns i 0 h) (listed_append (take i ns) (get_or ns i 0 ∷ []))

pub nothing_printed : (before : List ℕ) (at : ℕ) → at ≤ length before → Printed before before at (listed []) at
unfolding listed
nothing_printed before at h = record { place = omega arith; room = omega arith; stands = paste-zero before at [] }
