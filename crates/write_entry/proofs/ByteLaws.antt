-- Bytes written one after the other. Assumes nothing.
use Rattle.std.specs.Prelude.{◌≡◌, ◌∷◌, ◌++◌, ◌+◌, ◌*◌, ◌/◌}
use Rattle.std.specs.Int.{w32, w64, to_le_bytes}
use Rattle.kit.specs.Names.{ap, ◌∙◌, [], ℕ, suc, length, length-append, set, sets}
use Rattle.kit.specs.Names.{arith}
use Rattle.journal.specs.Numbers.{ENTRY-BYTES}
use Rattle.journal.specs.Entry.{Bytes, little_endian, fields}
use Rattle.journal.specs.Journal.{trailer_bytes, trailer_of}
use Rattle.journal.proofs.ByteLaws.{length_number}

-- A list, and another just after it.
sets_append : (bs xs ys : Bytes) (at to : ℕ) → to ≡ at + length xs → sets (sets bs at xs) to ys ≡ sets bs at (xs ++ ys)
sets_append bs [] ys at to e = let here : to ≡ at = omega arith in rw here
sets_append bs (x ∷ xs) ys at to e = sets_append (set bs at x) xs ys (suc at) to (omega arith)

pub then : {cs ds : Bytes} (bs xs ys : Bytes) (at to : ℕ) → cs ≡ sets bs at xs → to ≡ at + length xs → ds ≡ sets cs to ys → ds ≡ sets bs at (xs ++ ys)
then bs xs ys at to e here f = f ∙ ap (λ (b : Bytes). sets b to ys) e ∙ sets_append bs xs ys at to here

-- The library's bytes of a number are those of the rule.
pub four : (n : ℕ) → to_le_bytes w32 n ≡ little_endian 4 n
unfolding little_endian
four n =
    let two : n / 256 / 256 ≡ n / 65536 = omega arith in
    let three : n / 256 / 256 / 256 ≡ n / 16777216 = omega arith in
    rw (three, two)

pub eight : (n : ℕ) → to_le_bytes w64 n ≡ little_endian 8 n
unfolding little_endian
eight n =
    let two : n / 256 / 256 ≡ n / 65536 = omega arith in
    let three : n / 256 / 256 / 256 ≡ n / 16777216 = omega arith in
    let four : n / 256 / 256 / 256 / 256 ≡ n / 4294967296 = omega arith in
    let five : n / 256 / 256 / 256 / 256 / 256 ≡ n / 1099511627776 = omega arith in
    let six : n / 256 / 256 / 256 / 256 / 256 / 256 ≡ n / 281474976710656 = omega arith in
    let seven : n / 256 / 256 / 256 / 256 / 256 / 256 / 256 ≡ n / 72057594037927936 = omega arith in
    rw (seven, six, five, four, three, two)

-- The library's bytes of a number, written.
word : {cs ys : Bytes} (bs : Bytes) (at n : ℕ) → cs ≡ sets bs at ys → ys ≡ to_le_bytes w32 n → cs ≡ sets bs at (little_endian 4 n)
word bs at n e y = e ∙ ap (sets bs at) (y ∙ four n)

long : {cs ys : Bytes} (bs : Bytes) (at n : ℕ) → cs ≡ sets bs at ys → ys ≡ to_le_bytes w64 n → cs ≡ sets bs at (little_endian 8 n)
long bs at n e y = e ∙ ap (sets bs at) (y ∙ eight n)

-- ---- numbers one after the other

pub trailer_written : (bs : Bytes) {b1 b2 b3 x1 x2 x3 : Bytes} (at number count : ℕ)
    → b1 ≡ sets bs at x1 → x1 ≡ to_le_bytes w32 (ENTRY-BYTES * count)
    → b2 ≡ sets b1 (at + 4) x2 → x2 ≡ to_le_bytes w32 count
    → b3 ≡ sets b2 (at + 8) x3 → x3 ≡ to_le_bytes w32 number
    → b3 ≡ sets bs at (trailer_bytes (trailer_of number count))
trailer_written bs {b1} {b2} at number count e1 x1 e2 x2 e3 x3 =
    let back = little_endian 4 (ENTRY-BYTES * count) in
    let one = word bs at (ENTRY-BYTES * count) e1 x1 in
    let two = then bs back (little_endian 4 count) at (at + 4) one (rw length_number) (word b1 (at + 4) count e2 x2) in
    then bs (back ++ little_endian 4 count) (little_endian 4 number) at (at + 8) two (simp (length-append, length_number))
    (word b2 (at + 8) number e3 x3)

pub fields_written : (bs : Bytes) {b1 b2 b3 b4 b5 x1 x2 x3 x4 x5 : Bytes} (at kind a b owner amount : ℕ)
    → b1 ≡ sets bs at x1 → x1 ≡ to_le_bytes w32 kind
    → b2 ≡ sets b1 (at + 4) x2 → x2 ≡ to_le_bytes w32 a
    → b3 ≡ sets b2 (at + 8) x3 → x3 ≡ to_le_bytes w32 b
    → b4 ≡ sets b3 (at + 12) x4 → x4 ≡ to_le_bytes w32 owner
    → b5 ≡ sets b4 (at + 16) x5 → x5 ≡ to_le_bytes w64 amount
    → b5 ≡ sets bs at (fields kind a b owner amount)
fields_written bs {b1} {b2} {b3} {b4} at kind a b owner amount e1 x1 e2 x2 e3 x3 e4 x4 e5 x5 =
    let one = little_endian 4 kind in
    let two = one ++ little_endian 4 a in
    let three = two ++ little_endian 4 b in
    let four = three ++ little_endian 4 owner in
    let w1 = word bs at kind e1 x1 in
    let w2 = then bs one (little_endian 4 a) at (at + 4) w1 (rw length_number) (word b1 (at + 4) a e2 x2) in
    let w3 = then bs two (little_endian 4 b) at (at + 8) w2 (simp (length-append, length_number)) (word b2 (at + 8) b e3 x3) in
    let w4 = then bs three (little_endian 4 owner) at (at + 12) w3 (simp (length-append, length_number)) (word b3 (at + 12) owner e4 x4) in
    then bs four (little_endian 8 amount) at (at + 16) w4 (simp (length-append, length_number)) (long b4 (at + 16) amount e5 x5)
