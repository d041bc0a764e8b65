-- Laws of lines and their bytes. Assumes nothing.
use Rattle.std.specs.Prelude.{◌≡◌, ◌∷◌, ◌+◌, ◌-◌, ◌≤◌, ◌<◌}
use Rattle.kit.specs.Names.{ap, ◌∙◌, Bool, true, false, List, ℕ, suc, length, get_or, take, drop, length-take, drop_of_length-le, length-take-le, min}
use Rattle.kit.specs.Names.{drop-cons, get_or-drop, get_or-take, length-drop, arith, dec_le, add-one, min-eq_right, eq-eqb, ne_eqb}
use Rattle.lines.specs.Lines.{line, reached, keeping, gathering}

-- ---- gathering

-- the input that is at hand
module _ (count : ℕ) (input : List ℕ) where
  reaches : (i : ℕ) → i < count → i < length input → i < length (take count input)
  reaches i h g = go (dec_le count (length input))
    where
      go : Dec (count ≤ length input) → i < length (take count input)
      go (yes k) = omega (arith, length-take-le count input k)
      go (no k) =
          let l : length input ≤ count = omega arith in
          omega (arith, length-take count input, min-eq_right l)

  a_byte : (i : ℕ) → i < count → i < length input → drop i (take count input) ≡ get_or input i 0 ∷ drop (i + 1) (take count input)
  a_byte i h g =
      rw (add-one i)
      (drop-cons (take count input) i 0 (reaches i h g) ∙ ap (λ (b : ℕ). b ∷ drop (suc i) (take count input)) (get_or-take count input i 0 h))

  module _ (i : ℕ) (b : List ℕ) (n : ℕ) (o : Bool) where
    pub all_read : min count (length input) ≤ i → reached (line b n o) i false ≡ gathering i (line b n o) (drop i (take count input))
    unfolding gathering
    all_read h = rw (drop_of_length-le (take count input) {i = i} (omega (arith, length-take count input)))

    module _ (h : i < count) (g : i < length input) where
      pub fed : get_or input i 0 ≡ 10 → reached (line b n o) (i + 1) true ≡ gathering i (line b n o) (drop i (take count input))
      unfolding gathering
      fed e = rw (a_byte i h g, eq-eqb (get_or input i 0) 10 e)

      pub one_byte : (get_or input i 0 ≡ 10 → ⊥)
          → gathering (i + 1) (keeping (line b n o) (get_or input i 0)) (drop (i + 1) (take count input)) ≡ gathering i (line b n o) (drop i (take count input))
      unfolding gathering
      one_byte e = rw (a_byte i h g, ne_eqb (get_or input i 0) 10 e)

-- the part of the input that is gone over, and a place in it
module _ (count : ℕ) (input : List ℕ) (from : ℕ) {end start : ℕ} (e : end ≡ min count (length input)) (s : start ≡ min from end) where
  pub size : length (take (end - start) (drop start input)) ≡ end - start
  size = length-take-le (end - start) (drop start input) (omega (arith, length-drop start input))

  module _ (i : ℕ) (h : i < length (take (end - start) (drop start input))) where
    pub inside : (from + i < count) × (from + i < length input)
    inside = (omega (arith, size), omega (arith, size))

    pub at_place : get_or (take (end - start) (drop start input)) i 0 ≡ get_or input (from + i) 0
    at_place =
        get_or-take (end - start) (drop start input) i 0 (omega (arith, size)) ∙ get_or-drop start input i 0
        ∙ ap (λ (k : ℕ). get_or input (k + i) 0) (omega (arith, size))
