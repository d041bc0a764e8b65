-- Four numbers read and written. Assumes nothing.
use Rattle.std.specs.Prelude.{◌≡◌, ◌<◌}
use Rattle.kit.specs.Names.{true, false, List, ℕ, length, get_or, eqb, ltb, eq-eqb, ne_eqb, eqb-true, ltb-true}
use Rattle.std.proofs.lemmas.Bool.{and_parts}
use Rattle.rules.specs.Rules.{WORD}
use Rattle.known_numbers.specs.Known.{KNOWN, is_known}

module _ (ns : List ℕ) where
  pub not_four : (length ns ≡ KNOWN → ⊥) → false ≡ is_known ns
  not_four d = rw (ne_eqb (length ns) KNOWN d)

  pub by_third : length ns ≡ KNOWN → ltb (get_or ns 2 0) WORD ≡ is_known ns
  by_third e = rw (eq-eqb (length ns) KNOWN e)

  pub record Four : Type 0 where
    pub long : length ns ≡ KNOWN
    pub small : get_or ns 2 0 < WORD

  pub four : is_known ns ≡ true → Four
  four e =
      let b = and_parts (eqb (length ns) KNOWN) (ltb (get_or ns 2 0) WORD) e in
      record { long = eqb-true (length ns) KNOWN b.0; small = ltb-true (get_or ns 2 0) WORD b.1 }
