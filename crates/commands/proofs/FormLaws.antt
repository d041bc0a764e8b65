-- A form that is known. Assumes nothing.
use Rattle.std.specs.Prelude.{◌≡◌}
use Rattle.kit.specs.Names.{ap, sym, List, ℕ}
use Rattle.commands.specs.Forms.{makes_of}

-- a form that is known makes what the table says at its place
pub at_form : (i : ℕ) (s n : List ℕ) {form : ℕ} → form ≡ i → makes_of i s n ≡ makes_of form s n
at_form i s n e = ap (λ k. makes_of k s n) (sym e)
