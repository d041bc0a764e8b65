-- No number above its width is accepted: a line that makes a command has a form's name for its first word and as many words after it as
-- the form has places, and each of these stands for the decimal value of its digits, within the width of its place. Assumes nothing.
use Rattle.std.specs.Prelude.{◌≡◌, ◌∷◌, ◌≤◌, ◌<◌}
use Rattle.kit.specs.Names.{refl, ap, sym, ◌∙◌, Bool, true, false, cond, List, [], ℕ, length, length-map, get_or, get_or-eq_default, get_or-map, eqb, arith, dec_lt}
use Rattle.std.proofs.lemmas.Bool.{and_parts}
use Rattle.rules.proofs.TestLaws.{either_way}
use Rattle.words.proofs.LineLaws.{placed}
use Rattle.words.proofs.NumeralLaws.{in_limit}
use Rattle.parser.specs.Command.{command_of, fit, command_with, of_words}
use Rattle.commands.specs.Forms.{Form, form_at, forms, limit, names}
use Rattle.commands.specs.declared.command.Width.{Width}
use Rattle.words.specs.Line.{place_in, words}
use Rattle.words.specs.Numeral.{decimal, is_numeral}
use Rattle.commands.specs.declared.command.Command.TheVariants.{Blank, Error}

-- ---- the statement

-- as many words of digits as widths, the value of each within its own
abbrev pub Within : List (List ℕ) → List Width → Type 0
Within [] [] = Unit {0}
Within (x ∷ xs) (w ∷ ws) = (decimal 0 x ≤ limit w) × Within xs ws
Within [] (w ∷ ws) = ⊥
Within (x ∷ xs) [] = ⊥

pub record Accepted (line : List ℕ) : Type 0 where
  pub place : ℕ
  pub numbers : List (List ℕ)
  pub listed : place < length forms
  pub spelt : words line ≡ (form_at place).name ∷ numbers
  pub within : Within numbers (form_at place).widths
  pub makes : command_of line ≡ (form_at place).makes (λ i. decimal 0 (get_or numbers i []))

-- ---- its proof

all_within : (xs : List (List ℕ)) (ws : List Width) → fit ws xs ≡ true → Within xs ws
unfolding fit
all_within [] [] e = tt
all_within (x ∷ xs) (w ∷ ws) e = let h = and_parts (is_numeral (limit w) x) (fit ws xs) e in (in_limit (limit w) x h.0, all_within xs ws h.1)
all_within [] (w ∷ ws) e = let z : ◌≡◌ {A = ℕ} 0 1 = cc in omega arith
all_within (x ∷ xs) [] e = let z : ◌≡◌ {A = ℕ} 0 1 = cc in omega arith

module _ (line : List ℕ) (other : command_of line ≡ Error → ⊥) where
  by_form : (xs : List (List ℕ)) (i : ℕ) (b : Bool) → fit (form_at i).widths xs ≡ b → i < length forms → words line ≡ (form_at i).name ∷ xs
      → command_of line ≡ cond b ((form_at i).makes (λ i. decimal 0 (get_or xs i []))) Error → Accepted line
  by_form xs i false e h split is = absurd (other is)
  by_form xs i true e h split is =
      record { place = i; numbers = xs; listed = h; spelt = split; within = all_within xs (form_at i).widths e; makes = is }

  by_words : (x : List (List ℕ)) → words line ≡ x → command_of line ≡ of_words x → Accepted line
  unfolding forms
  by_words [] split is = absurd (other is)
  by_words (name ∷ xs) split is =
      let i = place_in names name in
      let found = (placed names name).1 in
      elim (dec_lt i (length forms)) [
        | yes h ↦
            let same : name ≡ (form_at i).name = sym (found (rw (length-map forms (λ (f : Form). f.name)) h)) ∙ get_or-map (λ (f : Form). f.name) forms i (form_at 24) in
            by_form xs i (fit (form_at i).widths xs) refl h (split ∙ ap (λ w. w ∷ xs) same) is
        | no h ↦ absurd (other (is ∙ ap (λ f. command_with f xs) (get_or-eq_default forms (form_at 24) {n = i} (omega arith)) ∙ either_way (fit [] xs) Error))
      ]

-- no command but a form's, with its numbers within their widths
pub accepted : (line : List ℕ) → (command_of line ≡ Blank → ⊥) → (command_of line ≡ Error → ⊥) → Accepted line
unfolding command_of
accepted [] blank other = absurd (blank refl)
accepted (b ∷ bs) blank other = go (eqb b 35) refl blank
  where
    go : (t : Bool) → eqb b 35 ≡ t → (cond t Blank (of_words (words (b ∷ bs))) ≡ Blank → ⊥) → Accepted (b ∷ bs)
    go true e blank = absurd (blank refl)
    go false e blank = by_words (b ∷ bs) other (words (b ∷ bs)) refl (rw e)
