-- Laws of a line as a command: its numbers one by one, and the line from its first byte on. Assumes nothing.
use Rattle.std.specs.Prelude.{◌≡◌, ◌∷◌, ◌++◌, ◌+◌, ◌%◌, ◌≤◌, ◌<◌, None, Some}
use Rattle.kit.specs.Names.{Bor, refl, ap, sym, ◌∙◌, fun_ext, cond, List, [], append-nil, map, ℕ, zero, suc, length, get_or, set, take}
use Rattle.kit.specs.Names.{drop, replicate, drop_of_length-le, take-append-drop, get_or-map, eqb, drop-cons, drop-drop, get_or-drop, get_or-set_other, get_or-set_same, get_or-take, arith}
use Rattle.kit.specs.Names.{ℕ_discrete, add-one, mod-eq_of_lt, eq-eqb, ne_eqb}
use Rattle.std.proofs.lemmas.List.{get_or_default}
use Rattle.rules.specs.Rules.{WORD}
use Rattle.rules.proofs.TestLaws.{either_way}
use Rattle.words.proofs.NumeralLaws.{in_limit, says}
use Rattle.parser.specs.Command.{command_of, fit, command_with, of_words}
use Rattle.commands.specs.Forms.{Form, form_at, forms, is_long, limit, makes_of, number_at, names}
use Rattle.commands.specs.declared.command.Width.{Width}
use Rattle.commands.specs.declared.command.Width.TheVariants.{Few, Long, Short}
use Rattle.words.specs.Line.{place_in, words}
use Rattle.words.specs.Numeral.{decimal, numeral}
use Rattle.commands.specs.declared.command.Command.TheVariants.{Blank, Error}

-- ---- widths

alike : {A : Type 0} (a : A) (n i : ℕ) → get_or (replicate n a) i a ≡ a
alike a zero i = refl
alike a (suc n) zero = refl
alike a (suc n) (suc i) = alike a n i

-- the code's table is that of the forms
pub widths_at : (i : ℕ) (d : List Width) → i < 24 → get_or (map (λ (f : Form). f.widths) forms) i d ≡ (form_at i).widths
unfolding forms
widths_at i d h = get_or_default (map (λ (f : Form). f.widths) forms) i d [] h ∙ get_or-map (λ (f : Form). f.widths) forms i (form_at 24)

-- a table of slices, read at a place
pub now_at : (l : List (Bor (List Width))) (i : ℕ) (d : Bor (List Width)) → (get_or l i d).now ≡ get_or (map (λ (b : Bor (List Width)). b.now) l) i d.now
now_at l i d = sym (get_or-map (λ (b : Bor (List Width)). b.now) l i d)

-- ---- the numbers of a line, one by one

-- so many were read, and these words and widths are left
pub record Reading (ws : List Width) (xs rest : List (List ℕ)) (count : ℕ) (s n : List ℕ) : Type 0 where
  pub onward : rest ≡ drop count xs
  pub fits : fit ws xs ≡ fit (drop count ws) rest
  pub each : (i : ℕ) → number_at ws s n i ≡ decimal 0 (get_or (take count xs) i [])

pub none_read : (ws : List Width) (xs rest : List (List ℕ)) → xs ≡ rest → Reading ws xs rest 0 (replicate 7 0) (replicate 7 0)
unfolding decimal
none_read ws xs rest h =
    record {
      onward = sym h;
      fits = ap (fit ws) h;
      each = λ i. rw (alike {A = ℕ} 0 7 i) (either_way (is_long (get_or ws i Short)) 0);
    }

-- a number that its width holds is not cut
uncut : (w : Width) (v : ℕ) → v ≤ limit w → cond (is_long w) v (v % WORD) ≡ v
uncut Short v h = mod-eq_of_lt (omega arith)
uncut Long v h = refl
uncut Few v h = mod-eq_of_lt (omega arith)

take_other : (xs : List (List ℕ)) (k i : ℕ) → (i ≡ k → ⊥) → get_or (take (suc k) xs) i [] ≡ get_or (take k xs) i []
take_other [] zero i d = refl
take_other [] (suc k) i d = refl
take_other (x ∷ xs) zero zero d = absurd (d refl)
take_other (x ∷ xs) zero (suc i) d = refl
take_other (x ∷ xs) (suc k) zero d = refl
take_other (x ∷ xs) (suc k) (suc i) d = take_other xs k i (λ e. d (ap suc e))

module _ (i : ℕ) {xs rest : List (List ℕ)} {count : ℕ} {s n : List ℕ} (r : Reading (form_at i).widths xs rest count s n) where
  abbrev ws : List Width
  ws = (form_at i).widths

  module _ (whole : length ws ≤ count) where
    none_left : drop count ws ≡ []
    none_left = drop_of_length-le ws {i = count} whole

    pub too_many : {x : List ℕ} {more : List (List ℕ)} → rest ≡ x ∷ more → Error ≡ command_with (form_at i) xs
    unfolding fit
    too_many split = rw (r.fits, split, none_left)

    pub done : rest ≡ [] → makes_of i s n ≡ command_with (form_at i) xs
    unfolding fit
    done h =
        let whole : take count xs ≡ xs =
        sym (append-nil (take count xs)) ∙ ap (λ l. take count xs ++ l) (sym h ∙ r.onward) ∙ take-append-drop count xs in
        let same : number_at ws s n ≡ (λ i. decimal 0 (get_or xs i [])) = fun_ext (λ i. r.each i ∙ ap (λ l. decimal 0 (get_or l i [])) whole) in
        rw (r.fits, h, none_left) (ap (form_at i).makes same)

  module _ (inside : count < length ws) where
    abbrev width : Width
    width = get_or ws count Short

    widths : drop count ws ≡ width ∷ drop (suc count) ws
    widths = drop-cons ws count Short inside

    pub too_few : rest ≡ [] → Error ≡ command_with (form_at i) xs
    unfolding fit
    too_few h = rw (r.fits, h, widths)

    module _ {x : List ℕ} {more : List (List ℕ)} (split : rest ≡ x ∷ more) {most : ℕ} (its : most ≡ limit width) where
      pub no_number : None ≡ numeral most x → Error ≡ command_with (form_at i) xs
      unfolding fit
      no_number e = rw (r.fits, split, widths, ← its, says most x e)

      pub one_more : {v : ℕ} → Some v ≡ numeral most x → count < length s → count < length n
          → Reading ws xs more (count + 1) (set s count (v % WORD)) (set n count v)
      unfolding fit
      one_more {v} e hs hn =
          let read = says most x e in
          let word : get_or xs count [] ≡ x =
          ap (λ k. get_or xs k []) (omega arith) ∙ sym (get_or-drop count xs 0 []) ∙ ap (λ l. get_or l 0 []) (sym r.onward ∙ split) in
          record {
            onward = sym (ap (drop 1) (sym r.onward ∙ split)) ∙ drop-drop 1 count xs;
            fits = rw (add-one, r.fits, split, widths, ← its, read.0);
            each = λ i. elim (ℕ_discrete i count) [
              | yes q ↦ rw (
                q,
                add-one,
                get_or-set_same n count v 0 hn,
                get_or-set_same s count (v % WORD) 0 hs,
                get_or-take (suc count) xs count [] (omega arith),
                word,
                uncut width v (omega (arith, its, in_limit most x read.0)),
              ) read.1
              | no d ↦ rw (add-one, get_or-set_other n count i v 0 d, get_or-set_other s count i (v % WORD) 0 d, take_other xs count i d) (r.each i)
            ];
          }

-- ---- a line

-- what is no name has no form
pub no_name : (name : List ℕ) (xs : List (List ℕ)) → 24 ≡ place_in names name → Error ≡ of_words (name ∷ xs)
unfolding forms
no_name name xs e = rw (← e) (sym (either_way (fit [] xs) Error))

pub empty_line : (line : List ℕ) → length line ≡ 0 → Blank ≡ command_of line
unfolding command_of
empty_line [] e = refl
empty_line (b ∷ bs) e = absurd (omega arith)

some_line : (line : List ℕ) → 0 < length line → command_of line ≡ cond (eqb (get_or line 0 0) 35) Blank (of_words (words line))
unfolding command_of
some_line [] h = absurd (omega arith)
some_line (b ∷ bs) h = refl

pub comment : (line : List ℕ) → 0 < length line → get_or line 0 0 ≡ 35 → Blank ≡ command_of line
comment line h e = rw (some_line line h, eq-eqb (get_or line 0 0) 35 e)

pub by_words : (line : List ℕ) → 0 < length line → (get_or line 0 0 ≡ 35 → ⊥) → of_words (words line) ≡ command_of line
by_words line h no_comment = rw (some_line line h, ne_eqb (get_or line 0 0) 35 no_comment)
