-- Laws of a line's words. Assumes nothing.
use Rattle.std.specs.Prelude.{◌≡◌, ◌∷◌, ◌++◌, ◌+◌, ◌≤◌, ◌<◌, None, Some}
use Rattle.kit.specs.Names.{refl, ap, sym, ◌∙◌, Bool, true, false, cond, List, [], ℕ, suc, length, get_or, take, drop, length-append, length-take-le, drop-cons, append-nil, append_assoc, eqb, eqb-true, eq-eqb, arith}
use Rattle.std.proofs.Common.{nat_eq, unwrap_or, not}
use Rattle.std.specs.List.{position, position_or_len}
use Rattle.std.proofs.lemmas.Grind.{common_steps}
use Rattle.std.proofs.lemmas.Bool.Decides.{nat_tests, Decides-eqb}
use Rattle.std.proofs.lemmas.Slice.Eq.{slice_eq-Decides}
use Rattle.std.specs.Cmp.Lexicographic.{pointwise}
use Rattle.std.proofs.lemmas.List.Quantifiers.{position-Some}
use Rattle.std.proofs.lemmas.List.Recursion.{is_position_or_len}
use Rattle.std.proofs.lemmas.List.Sums.{prefix_len-le-length}
use Rattle.std.proofs.lemmas.Bool.{and_parts}
use Rattle.words.specs.Line.{BLANK, ended, place_in, words_after, words}
use Rattle.words.specs.Bytes.{same_bytes}

-- ---- the first word of a text

-- the blanks in front of a word, and the letters before a blank
abbrev blanks : List ℕ → ℕ
blanks = position_or_len (λ b. not (eqb b BLANK))

abbrev letters : List ℕ → ℕ
letters = position_or_len (λ b. eqb b BLANK)

-- the blanks in front change none of a text's words
past_blanks : (text : List ℕ) → words text ≡ words (drop (blanks text) text)
unfolding words_after
past_blanks [] = refl
past_blanks (b ∷ bs) = go (eqb b BLANK) refl (past_blanks bs)
  where
    go : (t : Bool) → eqb b BLANK ≡ t → words bs ≡ words (drop (blanks bs) bs) → words (b ∷ bs) ≡ words (drop (blanks (b ∷ bs)) (b ∷ bs))
    go true e more =
        let at : blanks (b ∷ bs) ≡ suc (blanks bs) = rw e (omega arith) in
        let here : words (b ∷ bs) ≡ words bs = rw e refl in
        rw at (here ∙ more)
    go false e more =
        let at : blanks (b ∷ bs) ≡ 0 = rw e refl in
        rw at refl

-- a word that was begun goes on up to the next blank or the text's end
up_to_blank : (word text : List ℕ) → words_after word text ≡ ended (word ++ take (letters text) text) (words (drop (letters text) text))
unfolding words_after
up_to_blank word [] = ap (λ w. ended w []) (sym (append-nil word))
up_to_blank word (b ∷ bs) = go (eqb b BLANK) refl (up_to_blank (word ++ (b ∷ [])) bs)
  where
    go : (t : Bool) → eqb b BLANK ≡ t → words_after (word ++ (b ∷ [])) bs ≡ ended ((word ++ (b ∷ [])) ++ take (letters bs) bs) (words (drop (letters bs) bs))
        → words_after word (b ∷ bs) ≡ ended (word ++ take (letters (b ∷ bs)) (b ∷ bs)) (words (drop (letters (b ∷ bs)) (b ∷ bs)))
    go true e more =
        let at : letters (b ∷ bs) ≡ 0 = rw e refl in
        let here : words_after word (b ∷ bs) ≡ ended word (words bs) = rw e refl in
        let rest : words (b ∷ bs) ≡ words bs = rw e refl in
        rw at (here ∙ ap (λ ws. ended word ws) (sym rest) ∙ ap (λ w. ended w (words (b ∷ bs))) (sym (append-nil word)))
    go false e more =
        let at : letters (b ∷ bs) ≡ suc (letters bs) = rw e (omega arith) in
        let here : words_after word (b ∷ bs) ≡ words_after (word ++ (b ∷ [])) bs = rw e refl in
        rw at (here ∙ more ∙ ap (λ w. ended w (words (drop (letters bs) bs))) (append_assoc word (b ∷ []) (take (letters bs) bs)))

first_or_end : {X : Type 0} (p : X → Bool) (xs : List X) → unwrap_or (position p xs) (length xs) ≡ position_or_len p xs
first_or_end p xs = grind (arith, nat_tests, prefix_len-le-length)

none_first : {X : Type 0} (p : X → Bool) (xs : List X) → position p xs ≡ None → position_or_len p xs ≡ length xs
none_first p xs e = sym (first_or_end p xs) ∙ ap (λ o. unwrap_or o (length xs)) e

some_first : {X : Type 0} (p : X → Bool) (xs : List X) {i : ℕ} → position p xs ≡ Some i → position_or_len p xs ≡ i
some_first p xs e = sym (first_or_end p xs) ∙ ap (λ o. unwrap_or o (length xs)) e

-- a text of blanks has no words
pub no_words : (text : List ℕ) → position (λ b. not (eqb b BLANK)) text ≡ None → words text ≡ []
unfolding words_after
no_words text e =
    let nothing : drop (blanks text) text ≡ [] = grind (arith, common_steps, none_first (λ b. not (eqb b BLANK)) text e) in
    past_blanks text ∙ ap words nothing

some_word : (word : List ℕ) (rest : List (List ℕ)) → 0 < length word → ended word rest ≡ word ∷ rest
some_word [] rest h = absurd (omega arith)
some_word (b ∷ bs) rest h = refl

-- a text from its first letter on begins with a word
module _ (text : List ℕ) {start n : ℕ} (first : position (λ b. not (eqb b BLANK)) text ≡ Some start) (begun : List ℕ) (cut : begun ≡ drop start text)
    (len : n ≡ unwrap_or (position (λ b. eqb b BLANK) begun) (length begun)) where
  pub word_first : words text ≡ take n begun ∷ words (drop n begun)
  word_first =
      let found = position-Some (λ b. not (eqb b BLANK)) text start 0 first in
      let at : blanks text ≡ start = some_first (λ b. not (eqb b BLANK)) text first in
      let size : n ≡ letters begun = len ∙ first_or_end (λ b. eqb b BLANK) begun in
      let shape : begun ≡ get_or text start 0 ∷ drop (suc start) text = cut ∙ drop-cons text start 0 found.0 in
      let one : letters begun ≡ 1 + letters (drop (suc start) text) = rw (shape, found.1) refl in
      let some : 0 < length (take n begun) = omega (arith, one, size, length-take-le n begun (rw size (prefix_len-le-length _ begun))) in
      past_blanks text ∙ rw at (ap words (sym cut)) ∙ up_to_blank [] begun ∙ ap (λ k. ended (take k begun) (words (drop k begun))) (sym size)
      ∙ some_word (take n begun) (words (drop n begun)) some

-- a text has no more words than bytes
few : (word text : List ℕ) → length (words_after word text) ≤ length word + length text
unfolding words_after
few [] [] = omega arith
few (b ∷ bs) [] = omega arith
few word (b ∷ bs) = go (eqb b BLANK) (omega (arith, few [] bs)) (few (word ++ (b ∷ [])) bs)
  where
    one : (w : List ℕ) (ws : List (List ℕ)) → length (ended w ws) ≤ length w + length ws
    one [] ws = omega arith
    one (x ∷ xs) ws = omega arith

    go : (t : Bool) → length (words bs) ≤ length bs → length (words_after (word ++ (b ∷ [])) bs) ≤ length (word ++ (b ∷ [])) + length bs
        → length (cond t (ended word (words bs)) (words_after (word ++ (b ∷ [])) bs)) ≤ length word + length (b ∷ bs)
    go true h k = omega (arith, one word (words bs))
    go false h k = omega (arith, length-append word (b ∷ []))

pub few_words : (text : List ℕ) → length (words text) ≤ length text
few_words text = omega (arith, few [] text)

-- ---- a word among others

pub same_bytes_lem : (xs ys : List ℕ) → same_bytes xs ys ≡ true → xs ≡ ys
unfolding same_bytes
same_bytes_lem [] [] e = refl
same_bytes_lem (x ∷ xs) (y ∷ ys) e =
    let h = and_parts (eqb x y) (same_bytes xs ys) e in
    let first : x ≡ y = eqb-true x y h.0 in
    let rest : xs ≡ ys = same_bytes_lem xs ys h.1 in
    cc
same_bytes_lem [] (y ∷ ys) e = absurd (let z : ◌≡◌ {A = ℕ} 0 1 = cc in omega arith)
same_bytes_lem (x ∷ xs) [] e = absurd (let z : ◌≡◌ {A = ℕ} 0 1 = cc in omega arith)

same_itself : (xs : List ℕ) → same_bytes xs xs ≡ true
unfolding same_bytes
same_itself [] = refl
same_itself (x ∷ xs) = rw (eq-eqb x x refl) (same_itself xs)

-- what `check::same` says is what the table's search asks
pub told_same : {r : Bool} {xs ys : List ℕ} → (r ≡ true → xs ≡ ys) × (xs ≡ ys → r ≡ true) → same_bytes xs ys ≡ r
told_same {r} {xs} {ys} told = go r (same_bytes xs ys) told.0 told.1 (same_bytes_lem xs ys) (λ e. rw e (same_itself ys))
  where
    go : (r t : Bool) → (r ≡ true → xs ≡ ys) → (xs ≡ ys → r ≡ true) → (t ≡ true → xs ≡ ys) → (xs ≡ ys → t ≡ true) → t ≡ r
    go true t p q is same = same (p refl)
    go false true p q is same = sym (q (is refl))
    go false false p q is same = refl

-- what `==` at slices says
pub told_equal : (xs ys : List ℕ) {r : Bool} → r ≡ pointwise nat_eq xs ys → same_bytes xs ys ≡ r
told_equal xs ys {r} e = told_same (slice_eq-Decides Decides-eqb xs ys r e)

-- the place of a word among others is one where it stands, or past the last
pub placed : (ws : List (List ℕ)) (word : List ℕ)
    → (place_in ws word ≤ length ws) × (place_in ws word < length ws → get_or ws (place_in ws word) [] ≡ word)
unfolding place_in
placed [] word = (omega arith, λ h. absurd (omega arith))
placed (w ∷ ws) word = go (same_bytes word w) (same_bytes_lem word w) (placed ws word)
  where
    go : (b : Bool) → (b ≡ true → word ≡ w) → (place_in ws word ≤ length ws) × (place_in ws word < length ws → get_or ws (place_in ws word) [] ≡ word)
        → (cond b 0 (suc (place_in ws word)) ≤ suc (length ws))
        × (cond b 0 (suc (place_in ws word)) < suc (length ws) → get_or (w ∷ ws) (cond b 0 (suc (place_in ws word))) [] ≡ word)
    go true same more = (omega arith, λ h. sym (same refl))
    go false same more = (omega arith, λ h. more.1 (omega arith))

-- the first place of a word is that of the search
pub first_place : (ws : List (List ℕ)) (word : List ℕ) → unwrap_or (position (same_bytes word) ws) (length ws) ≡ place_in ws word
unfolding place_in
first_place ws word =
    first_or_end (same_bytes word) ws ∙ sym (is_position_or_len (λ ys. place_in ys word) (same_bytes word) refl (λ x xs. ap (λ n. cond (same_bytes word x) 0 n) (omega arith)) ws)
