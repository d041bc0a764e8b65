-- What is read after a row or an entry is written: at its place what was written, elsewhere what was there. Assumes nothing.
use Rattle.std.specs.Prelude.{◌≡◌, ◌∷◌, ◌≢◌, ◌+◌, ◌*◌, ◌<◌}
use Rattle.kit.specs.Names.{refl, ap, ◌∙◌, List, [], ℕ, length, length-set, get_or, set, lit<, get_or-set_same, get_or-set_other, arith, ℕ_discrete, eq-eqb, ne_eqb}
use Rattle.rules.specs.Rules.{Owner, Row, UndoLog, CROWN, ENTRY, Rows, Log, owner_of, number_of, value, row, row_at, put_crown, put_row, low_of, high_of, kind_of}
use Rattle.rules.specs.Rules.{key_of, old_of, entry_at, put_entry, WideRows, WideLog}
use Rattle.rules.specs.declared.table.Owner.TheVariants.{Nobody, Tenant}

-- ---- "Owner 0, in lent numbers or in a call, means none": no owner that is read has the number 0

abbrev pub Real : Owner → Type 0
Real o = o ≢ Tenant 0

pub owner_of_number : (o : Owner) → Real o → owner_of (number_of o) ≡ o
owner_of_number Nobody real = refl
owner_of_number (Tenant n) real = rw (ne_eqb n 0 (λ e. real (ap Tenant e)))

pub real_owner : (n : ℕ) → Real (owner_of n)
real_owner n e = elim (ℕ_discrete n 0) [
  | yes q ↦ (let z : Nobody ≡ Tenant 0 = rw (eq-eqb n 0 q) at e in let y : ◌≡◌ {A = ℕ} 0 1 = cc in omega arith)
  | no d ↦ (let z : Tenant n ≡ Tenant 0 = rw (ne_eqb n 0 d) at e in d (cc))
]

pub row_real : (rs : Rows) (i : ℕ) → Real (row_at rs i).owner
row_real rs i = real_owner (get_or rs.crowns (i * CROWN + 1) 0)

-- ---- a row

module _ (rs : Rows) (i : ℕ) (r : Row) where
  -- Whoever the owner is.
  pub row_read : (n : ℕ) → WideRows rs n → i < n
      → row_at (put_row rs i r) i ≡ row r.parent r.rank (value (owner_of (number_of r.owner)) r.amount)
  row_read n w h =
      let b = i * CROWN in
      let ranked : List ℕ = set rs.crowns b r.rank in
      rw (
        get_or-set_same rs.parents i r.parent 0 (omega (arith, w, h)),
        get_or-set_other ranked (b + 1) b (number_of r.owner) 0 (λ e. omega arith),
        get_or-set_same rs.crowns b r.rank 0 (omega (arith, w, h)),
        get_or-set_same ranked (b + 1) (number_of r.owner) 0 (simp length-set (omega (arith, w, h))),
        get_or-set_same rs.amounts i r.amount 0 (omega (arith, w, h)),
      )

  pub row_hit : (n : ℕ) → WideRows rs n → i < n → Real r.owner → row_at (put_row rs i r) i ≡ r
  row_hit n w h real =
      row_read n w h ∙ ap (λ (o : Owner). row r.parent r.rank (value o r.amount)) (owner_of_number r.owner real)

  crown_miss : (p : ℕ) → p ≢ i * CROWN → p ≢ i * CROWN + 1 → get_or (put_crown rs.crowns i r.rank r.owner) p 0 ≡ get_or rs.crowns p 0
  crown_miss p d d' =
      let b = i * CROWN in
      get_or-set_other (set rs.crowns b r.rank) (b + 1) p (number_of r.owner) 0 d' ∙ get_or-set_other rs.crowns b p r.rank 0 d

  pub row_miss : (j : ℕ) → j ≢ i → row_at (put_row rs i r) j ≡ row_at rs j
  row_miss j d =
      rw (
        get_or-set_other rs.parents i j r.parent 0 d,
        crown_miss (j * CROWN) (λ e. d (omega (arith, e))) (λ e. omega (arith, e)),
        crown_miss (j * CROWN + 1) (λ e. omega (arith, e)) (λ e. d (omega (arith, e))),
        get_or-set_other rs.amounts i j r.amount 0 d,
      )

  pub wide_put : (n : ℕ) → WideRows rs n → WideRows (put_row rs i r) n
  wide_put n w = record {
    parents = length-set rs.parents i r.parent ∙ w.parents;
    crowns = simp length-set w.crowns;
    amounts = length-set rs.amounts i r.amount ∙ w.amounts;
  }

-- ---- an entry

-- Numbers written, each at its place.
abbrev sets : Log → List (ℕ × ℕ) → Log
sets l [] = l
sets l (x ∷ xs) = sets (set l x.0 x.1) xs

abbrev Away : ℕ → List (ℕ × ℕ) → Type 0
Away p [] = Unit {0}
Away p (x ∷ xs) = (p ≢ x.0) × Away p xs

sets_miss : (l : Log) (xs : List (ℕ × ℕ)) (p : ℕ) → Away p xs → get_or (sets l xs) p 0 ≡ get_or l p 0
sets_miss l [] p away = refl
sets_miss l (x ∷ xs) p away = sets_miss (set l x.0 x.1) xs p away.1 ∙ get_or-set_other l x.0 p x.1 0 away.0

sets_length : (l : Log) (xs : List (ℕ × ℕ)) → length (sets l xs) ≡ length l
sets_length l [] = refl
sets_length l (x ∷ xs) = sets_length (set l x.0 x.1) xs ∙ length-set l x.0 x.1

module _ (l : Log) (u : ℕ) (e : UndoLog) where
  abbrev numbers : List (ℕ × ℕ)
  numbers =
      let b = u * ENTRY in
      let r = old_of e in
      (b, kind_of e) ∷ (b + 1, key_of e) ∷ (b + 2, r.parent) ∷ (b + 3, r.rank) ∷ (b + 4, number_of r.owner) ∷ (b + 5, low_of r.amount)
      ∷ (b + 6, high_of r.amount) ∷ []

  -- A number of another entry.
  number_miss : (j k : ℕ) → j ≢ u → k < ENTRY → (p : ℕ) → p ≡ j * ENTRY + k → get_or (put_entry l u e) p 0 ≡ get_or l p 0
  number_miss j k d h p q =
      let far : (m : ℕ) → m < ENTRY → p ≢ u * ENTRY + m = λ m less z. d (omega (arith, h, q, less, z)) in
      sets_miss l numbers p
      (λ z. far 0 (lit< tt) (omega (arith, z)), (far 1 (lit< tt), (far 2 (lit< tt), (far 3 (lit< tt), (far 4 (lit< tt), (far 5 (lit< tt), (far 6 (lit< tt), tt)))))))

  pub entry_miss : (j : ℕ) → j ≢ u → entry_at (put_entry l u e) j ≡ entry_at l j
  entry_miss j d =
      let b = j * ENTRY in
      rw (
        number_miss j 0 d (lit< tt) b (omega arith),
        number_miss j 1 d (lit< tt) (b + 1) refl,
        number_miss j 2 d (lit< tt) (b + 2) refl,
        number_miss j 3 d (lit< tt) (b + 3) refl,
        number_miss j 4 d (lit< tt) (b + 4) refl,
        number_miss j 5 d (lit< tt) (b + 5) refl,
        number_miss j 6 d (lit< tt) (b + 6) refl,
      )

  pub wide_entry : (n : ℕ) → WideLog l n → WideLog (put_entry l u e) n
  wide_entry n w = sets_length l numbers ∙ w
