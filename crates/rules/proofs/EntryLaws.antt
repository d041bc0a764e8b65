-- Laws of entries: what is put is read back. Assumes nothing.
use Rattle.std.specs.Prelude.{◌≡◌, ◌∷◌, ◌+◌, ◌*◌, ◌≤◌, ◌<◌}
use Rattle.kit.specs.Names.{refl, ◌∙◌, [], ℕ, length, length-set, get_or, set, get_or-set_same, get_or-set_other, arith, eq-eqb, ne_eqb}
use Rattle.rules.specs.declared.table.Owner.TheVariants.{Tenant}
use Rattle.rules.specs.declared.table.UndoLog.TheVariants.{NewElem, SetElem}
use Rattle.rules.specs.Rules.{ENTRY, KIND-NEW, KIND-SET, Rows, Log, amount_of, low_of, high_of, owner_of, number_of, value, row, row_at, entry_at, put_entry}
use Rattle.rules.proofs.RowLaws.{number_owner, joined}

-- The order of an entry's words, at the second of two.
layout : put_entry (0 ∷ 0 ∷ 0 ∷ 0 ∷ 0 ∷ 0 ∷ 0 ∷ 0 ∷ 0 ∷ 0 ∷ 0 ∷ 0 ∷ 0 ∷ 0 ∷ []) 1 (SetElem 3 (row 4 5 (value (Tenant 6) 34359738375)))
    ≡ 0 ∷ 0 ∷ 0 ∷ 0 ∷ 0 ∷ 0 ∷ 0 ∷ 2 ∷ 3 ∷ 4 ∷ 5 ∷ 6 ∷ 7 ∷ 8 ∷ []
layout = refl

-- the words of an entry, written one after another
module _ (l : Log) (u kind key parent rank number low high : ℕ) (h : u * ENTRY + ENTRY ≤ length l) where
  abbrev b : ℕ
  b = u * ENTRY

  abbrev w1 : Log
  w1 = set l b kind

  abbrev w2 : Log
  w2 = set w1 (b + 1) key

  abbrev w3 : Log
  w3 = set w2 (b + 2) parent

  abbrev w4 : Log
  w4 = set w3 (b + 3) rank

  abbrev w5 : Log
  w5 = set w4 (b + 4) number

  abbrev w6 : Log
  w6 = set w5 (b + 5) low

  abbrev whole : Log
  whole = set w6 (b + 6) high

  -- what stands before a word is left by it and all that follow
  past_high : (j : ℕ) → j < b + 6 → get_or whole j 0 ≡ get_or w6 j 0
  past_high j q = get_or-set_other w6 (b + 6) j high 0 (λ e. omega (arith, q, e))

  past_low : (j : ℕ) → j < b + 5 → get_or whole j 0 ≡ get_or w5 j 0
  past_low j q = past_high j (omega (arith, q)) ∙ get_or-set_other w5 (b + 5) j low 0 (λ e. omega (arith, q, e))

  past_number : (j : ℕ) → j < b + 4 → get_or whole j 0 ≡ get_or w4 j 0
  past_number j q = past_low j (omega (arith, q)) ∙ get_or-set_other w4 (b + 4) j number 0 (λ e. omega (arith, q, e))

  past_rank : (j : ℕ) → j < b + 3 → get_or whole j 0 ≡ get_or w3 j 0
  past_rank j q = past_number j (omega (arith, q)) ∙ get_or-set_other w3 (b + 3) j rank 0 (λ e. omega (arith, q, e))

  past_parent : (j : ℕ) → j < b + 2 → get_or whole j 0 ≡ get_or w2 j 0
  past_parent j q = past_rank j (omega (arith, q)) ∙ get_or-set_other w2 (b + 2) j parent 0 (λ e. omega (arith, q, e))

  past_key : (j : ℕ) → j < b + 1 → get_or whole j 0 ≡ get_or w1 j 0
  past_key j q = past_parent j (omega (arith, q)) ∙ get_or-set_other w1 (b + 1) j key 0 (λ e. omega (arith, q, e))

  kind_back : get_or whole b 0 ≡ kind
  kind_back = past_key b (omega arith) ∙ get_or-set_same l b kind 0 (omega (arith, h))

  key_back : get_or whole (b + 1) 0 ≡ key
  key_back = past_parent (b + 1) (omega arith) ∙ get_or-set_same w1 (b + 1) key 0 (simp length-set (omega (arith, h)))

  parent_back : get_or whole (b + 2) 0 ≡ parent
  parent_back = past_rank (b + 2) (omega arith) ∙ get_or-set_same w2 (b + 2) parent 0 (simp length-set (omega (arith, h)))

  rank_back : get_or whole (b + 3) 0 ≡ rank
  rank_back = past_number (b + 3) (omega arith) ∙ get_or-set_same w3 (b + 3) rank 0 (simp length-set (omega (arith, h)))

  number_back : get_or whole (b + 4) 0 ≡ number
  number_back = past_low (b + 4) (omega arith) ∙ get_or-set_same w4 (b + 4) number 0 (simp length-set (omega (arith, h)))

  low_back : get_or whole (b + 5) 0 ≡ low
  low_back = past_high (b + 5) (omega arith) ∙ get_or-set_same w5 (b + 5) low 0 (simp length-set (omega (arith, h)))

  high_back : get_or whole (b + 6) 0 ≡ high
  high_back = get_or-set_same w6 (b + 6) high 0 (simp length-set (omega (arith, h)))

  new_read : kind ≡ KIND-NEW → entry_at whole u ≡ NewElem key
  new_read q = rw (eq-eqb (get_or whole b 0) KIND-NEW (kind_back ∙ q), key_back)

  changed_read : kind ≡ KIND-SET → entry_at whole u ≡ SetElem key (row parent rank (value (owner_of number) (amount_of low high)))
  changed_read q =
      let k : get_or whole b 0 ≡ KIND-SET = kind_back ∙ q in
      rw (ne_eqb (get_or whole b 0) KIND-NEW (λ e. omega (arith, k, e)), eq-eqb (get_or whole b 0) KIND-SET k, key_back, parent_back, rank_back, number_back, low_back, high_back)

module _ (l : Log) (u key : ℕ) (h : u * ENTRY + ENTRY ≤ length l) where
  -- A new key's entry is read back.
  pub new_back : entry_at (put_entry l u (NewElem key)) u ≡ NewElem key
  new_back = new_read l u KIND-NEW key 0 0 0 0 0 h refl

  -- A logged row is read back as it was.
  pub changed_back : (rs : Rows) (i : ℕ) → entry_at (put_entry l u (SetElem key (row_at rs i))) u ≡ SetElem key (row_at rs i)
  changed_back rs i =
      let r = row_at rs i in
      changed_read l u KIND-SET key r.parent r.rank (number_of r.owner) (low_of r.amount) (high_of r.amount) h refl ∙ rw (number_owner, joined)
