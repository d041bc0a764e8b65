-- What BAD_STATE shuts out, as facts. Assumes nothing.
use Rattle.std.specs.Prelude.{◌≡◌, ◌∷◌, ◌*◌, ◌%◌, ◌/◌, ◌≤◌}
use Rattle.kit.specs.Names.{refl, ◌∙◌, Bool, true, false, cond, List, [], ℕ, eqb, ℕ_discrete, le-ltb, eq-eqb, ne_eqb, ltb-false, eqb-true, not-false}
use Rattle.rules.specs.Rules.{Head, MAX-ROWS, MAX-ENTRIES, MAX-OPEN, CROWN, ENTRY, Sizes, any, differ, stray, faults, bad}

-- Every row has its parent, its crown and its amount, and the log ends with an entry; all within the limits.
pub record Level (z : Sizes) : Type 0 where
  pub rows : z.parents ≤ MAX-ROWS
  pub log : z.log ≤ MAX-ENTRIES * ENTRY
  pub crowns : z.crowns ≡ z.parents * CROWN
  pub amounts : z.amounts ≡ z.parents
  pub whole : z.log % ENTRY ≡ 0

pub record Good (z : Sizes) (h : Head) : Type 0 where
  pub level : Level z
  pub count : h.count ≤ z.parents
  pub used : h.used ≤ z.log / ENTRY
  pub opened : h.«open» ≤ MAX-OPEN
  pub shut : h.«open» ≡ 0 → h.used ≡ 0

abbrev Falses : List Bool → Type 0
Falses [] = Unit {0}
Falses (b ∷ bs) = (b ≡ false) × Falses bs

any_false : (b : Bool) (bs : List Bool) → any (b ∷ bs) ≡ false → (b ≡ false) × (any bs ≡ false)
any_false true bs e = (e, cc)
any_false false bs e = (refl, e)

-- None of the tests is true.
pub any_falses : (bs : List Bool) → any bs ≡ false → Falses bs
any_falses [] e = tt
any_falses (b ∷ bs) e = let h = any_false b bs e in (h.0, any_falses bs h.1)

-- Two lengths that do not differ are equal.
pub same : (a b : ℕ) → differ a b ≡ false → a ≡ b
same a b e = eqb-true a b (not-false (eqb a b) e)

unused : (o u : ℕ) → cond (eqb o 0) (differ u 0) false ≡ false → o ≡ 0 → u ≡ 0
unused o u e q = same u 0 (rw (eq-eqb o 0 q) at e)

idle : (o u : ℕ) → (o ≡ 0 → u ≡ 0) → cond (eqb o 0) (differ u 0) false ≡ false
idle o u h = elim (ℕ_discrete o 0) [ yes q ↦ rw (eq-eqb o 0 q, eq-eqb u 0 (h q)) | no n ↦ rw (ne_eqb o 0 n) ]

-- All of `Good` but that nothing is used where nothing is open: a damaged outermost mark can leave that after a rollback.
pub record Roomy (z : Sizes) (h : Head) : Type 0 where
  pub level : Level z
  pub count : h.count ≤ z.parents
  pub used : h.used ≤ z.log / ENTRY
  pub opened : h.«open» ≤ MAX-OPEN

as_tested : (b : Bool) → cond b true false ≡ b
as_tested true = refl
as_tested false = refl

module _ (z : Sizes) (h : Head) where
  -- What is left to be tested of a roomy head decides.
  pub roomy_bad : Roomy z h → bad z h ≡ stray h
  unfolding bad
  roomy_bad r =
      rw (
        le-ltb MAX-ROWS z.parents r.level.rows,
        le-ltb (MAX-ENTRIES * ENTRY) z.log r.level.log,
        eq-eqb z.crowns (z.parents * CROWN) r.level.crowns,
        eq-eqb z.amounts z.parents r.level.amounts,
        eq-eqb (z.log % ENTRY) 0 r.level.whole,
        le-ltb z.parents h.count r.count,
        le-ltb (z.log / ENTRY) h.used r.used,
        le-ltb MAX-OPEN h.«open» r.opened,
      ) (as_tested (stray h))

  pub good_roomy : Good z h → Roomy z h
  good_roomy g = record { level = g.level; count = g.count; used = g.used; opened = g.opened }

  pub good_bad : Good z h → bad z h ≡ false
  good_bad g = roomy_bad (good_roomy g) ∙ idle h.«open» h.used g.shut

  pub bad_good : bad z h ≡ false → Good z h
  unfolding bad
  bad_good e =
      let f = any_falses (faults z h) e in
      record {
        level = record {
          rows = ltb-false MAX-ROWS z.parents f.0;
          log = ltb-false (MAX-ENTRIES * ENTRY) z.log f.1.0;
          crowns = same z.crowns (z.parents * CROWN) f.1.1.0;
          amounts = same z.amounts z.parents f.1.1.1.0;
          whole = same (z.log % ENTRY) 0 f.1.1.1.1.0;
        };
        count = ltb-false z.parents h.count f.1.1.1.1.1.0;
        used = ltb-false (z.log / ENTRY) h.used f.1.1.1.1.1.1.0;
        opened = ltb-false MAX-OPEN h.«open» f.1.1.1.1.1.1.1.0;
        shut = unused h.«open» h.used f.1.1.1.1.1.1.1.1.0;
      }
