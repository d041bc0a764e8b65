-- Laws of pieces that are printed. Assumes nothing.
use Rattle.std.specs.Prelude.{◌≡◌, ◌∷◌, ◌++◌, ◌+◌}
use Rattle.kit.specs.Names.{refl, ap, sym, ◌∙◌, List, [], ℕ, length, paste, add-one}
use Rattle.digits.specs.Printed.{Printed}
use Rattle.show.specs.Pieces.{Page, placed, printing, Said}
use Rattle.show.specs.Shown.{Pieces, each}

-- ---- pieces one after the other

pub printing_append : (b : List ℕ) (at : ℕ) (xs ys : Pieces)
    → printing b at (xs ++ ys) ≡ printing (printing b at xs).bytes (printing b at xs).at ys
unfolding printing
printing_append b at [] ys = refl
printing_append b at (x ∷ xs) ys =
    printing_append (paste b (placed (length b) at) x (length x)) (placed (length b) at + length x) xs ys

pub nothing : {b : List ℕ} {at : ℕ} → Said b b at [] at
unfolding printing
nothing = record { said = refl }

-- a text at the place that is made for it
pub piece : {before cleared after text : List ℕ} {at start end : ℕ} → cleared ≡ before → start ≡ placed (length before) at
    → Printed cleared after start text end → Said before after at (text ∷ []) end
unfolding printing
piece same e p = record { said = rw (p.stands, p.place, same, e) }

-- pieces after pieces
pub then : {before middle after : List ℕ} {xs ys : Pieces} {at mid end : ℕ} → Said before middle at xs mid → Said middle after mid ys end
    → Said before after at (xs ++ ys) end
then {before} {middle} {after} {xs} {ys} {at} p q =
    record {
      said = q.said ∙ ap {B = Page} (λ (g : Page). printing g.bytes g.at ys) p.said ∙ sym (printing_append before at xs ys);
    }

-- the same pieces in other words
pub saying : {before after : List ℕ} {xs ys : Pieces} {at end : ℕ} → xs ≡ ys → Said before after at xs end → Said before after at ys end
saying e p = rw e at p

-- ---- so many

pub none : {b : List ℕ} {at : ℕ} (f : ℕ → Pieces) → Said b b at (each 0 f) at
unfolding each
none f = nothing

pub one_more : {before middle after : List ℕ} {at mid end : ℕ} (i : ℕ) (f : ℕ → Pieces) → Said before middle at (each i f) mid
    → Said middle after mid (f i) end → Said before after at (each (i + 1) f) end
unfolding each
one_more i f p q = rw (add-one i) (then p q)
