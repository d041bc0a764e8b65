-- The marks that numbers are, one by one. Assumes nothing.
use Rattle.std.specs.Prelude.{◌≡◌, ◌+◌, ◌<◌}
use Rattle.kit.specs.Names.{sym, ap, ◌∙◌, List, ℕ, length, get_or, set, drop, length-set, length-map, get_or-set_same, get_or-set_other, arith}
use lib.Seq.{ext_get_or}
use native.Mathlib.Decide.{ℕ_discrete}
use Rattle.rules.specs.Rules.{Mark, MAX-OPEN, mark, mark_at}
use Rattle.layout.specs.State.{Sized, marks_of, state_of}
use Rattle.layout.proofs.LayoutLaws.{numbers_state}

-- The first so many of a list are those of the numbers, and there are as many as marks.
pub record SoFar (ns ss : List ℕ) (ms : List Mark) (i : ℕ) : Type 0 where
  pub size : length ms ≡ MAX-OPEN
  pub same : (j : ℕ) → j < i → get_or ms j (mark 0 0 0) ≡ mark_at (state_of ns ss) j

module _ (ns ss : List ℕ) where
  -- one more
  pub one_more : (ms : List Mark) (i : ℕ) (m : Mark) → i < MAX-OPEN → SoFar ns ss ms i → m ≡ mark_at (state_of ns ss) i → SoFar ns ss (set ms i m) (i + 1)
  one_more ms i m h s e =
      let room : i < length ms = omega (arith, s.size) in
      record {
        size = length-set ms i m ∙ s.size;
        same = λ j below. elim (ℕ_discrete j i) [
          | yes q ↦ rw (q, get_or-set_same ms i m (mark 0 0 0)) e
          | no n ↦ get_or-set_other ms i j m (mark 0 0 0) n ∙ s.same j (omega arith)
        ];
      }

  -- all of them
  pub all_marks : Sized ns ss → (ms : List Mark) → SoFar ns ss ms MAX-OPEN → ms ≡ marks_of (drop 3 ns) (drop 1 ss)
  all_marks z ms s =
      let many : length (marks_of (drop 3 ns) (drop 1 ss)) ≡ MAX-OPEN = omega (arith, simp length-map at (ap length (numbers_state ns ss z).1), z.serials) in
      ext_get_or (mark 0 0 0) ms (marks_of (drop 3 ns) (drop 1 ss)) (s.size ∙ sym many) (λ i h. s.same i (omega arith))
