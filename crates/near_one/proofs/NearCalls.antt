-- Calls whose walks are near, decided. Assumes nothing.
use Rattle.std.specs.Prelude.{◌≡◌, ◌+◌, ◌≤◌, ◌<◌}
use Rattle.kit.specs.Names.{refl, ap, ◌∙◌, false, [], ℕ}
use Rattle.rules.specs.Rules.{Head, Sought, NO-KEY, Rows, Log, table, entries, refusal, carry, sizes_of, bad, step}
use Rattle.undo_log.specs.Settled.{settled, state_with}
use Rattle.roots.specs.declared.near.Near.{Near}
use Rattle.roots.proofs.NearLaws.{Found}
use Rattle.plans.specs.declared.verdict.OneCall.{OneCall}
use Rattle.plans.specs.declared.verdict.TwoCall.{TwoCall}
use Rattle.plans.specs.Plans.{Verdict, MadeOfOne, MadeOfTwo, Inside, fitted}
use Rattle.decisions.specs.Sorted.{one_call, two_call}
use Rattle.decisions.specs.End.{still_todo, verdict_todo}
use Rattle.decisions.specs.Decided.{Does}
use Rattle.decisions.proofs.FitLaws.{fitted_is, fits, inside_fitted}
use Rattle.decisions.proofs.DoesLaws.{calls, verdict_does}
use Rattle.decisions.proofs.WalkedLaws.{one_no_key, one_walks, two_no_first, two_no_second, two_walk, near_one, near_two}

module _ (rs : Rows) (l : Log) (h : Head) (last : ℕ) (m : Sought) (g : bad (sizes_of rs l) h ≡ false) where
  -- ---- one walk

  module _ (key : ℕ) (c : OneCall) where
    pub one_refused : h.count ≤ key → Does rs l h last m (one_call key c) (still_todo (settled (refusal NO-KEY) h))
    one_refused q = calls rs l h last m (one_call key c) g (refusal NO-KEY) (λ ms. one_no_key (table rs l (state_with h last ms)) key c q)

    pub one_decided : key < h.count → (n : Near) → Found rs.parents h.count key n → (v : Verdict) → MadeOfOne rs c n.root n.steps v
        → ((count : ℕ) → n.root < count → Inside count v)
        → Does rs l h last m (one_call key c) (verdict_todo h (fitted h.«open» h.used (entries l) 0 v))
    unfolding step
    one_decided live n f v made inside =
        verdict_does rs l h last m (one_call key c) g (fitted h.«open» h.used (entries l) 0 v) (fits h.«open» h.used (entries l) 0 v)
        (inside_fitted h.count h.«open» h.used (entries l) 0 v (inside h.count f.root))
        (λ ms.
        let t = table rs l (state_with h last ms) in
        fitted_is t [] 0 refl v ∙ ap (carry t) (near_one rs h.count key n f c v made) ∙ one_walks t key c live ∙ rw g)

  -- ---- two walks

  module _ (a b : ℕ) (c : TwoCall) where
    pub two_refused_first : h.count ≤ a → Does rs l h last m (two_call a b c) (still_todo (settled (refusal NO-KEY) h))
    two_refused_first q =
        calls rs l h last m (two_call a b c) g (refusal NO-KEY) (λ ms. two_no_first (table rs l (state_with h last ms)) a b c q)

    module _ (la : a < h.count) where
      pub two_refused_second : h.count ≤ b → Does rs l h last m (two_call a b c) (still_todo (settled (refusal NO-KEY) h))
      two_refused_second q =
          calls rs l h last m (two_call a b c) g (refusal NO-KEY) (λ ms. two_no_second (table rs l (state_with h last ms)) a b c la q)

      pub two_decided : b < h.count → (n k : Near) → Found rs.parents h.count a n → Found rs.parents h.count b k → (v : Verdict)
          → MadeOfTwo rs c n.root k.root (n.steps + k.steps) v → ((count : ℕ) → n.root < count → k.root < count → Inside count v)
          → Does rs l h last m (two_call a b c) (verdict_todo h (fitted h.«open» h.used (entries l) 0 v))
      unfolding step
      two_decided lb n k f q v made inside =
          verdict_does rs l h last m (two_call a b c) g (fitted h.«open» h.used (entries l) 0 v)
          (fits h.«open» h.used (entries l) 0 v)
          (inside_fitted h.count h.«open» h.used (entries l) 0 v (inside h.count f.root q.root))
          (λ ms.
          let t = table rs l (state_with h last ms) in
          fitted_is t [] 0 refl v ∙ ap (carry t) (near_two rs h.count a b n k f q c v made) ∙ two_walk t a b c la lb ∙ rw g)
