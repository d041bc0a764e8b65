-- One walk: what the code makes of where it leads is what the rules make of it. Assumes nothing.
use Rattle.std.specs.Prelude.{◌≡◌, Ok, Err}
use Rattle.kit.specs.Names.{ap, sym, ◌∙◌, ℕ}
use Rattle.rules.specs.Rules.{Answer, Row, Value, Merged, DONE, Rows, row_at, value_of, found, probed, stepped, merge}
use Rattle.rules.specs.declared.table.MergeError.{MergeError}
use Rattle.rules.specs.declared.table.MergeError.TheVariants.{Clash, TooMuch}
use Rattle.plans.specs.declared.verdict.Root.{Root}
use Rattle.plans.specs.declared.verdict.Finish.TheVariants.{Crown}
use Rattle.plans.specs.declared.verdict.OneCall.TheVariants.{Find, Probe, ProbeKey}
use Rattle.plans.specs.Plans.{planned, still, unmerged, MadeOfOne, Posted}

module _ (rs : Rows) (root s : ℕ) (a : Answer) where
  pub find_is : a ≡ found root s → MadeOfOne rs Find root s (Ok (still a))
  find_is h ps ws = rw h

  module _ (v : Value) (held : Row) (q : v ≡ value_of held) (k : held ≡ row_at rs root) where
    pub probe_is : a ≡ probed 0 v s → MadeOfOne rs Probe root s (Ok (still a))
    probe_is h ps ws = rw (h, q, k)

    pub probe_key_is : a ≡ probed root v s → MadeOfOne rs ProbeKey root s (Ok (still a))
    probe_key_is h ps ws = rw (h, q, k)

-- A merge decides.
module _ (root : Root) (s : ℕ) (w : Value) where
  at_root : (x : Merged) → merge (value_of root.row) w ≡ x → (rs : Rows) → root.row ≡ row_at rs root.key
      → merge (value_of (row_at rs root.key)) w ≡ x
  at_root x m rs k = ap (λ (r : Row). merge (value_of r) w) (sym k) ∙ m

  pub post_failed : (why : MergeError) → merge (value_of root.row) w ≡ Err why → Posted root s w (Ok (unmerged why s))
  post_failed Clash m rs k ps ws = rw (at_root (Err Clash) m rs k)
  post_failed TooMuch m rs k ps ws = rw (at_root (Err TooMuch) m rs k)

  pub post_both : (sum : Value) → merge (value_of root.row) w ≡ Ok sum → (a : Answer) → a ≡ stepped DONE s
      → Posted root s w (Ok (planned a (Crown root.key root.row.rank sum)))
  post_both sum m a h rs k ps ws = rw (h, at_root (Ok sum) m rs k, ap (λ (r : Row). r.rank) k)
