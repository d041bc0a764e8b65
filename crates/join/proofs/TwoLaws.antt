-- Two walks: what the code makes of where they lead is what the rules make of it. Assumes nothing.
use Rattle.std.specs.Prelude.{◌≡◌, ◌++◌, ◌≤◌, ◌<◌}
use Rattle.kit.specs.Names.{ap, ap₂, sym, ◌∙◌, ℕ, eqb, lt-ltb, le-ltb, eq-eqb, ne_eqb}
use Rattle.rules.specs.Rules.{Answer, Row, Value, Merged, DONE, MAX-RANK, Rows, row_at, value_of, said, stepped, merge, plan}
use Rattle.std.specs.Prelude.{Ok, Err}
use Rattle.rules.specs.declared.refusal.Refusal.TheVariants.{BrokenTable}
use Rattle.rules.specs.declared.table.MergeError.{MergeError}
use Rattle.rules.specs.declared.table.MergeError.TheVariants.{Clash, TooMuch}
use Rattle.plans.specs.declared.verdict.Root.{Root}
use Rattle.plans.specs.declared.verdict.Finish.{Finish}
use Rattle.plans.specs.declared.verdict.TwoCall.TheVariants.{Unioned, Join}
use Rattle.plans.specs.Plans.{planned, still, unmerged, finish_of, MadeOfTwo, Joined, united}
use Rattle.plans.proofs.PlanLaws.{and_then_lem}

module _ (rs : Rows) (a b s : ℕ) (x : Answer) where
  pub unioned_is : x ≡ said (eqb a b) s → MadeOfTwo rs Unioned a b s (Ok (still x))
  unioned_is h ps ps' ws ws' sa sb q = rw (h, q)

  pub join_same : a ≡ b → x ≡ stepped DONE s → MadeOfTwo rs Join a b s (Ok (still x))
  join_same e h ps ps' ws ws' sa sb q = rw (h, eq-eqb a b e, q)

module _ (a b : Root) (s : ℕ) where
  pub high_a : MAX-RANK < a.row.rank → Joined a b s (Err BrokenTable)
  high_a t d rs ka kb ps ps' ws ws' sa sb q =
      rw (ne_eqb a.key b.key d, ← ap (λ (r : Row). r.rank) ka, lt-ltb MAX-RANK a.row.rank t)

  module _ (la : a.row.rank ≤ MAX-RANK) where
    pub high_b : MAX-RANK < b.row.rank → Joined a b s (Err BrokenTable)
    high_b t d rs ka kb ps ps' ws ws' sa sb q =
        rw (
          ne_eqb a.key b.key d,
          ← ap (λ (r : Row). r.rank) ka,
          ← ap (λ (r : Row). r.rank) kb,
          le-ltb MAX-RANK a.row.rank la,
          lt-ltb MAX-RANK b.row.rank t,
        )

    module _ (lb : b.row.rank ≤ MAX-RANK) where
      merged_at : (y : Merged) → merge (value_of a.row) (value_of b.row) ≡ y → (rs : Rows) → a.row ≡ row_at rs a.key → b.row ≡ row_at rs b.key
          → merge (value_of (row_at rs a.key)) (value_of (row_at rs b.key)) ≡ y
      merged_at y m rs ka kb = ap₂ (λ (r t : Row). merge (value_of r) (value_of t)) (sym ka) (sym kb) ∙ m

      pub join_failed : (why : MergeError) → merge (value_of a.row) (value_of b.row) ≡ Err why → Joined a b s (Ok (unmerged why s))
      join_failed Clash m d rs ka kb ps ps' ws ws' sa sb q =
          rw (
            ne_eqb a.key b.key d,
            merged_at (Err Clash) m rs ka kb,
            ← ap (λ (r : Row). r.rank) ka,
            ← ap (λ (r : Row). r.rank) kb,
            le-ltb MAX-RANK a.row.rank la,
            le-ltb MAX-RANK b.row.rank lb,
            q,
          )
      join_failed TooMuch m d rs ka kb ps ps' ws ws' sa sb q =
          rw (
            ne_eqb a.key b.key d,
            merged_at (Err TooMuch) m rs ka kb,
            ← ap (λ (r : Row). r.rank) ka,
            ← ap (λ (r : Row). r.rank) kb,
            le-ltb MAX-RANK a.row.rank la,
            le-ltb MAX-RANK b.row.rank lb,
            q,
          )

      pub join_both : (sum : Value) → merge (value_of a.row) (value_of b.row) ≡ Ok sum → (x : Answer) → x ≡ stepped DONE s → (f : Finish)
          → finish_of f ≡ united a b sum → Joined a b s (Ok (planned x f))
      join_both sum m x h f u d rs ka kb ps ps' ws ws' sa sb q =
          ap (plan x) (and_then_lem (ws ++ ws') f)
          ∙ rw (
            h,
            u,
            ne_eqb a.key b.key d,
            merged_at (Ok sum) m rs ka kb,
            ← ap (λ (r : Row). r.rank) ka,
            ← ap (λ (r : Row). r.rank) kb,
            le-ltb MAX-RANK a.row.rank la,
            le-ltb MAX-RANK b.row.rank lb,
            q,
          )
