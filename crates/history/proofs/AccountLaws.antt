-- The groups that accepted deeds make, and what the deeds come to: links, sums, owners and keys.
use Rattle.std.specs.Prelude.{◌≡◌, ◌∷◌, ◌↔◌, ◌≢◌, ◌+◌, ◌<◌, Ok}
use Rattle.kit.specs.Names.{refl, sym, ap, ap₂, ◌∙◌, List, [], inl, inr, ℕ, suc, eqb, arith, le_refl, not-suc-le-zero, eqb-true, eqb-false, eq-eqb, ne_eqb}
use Rattle.rules.specs.Rules.{Owner, Value, merge}
use Rattle.rules.specs.declared.table.Owner.TheVariants.{Nobody, Tenant}
use Rattle.rules.proofs.MergeLaws.{merge_adds, merge_names}
use Rattle.groups.specs.Sums.{total}
use Rattle.groups.specs.Groups.{Groups, Deed, created, joined, posted, shift, hung, group_step, replay, Accepts, Accepted}
use Rattle.groups.proofs.Tools.{cases, by_same, up_to, either}
use Rattle.groups.proofs.SumLaws.{at_hit, at_miss, due_hit, due_miss, total_shift, total_shift_other, Below, none, more, below_suc, total_none}
use Rattle.groups.proofs.Whole.{Whole, Hangs, hung_roots, join_cases, whole}
use Rattle.history.specs.Account.{joins, credits, byte_seconds, named_by, namings, created_keys, down_from}
use Rattle.history.proofs.LinkLaws.{Links, links_same, links_hung, no_links}

-- ---- naming

pub naming : (n : ℕ) (o : Owner) → (o ≡ Tenant n) ↔ (0 < named_by n o)
naming n Nobody = (λ e. let z : ◌≡◌ {A = ℕ} 0 1 = cc in omega arith, λ h. absurd (not-suc-le-zero h))
naming n (Tenant m) =
    by_same m n
    (λ e. rw (eq-eqb m n e) (λ _. le_refl 1, λ _. ap Tenant e))
    (λ d. rw (ne_eqb m n d) (λ e. absurd (d (cc)), λ h. absurd (not-suc-le-zero h)))

-- ---- what a group's value is to the deeds on its keys

-- Its amount is their sum, and it names whom they name.
pub record Values (v : Value) (bytes : ℕ) (names : ℕ → ℕ) : Type 0 where
  pub sum : v.amount ≡ bytes
  pub owned : (n : ℕ) → (v.owner ≡ Tenant n) ↔ (0 < names n)

-- One deed's value.
values_one : (v : Value) → Values v v.amount (λ n. named_by n v.owner)
values_one v = record { sum = refl; owned = λ n. naming n v.owner }

-- A merge's.
values_both : {v w : Value} {p q : ℕ} {f g : ℕ → ℕ} → Values v p f → Values w q g → (x : Value) → merge v w ≡ Ok x
    → Values x (p + q) (λ n. f n + g n)
values_both {v} {w} {p} {q} {f} {g} P Q x e =
    record {
      sum = merge_adds v w x e ∙ ap₂ (λ (a b : ℕ). a + b) P.sum Q.sum;
      owned = λ n. (
        λ z. either ((merge_names v w x e n).0 z) (λ y. omega (arith, (P.owned n).0 y)) (λ y. omega (arith, (Q.owned n).0 y)),
        λ z. (merge_names v w x e n).1 (cases (eqb (f n) 0)
            (λ y. inr ((Q.owned n).1 (omega (arith, eqb-true (f n) 0 y))))
            (λ y. inl ((P.owned n).1 (omega (arith, eqb-false (f n) 0 y))))),
      );
    }

values_as : {v : Value} {p : ℕ} {f : ℕ → ℕ} → Values v p f → (v' : Value) (p' : ℕ) (f' : ℕ → ℕ) → v' ≡ v → p' ≡ p
    → ((n : ℕ) → f' n ≡ f n) → Values v' p' f'
values_as {v} {p} {f} P v' p' f' a b c =
    record { sum = ap (λ (z : Value). z.amount) a ∙ P.sum ∙ sym b; owned = λ n. rw (a, c n) (P.owned n) }

added : {a b c d : ℕ} → a ≡ c → b ≡ d → a + b ≡ c + d
added e f = ap₂ (λ (x y : ℕ). x + y) e f

-- ---- the account of a list of deeds

pub record Account (g : Groups) (ds : List Deed) : Type 0 where
  pub links : Links (joins ds) g.root
  pub values : (r : ℕ) → r < g.count → g.root r ≡ r
      → Values (g.value r) (total g.root r (byte_seconds ds)) (λ n. total g.root r (namings n ds))
  pub keys : created_keys ds ≡ down_from g.count
  pub below : (weigh : Value → ℕ) → Below g.count (credits weigh ds)

module _ {g : Groups} {ds : List Deed} (W : Whole g) (A : Account g ds) where
  -- ---- a new key

  created_account : (key : ℕ) (v : Value) → key ≡ g.count → Account (group_step g (created key v)) (created key v ∷ ds)
  unfolding group_step total
  created_account key v e =
      let n : ℕ = g.count in
      let own : g.root key ≡ key = W.outside key (omega arith) in
      let live : key < suc n = omega arith in
      let alone : (r : ℕ) → r ≡ key → (weigh : Value → ℕ) → total g.root r (credits weigh ds) ≡ 0 = λ r z weigh.
      total_none g.root r n (λ i h q. omega (arith, W.within i h)) (credits weigh ds) (A.below weigh) in
      record {
        links = A.links;
        values = λ r h m. up_to n r h
            (λ q. let z : r ≡ key = q ∙ sym e in
            values_as (values_one v) _ _ _
            (at_hit key v g.value r z)
            (added (due_hit g.root r key v.amount (own ∙ sym z)) (alone r z (λ v. v.amount)) ∙ omega arith)
            (λ k. added (due_hit g.root r key (named_by k v.owner) (own ∙ sym z)) (alone r z (λ v. named_by k v.owner)) ∙ omega arith))
            (λ q. let d : r ≢ key = λ z. omega arith in
            let d' : g.root key ≢ r = λ z. d (sym z ∙ own) in
            values_as (A.values r q m) _ _ _
            (at_miss key v g.value r d)
            (added (due_miss g.root r key v.amount d') refl ∙ omega arith)
            (λ k. added (due_miss g.root r key (named_by k v.owner) d') refl ∙ omega arith));
        keys = ap₂ (λ (x : ℕ) (xs : List ℕ). x ∷ xs) e A.keys;
        below = λ weigh. more live (below_suc (A.below weigh));
      }

  -- ---- a post

  posted_account : (key : ℕ) (v : Value) → Accepts g (posted key v) → Account (group_step g (posted key v)) (posted key v ∷ ds)
  unfolding group_step total
  posted_account key v acc =
      let (h, (x, e)) = acc in
      let r₀ : ℕ = g.root key in
      rw e (record {
        links = A.links;
        values = λ r hr m. by_same r r₀
            (λ z. values_as (values_both (A.values r₀ (W.within key h) (W.settled key)) (values_one v) x e) _ _ _
            (at_hit r₀ x g.value r z)
            (added (due_hit g.root r key v.amount (sym z)) (ap (λ (i : ℕ). total g.root i (byte_seconds ds)) z) ∙ omega arith)
            (λ k. added (due_hit g.root r key (named_by k v.owner) (sym z)) (ap (λ (i : ℕ). total g.root i (namings k ds)) z) ∙ omega arith))
            (λ d. values_as (A.values r hr m) _ _ _
            (at_miss r₀ x g.value r d)
            (added (due_miss g.root r key v.amount (λ z. d (sym z))) refl ∙ omega arith)
            (λ k. added (due_miss g.root r key (named_by k v.owner) (λ z. d (sym z))) refl ∙ omega arith));
        keys = A.keys;
        below = λ weigh. more h (A.below weigh);
      })

  -- ---- a join

  module _ (a b low high k : ℕ) (v : Value) (H : Hangs g a b low high k v) where
    -- The value is merged from both, whichever is hung under the other.
    hung_values : Values v (total g.root low (byte_seconds ds) + total g.root high (byte_seconds ds)) (λ n. total g.root low (namings n ds) + total g.root high (namings n ds))
    hung_values =
        let L = A.values low H.low_live H.low_root in
        let T = A.values high H.high_live H.high_root in
        either H.which
        (λ q. values_both L T v (ap₂ (λ (x y : ℕ). merge (g.value x) (g.value y)) q.0 q.1 ∙ H.merged))
        (λ q. values_as (values_both T L v (ap₂ (λ (x y : ℕ). merge (g.value x) (g.value y)) q.1 q.0 ∙ H.merged)) _ _ _ refl
        (omega arith) (λ n. omega arith))

    hung_account : Account (hung g low high k v) (joined a b ∷ ds)
    hung_account =
        let root : ℕ → ℕ = shift g.root low high in
        record {
          links = links_hung A.links a b low high H.which;
          values = λ r h m. either (hung_roots H r m)
              (λ z. values_as hung_values _ _ _
              (at_hit high v g.value r z)
              (rw z (total_shift g.root low high H.apart (byte_seconds ds)))
              (λ n. rw z (total_shift g.root low high H.apart (namings n ds))))
              (λ q. values_as (A.values r h q.2) _ _ _
              (at_miss high v g.value r q.1)
              (total_shift_other g.root low high r q.0 q.1 (byte_seconds ds))
              (λ n. total_shift_other g.root low high r q.0 q.1 (namings n ds)));
          keys = A.keys;
          below = A.below;
        }

  joined_account : (a b : ℕ) → Accepts g (joined a b) → Account (group_step g (joined a b)) (joined a b ∷ ds)
  joined_account a b acc =
      join_cases (λ g'. Account g' (joined a b ∷ ds)) g W a b acc
      (λ e. record { links = links_same A.links a b e; values = A.values; keys = A.keys; below = A.below })
      (hung_account a b)

  step_account : (d : Deed) → Accepts g d → Account (group_step g d) (d ∷ ds)
  step_account (created key v) acc = created_account key v acc
  step_account (joined a b) acc = joined_account a b acc
  step_account (posted key v) acc = posted_account key v acc

pub account : (ds : List Deed) → Accepted ds → Account (replay ds) ds
unfolding replay
account [] a = record { links = no_links; values = λ r h. absurd (not-suc-le-zero h); keys = refl; below = λ weigh. none }
account (d ∷ ds) a = step_account (whole ds a.1) (account ds a.1) d a.0
