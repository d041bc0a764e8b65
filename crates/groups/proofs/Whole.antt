-- What holds of the groups that accepted deeds make: each key has a live root that is its own root, and a root of rank r has at least
-- 2^r keys in its group.
use Rattle.std.specs.Prelude.{◌≡◌, ◌∷◌, ◌≢◌, ◌⊎◌, ◌+◌, ◌^◌, ◌≤◌, ◌<◌, Ok}
use Rattle.kit.specs.Names.{refl, sym, ap, ◌∙◌, subst⁻¹, cond, List, [], inl, inr, ℕ, suc, ltb, lit<, arith, add-one, le_refl, le_trans, lt_of_not-le}
use Rattle.kit.specs.Names.{not-le_of_lt, le_of_suc-le-suc, not-suc-le-zero, eq-eqb, ne_eqb, ltb-true, ltb-false}
use lib.Pow.{pow_mono}
use Rattle.rules.specs.Rules.{Value, merge, MAX-ROWS, MAX-RANK}
use Rattle.groups.specs.Sums.{total, ones, size}
use Rattle.groups.specs.Groups.{Groups, no_groups, Deed, created, joined, posted, at, shift, hung, raised, group_step, replay, Accepts, Accepted}
use Rattle.groups.proofs.Tools.{cases, by_same, up_to, either}
use Rattle.groups.proofs.SumLaws.{at_hit, at_miss, shift_hit, shift_miss, due_hit, total_shift, total_shift_other, size_le}

pub record Whole (g : Groups) : Type 0 where
  pub outside : (i : ℕ) → g.count ≤ i → g.root i ≡ i
  pub within : (i : ℕ) → i < g.count → g.root i < g.count
  pub settled : (i : ℕ) → g.root (g.root i) ≡ g.root i
  pub big : (r : ℕ) → r < g.count → g.root r ≡ r → 2 ^ g.rank r ≤ size g.root g.count r

-- ---- the ranks of a join

-- The rank k that a root of rank `to` gets from one of rank `from` that is hung under it.
pub record Ranked (from to k : ℕ) : Type 0 where
  pub above : from < k
  pub stays : to ≤ k
  pub doubles : 2 ^ k ≤ 2 ^ from + 2 ^ to

raised_ranked : (other own : ℕ) → other ≤ own → Ranked other own (raised other own)
raised_ranked other own h =
    cases (ltb other own)
    (λ e. rw e (let l = ltb-true other own e in record { above = l; stays = le_refl own; doubles = omega arith }))
    (λ e. let q : other ≡ own = omega (arith, ltb-false other own e) in
    rw e (record { above = omega arith; stays = omega arith; doubles = rw (q, add-one own) (omega arith) }))

-- However the choice by rank falls out, in whatever is chosen by it.
pub by_rank : {A B : Type 0} (P : A → B → Type 0) (ra rb : ℕ) (x y : ℕ → A) (u w : ℕ → B)
    → ((k : ℕ) → Ranked rb ra k → P (x k) (u k)) → ((k : ℕ) → Ranked ra rb k → P (y k) (w k))
    → P (cond (ltb rb ra) (x ra) (y (raised ra rb))) (cond (ltb rb ra) (u ra) (w (raised ra rb)))
by_rank P ra rb x y u w f g =
    cases (ltb rb ra)
    (λ e. rw e (f ra (let h = ltb-true rb ra e in record { above = h; stays = le_refl ra; doubles = omega arith })))
    (λ e. rw e (g (raised ra rb) (raised_ranked ra rb (ltb-false rb ra e))))

-- ---- a join that is accepted

-- One of two different roots is hung under the other, with this rank and value.
pub record Hangs (g : Groups) (a b low high k : ℕ) (v : Value) : Type 0 where
  pub low_live : low < g.count
  pub high_live : high < g.count
  pub low_root : g.root low ≡ low
  pub high_root : g.root high ≡ high
  pub apart : low ≢ high
  pub ranked : Ranked (g.rank low) (g.rank high) k
  pub merged : merge (g.value (g.root a)) (g.value (g.root b)) ≡ Ok v
  pub which : ((low ≡ g.root a) × (high ≡ g.root b)) ⊎ ((low ≡ g.root b) × (high ≡ g.root a))

-- A root afterwards is `high`, or it was a root before, and neither of the two.
pub hung_roots : {g : Groups} {a b low high k : ℕ} {v : Value} → Hangs g a b low high k v → (q : ℕ) → shift g.root low high q ≡ q
    → (q ≡ high) ⊎ ((q ≢ low) × (q ≢ high) × (g.root q ≡ q))
hung_roots {g} {a} {b} {low} {high} H q e =
    by_same (g.root q) low
    (λ z. inl (sym e ∙ shift_hit g.root low high q z))
    (λ z. by_same q high (λ m. inl m) (λ m. inr (
      λ y. z (ap g.root y ∙ H.low_root),
      m,
      sym (shift_miss g.root low high q z) ∙ e,
    )))

-- Either way round.
module _ (g : Groups) (W : Whole g) (a b : ℕ) (ha : a < g.count) (hb : b < g.count) (d : g.root a ≢ g.root b) (v : Value)
    (m : merge (g.value (g.root a)) (g.value (g.root b)) ≡ Ok v) (k : ℕ) where
  pub hangs_a : Ranked (g.rank (g.root a)) (g.rank (g.root b)) k → Hangs g a b (g.root a) (g.root b) k v
  hangs_a q = record {
    low_live = W.within a ha;
    high_live = W.within b hb;
    low_root = W.settled a;
    high_root = W.settled b;
    apart = d;
    ranked = q;
    merged = m;
    which = inl (refl, refl);
  }

  pub hangs_b : Ranked (g.rank (g.root b)) (g.rank (g.root a)) k → Hangs g a b (g.root b) (g.root a) k v
  hangs_b q = record {
    low_live = W.within b hb;
    high_live = W.within a ha;
    low_root = W.settled b;
    high_root = W.settled a;
    apart = λ z. d (sym z);
    ranked = q;
    merged = m;
    which = inr (refl, refl);
  }

-- The roots were the same and nothing moves, or one group is hung under the other.
pub join_cases : (P : Groups → Type 0) (g : Groups) → Whole g → (a b : ℕ) → Accepts g (joined a b)
    → (g.root a ≡ g.root b → P g) → ((low high k : ℕ) (v : Value) → Hangs g a b low high k v → P (hung g low high k v))
    → P (group_step g (joined a b))
unfolding group_step
join_cases P g W a b acc f h =
    let (ha, hb, t) = acc in
    let r : ℕ = g.root a in
    let s : ℕ = g.root b in
    by_same r s
    (λ e. rw (eq-eqb r s e) (f e))
    (λ d. either t (λ e. absurd (d e)) (λ m. rw (ne_eqb r s d, m.1)
    (by_rank (λ (_ : ℕ) (g' : Groups). P g') (g.rank r) (g.rank s) (λ k. k) (λ k. k) (λ k. hung g s r k m.0)
    (λ k. hung g r s k m.0)
    (λ k q. h s r k m.0 (hangs_b g W a b ha hb d m.0 m.1 k q))
    (λ k q. h r s k m.0 (hangs_a g W a b ha hb d m.0 m.1 k q)))))

-- ---- each step

module _ {g : Groups} (W : Whole g) where
  pub hung_whole : (a b low high k : ℕ) (v : Value) → Hangs g a b low high k v → Whole (hung g low high k v)
  hung_whole a b low high k v H =
      let d : low ≢ high = H.apart in
      let el : g.root low ≡ low = H.low_root in
      let eh : g.root high ≡ high = H.high_root in
      let root : ℕ → ℕ = g.root in
      let stays : (i : ℕ) → root i ≢ low → shift root low high (root i) ≡ root i =
      λ i q. shift_miss root low high (root i) (λ z. q (sym (W.settled i) ∙ z)) ∙ W.settled i in
      let top : shift root low high high ≡ high = shift_miss root low high high (λ z. d (sym z ∙ eh)) ∙ eh in
      record {
        outside = λ i h. shift_miss root low high i (λ e. omega (arith, W.outside i h, H.low_live)) ∙ W.outside i h;
        within = λ i h. by_same (root i) low
            (λ e. rw (shift_hit root low high i e) H.high_live)
            (λ e. rw (shift_miss root low high i e) (W.within i h));
        settled = λ i. by_same (root i) low
            (λ e. ap (shift root low high) (shift_hit root low high i e) ∙ top ∙ sym (shift_hit root low high i e))
            (λ e. ap (shift root low high) (shift_miss root low high i e) ∙ stays i e ∙ sym (shift_miss root low high i e));
        big = λ q h e. either (hung_roots H q e)
            (λ m. subst⁻¹ (λ (z : ℕ). 2 ^ at high k g.rank z ≤ size (shift root low high) g.count z) m
            (rw (at_hit high k g.rank high refl, total_shift root low high d (ones g.count))
            (omega (arith, H.ranked.doubles, W.big low H.low_live el, W.big high H.high_live eh))))
            (λ m. rw (at_miss high k g.rank q m.1, total_shift_other root low high q m.0 m.1 (ones g.count))
            (W.big q h m.2));
      }

  pub step_whole : (d : Deed) → Accepts g d → Whole (group_step g d)
  unfolding group_step total
  step_whole (created key v) e =
      let n : ℕ = g.count in
      let own : g.root n ≡ n = W.outside n (le_refl n) in
      record {
        outside = λ i h. W.outside i (omega arith);
        within = λ i h. up_to n i h (λ m. rw (m, own) (le_refl (suc n))) (λ q. omega (arith, W.within i q));
        settled = W.settled;
        big = λ r h m. up_to n r h
            (λ q. rw (at_hit key 0 g.rank r (q ∙ sym e)) (omega (arith, due_hit g.root r n 1 (own ∙ sym q))))
            (λ q. rw (at_miss key 0 g.rank r (λ z. omega arith)) (omega (arith, W.big r q m)));
      }
  step_whole (joined a b) acc = join_cases Whole g W a b acc (λ _. W) (hung_whole a b)
  step_whole (posted key v) acc =
      rw acc.1.1 (record { outside = W.outside; within = W.within; settled = W.settled; big = W.big })

pub no_groups_lem : Whole no_groups
no_groups_lem = record { outside = λ i h. refl; within = λ i h. h; settled = λ i. refl; big = λ r h. absurd (not-suc-le-zero h) }

pub whole : (ds : List Deed) → Accepted ds → Whole (replay ds)
unfolding replay
whole [] a = no_groups_lem
whole (d ∷ ds) a = step_whole (whole ds a.1) d a.0

-- ---- ranks stay low

small : (k : ℕ) → 2 ^ k ≤ MAX-ROWS → k ≤ MAX-RANK
small k q = le_of_suc-le-suc (lt_of_not-le (λ (g : 17 ≤ k). not-le_of_lt (lit< {m = 65536} {n = 131072} tt) (le_trans (pow_mono g) q)))

pub rank_low : {g : Groups} → Whole g → g.count ≤ MAX-ROWS → (r : ℕ) → r < g.count → g.root r ≡ r → g.rank r ≤ MAX-RANK
rank_low {g} W limit r h e = small (g.rank r) (le_trans (W.big r h e) (le_trans (size_le g.root r g.count) limit))
