-- Rows that show groups: what a compression, a join, a post and a new key keep of that.
use Rattle.std.specs.Prelude.{◌≡◌, ◌≢◌, ◌≤◌, ◌<◌}
use Rattle.kit.specs.Names.{refl, sym, ap, ◌∙◌, subst, subst⁻¹, fun_ext, ℕ, suc, arith, le_refl, le_step, le_trans, le_of_eq, not-suc-le-zero}
use Rattle.rules.specs.Rules.{Value, Row, Rows, row, value_of, row_at}
use Rattle.groups.specs.Groups.{Groups, no_groups, created, at, shift, hung, group_step}
use Rattle.groups.specs.Stands.{up, high, LeadsTo, here, along, Shows, Alike}
use Rattle.groups.proofs.Tools.{by_same, up_to}
use Rattle.groups.proofs.SumLaws.{at_hit, at_miss, shift_hit, shift_miss}
use Rattle.groups.proofs.Whole.{Whole, Hangs}

-- ---- where a key leads

module _ {p : ℕ → ℕ} where
  pub leads_root : {i r : ℕ} → LeadsTo p i r → p r ≡ r
  leads_root (here e q) = subst (λ (x : ℕ). p x ≡ x) q e
  leads_root (along l) = leads_root l

  pub leads_fixed : {i r : ℕ} → p i ≡ i → LeadsTo p i r → i ≡ r
  leads_fixed e (here _ q) = q
  leads_fixed e (along l) = sym e ∙ leads_fixed (ap p e) l

  pub leads_same : {i r s : ℕ} → LeadsTo p i r → LeadsTo p i s → r ≡ s
  leads_same (here e q) m = sym q ∙ leads_fixed e m
  leads_same (along l) (here e q) = sym (leads_fixed (ap p e) l) ∙ e ∙ q
  leads_same (along l) (along m) = leads_same l m

  pub leads_next : {i r : ℕ} → LeadsTo p i r → LeadsTo p (p i) r
  leads_next (here e q) = here (ap p e) (e ∙ q)
  leads_next (along l) = l

-- ---- what is written

-- One row is another, and the rest are as they were.
abbrev pub Wrote : Rows → Rows → ℕ → Row → Type 0
Wrote rs rs' x r = (row_at rs' x ≡ r) × ((j : ℕ) → j ≢ x → row_at rs' j ≡ row_at rs j)

-- A part of a row that the write keeps is kept in all of them.
wrote_keeps : {A : Type 0} (f : Row → A) (rs rs' : Rows) (x : ℕ) (r : Row) → Wrote rs rs' x r → f r ≡ f (row_at rs x) → (j : ℕ)
    → f (row_at rs' j) ≡ f (row_at rs j)
wrote_keeps f rs rs' x r w e j =
    by_same j x
    (λ q. rw q (ap f w.0 ∙ e)) (λ d. ap f (w.1 j d))

module _ {rs : Rows} {g : Groups} (S : Shows rs g) where
  root_up : (i : ℕ) → i < g.count → up rs (g.root i) ≡ g.root i
  root_up i h = leads_root (S.leads i h)

  pub is_root : (r : ℕ) → r < g.count → g.root r ≡ r → up rs r ≡ r
  is_root r h e = subst (λ (z : ℕ). up rs z ≡ z) e (root_up r h)

  pub own_root : (r : ℕ) → r < g.count → up rs r ≡ r → g.root r ≡ r
  own_root r h e = sym (leads_fixed e (S.leads r h))

  pub next_root : (i : ℕ) → i < g.count → g.root (up rs i) ≡ g.root i
  next_root i h = leads_same (S.leads (up rs i) (S.inside i h)) (leads_next (S.leads i h))

  rank_step : (i : ℕ) → i < g.count → high rs i ≤ high rs (up rs i)
  rank_step i h = by_same (up rs i) i (λ e. le_of_eq (ap (high rs) (sym e))) (λ d. omega (arith, S.rises i h d))

  pub rank_up : {i r : ℕ} → LeadsTo (up rs) i r → i < g.count → high rs i ≤ high rs r
  rank_up (here e q) h = le_of_eq (ap (high rs) q)
  rank_up {i} (along l) h = le_trans (rank_step i h) (rank_up l (S.inside i h))

  -- Only the rows below the count are looked at.
  module _ (rs' : Rows) (same : Alike g.count rs rs') where
    alike_leads : {i r : ℕ} → LeadsTo (up rs) i r → i < g.count → LeadsTo (up rs') i r
    alike_leads {i} (here e q) h = here (sym (ap (λ (x : Row). x.parent) (same i h)) ∙ e) q
    alike_leads {i} {r} (along l) h =
        along (subst (λ (z : ℕ). LeadsTo (up rs') z r) (ap (λ (x : Row). x.parent) (same i h)) (alike_leads l (S.inside i h)))

    pub shows_alike : Shows rs' g
    shows_alike =
        let pa : (i : ℕ) → i < g.count → up rs' i ≡ up rs i = λ i h. sym (ap (λ (x : Row). x.parent) (same i h)) in
        let ra : (i : ℕ) → i < g.count → high rs' i ≡ high rs i = λ i h. sym (ap (λ (x : Row). x.rank) (same i h)) in
        record {
          inside = λ i h. rw (pa i h) (S.inside i h);
          rises = λ i h d. rw (pa i h) (omega (arith, ra i h, ra (up rs i) (S.inside i h), S.rises i h (λ e. d (pa i h ∙ e))));
          leads = λ i h. alike_leads (S.leads i h) h;
          ranks = λ r h e. ra r h ∙ S.ranks r h (sym (pa r h) ∙ e);
          values = λ r h e. sym (ap value_of (same r h)) ∙ S.values r h (sym (pa r h) ∙ e);
        }

  -- ---- a compression: a row that is no root is redirected to its root, and keeps all else

  module _ (W : Whole g) (rs' : Rows) (x : ℕ) (hx : x < g.count) (nx : g.root x ≢ x)
      (w : Wrote rs rs' x (row (g.root x) (high rs x) (value_of (row_at rs x)))) where
    moved : up rs' x ≡ g.root x
    moved = ap (λ (z : Row). z.parent) w.0

    else_up : (j : ℕ) → j ≢ x → up rs' j ≡ up rs j
    else_up j d = ap (λ (z : Row). z.parent) (w.1 j d)

    same_rank : (j : ℕ) → high rs' j ≡ high rs j
    same_rank = wrote_keeps (λ z. z.rank) rs rs' x (row (g.root x) (high rs x) (value_of (row_at rs x))) w refl

    same_value : (j : ℕ) → value_of (row_at rs' j) ≡ value_of (row_at rs j)
    same_value = wrote_keeps value_of rs rs' x (row (g.root x) (high rs x) (value_of (row_at rs x))) w refl

    no_root : up rs x ≢ x
    no_root e = nx (own_root x hx e)

    stays : (r : ℕ) → up rs r ≡ r → up rs' r ≡ r
    stays r e = else_up r (λ q. no_root (subst (λ (z : ℕ). up rs z ≡ z) q e)) ∙ e

    was : (r : ℕ) → up rs' r ≡ r → up rs r ≡ r
    was r e = by_same r x (λ q. absurd (nx (sym moved ∙ subst (λ (z : ℕ). up rs' z ≡ z) q e))) (λ d. sym (else_up r d) ∙ e)

    turned : LeadsTo (up rs') x (g.root x)
    turned = along (here (stays (up rs' x) (subst⁻¹ (λ (z : ℕ). up rs z ≡ z) moved (root_up x hx))) moved)

    again : {i r : ℕ} → LeadsTo (up rs) i r → i < g.count → LeadsTo (up rs') i r
    again {i} (here e q) h = here (stays i e) q
    again {i} {r} (along l) h =
        by_same i x
        (λ e. let l' : LeadsTo (up rs) x r = subst (λ (z : ℕ). LeadsTo (up rs) z r) e (along l) in
        subst⁻¹ (λ (z : ℕ). LeadsTo (up rs') z r) e (subst (λ (z : ℕ). LeadsTo (up rs') x z) (leads_same (S.leads x hx) l') turned))
        (λ d. along (subst⁻¹ (λ (z : ℕ). LeadsTo (up rs') z r) (else_up i d) (again l (S.inside i h))))

    pub compressed : Shows rs' g
    compressed = record {
      inside = λ i h. by_same i x (λ e. rw (e, moved) (W.within x hx)) (λ d. rw (else_up i d) (S.inside i h));
      rises = λ i h m. by_same i x
          (λ e. let u = rank_up (leads_next (S.leads x hx)) (S.inside x hx) in
          rw (e, moved) (omega (arith, same_rank x, same_rank (g.root x), S.rises x hx no_root, u)))
          (λ d. rw (else_up i d) (omega (arith, same_rank i, same_rank (up rs i), S.rises i h (λ q. m (else_up i d ∙ q)))));
      leads = λ i h. again (S.leads i h) h;
      ranks = λ r h e. same_rank r ∙ S.ranks r h (was r e);
      values = λ r h e. same_value r ∙ S.values r h (was r e);
    }

  -- ---- a join: the root `low` is redirected to the root `top`, which gets rank k and a value

  module _ (rs' : Rows) (a b low top k : ℕ) (v : Value) (H : Hangs g a b low top k v)
      (wl : row_at rs' low ≡ row top (high rs low) (value_of (row_at rs low))) (wt : row_at rs' top ≡ row (up rs top) k v)
      (rest : (j : ℕ) → j ≢ low → j ≢ top → row_at rs' j ≡ row_at rs j) where
    up_low : up rs' low ≡ top
    up_low = ap (λ (z : Row). z.parent) wl

    top_up : up rs top ≡ top
    top_up = is_root top H.high_live H.high_root

    up_else : (j : ℕ) → j ≢ low → up rs' j ≡ up rs j
    up_else j d = by_same j top (λ e. rw e (ap (λ (z : Row). z.parent) wt)) (λ d'. ap (λ (z : Row). z.parent) (rest j d d'))

    rank_top : high rs' top ≡ k
    rank_top = ap (λ (z : Row). z.rank) wt

    rank_else : (j : ℕ) → j ≢ top → high rs' j ≡ high rs j
    rank_else j d = by_same j low (λ e. rw e (ap (λ (z : Row). z.rank) wl)) (λ d'. ap (λ (z : Row). z.rank) (rest j d' d))

    low_rank : high rs low ≡ g.rank low
    low_rank = S.ranks low H.low_live (is_root low H.low_live H.low_root)

    top_rank : high rs top ≡ g.rank top
    top_rank = S.ranks top H.high_live top_up

    rank_grows : (i : ℕ) → high rs i ≤ high rs' i
    rank_grows i = by_same i top (λ e. rw e (omega (arith, rank_top, top_rank, H.ranked.stays))) (λ d. le_of_eq (sym (rank_else i d)))

    top_stays : up rs' top ≡ top
    top_stays = up_else top (λ e. H.apart (sym e)) ∙ top_up

    low_turned : LeadsTo (up rs') low top
    low_turned = along (here (subst⁻¹ (λ (z : ℕ). up rs' z ≡ z) up_low top_stays) up_low)

    joined_leads : {i q : ℕ} → LeadsTo (up rs) i q → i < g.count → LeadsTo (up rs') i (shift (λ z. z) low top q)
    joined_leads {i} {q} (here e d) h =
        by_same i low
        (λ m. rw (shift_hit (λ z. z) low top q (sym d ∙ m), m) low_turned)
        (λ m. rw (shift_miss (λ z. z) low top q (λ t. m (d ∙ t))) (here (up_else i m ∙ e) d))
    joined_leads {i} {q} (along l) h =
        by_same i low
        (λ m.
        let q-low = leads_fixed (is_root low H.low_live H.low_root) (subst (λ (z : ℕ). LeadsTo (up rs) z q) m (along l)) in
        rw (shift_hit (λ z. z) low top q (sym q-low), m) low_turned)
        (λ m. along (rw (up_else i m) (joined_leads l (S.inside i h))))

    not_low : (q : ℕ) → up rs' q ≡ q → q ≢ low
    not_low q e m = H.apart (sym (sym up_low ∙ subst (λ (z : ℕ). up rs' z ≡ z) m e))

    old_root : (q : ℕ) → up rs' q ≡ q → up rs q ≡ q
    old_root q e = sym (up_else q (not_low q e)) ∙ e

    pub hung_shows : Shows rs' (hung g low top k v)
    hung_shows = record {
      inside = λ i h. by_same i low (λ e. rw (e, up_low) H.high_live) (λ d. rw (up_else i d) (S.inside i h));
      rises = λ i h m. by_same i low
          (λ e. rw (e, up_low) (omega (arith, rank_top, rank_else low H.apart, low_rank, H.ranked.above)))
          (λ d. by_same i top
          (λ e. absurd (m (subst⁻¹ (λ (z : ℕ). up rs' z ≡ z) e top_stays)))
          (λ d'. rw (up_else i d) (omega (arith, rank_else i d', rank_grows (up rs i), S.rises i h (λ q. m (up_else i d ∙ q))))));
      leads = λ i h. joined_leads (S.leads i h) h;
      ranks = λ q h e. by_same q top
          (λ m. rw m (rank_top ∙ sym (at_hit top k g.rank top refl)))
          (λ d. rank_else q d ∙ S.ranks q h (old_root q e) ∙ sym (at_miss top k g.rank q d));
      values = λ q h e. by_same q top
          (λ m. rw m (ap value_of wt ∙ sym (at_hit top v g.value top refl)))
          (λ d. ap value_of (rest q (not_low q e) d) ∙ S.values q h (old_root q e) ∙ sym (at_miss top v g.value q d));
    }

  -- ---- a post: the root r gets another value

  module _ (rs' : Rows) (r : ℕ) (v : Value) (w : Wrote rs rs' r (row (up rs r) (high rs r) v)) where
    pub posted_shows : Shows rs' (record { count = g.count; root = g.root; rank = g.rank; value = at r v g.value })
    posted_shows =
        let pa : (j : ℕ) → up rs' j ≡ up rs j = wrote_keeps (λ z. z.parent) rs rs' r (row (up rs r) (high rs r) v) w refl in
        let ra : (j : ℕ) → high rs' j ≡ high rs j = wrote_keeps (λ z. z.rank) rs rs' r (row (up rs r) (high rs r) v) w refl in
        let same : up rs' ≡ up rs = fun_ext pa in
        record {
          inside = λ i h. rw (pa i) (S.inside i h);
          rises = λ i h d. rw (pa i) (omega (arith, ra i, ra (up rs i), S.rises i h (λ e. d (pa i ∙ e))));
          leads = λ i h. subst⁻¹ (λ (p : ℕ → ℕ). LeadsTo p i (g.root i)) same (S.leads i h);
          ranks = λ q h e. ra q ∙ S.ranks q h (sym (pa q) ∙ e);
          values = λ q h e. by_same q r
              (λ m. rw m (ap value_of w.0 ∙ sym (at_hit r v g.value r refl)))
              (λ d. ap value_of (w.1 q d) ∙ S.values q h (sym (pa q) ∙ e) ∙ sym (at_miss r v g.value q d));
        }

  -- ---- a new key

  module _ (W : Whole g) (rs' : Rows) (v : Value) (w : Wrote rs rs' g.count (row g.count 0 v)) where
    pub created_shows : Shows rs' (group_step g (created g.count v))
    unfolding group_step
    created_shows =
        let n : ℕ = g.count in
        let not-n : (i : ℕ) → i < n → i ≢ n = λ i h e. omega arith in
        let A : Shows rs' g = shows_alike rs' (λ i h. sym (w.1 i (not-n i h))) in
        let own : up rs' n ≡ n = ap (λ (z : Row). z.parent) w.0 in
        record {
          inside = λ i h. up_to n i h (λ e. rw (e, own) (le_refl (suc n))) (λ h'. le_step (A.inside i h'));
          rises = λ i h d. up_to n i h (λ e. absurd (d (ap (up rs') e ∙ own ∙ sym e))) (λ h'. A.rises i h' d);
          leads = λ i h. up_to n i h
              (λ e. rw e (here own (sym (W.outside n (le_refl n))))) (λ h'. A.leads i h');
          ranks = λ i h e. up_to n i h
              (λ m. rw m (ap (λ (z : Row). z.rank) w.0 ∙ sym (at_hit n 0 g.rank n refl)))
              (λ h'. A.ranks i h' e ∙ sym (at_miss n 0 g.rank i (not-n i h')));
          values = λ i h e. up_to n i h
              (λ m. rw m (ap value_of w.0 ∙ sym (at_hit n v g.value n refl)))
              (λ h'. A.values i h' e ∙ sym (at_miss n v g.value i (not-n i h')));
        }

pub shows_none : (rs : Rows) → Shows rs no_groups
shows_none rs = record {
  inside = λ i h. absurd (not-suc-le-zero h);
  rises = λ i h. absurd (not-suc-le-zero h);
  leads = λ i h. absurd (not-suc-le-zero h);
  ranks = λ i h. absurd (not-suc-le-zero h);
  values = λ i h. absurd (not-suc-le-zero h);
}
