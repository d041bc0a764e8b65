-- The plan of each call on rows: carried out, it moves the groups as the groups' own step says, and it is never BROKEN_TABLE.
use Rattle.std.specs.Prelude.{◌≡◌, ◌∷◌, ◌++◌, ◌≢◌, ◌⊎◌, ◌+◌, ◌≤◌, ◌<◌, Ok, Err}
use Rattle.kit.specs.Names.{refl, sym, ap, ap₂, ◌∙◌, subst, subst⁻¹, true, false, cond, List, [], inl, inr, ℕ, eqb, ltb, arith, eqb-true, eqb-false, eq-eqb}
use Rattle.kit.specs.Names.{ne_eqb, le-ltb}
use Rattle.rules.specs.Rules.{Call, Answer, Value, Row, Merged, DONE, BROKEN-TABLE, BAD-STATE, MAX-RANK, Rows, value, owner_of, row, value_of, row_at, put_row, WideRows}
use Rattle.rules.specs.Rules.{merge, Write, redirect, crown, edit, writes, stepped, found, Plan, plan, Walked, walked_on, go_on, walk, walk_both, settle, unite}
use Rattle.rules.specs.Rules.{too_high, find_on, unioned_on, join_on, post_on, probe_on, probe_key_on, try_probe}
use Rattle.rules.specs.declared.call.Call.TheVariants.{Find, Unioned, Join, Post, Probe, ProbeKey, TryProbe}
use Rattle.rules.specs.declared.table.MergeError.TheVariants.{Clash, TooMuch}
use Rattle.rules.proofs.ReadLaws.{Real, real_owner, row_real, row_hit, row_miss, wide_put}
use Rattle.rules.proofs.MergeLaws.{merge_real}
use Rattle.groups.specs.Groups.{Groups, Deed, joined, posted, at, hung, raised, hung_by_rank, group_step, replay, Merges, Accepts, Accepted}
use Rattle.groups.specs.Track.{Calm, event, Act, idle, moves, takes, undoes, closes, act, deed_of}
use Rattle.groups.specs.Stands.{up, high}
use Rattle.groups.proofs.Tools.{on_cond, cases, either}
use Rattle.groups.proofs.Whole.{Whole, by_rank, Hangs, hangs_a, hangs_b, hung_whole, step_whole, rank_low}
use Rattle.groups.proofs.Forest.{is_root, hung_shows, posted_shows}
use Rattle.groups.proofs.Walks.{Holds, reaches, count_limit, Inside, inside_append, writes_append, wrote, rewritten, rewrites_inside}

-- ---- what a plan keeps

pub calm : (n : ℕ) → eqb n BROKEN-TABLE ≡ false → eqb n BAD-STATE ≡ false → Calm n
calm n e f = (eqb-false n BROKEN-TABLE e, eqb-false n BAD-STATE f)

-- An act that takes, undoes and closes no snapshot.
abbrev pub Quiet : Act → Type 0
Quiet idle = Unit {0}
Quiet (moves d) = Unit {0}
Quiet (takes token) = ⊥
Quiet (undoes token) = ⊥
Quiet (closes token) = ⊥

-- The deeds after a call, those before it being `now`.
abbrev pub after : Call → Answer → List Deed → List Deed
after c a now = deed_of (act (event c a)) ++ now

pub record Planned (rs : Rows) (room : ℕ) (now : List Deed) (c : Call) (p : Plan) : Type 0 where
  pub quiet : Quiet (act (event c p.answer))
  pub accepted : Accepted (after c p.answer now)
  pub counted : (replay (after c p.answer now)).count ≡ (replay now).count
  pub holds : Holds (writes rs p.todo) (replay (after c p.answer now)) room
  pub inside : Inside (replay now).count p.todo
  pub peace : Calm p.answer.no

settled_done : (walked : List Write) (s : ℕ) (more : Value → List Write) {m : Merged} {x : Value} → m ≡ Ok x
    → (settle walked s more m).answer.no ≡ DONE
settled_done walked s more e = rw e

-- ---- a root gets another value, or is hung under another

cond_raised : {A : Type 0} (f : ℕ → A) (x y : ℕ) → cond (ltb x y) (f y) (f (y + 1)) ≡ f (raised x y)
cond_raised f x y = cases (ltb x y) (λ e. rw e) (λ e. rw e)

module _ {rs : Rows} {g : Groups} {room : ℕ} (H : Holds rs g room) where
  root_rank : (r : ℕ) → r < g.count → g.root r ≡ r → high rs r ≡ g.rank r
  root_rank r h e = H.shows.ranks r h (is_root H.shows r h e)

  root_value : (r : ℕ) → r < g.count → g.root r ≡ r → value_of (row_at rs r) ≡ g.value r
  root_value r h e = H.shows.values r h (is_root H.shows r h e)

  hung_holds : (a b low top k : ℕ) (v : Value) → Hangs g a b low top k v → Real v.owner → Whole (hung g low top k v)
      → Holds (writes rs (redirect low top ∷ crown top k v ∷ [])) (hung g low top k v) room
  unfolding writes
  hung_holds a b low top k v G real W =
      let hl : low < room = omega (arith, G.low_live, H.fits) in
      let ht : top < room = omega (arith, G.high_live, H.fits) in
      let turned : Row = row top (high rs low) (value_of (row_at rs low)) in
      let rs₁ : Rows = put_row rs low turned in
      let w₁ : WideRows rs₁ room = wide_put rs low turned room H.wide in
      let up₁ : row_at rs₁ top ≡ row_at rs top = row_miss rs low turned top (λ e. G.apart (sym e)) in
      let crowned : Row = edit (crown top k v) (row_at rs₁ top) in
      record {
        shows = hung_shows H.shows (put_row rs₁ top crowned) a b low top k v G
            (row_miss rs₁ top crowned low G.apart ∙ row_hit rs low turned room H.wide hl (row_real rs low))
            (row_hit rs₁ top crowned room w₁ ht real ∙ ap (λ (z : Row). row z.parent k v) up₁)
            (λ j d d'. row_miss rs₁ top crowned j d' ∙ row_miss rs low turned j d);
        whole = W;
        wide = wide_put rs₁ top crowned room w₁;
        fits = H.fits;
        limit = H.limit;
      }

  posted_holds : (r : ℕ) (v : Value) → r < g.count → Real v.owner
      → Whole (record { count = g.count; root = g.root; rank = g.rank; value = at r v g.value })
      → Holds (writes rs (crown r (high rs r) v ∷ [])) (record { count = g.count; root = g.root; rank = g.rank; value = at r v g.value }) room
  unfolding writes
  posted_holds r v h real W =
      let crowned : Row = edit (crown r (high rs r) v) (row_at rs r) in
      record {
        shows = posted_shows H.shows (put_row rs r crowned) r v (wrote rs room r crowned H.wide (omega (arith, H.fits)) real);
        whole = W;
        wide = wide_put rs r crowned room H.wide;
        fits = H.fits;
        limit = H.limit;
      }

-- ---- walks

module _ {rs : Rows} {g : Groups} {room : ℕ} (H : Holds rs g room) (key : ℕ) (h : key < g.count) where
  -- A walk from a live key ends at its root, and leaves the groups as they are.
  abbrev pub walk_from : Walked
  walk_from = walked_on rs (g.root key) (reaches H key h).passed

  pub walk_ends : (next : Walked → Plan) → walk rs g.count key next ≡ next walk_from
  walk_ends next = ap (go_on rs next) (reaches H key h).ends

  pub walk_holds : Holds walk_from.rows g room
  walk_holds = rewritten (g.root key) H (reaches H key h).passed (reaches H key h).under

  pub walk_inside : Inside g.count walk_from.todo
  walk_inside = rewrites_inside g (g.root key) (reaches H key h).passed (reaches H key h).under

-- ---- each call's plan

module _ {rs : Rows} {room : ℕ} (now : List Deed) (A : Accepted now) (H : Holds rs (replay now) room) where
  abbrev g : Groups
  g = replay now

  -- A plan that moves no group.
  rests : {c : Call} {p : Plan} → act (event c p.answer) ≡ idle → Holds (writes rs p.todo) g room → Inside g.count p.todo
      → Calm p.answer.no → Planned rs room now c p
  rests e K i z =
      record { quiet = rw e tt; accepted = rw e A; counted = rw e refl; holds = rw e K; inside = i; peace = z }

  -- A plan that moves the groups by one deed.
  moving : {c : Call} {p : Plan} (d : Deed) → act (event c p.answer) ≡ moves d → Accepts g d → (group_step g d).count ≡ g.count
      → Holds (writes rs p.todo) (group_step g d) room → Inside g.count p.todo → Calm p.answer.no → Planned rs room now c p
  unfolding replay
  moving d e a n K i z =
      record { quiet = rw e tt; accepted = rw e (a, A); counted = rw e n; holds = rw e K; inside = i; peace = z }

  -- A walk, and an answer read off what it leaves.
  looks : (c : Call) (key : ℕ) → key < g.count → (reply : Walked → Answer) → ((w : Walked) → act (event c (reply w)) ≡ idle)
      → ((w : Walked) → Calm (reply w).no) → Planned rs room now c (walk rs g.count key (λ w. plan (reply w) w.todo))
  looks c key h reply e z =
      rw (walk_ends H key h (λ w. plan (reply w) w.todo))
      (rests (e (walk_from H key h)) (walk_holds H key h) (walk_inside H key h) (z (walk_from H key h)))

  pub find_planned : (key : ℕ) → key < g.count → Planned rs room now (Find key) (walk rs g.count key find_on)
  find_planned key h = looks (Find key) key h (λ w. found w.root w.steps) (λ w. refl) (λ w. calm 0 refl refl)

  pub probe_planned : (key : ℕ) → key < g.count → Planned rs room now (Probe key) (walk rs g.count key probe_on)
  probe_planned key h = looks (Probe key) key h (λ w. (probe_on w).answer) (λ w. refl) (λ w. calm 0 refl refl)

  pub probe_key_planned : (key : ℕ) → key < g.count → Planned rs room now (ProbeKey key) (walk rs g.count key probe_key_on)
  probe_key_planned key h = looks (ProbeKey key) key h (λ w. (probe_key_on w).answer) (λ w. refl) (λ w. calm 0 refl refl)

  pub try_planned : (key : ℕ) → Planned rs room now (TryProbe key) (try_probe rs key)
  unfolding writes
  try_planned key =
      cases (eqb (up rs key) key) (λ e. rw e (rests refl H tt (calm 0 refl refl))) (λ e. rw e (rests refl H tt (calm 0 refl refl)))

  -- ---- a post

  module _ (key owner amount : ℕ) (h : key < g.count) where
    abbrev target : ℕ
    target = g.root key

    abbrev given : Value
    given = value (owner_of owner) amount

    abbrev walked_to : Walked
    walked_to = walk_from H key h

    post_settled : (m : Merged) → merge (value_of (row_at walked_to.rows target)) given ≡ m
        → Planned rs room now (Post key owner amount)
        (settle walked_to.todo walked_to.steps (λ x. crown target (high walked_to.rows target) x ∷ []) m)
    unfolding group_step
    post_settled (Err Clash) e = rests refl (walk_holds H key h) (walk_inside H key h) (calm 4 refl refl)
    post_settled (Err TooMuch) e = rests refl (walk_holds H key h) (walk_inside H key h) (calm 5 refl refl)
    post_settled (Ok x) e =
        let w : Walked = walked_to in
        let K : Holds w.rows g room = walk_holds H key h in
        let hr : target < g.count = H.whole.within key h in
        let m : merge (g.value target) given ≡ Ok x =
        subst (λ (z : Value). merge z given ≡ Ok x) (root_value K target hr (H.whole.settled key)) e in
        let a : Accepts g (posted key given) = (h, (x, m)) in
        let crowned : List Write = crown target (high w.rows target) x ∷ [] in
        let W : Whole (record { count = g.count; root = g.root; rank = g.rank; value = at target x g.value }) =
        rw m at (step_whole H.whole (posted key given) a) in
        let real : Real x.owner =
        merge_real (value_of (row_at w.rows target)) given x e (row_real w.rows target) (real_owner owner) in
        moving (posted key given) refl a (rw m refl) (rw (writes_append rs w.todo crowned, m) (posted_holds K target x hr real W))
        (inside_append g.count w.todo crowned (walk_inside H key h) (hr, tt)) (calm 0 refl refl)

    pub post_planned : Planned rs room now (Post key owner amount) (walk rs g.count key (post_on given))
    post_planned =
        rw (walk_ends H key h (post_on given)) (post_settled (merge (value_of (row_at walked_to.rows target)) given) refl)

    -- Where the groups accept the post, it is done.
    pub post_done : Merges (g.value target) given → (walk rs g.count key (post_on given)).answer.no ≡ DONE
    post_done (x, m) =
        let v : value_of (row_at walked_to.rows target) ≡ g.value target =
        root_value (walk_holds H key h) target (H.whole.within key h) (H.whole.settled key) in
        rw (walk_ends H key h (post_on given))
        (settled_done walked_to.todo walked_to.steps (λ x. crown target (high walked_to.rows target) x ∷ [])
        (ap (λ (z : Value). merge z given) v ∙ m))

  -- ---- two walks

  module _ (a b : ℕ) (ha : a < g.count) (hb : b < g.count) where
    abbrev first : Walked
    first = walk_from H a ha

    abbrev second : Walked
    second = walk_from (walk_holds H a ha) b hb

    abbrev walked : List Write
    walked = first.todo ++ second.todo

    both_end : (next : Walked → Walked → Plan) → walk_both rs g.count a b next ≡ next first second
    both_end next = walk_ends H a ha (λ v. walk v.rows g.count b (next v)) ∙ walk_ends (walk_holds H a ha) b hb (next first)

    both_rows : writes rs walked ≡ second.rows
    both_rows = writes_append rs first.todo second.todo

    both_hold : Holds second.rows g room
    both_hold = walk_holds (walk_holds H a ha) b hb

    walked_hold : Holds (writes rs walked) g room
    walked_hold = rw both_rows both_hold

    both_inside : Inside g.count walked
    both_inside = inside_append g.count first.todo second.todo (walk_inside H a ha) (walk_inside (walk_holds H a ha) b hb)

    pub unioned_planned : Planned rs room now (Unioned a b) (walk_both rs g.count a b unioned_on)
    unioned_planned = rw (both_end unioned_on) (rests refl walked_hold both_inside (calm 0 refl refl))

    -- ---- a join

    abbrev r : ℕ
    r = g.root a

    abbrev s : ℕ
    s = g.root b

    join_same : r ≡ s → Planned rs room now (Join a b) (plan (stepped DONE (first.steps + second.steps)) walked)
    unfolding group_step
    join_same e =
        let q : eqb r s ≡ true = eq-eqb r s e in
        moving (joined a b) refl (ha, hb, inl e) (rw q refl) (rw q walked_hold) both_inside (calm 0 refl refl)

    -- Both roots are live roots.
    hr : r < g.count
    hr = H.whole.within a ha

    hs : s < g.count
    hs = H.whole.within b hb

    module _ (d : r ≢ s) where
      not_high : too_high second.rows r s ≡ false
      not_high =
          let low : (i : ℕ) → i < g.count → high second.rows (g.root i) ≤ MAX-RANK = λ i h.
          rw (root_rank both_hold (g.root i) (H.whole.within i h) (H.whole.settled i))
          (rank_low H.whole (count_limit H) (g.root i) (H.whole.within i h) (H.whole.settled i)) in
          rw (le-ltb MAX-RANK (high second.rows r) (low a ha), le-ltb MAX-RANK (high second.rows s) (low b hb))

      -- The rows written by rank are those of the groups united by rank.
      united_holds : (v : Value) → merge (g.value r) (g.value s) ≡ Ok v → Real v.owner
          → Holds (writes second.rows (unite second.rows r s v)) (hung_by_rank g r s v) room × Inside g.count (unite second.rows r s v)
      united_holds v m real =
          let onto : ℕ → ℕ → ℕ → List Write = λ low top k. redirect low top ∷ crown top k v ∷ [] in
          let by : ℕ → ℕ → List Write = λ x y. cond (ltb y x) (onto s r x) (cond (ltb x y) (onto r s y) (onto r s (y + 1))) in
          let is : unite second.rows r s v ≡ cond (ltb (g.rank s) (g.rank r)) (onto s r (g.rank r))
          (onto r s (raised (g.rank r) (g.rank s))) =
          ap₂ by (root_rank both_hold r hr (H.whole.settled a)) (root_rank both_hold s hs (H.whole.settled b))
          ∙ ap (cond (ltb (g.rank s) (g.rank r)) (onto s r (g.rank r))) (cond_raised (onto r s) (g.rank r) (g.rank s)) in
          subst⁻¹ (λ (ws : List Write). Holds (writes second.rows ws) (hung_by_rank g r s v) room × Inside g.count ws) is
          (by_rank (λ (ws : List Write) (g' : Groups). Holds (writes second.rows ws) g' room × Inside g.count ws) (g.rank r)
          (g.rank s) (onto s r) (onto r s) (λ k. hung g s r k v) (λ k. hung g r s k v)
          (λ k q.
          let G = hangs_b g H.whole a b ha hb d v m k q in
          (hung_holds both_hold a b s r k v G real (hung_whole H.whole a b s r k v G), (hs, (hr, tt))))
          (λ k q.
          let G = hangs_a g H.whole a b ha hb d v m k q in
          (hung_holds both_hold a b r s k v G real (hung_whole H.whole a b r s k v G), (hr, (hs, tt)))))

      join_settled : (m : Merged) → merge (value_of (row_at second.rows r)) (value_of (row_at second.rows s)) ≡ m
          → Planned rs room now (Join a b) (settle walked (first.steps + second.steps) (unite second.rows r s) m)
      unfolding group_step
      join_settled (Err Clash) e = rests refl walked_hold both_inside (calm 4 refl refl)
      join_settled (Err TooMuch) e = rests refl walked_hold both_inside (calm 5 refl refl)
      join_settled (Ok v) e =
          let vr : Value = value_of (row_at second.rows r) in
          let vs : Value = value_of (row_at second.rows s) in
          let m : merge (g.value r) (g.value s) ≡ Ok v =
          sym (ap₂ merge (root_value both_hold r hr (H.whole.settled a)) (root_value both_hold s hs (H.whole.settled b))) ∙ e in
          let U = united_holds v m (merge_real vr vs v e (row_real second.rows r) (row_real second.rows s)) in
          let q : eqb r s ≡ false = ne_eqb r s d in
          let uniting : List Write = unite second.rows r s v in
          let count : (hung_by_rank g r s v).count ≡ g.count =
          by_rank (λ (_ : ℕ) (g' : Groups). g'.count ≡ g.count) (g.rank r) (g.rank s) (λ k. k) (λ k. k) (λ k. hung g s r k v)
          (λ k. hung g r s k v) (λ k _. refl) (λ k _. refl) in
          moving (joined a b) refl (ha, hb, inr (v, m)) (rw (q, m) count) (rw (writes_append rs walked uniting, both_rows, q, m) U.0)
          (inside_append g.count walked uniting both_inside U.1) (calm 0 refl refl)

    pub join_planned : Planned rs room now (Join a b) (walk_both rs g.count a b join_on)
    join_planned =
        rw (both_end join_on)
        (on_cond (Planned rs room now (Join a b)) (eqb r s)
        (λ e. join_same (eqb-true r s e))
        (λ e. rw (not_high (eqb-false r s e))
        (join_settled (eqb-false r s e) (merge (value_of (row_at second.rows r)) (value_of (row_at second.rows s))) refl)))

    -- Where the groups accept the join, it is done.
    pub join_done : (r ≡ s) ⊎ Merges (g.value r) (g.value s) → (walk_both rs g.count a b join_on).answer.no ≡ DONE
    join_done ok =
        rw (both_end join_on)
        (on_cond (λ (p : Plan). p.answer.no ≡ DONE) (eqb r s) (λ _. refl)
        (λ e. rw (not_high (eqb-false r s e))
        (either ok (λ q. absurd (eqb-false r s e q))
        (λ (x, m). settled_done walked (first.steps + second.steps) (unite second.rows r s)
        (ap₂ merge (root_value both_hold r hr (H.whole.settled a)) (root_value both_hold s hs (H.whole.settled b)) ∙ m)))))
