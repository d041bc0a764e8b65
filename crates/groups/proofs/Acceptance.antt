-- What a table answers DONE: where there is room, the groups alone decide.
use Rattle.std.specs.Prelude.{◌≡◌, ◌∷◌, ◌≢◌, ◌+◌, ◌-◌, ◌≤◌, ◌<◌}
use Rattle.kit.specs.Names.{refl, sym, ap, ◌∙◌, subst, true, false, List, [], ℕ, length, eqb, arith, eqb-false}
use Rattle.kit.specs.Names.{eq-eqb, ne_eqb, lt-leb, le-ltb}
use Rattle.rules.specs.Rules.{Call, Answer, Value, Mark, DONE, MAX-OPEN, MAX-U64, Rows, Table, entries, value, owner_of, refusal, found, opened}
use Rattle.rules.specs.Rules.{memory_of, full, innermost, Plan, walk, walk_both, join_on, post_on, carry, call, step}
use Rattle.rules.specs.declared.call.Call.TheVariants.{New, Join, Post, Snapshot, Rollback, Commit}
use Rattle.groups.specs.Groups.{Groups, Deed, created, joined, posted, replay, Accepts}
use Rattle.groups.specs.Track.{event, History, moves, act, Saved, track}
use Rattle.groups.specs.Stands.{StandsOver}
use Rattle.groups.specs.Acceptance.{Asks, asks_new, asks_join, asks_post, MOST-LOGGED, LogRoom, RowRoom}
use Rattle.groups.proofs.Tools.{cases}
use Rattle.groups.proofs.Growth.{Few, join_few, post_few}
use Rattle.groups.proofs.Plans.{join_done, post_done}
use Rattle.groups.proofs.RowCalls.{holds}
use Rattle.groups.proofs.TokenCalls.{inner, inner_back, inner_is, inner_fits, none_open, closing}
use Rattle.groups.proofs.Calls.{not_bad, keeps}

-- ---- a plan is carried out where there is room

roomy : (t : Table) (n : ℕ) → n ≤ MOST-LOGGED → LogRoom t → full (memory_of t) n ≡ false
roomy t n f r =
    cases (eqb t.state.«open» 0) (λ e. rw e) (λ e. rw e
    (let q = r (eqb-false t.state.«open» 0 e) in le-ltb (entries t.log - t.state.used) n (omega arith)))

carried : (t : Table) (p : Plan) → Few MOST-LOGGED p → LogRoom t → (carry t p).answer ≡ p.answer
carried t p f r = rw (roomy t (length p.todo) f r)

module _ {over : ℕ → Rows} {t : Table} {h : History} (S : StandsOver over t h) where
  abbrev g : Groups
  g = replay (track h).now

  -- ---- the deeds

  -- A creation is always accepted, and answers the count.
  pub new_done : (owner amount : ℕ) → t.state.count < length t.rows.parents → LogRoom t
      → (step t (New owner amount)).answer ≡ found t.state.count 0
  unfolding step call
  new_done owner amount f r =
      rw (not_bad S, ne_eqb t.state.count (length t.rows.parents) (λ e. omega arith), roomy t 1 (omega arith) r)

  joins : (a b : ℕ) → Accepts g (joined a b) → LogRoom t → (step t (Join a b)).answer.no ≡ DONE
  unfolding step call
  joins a b (ha, hb, ok) r =
      let n : ℕ = t.state.count in
      let p : Plan = walk_both t.rows n a b join_on in
      rw (not_bad S, lt-leb n a (omega (arith, S.made.counted)), lt-leb n b (omega (arith, S.made.counted)))
      (ap (λ (x : Answer). x.no) (carried t p (join_few t.rows n a b) r)
      ∙ subst (λ (m : ℕ). (walk_both t.rows m a b join_on).answer.no ≡ DONE) S.made.counted
      (join_done (track h).now S.made.accepted (holds S) a b ha hb ok))

  posts : (key owner amount : ℕ) → Accepts g (posted key (value (owner_of owner) amount)) → LogRoom t
      → (step t (Post key owner amount)).answer.no ≡ DONE
  unfolding step call
  posts key owner amount (hk, ok) r =
      let n : ℕ = t.state.count in
      let v : Value = value (owner_of owner) amount in
      let p : Plan = walk t.rows n key (post_on v) in
      rw (not_bad S, lt-leb n key (omega (arith, S.made.counted)))
      (ap (λ (x : Answer). x.no) (carried t p (post_few t.rows n key v) r)
      ∙ subst (λ (m : ℕ). (walk t.rows m key (post_on v)).answer.no ≡ DONE) S.made.counted
      (post_done (track h).now S.made.accepted (holds S) key owner amount hk ok))

  pub accepted_done : {c : Call} {d : Deed} → Asks t.state.count c d → Accepts g d → RowRoom t d → LogRoom t
      → (step t c).answer.no ≡ DONE
  accepted_done (asks_new {owner} {amount}) ok row r = ap (λ (x : Answer). x.no) (new_done owner amount row r)
  accepted_done (asks_join {a} {b}) ok row r = joins a b ok r
  accepted_done (asks_post {key} {owner} {amount}) ok row r = posts key owner amount ok r

  -- A call that is done moves the groups by a deed that they accept: for a creation, the one whose key is the count.
  pub accepts : (c : Call) (d : Deed) → act (event c (step t c).answer) ≡ moves d → Accepts g d
  unfolding track
  accepts c d e = (rw e at (keeps S c).stands.made.accepted).0

  pub done_act : {c : Call} {d : Deed} → Asks t.state.count c d → (step t c).answer.no ≡ DONE
      → act (event c (step t c).answer) ≡ moves d
  done_act (asks_new {owner} {amount}) e =
      let a : Answer = (step t (New owner amount)).answer in
      let v : Value = value (owner_of owner) amount in
      let q : act (event (New owner amount) a) ≡ moves (created a.key v) = rw (eq-eqb a.no DONE e) in
      q ∙ ap (λ (k : ℕ). moves (created k v)) (accepts (New owner amount) (created a.key v) q ∙ S.made.counted)
  done_act (asks_join {a} {b}) e = rw (eq-eqb (step t (Join a b)).answer.no DONE e)
  done_act (asks_post {key} {owner} {amount}) e = rw (eq-eqb (step t (Post key owner amount)).answer.no DONE e)

  pub done_accepted : {c : Call} {d : Deed} → Asks t.state.count c d → (step t c).answer.no ≡ DONE → Accepts g d
  done_accepted {c} {d} asks e = accepts c d (done_act asks e)

  -- ---- the snapshots

  pub snapshot_done : t.state.«open» < MAX-OPEN → t.state.last < MAX-U64 → (step t Snapshot).answer ≡ opened (t.state.last + 1)
  unfolding step call
  snapshot_done f f' =
      rw (
        not_bad S,
        ne_eqb t.state.«open» MAX-OPEN (λ e. omega arith),
        ne_eqb t.state.last MAX-U64 (λ e. omega arith),
      )

  -- Rollback and commit of the innermost open snapshot.
  module _ (token : ℕ) (named : (innermost t.state).serial ≡ token) (some : t.state.«open» ≢ 0) where
    inner_named : (x : Saved) (xs : List Saved) (e : (track h).saved ≡ x ∷ xs) → eqb (inner S x xs e).serial token ≡ true
    inner_named x xs e =
        eq-eqb (inner S x xs e).serial token (sym (ap (λ (m : Mark). m.serial) (inner_is S x xs e)) ∙ named)

    undone : (ys : List Saved) → (track h).saved ≡ ys → (step t (Rollback token)).answer ≡ refusal DONE
    unfolding step call
    undone [] e = absurd (some (none_open S e))
    undone (x ∷ xs) e =
        rw (not_bad S, ne_eqb t.state.«open» 0 some, inner_is S x xs e, inner_named x xs e, inner_fits S x xs e, (inner_back S x xs e).able)

    closed : (ys : List Saved) → (track h).saved ≡ ys → (step t (Commit token)).answer ≡ refusal DONE
    unfolding step call
    closed [] e = absurd (some (none_open S e))
    closed (x ∷ xs) e =
        rw (not_bad S, ne_eqb t.state.«open» 0 some, inner_is S x xs e, inner_named x xs e, inner_fits S x xs e, (closing S x xs e).0)

    pub rollback_done : (step t (Rollback token)).answer ≡ refusal DONE
    rollback_done = undone (track h).saved refl

    pub commit_done : (step t (Commit token)).answer ≡ refusal DONE
    commit_done = closed (track h).saved refl
