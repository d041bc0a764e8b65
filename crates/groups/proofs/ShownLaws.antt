-- The central law: the groups that a table shows are those of the deeds that survive of its history, alone and in their order.
use Rattle.std.specs.Prelude.{◌≡◌, ◌∷◌, ◌++◌, ◌^◌, ◌≤◌, ◌<◌}
use Rattle.kit.specs.Names.{sym, ap, ◌∙◌, subst, ℕ}
use Rattle.rules.specs.Rules.{Call, MAX-REDIRECTS, Table, to, path, step}
use Rattle.groups.specs.Sums.{Credits, total, ones, size}
use Rattle.groups.specs.Groups.{Groups, replay}
use Rattle.groups.specs.Shown.{walk_in, end_of, steps_in, groups_of, Same}
use Rattle.groups.specs.Track.{History, event, act, deed_of, Track, track}
use Rattle.groups.specs.Stands.{over_after, Stands}
use Rattle.groups.proofs.SumLaws.{Below, below_ones, total_agree}
use Rattle.groups.proofs.Forest.{is_root}
use Rattle.groups.proofs.Walks.{Holds, reaches, log2_bound}
use Rattle.groups.proofs.Plans.{Quiet}
use Rattle.groups.proofs.Kept.{quiet_noted}
use Rattle.groups.proofs.RowCalls.{holds}
use Rattle.groups.proofs.Calls.{keeps}

module _ (t : Table) {g : Groups} {room : ℕ} (H : Holds t.rows g room) (counted : g.count ≡ t.state.count) where
  pub walk_reaches : (key : ℕ) (h : key < g.count) → walk_in t key ≡ to (g.root key) (reaches H key h).passed
  walk_reaches key h =
      subst (λ (n : ℕ). path t.rows.parents n MAX-REDIRECTS key ≡ to (g.root key) (reaches H key h).passed) counted
      (reaches H key h).ends

  pub same_groups : Same (groups_of t) g
  same_groups = record {
    count = sym counted;
    root = λ key h. ap end_of (walk_reaches key h);
    rank = λ r h e. H.shows.ranks r h (is_root H.shows r h e);
    value = λ r h e. H.shows.values r h (is_root H.shows r h e);
  }

  -- Two to the power of its steps is at most the number of keys in the key's group.
  pub steps_bound : (key : ℕ) → key < g.count → 2 ^ steps_in t key ≤ size g.root g.count (g.root key)
  steps_bound key h = rw (walk_reaches key h) (log2_bound H key h)

-- Sums over the same groups are the same.
module _ {g g' : Groups} (S : Same g g') where
  pub same_total : (r : ℕ) (cs : Credits) → Below g'.count cs → total g.root r cs ≡ total g'.root r cs
  same_total r cs b = total_agree g'.count g.root g'.root S.root r cs b

  pub same_size : (r : ℕ) → size g.root g.count r ≡ size g'.root g'.count r
  same_size r = ap (λ (n : ℕ). size g.root n r) S.count ∙ same_total r (ones g'.count) (below_ones g'.count)

pub shown : (t : Table) (h : History) → Stands t h → Same (groups_of t) (replay (track h).now)
shown t h S = same_groups t (holds S.1) S.1.made.counted

-- A call that is answered DONE and creates, joins or posts moves the groups by that deed's own step. One that is refused, or only
-- looks, has no deed and leaves them.
pub moved : (t : Table) (h : History) → Stands t h → (c : Call) → Quiet (act (event c (step t c).answer))
    → Same (groups_of (step t c).table) (replay (deed_of (act (event c (step t c).answer)) ++ (track h).now))
unfolding track
moved t h S c q =
    rw (← ap (λ (g : Track). g.now) (quiet_noted (act (event c (step t c).answer)) (track h) q))
    (shown (step t c).table (event c (step t c).answer ∷ h)
    (over_after S.0 t (act (event c (step t c).answer)), (keeps S.1 c).stands))
